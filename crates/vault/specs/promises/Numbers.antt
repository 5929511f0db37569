-- EVERY CALL'S NUMBER, both ways round, for every input: each number that the call tests is given if and only if its row of the table applies (Table) and no
-- row that the call tests before it does, and 0 if and only if none does (of `recover` and `explain`: the room Recovering; of `recover_two`: the room
-- TwoReadings; of `take_back`: the room TakingBack). A call's rows are in rising number, but for `shelf_of_two`, which tests 13 before 6. Signs and letters:
-- Demands. Assumes nothing.
use Rattle.std.specs.Prelude.{◌≡◌, ◌⊎◌, ◌↔◌, List, ℕ, suc, ◌+◌, ◌*◌, ◌^◌, ◌≤◌, ◌<◌, length}
use Rattle.layout.specs.declared.Header.{Header}
use Rattle.layout.specs.Header.{header_of}
use Rattle.store.specs.StoreCalls.{open_answer, read_number}
use Rattle.image.specs.ImageCall.{image_number}
use Rattle.image.specs.Erasures.{erasures_in}
use Rattle.judging.specs.Decoding.{decoded_number}
use Rattle.stripe_decoding.specs.Decoding.{decode_stripe}
use Rattle.stripe_decoding.specs.StripeCall.{decode_number}
use Rattle.recovery.specs.RecoveryCall.{recover_answer}
use Rattle.explanation.specs.ExplainCall.{explain_early, explain_answer}
use Rattle.two_readings.specs.RecoverTwoCall.{recover_two_early, recover_two_answer}
use Rattle.two_readings.specs.ShelfOfTwoCall.{shelf_of_two_number}
use Rattle.power_table.specs.PowersCall.{powers_number}
use Rattle.vault.specs.Event.{Event, write, earlier, strike, take_back}
use Rattle.vault.specs.Model.{Model, writes, table_number}
use Rattle.vault.specs.History.{Vault, number_on}
use Rattle.vault.specs.promises.Table.{RawLength, FullLength, LogLength, BlockLength, ImageLength, OutLength, ScratchLength, CountsLength, OriginsLength}
use Rattle.vault.specs.promises.Table.{BackLength, RoundBegins, Differ, NoRecordData, StruckRecord}
use Rattle.vault.specs.promises.Table.{OutOfRange, IllFormed, NoSuchRecord, NoDataWord, NoStripe, TooFew, Stray, Inconsistent, NotRecords, AllZero}
use Rattle.vault.specs.promises.Table.{InRange, IsStripe, Rows, none, row, EachRow, NoRow, EachNumber}
use Rattle.vault.specs.promises.Decoding.{Fails, Asked}
use Rattle.vault.specs.promises.Histories.{Puts}
use Rattle.vault.specs.promises.Erasures.{WellFormed}

-- THE CALL `open`
abbrev pub OpenNumbers : Type 0
OpenNumbers =
    (k s : ℕ) (raw full log : List ℕ) →
    let h = header_of k s 0 in
    EachNumber (open_answer k s raw full log).number
    (row 1 (OutOfRange h)
    (row 2 (RawLength h raw × FullLength h full × LogLength h log → ⊥)
    (row 5 (NoRecordData h raw) none)))

-- THE CALL `write`, and the same as it was before 11 was in the table; v is its header and its buffers
abbrev pub WriteRows : Vault → (record_number : ℕ) → (block : List ℕ) → (more : Rows) → Rows
WriteRows v i b more =
    let h = v.header in
    row 1 (OutOfRange h)
    (row 2 (RawLength h v.held.raw × FullLength h v.held.full × LogLength h v.held.log × BlockLength h b → ⊥)
    (row 4 (NoSuchRecord h i)
    (row 5 (NoDataWord b) more)))

abbrev pub WriteNumbers : Type 0
WriteNumbers = (v : Vault) (i : ℕ) (b : List ℕ) → EachNumber (number_on v (write i b)) (WriteRows v i b (row 11 (AllZero b) none))

abbrev pub EarlierNumbers : Type 0
EarlierNumbers = (v : Vault) (i : ℕ) (b : List ℕ) → EachNumber (number_on v (earlier i b)) (WriteRows v i b none)

-- THE CALL `strike`
abbrev pub StrikeRows : Vault → (record_number : ℕ) → Rows
StrikeRows v i =
    let h = v.header in
    row 1 (OutOfRange h)
    (row 2 (RawLength h v.held.raw × FullLength h v.held.full × LogLength h v.held.log → ⊥)
    (row 4 (NoSuchRecord h i) none))

abbrev pub StrikeNumbers : Type 0
StrikeNumbers = (v : Vault) (i : ℕ) → EachNumber (number_on v (strike i)) (StrikeRows v i)

-- and what the model says of an event, from its own k and s, the record number and the block
abbrev pub TableRows : Model → (record_number : ℕ) → (block : List ℕ) → (more : Rows) → Rows
TableRows x i b more = row 2 (length b ≡ x.s → ⊥) (row 4 (2 ^ x.k ≤ i) (row 5 (NoDataWord b) more))

abbrev pub TableNumbers : Type 0
TableNumbers = (x : Model) (i : ℕ) (b : List ℕ) → EachNumber (table_number x (write i b)) (TableRows x i b (row 11 (AllZero b) none))

abbrev pub EarlierTable : Type 0
EarlierTable = (x : Model) (i : ℕ) (b : List ℕ) → EachNumber (table_number x (earlier i b)) (TableRows x i b none)

-- of a strike, from k and the record number
abbrev pub StrikeTable : Type 0
StrikeTable = (x : Model) (i : ℕ) → EachNumber (table_number x (strike i)) (row 4 (2 ^ x.k ≤ i) none)

-- and from nothing else: two models that agree in k and s agree in it
abbrev pub SameTable : Type 0
SameTable =
    (x x' : Model) (next : Event) (i : ℕ) (b : List ℕ) → Puts x.s next i b → x.k ≡ x'.k → x.s ≡ x'.s → table_number x next ≡ table_number x' next

-- of a taking-back, from the scratch and whether the round has a write. Of any event, two models that agree in the count too agree in it
abbrev pub BackTable : Type 0
BackTable =
    (x : Model) (scratch : List ℕ) →
    EachNumber (table_number x (take_back scratch)) (row 2 (length scratch ≡ 2 * (2 ^ x.k * suc x.s + 4 * 2 ^ x.k) → ⊥) (row 12 (writes x ≡ 0) none))

abbrev pub SameCounted : Type 0
SameCounted =
    (x x' : Model) (next : Event) → x.k ≡ x'.k → x.s ≡ x'.s → writes x ≡ writes x' → table_number x next ≡ table_number x' next

-- THE CALL `take_back`. Here 1, 2 and 12; 0 and 8 to 10 are in the room TakingBack
abbrev pub BackRows : Vault → (scratch : List ℕ) → Rows
BackRows v scratch =
    let h = v.header in
    row 1 (OutOfRange h)
    (row 2 (RawLength h v.held.raw × FullLength h v.held.full × LogLength h v.held.log × BackLength h scratch → ⊥)
    (row 12 (RoundBegins h) none))

abbrev pub BackNumbers : Type 0
BackNumbers = (v : Vault) (scratch : List ℕ) → EachRow (number_on v (take_back scratch)) (BackRows v scratch)

-- THE CALL `read`
abbrev pub ReadNumbers : Type 0
ReadNumbers =
    (h : Header) (raw : List ℕ) (i : ℕ) →
    EachNumber (read_number h raw i)
    (row 1 (OutOfRange h)
    (row 2 (RawLength h raw → ⊥)
    (row 4 (NoSuchRecord h i)
    (row 14 (StruckRecord h raw i) none))))

-- THE CALL `image`
abbrev pub ImageNumbers : Type 0
ImageNumbers =
    (h : Header) (full log m : List ℕ) →
    EachNumber (image_number h full log m)
    (row 1 (OutOfRange h)
    (row 2 (FullLength h full × LogLength h log × ImageLength h m → ⊥) none))

-- A CALL THAT IS LENT AN IMAGE; `lengths`: its other buffers have theirs
abbrev pub ImageRows : Header → (image erasures : List ℕ) → (lengths : Type 0) → (more : Rows) → Rows
ImageRows h m e lengths more =
    row 1 (OutOfRange h)
    (row 2 (ImageLength h m × lengths → ⊥)
    (row 3 (IllFormed h e) more))

-- WHAT A STRIPE DECODES TO, of an image under a well-formed list: 7 to 10 and 0; and it fails with a number if and only if that is its number
abbrev pub StripeRows : Header → (image erasures : List ℕ) → (stripe : ℕ) → Rows
StripeRows h m e l = row 7 (TooFew h e l) (row 8 (Stray h m e l) (row 9 (Inconsistent h m e l) (row 10 (NotRecords h m e l) none)))

abbrev pub StripeNumbers : Type 0
StripeNumbers =
    (h : Header) (m e : List ℕ) (l : ℕ) → InRange h → WellFormed h e → IsStripe h l →
    EachNumber (decoded_number (decode_stripe h m (erasures_in e) l)) (StripeRows h m e l)

abbrev pub FailsIff : Type 0
FailsIff = (h : Header) (m e : List ℕ) (l n : ℕ) → 0 < n → Fails h m e l n ↔ (decoded_number (decode_stripe h m (erasures_in e) l) ≡ n)

-- THE CALL `decode`
abbrev pub DecodeNumbers : Type 0
DecodeNumbers =
    (h : Header) (m e : List ℕ) (l : ℕ) (out scratch : List ℕ) →
    EachNumber (decode_number h m e l out scratch)
    (ImageRows h m e (OutLength h out × ScratchLength h scratch)
    (row 6 (NoStripe h l) (StripeRows h m e l)))

-- no number from 1 to 6 applies if and only if none of these rows does
abbrev pub AskedIff : Type 0
AskedIff =
    (h : Header) (m e : List ℕ) (l : ℕ) (out scratch : List ℕ) →
    Asked h m e l out scratch ↔ NoRow (ImageRows h m e (OutLength h out × ScratchLength h scratch) (row 6 (NoStripe h l) none))

-- THE CALLS `recover` AND `explain`. Here 1 to 3; 0 and 7 to 10, with the stripe that is named, are in the room Recovering
abbrev pub RecoverRows : Header → (image erasures out scratch : List ℕ) → Rows
RecoverRows h m e out scratch = ImageRows h m e (RawLength h out × ScratchLength h scratch) none

abbrev pub RecoverNumbers : Type 0
RecoverNumbers = (h : Header) (m e out scratch : List ℕ) → EachRow (recover_answer h m e out scratch).number (RecoverRows h m e out scratch)

abbrev pub ExplainRows : Header → (image erasures counts origins scratch : List ℕ) → Rows
ExplainRows h m e counts origins scratch = ImageRows h m e (CountsLength h counts × OriginsLength h origins × ScratchLength h scratch) none

abbrev pub ExplainNumbers : Type 0
ExplainNumbers =
    (h : Header) (m e counts origins scratch : List ℕ) →
    EachRow (explain_answer h m e counts origins scratch).number (ExplainRows h m e counts origins scratch)

-- no number from 1 to 3 applies to `explain` if and only if none of these rows does
abbrev pub ExplainAskedIff : Type 0
ExplainAskedIff =
    (h : Header) (m e counts origins scratch : List ℕ) →
    (explain_early h m e counts origins scratch ≡ 0) ↔ NoRow (ExplainRows h m e counts origins scratch)

-- A CALL THAT IS LENT TWO READINGS; `lengths`: its other buffers have theirs. 3 is of either list
abbrev pub TwoRows : Header → (image erasures image' erasures' : List ℕ) → (lengths : Type 0) → (more : Rows) → Rows
TwoRows h m e m' e' lengths more =
    row 1 (OutOfRange h)
    (row 2 (ImageLength h m × ImageLength h m' × lengths → ⊥)
    (row 3 (IllFormed h e ⊎ IllFormed h e')
    (row 13 (Differ h m e m' e') more)))

-- THE CALL `recover_two`. Here 1, 2, 3 and 13; 0 and 7 to 10, with the stripe that is named, are in the room TwoReadings
abbrev pub RecoverTwoRows : Header → (image erasures image' erasures' out scratch : List ℕ) → Rows
RecoverTwoRows h m e m' e' out scratch = TwoRows h m e m' e' (RawLength h out × ScratchLength h scratch) none

abbrev pub RecoverTwoNumbers : Type 0
RecoverTwoNumbers =
    (h : Header) (m e m' e' out scratch : List ℕ) →
    EachRow (recover_two_answer h m e m' e' out scratch).number (RecoverTwoRows h m e m' e' out scratch)

-- no number of 1, 2, 3 and 13 applies if and only if none of these rows does
abbrev pub TwoAskedIff : Type 0
TwoAskedIff =
    (h : Header) (m e m' e' out scratch : List ℕ) →
    (recover_two_early h m e m' e' out scratch ≡ 0) ↔ NoRow (RecoverTwoRows h m e m' e' out scratch)

-- THE CALL `shelf_of_two`: 13 before 6
abbrev pub ShelfOfTwoNumbers : Type 0
ShelfOfTwoNumbers =
    (h : Header) (m e m' e' : List ℕ) (l : ℕ) →
    EachNumber (shelf_of_two_number h m e m' e' l) (TwoRows h m e m' e' (Unit {0}) (row 6 (NoStripe h l) none))

-- THE CALL `powers`
abbrev pub PowersNumbers : Type 0
PowersNumbers = (out : List ℕ) → EachNumber (powers_number out) (row 2 (length out ≡ 2048 → ⊥) none)

-- ALL OF THIS ROOM
pub record Numbers : Type 0 where
  pub open_numbers : OpenNumbers
  pub write_numbers : WriteNumbers
  pub earlier_numbers : EarlierNumbers
  pub strike_numbers : StrikeNumbers
  pub table_numbers : TableNumbers
  pub earlier_table : EarlierTable
  pub strike_table : StrikeTable
  pub same_table : SameTable
  pub back_table : BackTable
  pub same_counted : SameCounted
  pub back_numbers : BackNumbers
  pub read_numbers : ReadNumbers
  pub image_numbers : ImageNumbers
  pub stripe_numbers : StripeNumbers
  pub fails_iff : FailsIff
  pub decode_numbers : DecodeNumbers
  pub asked_iff : AskedIff
  pub recover_numbers : RecoverNumbers
  pub explain_numbers : ExplainNumbers
  pub explain_asked_iff : ExplainAskedIff
  pub recover_two_numbers : RecoverTwoNumbers
  pub two_asked_iff : TwoAskedIff
  pub shelf_of_two_numbers : ShelfOfTwoNumbers
  pub powers_numbers : PowersNumbers
