-- TAKING BACK THE LAST WRITE OF A ROUND: in histories, and on any header and any buffers, those that no opening made too. Signs and letters: Demands. Assumes
-- nothing.
use Rattle.std.specs.Prelude.{◌≡◌, ◌⊎◌, ◌↔◌, List, [], ◌∷◌, ◌++◌, ℕ, suc, ◌+◌, ◌*◌, ◌-◌, ◌/◌, ◌%◌, ◌^◌, ◌≤◌, ◌<◌, length, get_or, take, drop}
use Rattle.std.specs.Prelude.{replicate}
use Rattle.field.specs.Field.{fermat, root_of}
use Rattle.code.specs.Stripe.{coded_rows}
use Rattle.layout.specs.declared.Header.{Header}
use Rattle.layout.specs.Header.{header_of}
use Rattle.judging.specs.Decoding.{failed, decoded, decoded_number}
use Rattle.taking_back.specs.TakingBack.{stripe_held, decode_held}
use Rattle.taking_back.specs.TakeBackCall.{take_back_scratch}
use Rattle.vault.specs.Event.{Opening, Event, take_back}
use Rattle.vault.specs.Model.{writes, model_of}
use Rattle.vault.specs.History.{Vault, number_on, step, Opens, vault_after, header_after}
use Rattle.vault.specs.Round.{round_of}
use Rattle.vault.specs.promises.Histories.{Puts}
use Rattle.vault.specs.promises.Table.{FullLength, LogLength, BackLength, InRange, IsStripe, NoRecord, Rows, none, row, NoRow, EachNumber}
use Rattle.vault.specs.promises.Numbers.{BackRows}

-- IN A HISTORY. It gives 2 where the scratch has not its length, 12 where the round has no write, and else 0, and never another number
abbrev pub BackAfter : Type 0
BackAfter =
    (o : Opening) (es : List Event) (scratch : List ℕ) → Opens o →
    EachNumber (number_on (vault_after o es) (take_back scratch))
    (row 2 (BackLength (header_after o es) scratch → ⊥)
    (row 12 (writes (model_of o es) ≡ 0) none))

-- ONE WRITE UNDONE: after any history and one write, earlier write or strike more that is taken and does not end the round, it gives back the header and every
-- buffer of before, word for word, and the model; the scratch is zeros
abbrev pub BackUndoes : Type 0
BackUndoes =
    (o : Opening) (es : List Event) (next : Event) (i : ℕ) (b scratch : List ℕ) → Opens o → Puts (model_of o es).s next i b →
    number_on (vault_after o es) next ≡ 0 →
    suc (writes (model_of o es)) < 2 ^ (model_of o es).k → BackLength (header_after o es) scratch →
    let v = vault_after o (es ++ (next ∷ [])) in
    (number_on v (take_back scratch) ≡ 0) × (step v (take_back scratch) ≡ vault_after o es) ×
    (model_of o (es ++ (next ∷ take_back scratch ∷ [])) ≡ model_of o es) × (take_back_scratch v.header v.held scratch ≡ replicate (length scratch) 0)

-- AGAIN AND AGAIN: some events after a history, each a write, an earlier write or a strike that is taken and does not end the round. As many takings-back give
-- back header, buffers and model
abbrev pub AllPut : Opening → (es more : List Event) → Type 0
AllPut o es [] = Unit {0}
AllPut o es (next ∷ more) =
    ((i : ℕ) × (b : List ℕ) × Puts (model_of o es).s next i b) × (number_on (vault_after o es) next ≡ 0) ×
    (suc (writes (model_of o es)) < 2 ^ (model_of o es).k) ×
    AllPut o (es ++ (next ∷ [])) more

abbrev pub BackAgain : Type 0
BackAgain =
    (o : Opening) (es more : List Event) (scratch : List ℕ) → Opens o → AllPut o es more → BackLength (header_after o es) scratch →
    let then = es ++ (more ++ replicate (length more) (take_back scratch)) in
    (vault_after o then ≡ vault_after o es) × (model_of o then ≡ model_of o es)

-- BACK TO THE START of the round: so many takings-back leave its first writes, and as many as it has leave none; its start stays
abbrev pub BackToStart : Type 0
BackToStart =
    (o : Opening) (es : List Event) (times : ℕ) (scratch : List ℕ) → Opens o → BackLength (header_after o es) scratch → times ≤ writes (model_of o es) →
    let then = es ++ replicate times (take_back scratch) in
    (writes (model_of o then) ≡ writes (model_of o es) - times) × ((round_of o then).base ≡ (round_of o es).base) ×
    ((round_of o then).since ≡ take (writes (model_of o es) - times) (round_of o es).since)

-- ON ANY BUFFERS. The words of a stripe that are decoded: the full stripe's, or those of the log from the level's place on; none is erased
abbrev pub HeldIs : Type 0
HeldIs =
    (v : Vault) (l q : ℕ) → FullLength v.header v.held.full → LogLength v.header v.held.log → l ≤ v.header.k → q < 2 ^ suc l * suc v.header.s →
    let ws = stripe_held v.header v.held.full v.held.log l in
    (length ws ≡ 2 ^ suc l * suc v.header.s) × (l ≡ v.header.k → ws ≡ v.held.full) ×
    (l < v.header.k → get_or ws q 0 ≡ get_or v.held.log ((2 ^ suc l - 2) * suc v.header.s + q) 0)

-- it decodes to the blocks bs; or it fails with the number of a refusal
abbrev pub HeldDecodes : Vault → (stripe : ℕ) → (blocks : List ℕ) → Type 0
HeldDecodes v l bs = decode_held v.header v.held.full v.held.log l ≡ decoded bs

abbrev pub HeldFails : Vault → (stripe refusal : ℕ) → Type 0
HeldFails v l n = decode_held v.header v.held.full v.held.log l ≡ failed n

-- bs are 2^l blocks of words 0 to 65536 that code to all of its words; t0, the write that the first one is, is 0 on the full stripe
pub record CodesHeld (v : Vault) (l : ℕ) (bs : List ℕ) : Type 0 where
  pub long : length bs ≡ 2 ^ l * suc v.header.s
  pub in_field : (q : ℕ) → get_or bs q 0 ≤ 65536
  pub codes : (t : ℕ) → (l ≡ v.header.k → t ≡ 0) → (l < v.header.k → t ≡ v.header.c / 2 ^ suc l * 2 ^ suc l) →
      coded_rows 65537 (root_of fermat v.header.k) v.header.k l t (suc v.header.s) bs ≡ stripe_held v.header v.held.full v.held.log l

-- 8 if and only if one of its words is above 65536; 9 if and only if no blocks code to them; 10 if and only if some do and one of these is no record; never 7
abbrev pub HeldRows : Vault → (stripe : ℕ) → Rows
HeldRows v l =
    let ws = stripe_held v.header v.held.full v.held.log l in
    row 8 ((q : ℕ) × (65536 < get_or ws q 0))
    (row 9 ((bs : List ℕ) → CodesHeld v l bs → ⊥)
    (row 10 ((bs : List ℕ) × (j : ℕ) × CodesHeld v l bs × (j < 2 ^ l) × NoRecord v.header l bs j) none))

abbrev pub HeldNumbers : Type 0
HeldNumbers =
    (v : Vault) (l : ℕ) → InRange v.header → FullLength v.header v.held.full → LogLength v.header v.held.log → l ≤ v.header.k →
    EachNumber (decoded_number (decode_held v.header v.held.full v.held.log l)) (HeldRows v l)

abbrev pub HeldFailsIff : Type 0
HeldFailsIff =
    (v : Vault) (l n : ℕ) → 0 < n → HeldFails v l n ↔ (decoded_number (decode_held v.header v.held.full v.held.log l) ≡ n)

-- and blocks if and only if it fails with no number and they are the ones that code to its words
abbrev pub HeldBlocksIff : Type 0
HeldBlocksIff =
    (v : Vault) (l : ℕ) (bs : List ℕ) → InRange v.header → FullLength v.header v.held.full → LogLength v.header v.held.log → l ≤ v.header.k →
    HeldDecodes v l bs ↔ (NoRow (HeldRows v l) × CodesHeld v l bs)

-- THE LOWEST FILLED LEVEL, whose last block is the write that is taken back; bs are its blocks
pub record Lowest (h : Header) (l : ℕ) : Type 0 where
  pub level : l < h.k
  pub filled : h.c / 2 ^ l % 2 ≡ 1
  pub below : (l' : ℕ) → l' < l → h.c / 2 ^ l' % 2 ≡ 0

abbrev pub number_at : Header → (blocks : List ℕ) → (j : ℕ) → ℕ
number_at h bs j = get_or bs (j * suc h.s) 0

abbrev pub taken_record : Header → (lowest : ℕ) → (blocks : List ℕ) → ℕ
taken_record h l bs = number_at h bs (2 ^ l - 1)

-- none of the blocks from j up to `end` is record i's
abbrev pub NoneFrom : Header → (blocks : List ℕ) → (i j end : ℕ) → Type 0
NoneFrom h bs i j end = (j' : ℕ) → j ≤ j' → j' < end → number_at h bs j' ≡ i → ⊥

-- STRIPE l IS REACHED, of those above the lowest filled level `low`, which has the blocks bs: those before it, from there up, decode, and none of their blocks
-- is the record's but the one that is taken back
pub record Reached (v : Vault) (low : ℕ) (bs : List ℕ) (l : ℕ) : Type 0 where
  pub above : low < l
  pub stripe : IsStripe v.header l
  pub not_there : NoneFrom v.header bs (taken_record v.header low bs) 0 (2 ^ low - 1)
  pub passed : (l' : ℕ) → low < l' → l' < l → IsStripe v.header l' →
      (cs : List ℕ) × HeldDecodes v l' cs × NoneFrom v.header cs (taken_record v.header low bs) 0 (2 ^ l')

-- IT STOPS with a number from 8 to 10 if and only if the lowest filled level fails with it, or decodes, and a stripe that is reached fails with it
abbrev pub BackStopsIff : Type 0
BackStopsIff =
    (v : Vault) (scratch : List ℕ) (low n : ℕ) → NoRow (BackRows v scratch) → Lowest v.header low → 0 < n →
    (number_on v (take_back scratch) ≡ n) ↔
    (HeldFails v low n ⊎ ((bs : List ℕ) × (l : ℕ) × HeldDecodes v low bs × Reached v low bs l × HeldFails v l n))

-- THE RECORD'S WRITE BEFORE is block j of stripe l, which has the blocks cs: the last one in the lowest filled level, the one taken back left out; or the last
-- one in a level that is reached; or the record's own on the full stripe, if that is reached
pub data WriteBefore (v : Vault) (low : ℕ) (bs : List ℕ) (j : ℕ) (cs : List ℕ) : Type 0 where
  in_lowest : cs ≡ bs → j < 2 ^ low - 1 → number_at v.header bs j ≡ taken_record v.header low bs →
      NoneFrom v.header bs (taken_record v.header low bs) (suc j) (2 ^ low - 1) → WriteBefore v low bs j cs
  in_level : (l : ℕ) → Reached v low bs l → l < v.header.k → HeldDecodes v l cs → j < 2 ^ l → number_at v.header cs j ≡ taken_record v.header low bs →
      NoneFrom v.header cs (taken_record v.header low bs) (suc j) (2 ^ l) → WriteBefore v low bs j cs
  in_full : Reached v low bs v.header.k → HeldDecodes v v.header.k cs → j ≡ taken_record v.header low bs → WriteBefore v low bs j cs

-- IT IS TAKEN if and only if there is one
abbrev pub BackGoesIff : Type 0
BackGoesIff =
    (v : Vault) (scratch : List ℕ) (low : ℕ) → NoRow (BackRows v scratch) → Lowest v.header low →
    (number_on v (take_back scratch) ≡ 0) ↔ ((bs : List ℕ) × (j : ℕ) × (cs : List ℕ) × HeldDecodes v low bs × WriteBefore v low bs j cs)

-- then c is one less, the full stripe stays, and the raw copy has that block's data in the place of the record, and its other words
abbrev pub BackPuts : Type 0
BackPuts =
    (v : Vault) (scratch : List ℕ) (low j : ℕ) (bs cs : List ℕ) → NoRow (BackRows v scratch) → Lowest v.header low → HeldDecodes v low bs →
    WriteBefore v low bs j cs →
    let after = step v (take_back scratch) in
    let i = taken_record v.header low bs in
    let size = suc v.header.s in
    (after.header ≡ header_of v.header.k v.header.s (v.header.c - 1)) × (after.held.full ≡ v.held.full) ×
    (length after.held.raw ≡ length v.held.raw) ×
    ((q : ℕ) → q < v.header.s → get_or after.held.raw (i * v.header.s + q) 0 ≡ get_or cs (j * size + suc q) 0) ×
    ((q : ℕ) → (q < i * v.header.s) ⊎ (suc i * v.header.s ≤ q) → get_or after.held.raw q 0 ≡ get_or v.held.raw q 0)

-- and in the log level l' below the lowest filled one codes 2^l' of its blocks as the writes c - 2^(l'+1) on, which they are; that level is zeros, and what
-- stands above it stays
abbrev pub BackLog : Type 0
BackLog =
    (v : Vault) (scratch : List ℕ) (low : ℕ) (bs : List ℕ) → NoRow (BackRows v scratch) → Lowest v.header low → HeldDecodes v low bs →
    number_on v (take_back scratch) ≡ 0 →
    let before = v.held.log in
    let after = (step v (take_back scratch)).held.log in
    let size = suc v.header.s in
    let k = v.header.k in
    (length after ≡ length before) ×
    ((l' : ℕ) → l' < low →
    take (2 ^ suc l' * size) (drop ((2 ^ suc l' - 2) * size) after) ≡
    coded_rows 65537 (root_of fermat k) k l' (v.header.c - 2 ^ suc l') size (take (2 ^ l' * size) (drop ((2 ^ low - 2 ^ suc l') * size) bs))) ×
    ((q : ℕ) → (2 ^ suc low - 2) * size ≤ q → q < (2 ^ suc (suc low) - 2) * size → get_or after q 0 ≡ 0) ×
    ((q : ℕ) → (2 ^ suc (suc low) - 2) * size ≤ q → get_or after q 0 ≡ get_or before q 0)

-- NO STRIPE BEYOND is looked at, and nothing of the raw copy: on buffers with the same header, the same words in the lowest filled level and the same in each
-- stripe that is reached, it gives the same number and header, the record the same words, and the lowest filled level and those below it the same words
abbrev pub words_held : Vault → (stripe : ℕ) → List ℕ
words_held v l = stripe_held v.header v.held.full v.held.log l

abbrev pub BackReads : Type 0
BackReads =
    (v v' : Vault) (scratch : List ℕ) (low : ℕ) → NoRow (BackRows v scratch) → NoRow (BackRows v' scratch) → v.header ≡ v'.header → Lowest v.header low →
    words_held v low ≡ words_held v' low →
    ((bs : List ℕ) (l : ℕ) → HeldDecodes v low bs → Reached v low bs l → words_held v l ≡ words_held v' l) →
    let after = step v (take_back scratch) in
    let after' = step v' (take_back scratch) in
    (number_on v (take_back scratch) ≡ number_on v' (take_back scratch)) × (after.header ≡ after'.header) ×
    ((bs : List ℕ) → HeldDecodes v low bs → number_on v (take_back scratch) ≡ 0 →
    ((q : ℕ) → q < v.header.s →
    let place = taken_record v.header low bs * v.header.s + q in
    get_or after.held.raw place 0 ≡ get_or after'.held.raw place 0) ×
    (take ((2 ^ suc (suc low) - 2) * suc v.header.s) after.held.log ≡ take ((2 ^ suc (suc low) - 2) * suc v.header.s) after'.held.log))

-- THE SCRATCH: as it was after 1, 2 and 12, and zeros after 0 and 8 to 10
abbrev pub BackScratch : Type 0
BackScratch =
    (v : Vault) (scratch : List ℕ) →
    let left = take_back_scratch v.header v.held scratch in
    (NoRow (BackRows v scratch) → left ≡ replicate (length scratch) 0) × ((NoRow (BackRows v scratch) → ⊥) → left ≡ scratch)

-- ALL OF THIS ROOM
pub record TakingBack : Type 0 where
  pub back_after : BackAfter
  pub back_undoes : BackUndoes
  pub back_again : BackAgain
  pub back_to_start : BackToStart
  pub held_is : HeldIs
  pub held_numbers : HeldNumbers
  pub held_fails_iff : HeldFailsIff
  pub held_blocks_iff : HeldBlocksIff
  pub back_stops_iff : BackStopsIff
  pub back_goes_iff : BackGoesIff
  pub back_puts : BackPuts
  pub back_log : BackLog
  pub back_reads : BackReads
  pub back_scratch : BackScratch
