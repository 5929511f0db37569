-- The number of each call that is lent no image (of `take_back`: BackNumbers), and of the model's events, both ways round: the tests of the call beside the
-- rows of the table (Table). The room Numbers of specs/promises. Assumes nothing.
use mathlib.Core.Path.{◌≡◌, refl, sym, ap, ap₂, ◌∙◌, subst}
use mathlib.Core.Bool.{Bool, true, false, ◌&&◌, not}
use mathlib.Core.Logic.{inl, inr}
use mathlib.Core.List.{List}
use Prim.Native.Nat.{ℕ, zero, suc, ◌+◌, ◌*◌, ◌^◌, ◌≤◌, ◌<◌}
use native.Mathlib.Omega.{arith}
use borrow.Author.Tests.{eqb-true, eq-eqb}
use lib.Dec.{eqb, ltb}
use lib.ListN.{length, replicate}
use Rattle.std.specs.Prelude.{◌↔◌}
use Rattle.std.proofs.lemmas.Bool.{false≢true}
use Rattle.field.proofs.Booleans.{if_else}
use Rattle.layout.specs.declared.Header.{Header}
use Rattle.layout.specs.Header.{header_of, record_count, raw_size, full_size, log_size, image_size}
use Rattle.layout.specs.Records.{are_data, is_blank, record_fits, record_in, records_fit}
use Rattle.layout.specs.Refusals.{Tests, done, test, refusal}
use Rattle.layout.proofs.Refusals.{none_fails, alone}
use Rattle.layout.proofs.RecordWords.{unfit_one}
use Rattle.store.specs.Buffers.{Buffers, buffers}
use Rattle.store.specs.StoreCalls.{buffers_fit}
use Rattle.vault.specs.Event.{write, earlier, strike, take_back}
use Rattle.vault.specs.Model.{Model, writes, judged}
use Rattle.vault.specs.History.{Vault}
use Rattle.vault.specs.promises.Table.{RawLength, FullLength, LogLength, ImageLength, OutOfRange, NoSuchRecord, NoDataWord, AllZero}
use Rattle.vault.specs.promises.Table.{NoRecordData, StruckRecord, Rows, none, row, EachNumber}
use Rattle.vault.specs.promises.Numbers.{OpenNumbers, WriteRows, WriteNumbers, EarlierNumbers, TableRows, TableNumbers, EarlierTable, SameTable}
use Rattle.vault.specs.promises.Numbers.{StrikeRows, StrikeNumbers, StrikeTable, BackTable, SameCounted, ReadNumbers, ImageNumbers, PowersNumbers}
use Rattle.vault.proofs.Histories.{data_fit, blank_number}
use Rattle.vault.proofs.Table.{Beside, ended, beside, each_number, Says, fails_unless, sure, both_say, three_say, equal_says, header_fails, full_is, log_is}
use Rattle.vault.proofs.Table.{fails_if, record_number_fails, data_fails, raw_holds, raw_struck, blank_fails}

-- THE LENGTHS of a vault's buffers
full_says : (h : Header) (f : List ℕ) → Says (eqb (length f) (full_size h)) (FullLength h f)
full_says h f = equal_says {a = length f} (full_is h)

log_says : (h : Header) (g : List ℕ) → Says (eqb (length g) (log_size h)) (LogLength h g)
log_says h g = equal_says {a = length g} (log_is h)

raw_says : (h : Header) (r : List ℕ) → Says (eqb (length r) (raw_size h)) (RawLength h r)
raw_says h r = equal_says {a = length r} {b = raw_size h} refl

buffers_say : (h : Header) (u : Buffers) → Says (buffers_fit h u) (RawLength h u.raw × FullLength h u.full × LogLength h u.log)
buffers_say h u = three_say (raw_says h u.raw) (full_says h u.full) (log_says h u.log)

-- OPENING: records do not fit if and only if one of them does not, where the buffer is as long as they are
unfit_at : (s : ℕ) (r : List ℕ) (n : ℕ) → records_fit s r n ≡ false → (i : ℕ) × (i < n) × (record_fits (record_in s r i) ≡ false)
unfolding records_fit
unfit_at s r zero e = absurd (false≢true (sym e))
unfit_at s r (suc n) e = go (records_fit s r n) e (unfit_at s r n)
  where
    go : (b : Bool) → (b && record_fits (record_in s r n)) ≡ false → (b ≡ false → (i : ℕ) × (i < n) × (record_fits (record_in s r i) ≡ false))
        → (i : ℕ) × (i < suc n) × (record_fits (record_in s r i) ≡ false)
    go true u rest = (n, omega arith, u)
    go false u rest = let x = rest refl in (x.0, omega (arith, x.1), x.2)

records_fail : (h : Header) (r : List ℕ) → length r ≡ 2 ^ h.k * h.s → (records_fit h.s r (2 ^ h.k) ≡ false) ↔ NoRecordData h r
records_fail h r e = (
  λ f. let t = unfit_at h.s r (2 ^ h.k) f in (t.0, t.1, (fails_unless (raw_holds h r t.0 e t.1)).0 t.2),
  λ t. unfit_one h.s r (2 ^ h.k) t.0 t.1 ((fails_unless (raw_holds h r t.0 e t.1)).1 t.2),
)

pub open_numbers : OpenNumbers
open_numbers k s r f g =
    let h = header_of k s 0 in
    let sized = buffers_say h (buffers r f g) in
    each_number (row 1 (OutOfRange h) (row 2 (RawLength h r × FullLength h f × LogLength h g → ⊥) (row 5 (NoRecordData h r) none)))
    (beside (omega arith) (λ _. header_fails h)
    (beside (omega arith) (λ _. fails_unless sized)
    (beside (omega arith) (λ o. records_fail h r (sure sized o.1).0) ended)))

-- WRITING
block_beside : {others : Type 0} (n i : ℕ) (b : List ℕ) {ts : Tests} {rows : Rows} → Beside 5 ((others × (n ≤ i → ⊥)) × (NoDataWord b → ⊥)) ts rows
    → Beside 2 others (test (ltb i n) 4 (test (are_data b) 5 ts)) (row 4 (n ≤ i) (row 5 (NoDataWord b) rows))
block_beside n i b more = beside (omega arith) (λ _. record_number_fails n i) (beside (omega arith) (λ _. data_fails b) more)

blank_beside : {others : Type 0} (b : List ℕ) → Beside 5 others (test (not (is_blank b)) 11 done) (row 11 (AllZero b) none)
blank_beside b = beside (omega arith) (λ _. blank_fails b) ended

pub block_says : (b : List ℕ) (s : ℕ) → Says (eqb (length b) s) (length b ≡ s)
block_says b s = equal_says {a = length b} {b = s} refl

-- and of one list more
pub lengths_say : (v : Vault) {z : Bool} {A : Type 0} → Says z A → let h = v.header in
    Says (buffers_fit h v.held && z) (RawLength h v.held.raw × FullLength h v.held.full × LogLength h v.held.log × A)
lengths_say v s =
    let t = both_say (buffers_say v.header v.held) s in
    (λ e. let p = t.0 e in (p.0.0, p.0.1, p.0.2, p.1), λ p. t.1 ((p.0, p.1, p.2), p.3))

pub write_numbers : WriteNumbers
write_numbers v i b =
    each_number (WriteRows v i b (row 11 (AllZero b) none))
    (beside (omega arith) (λ _. header_fails v.header)
    (beside (omega arith) (λ _. fails_unless (lengths_say v (block_says b v.header.s)))
    (block_beside (record_count v.header) i b (blank_beside b))))

pub earlier_numbers : EarlierNumbers
earlier_numbers v i b =
    each_number (WriteRows v i b none)
    (beside (omega arith) (λ _. header_fails v.header)
    (beside (omega arith) (λ _. fails_unless (lengths_say v (block_says b v.header.s)))
    (block_beside (record_count v.header) i b ended)))

-- STRIKING
pub strike_numbers : StrikeNumbers
strike_numbers v i =
    each_number (StrikeRows v i)
    (beside (omega arith) (λ _. header_fails v.header)
    (beside (omega arith) (λ _. fails_unless (buffers_say v.header v.held))
    (beside (omega arith) (λ _. record_number_fails (record_count v.header) i) ended)))

-- AND WHAT THE MODEL SAYS: the same tests
judged_is : (x : Model) (i : ℕ) (b : List ℕ) (ts : Tests)
    → refusal (test (eqb (length b) x.s) 2 (test (ltb i (2 ^ x.k)) 4 (test (are_data b) 5 ts))) ≡ judged x i b (refusal ts)
unfolding refusal
judged_is x i b ts = rw (data_fit b) refl

pub table_numbers : TableNumbers
table_numbers x i b =
    let rows = TableRows x i b (row 11 (AllZero b) none) in
    subst (λ (n : ℕ). EachNumber n rows) (judged_is x i b (test (not (is_blank b)) 11 done) ∙ ap (judged x i b) (blank_number b))
    (each_number rows (beside (omega arith) (λ _. fails_unless (block_says b x.s)) (block_beside (2 ^ x.k) i b (blank_beside b))))

pub earlier_table : EarlierTable
earlier_table x i b =
    let rows = TableRows x i b none in
    subst (λ (n : ℕ). EachNumber n rows) (judged_is x i b done ∙ ap (judged x i b) none_fails)
    (each_number rows (beside (omega arith) (λ _. fails_unless (block_says b x.s)) (block_beside (2 ^ x.k) i b ended)))

pub strike_table : StrikeTable
strike_table x i =
    let rows = row 4 (2 ^ x.k ≤ i) none in
    subst (λ (n : ℕ). EachNumber n rows) (alone (ltb i (2 ^ x.k)) 4)
    (each_number rows (beside (omega arith) (λ _. record_number_fails (2 ^ x.k) i) ended))

pub same_table : SameTable
same_table x x' next i b (inl p) k s = rw (p, k, s) refl
same_table x x' next i b (inr (inl p)) k s = rw (p, k, s) refl
same_table x x' next i b (inr (inr p)) k s = rw (p.0, k) refl

-- of a taking-back, by its size and the count
abbrev judged_back : (scratch : List ℕ) → (k s count : ℕ) → ℕ
judged_back scratch k s c = if_else (eqb (length scratch) (2 * (2 ^ k * suc s + 4 * 2 ^ k))) (if_else (eqb c 0) 12 0) 2

back_tests : (a b : Bool) → refusal (test a 2 (test (not b) 12 done)) ≡ if_else a (if_else b 12 0) 2
unfolding refusal
back_tests false b = refl
back_tests true true = refl
back_tests true false = refl

no_write_fails : (n : ℕ) → (not (eqb n 0) ≡ false) ↔ (n ≡ 0)
no_write_fails n = fails_if (eqb-true n 0, eq-eqb n 0)

pub back_table : BackTable
back_table x scratch =
    let size = 2 * (2 ^ x.k * suc x.s + 4 * 2 ^ x.k) in
    let rows = row 2 (length scratch ≡ size → ⊥) (row 12 (writes x ≡ 0) none) in
    subst (λ (n : ℕ). EachNumber n rows) (back_tests (eqb (length scratch) size) (eqb (writes x) 0))
    (each_number rows (beside (omega arith) (λ _. fails_unless (block_says scratch size)) (beside (omega arith) (λ _. no_write_fails (writes x)) ended)))

pub same_counted : SameCounted
same_counted x x' (write i b) k s c = same_table x x' (write i b) i b (inl refl) k s
same_counted x x' (earlier i b) k s c = same_table x x' (earlier i b) i b (inr (inl refl)) k s
same_counted x x' (strike i) k s c = same_table x x' (strike i) i (replicate x.s 65536) (inr (inr (refl, refl))) k s
same_counted x x' (take_back scratch) k s c =
    ap (λ (n : ℕ). judged_back scratch n x.s (writes x)) k ∙ ap₂ (judged_back scratch x'.k) s c

-- READING, AN IMAGE, THE TABLE OF POWERS
pub read_numbers : ReadNumbers
read_numbers h r i =
    each_number (row 1 (OutOfRange h) (row 2 (RawLength h r → ⊥) (row 4 (NoSuchRecord h i) (row 14 (StruckRecord h r i) none))))
    (beside (omega arith) (λ _. header_fails h)
    (beside (omega arith) (λ _. fails_unless (raw_says h r))
    (beside (omega arith) (λ _. record_number_fails (record_count h) i)
    (beside (omega arith) (λ o. fails_if (raw_struck h r i (sure (raw_says h r) o.0.1) (omega (arith, o.1)))) ended))))

pub image_numbers : ImageNumbers
image_numbers h f g m =
    let image : Says (eqb (length m) (image_size h)) (ImageLength h m) = equal_says {a = length m} {b = image_size h} refl in
    each_number (row 1 (OutOfRange h) (row 2 (FullLength h f × LogLength h g × ImageLength h m → ⊥) none))
    (beside (omega arith) (λ _. header_fails h) (beside (omega arith) (λ _. fails_unless (three_say (full_says h f) (log_says h g) image)) ended))

pub powers_numbers : PowersNumbers
powers_numbers out = each_number (row 2 (length out ≡ 2048 → ⊥) none) (beside (omega arith) (λ _. fails_unless (block_says out 2048)) ended)
