-- BLOCKS THAT ARE NO RECORDS (number 10), by their words: what the promises of the crate judging say of a list of blocks, said of the words of one of them.
-- Assumes nothing.
use mathlib.Core.Path.{◌≡◌, refl, sym, ap, ◌∙◌}
use mathlib.Core.Bool.{Bool, true, false, ◌&&◌}
use mathlib.Core.Logic.{◌⊎◌, inl, inr, ⊎_elim}
use mathlib.Core.List.{List}
use Prim.Native.Nat.{ℕ, zero, suc, ◌+◌, ◌*◌, ◌^◌, ◌≤◌, ◌<◌}
use native.Mathlib.Decide.{dec_lt}
use native.Mathlib.Omega.{arith}
use borrow.Author.Tests.{eqb-true, eqb-false, ne_eqb, ltb-false, le-ltb}
use lib.Dec.{eqb, ltb}
use lib.ListN.{length, get_or, drop, length-drop}
use lib.Seq.{length-take-le, get_or-take, get_or-drop}
use Rattle.std.specs.Prelude.{◌↔◌}
use Rattle.std.proofs.lemmas.Bool.{false≢true}
use Rattle.field.proofs.Booleans.{first_false, second_false}
use Rattle.code.specs.declared.Stripe.{Stripe}
use Rattle.layout.specs.declared.Header.{Header}
use Rattle.layout.specs.Header.{stripe_of}
use Rattle.layout.specs.Records.{record_fits}
use Rattle.layout.proofs.RecordWords.{record_end}
use Rattle.judging.specs.Decoding.{block_number, block_data, number_fits, is_record, are_records}
use Rattle.vault.specs.promises.Decoding.{Codes, HoldRecords}
use Rattle.vault.specs.promises.Table.{HoldsRecord, block_word, NoRecord}
use Rattle.vault.proofs.Table.{Says, fails_unless, record_says}

-- one of them is not
no_record_at : (st : Stripe) (bs : List ℕ) (n : ℕ) → are_records st bs n ≡ false → (j : ℕ) × (j < n) × (is_record st bs j ≡ false)
unfolding are_records
no_record_at st bs zero e = absurd (false≢true (sym e))
no_record_at st bs (suc n) e = go (is_record st bs n) refl e (no_record_at st bs n)
  where
    go : (b : Bool) → is_record st bs n ≡ b → (b && are_records st bs n) ≡ false
        → (are_records st bs n ≡ false → (j : ℕ) × (j < n) × (is_record st bs j ≡ false)) → (j : ℕ) × (j < suc n) × (is_record st bs j ≡ false)
    go true t u rest = let x = rest u in (x.0, omega (arith, x.1), x.2)
    go false t u rest = (n, omega arith, t)

one_no_record : (st : Stripe) (bs : List ℕ) (n j : ℕ) → j < n → is_record st bs j ≡ false → are_records st bs n ≡ false
unfolding are_records
one_no_record st bs zero j b e = absurd (omega arith)
one_no_record st bs (suc n) j b e = go (dec_lt j n) (λ c. one_no_record st bs n j c e)
  where
    go : Dec (j < n) → (j < n → are_records st bs n ≡ false) → (is_record st bs n && are_records st bs n) ≡ false
    go (yes c) below = second_false (is_record st bs n) (below c)
    go (no d) below = let s : j ≡ n = omega arith in first_false (are_records st bs n) (ap (is_record st bs) (sym s) ∙ e)

-- a block's number, and its data
number_no : (h : Header) (l j x : ℕ) → j < 2 ^ l → (number_fits (stripe_of h l) j x ≡ false) ↔ ((2 ^ h.k ≤ x) ⊎ ((l ≡ h.k) × (x ≡ j → ⊥)))
number_no h l j x b = go (eqb l h.k) refl
  where
    go : (c : Bool) → eqb l h.k ≡ c → (elim c [ true ↦ eqb x j | false ↦ ltb x (2 ^ h.k) ] ≡ false) ↔ ((2 ^ h.k ≤ x) ⊎ ((l ≡ h.k) × (x ≡ j → ⊥)))
    go true c =
        let full : l ≡ h.k = eqb-true l h.k c in
        let n : 2 ^ l ≡ 2 ^ h.k = ap (λ (i : ℕ). 2 ^ i) full in
        (λ e. inr (full, eqb-false x j e), λ t. ⊎_elim (λ o. ne_eqb x j (λ p. omega arith)) (λ d. ne_eqb x j d.1) t)
    go false c = (λ e. inl (ltb-false x (2 ^ h.k) e), λ t. ⊎_elim (λ o. le-ltb x (2 ^ h.k) o) (λ d. absurd (eqb-false l h.k c d.0)) t)

data_says : (h : Header) (l j : ℕ) (bs : List ℕ) → length bs ≡ 2 ^ l * suc h.s → j < 2 ^ l
    → Says (record_fits (block_data (suc h.s) bs j)) (HoldsRecord h.s (block_word h bs j))
data_says h l j bs long b =
    let from = suc (j * suc h.s) in
    record_says (block_data (suc h.s) bs j) (block_word h bs j)
    (length-take-le h.s (drop from bs) (omega (arith, length-drop from bs, long, record_end (2 ^ l) (suc h.s) j b)))
    (λ q t. get_or-take h.s (drop from bs) q 0 t ∙ get_or-drop from bs q 0
    ∙ ap (λ (i : ℕ). get_or bs i 0) {x = from + q} {y = j * suc h.s + suc q} (omega arith))

-- block j of blocks that code
either_false : (a : Bool) {b : Bool} → (a && b) ≡ false → (a ≡ false) ⊎ (b ≡ false)
either_false true e = inr e
either_false false e = inl refl

record_no : (h : Header) (l j : ℕ) (bs : List ℕ) → length bs ≡ 2 ^ l * suc h.s → j < 2 ^ l → (is_record (stripe_of h l) bs j ≡ false) ↔ NoRecord h l bs j
record_no h l j bs long b =
    let number = number_no h l j (block_number (suc h.s) bs j) b in
    let words = fails_unless (data_says h l j bs long b) in (
      λ e. ⊎_elim (λ n. ⊎_elim (λ x. inl x) (λ y. inr (inl y)) (number.0 n)) (λ d. inr (inr (words.0 d)))
          (either_false (number_fits (stripe_of h l) j (block_number (suc h.s) bs j)) e),
      λ t. ⊎_elim (λ x. first_false _ (number.1 (inl x)))
          (λ y. ⊎_elim (λ n. first_false _ (number.1 (inr n))) (λ w. second_false _ (words.1 w)) y) t,
    )

-- of the blocks of a stripe
pub blocks_no : (h : Header) (l : ℕ) (bs : List ℕ) → length bs ≡ 2 ^ l * suc h.s → HoldRecords h l bs false ↔ ((j : ℕ) × (j < 2 ^ l) × NoRecord h l bs j)
blocks_no h l bs long = (
  λ f. let t = no_record_at (stripe_of h l) bs (2 ^ l) f in (t.0, t.1, (record_no h l t.0 bs long t.1).0 t.2),
  λ t. one_no_record (stripe_of h l) bs (2 ^ l) t.0 t.1 ((record_no h l t.0 bs long t.1).1 t.2),
)

pub records_no : (h : Header) (m e : List ℕ) (l : ℕ) (bs : List ℕ) → Codes h m e l bs
    → HoldRecords h l bs false ↔ ((j : ℕ) × (j < 2 ^ l) × NoRecord h l bs j)
records_no h m e l bs C = blocks_no h l bs C.blocks.long
