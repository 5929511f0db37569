-- The number of each call that is lent an image, both ways round: 1 to 3, and for `recover` and `explain` that no number of a stripe is one of these. The room
-- Numbers of specs/promises. Assumes nothing.
use mathlib.Core.Path.{◌≡◌, refl, sym, ap, ◌∙◌, subst}
use mathlib.Core.Bool.{Bool, true, false, ◌&&◌}
use mathlib.Core.Logic.{◌⊎◌, inl, inr, ⊎_elim}
use mathlib.Core.List.{List}
use Prim.Native.Nat.{ℕ, ◌≤◌, ◌<◌}
use native.Mathlib.Omega.{arith}
use borrow.Author.Tests.{eqb-true}
use lib.Dec.{eqb, ltb}
use lib.ListN.{length}
use Rattle.std.specs.Prelude.{◌↔◌}
use Rattle.decoder.specs.Decoding.{survivors, is_consistent, blocks_in}
use Rattle.code.specs.declared.Stripe.{Stripe}
use Rattle.code.specs.Stripe.{modulus_of, block_count}
use Rattle.layout.specs.declared.Header.{Header}
use Rattle.layout.specs.Header.{raw_size, scratch_size, image_size}
use Rattle.layout.specs.Refusals.{Tests, done, refusal, if_taken}
use Rattle.image.specs.Erasures.{erasures_in}
use Rattle.image.specs.Loading.{rows_in, are_below}
use Rattle.image.specs.ImageTests.{image_tests}
use Rattle.judging.specs.Decoding.{Decoded, failed, decoded, decoded_number, decode_rows, are_records}
use Rattle.stripe_decoding.specs.Decoding.{decode_stripe}
use Rattle.recovery.specs.Verdicts.{Verdict}
use Rattle.recovery.specs.Recovery.{Layer, Recovered, stripes_over, records, recover}
use Rattle.recovery.specs.Origins.{origins_size, origins, explain}
use Rattle.recovery.specs.RecoveryCall.{recover_early, unnamed, answer_of}
use Rattle.explanation.specs.Counts.{counts_size}
use Rattle.explanation.specs.ExplainCall.{explain_early}
use Rattle.field.proofs.Booleans.{if_else}
use Rattle.vault.specs.promises.Losses.{Needed}
use Rattle.vault.specs.promises.Table.{RawLength, ImageLength, ScratchLength, CountsLength, OriginsLength, OutOfRange, IllFormed}
use Rattle.vault.specs.promises.Table.{Rows, none, EachRow, NoRow, EachNumber}
use Rattle.vault.specs.promises.Numbers.{ImageRows, RecoverRows, RecoverNumbers, ExplainRows, ExplainNumbers, ExplainAskedIff}
use Rattle.vault.proofs.Erasures.{well_formed_iff}
use Rattle.vault.proofs.StripesEnd.{Ends, stops, passes, stripes_end}
use Rattle.vault.proofs.Table.{Beside, ended, beside, each_number, then_iff, Says, fails_unless, both_say, three_say, equal_says, header_fails}

-- TESTS 1 TO 3, and what is known where their rows do not apply
abbrev pub Passed : Header → (image erasures : List ℕ) → (lengths : Type 0) → Type 0
Passed h m e lengths = ((Unit {0} × (OutOfRange h → ⊥)) × ((ImageLength h m × lengths → ⊥) → ⊥)) × (IllFormed h e → ⊥)

pub image_beside : (h : Header) (m e : List ℕ) {sizes : Bool} {lengths : Type 0} → Says sizes lengths → {rest : Tests} {more : Rows}
    → Beside 3 (Passed h m e lengths) rest more → Beside 0 (Unit {0}) (image_tests h m e sizes rest) (ImageRows h m e lengths more)
image_beside h m e s more =
    let image : Says (eqb (length m) (image_size h)) (ImageLength h m) = equal_says {a = length m} {b = image_size h} refl in
    beside (omega arith) (λ _. header_fails h)
    (beside (omega arith) (λ _. fails_unless (both_say image s))
    (beside (omega arith) (λ _. fails_unless (well_formed_iff h e)) more))

-- A STRIPE FAILS with 7 to 10 alone, and so its number is 0 or one of these
abbrev pub Fault : ℕ → Type 0
Fault n = (7 ≤ n) × (n ≤ 10)

abbrev pub FailsSo : Decoded → Type 0
FailsSo (failed n) = Fault n
FailsSo (decoded bs) = Unit {0}

pub rows_fail : (st : Stripe) (ms : List Bool) (ws : List ℕ) → FailsSo (decode_rows st ms ws)
rows_fail st ms ws =
    let r = rows_in st ms ws in
    let bs = blocks_in st ms r in
    go (ltb (length (survivors st.level ms)) (block_count st)) (are_below (modulus_of st) r) (is_consistent st ms r) (are_records st bs (block_count st)) bs
  where
    go : (a b c d : Bool) (bs : List ℕ)
        → let x = if_else b (if_else c (if_else d (decoded bs) (failed 10)) (failed 9)) (failed 8) in FailsSo (if_else a (failed 7) x)
    go true b c d bs = (omega arith, omega arith)
    go false false c d bs = (omega arith, omega arith)
    go false true false d bs = (omega arith, omega arith)
    go false true true false bs = (omega arith, omega arith)
    go false true true true bs = tt

abbrev pub OfStripe : ℕ → Type 0
OfStripe v = (v ≡ 0) ⊎ Fault v

pub rows_number : (st : Stripe) (ms : List Bool) (ws : List ℕ) → OfStripe (decoded_number (decode_rows st ms ws))
rows_number st ms ws = by (decode_rows st ms ws) (rows_fail st ms ws)
  where
    by : (d : Decoded) → FailsSo d → OfStripe (decoded_number d)
    by (failed n) f = inr f
    by (decoded bs) f = inl refl

-- and so is that at which the stripes end
pub ends_with : (h : Header) (d : ℕ → Decoded) (y : Layer) → ((l : ℕ) → FailsSo (d l)) → OfStripe (answer_of (stripes_over h d y)).number
ends_with h d y so = by (stripes_end h d y)
  where
    by : {x : Recovered} → Ends d (Needed h) x → OfStripe (answer_of x).number
    by (stops n l q f) = subst OfStripe (ap (λ (x : Recovered). (answer_of x).number) (sym q)) (inr (subst FailsSo f.1 (so l)))
    by (passes r q all) = inl (ap (λ (x : Recovered). (answer_of x).number) q)

-- A CALL THAT GOES ON to the stripes where its early tests hold has a number that no stripe has if and only if they give it
pub early_given : (early v n : ℕ) → OfStripe v → (OfStripe n → ⊥) → (if_taken early v early ≡ n) ↔ (early ≡ n)
early_given early v n o out = go (eqb early 0) refl
  where
    go : (a : Bool) → eqb early 0 ≡ a → (if_else a v early ≡ n) ↔ (early ≡ n)
    go true t = (λ e. absurd (out (subst OfStripe e o)), λ e. absurd (out (inl (sym e ∙ eqb-true early 0 t))))
    go false t = (λ e. e, λ e. e)

pub verdict_given : (early n : ℕ) (a : Verdict) → OfStripe a.number → (OfStripe n → ⊥)
    → ((if_taken early a (unnamed early)).number ≡ n) ↔ (early ≡ n)
verdict_given early n a o out = go (eqb early 0) (early_given early a.number n o out)
  where
    go : (b : Bool) → (if_else b a.number early ≡ n) ↔ (early ≡ n) → ((if_else b a (unnamed early)).number ≡ n) ↔ (early ≡ n)
    go true f = f
    go false f = f

-- as those below 7 are, and those above 10
pub below_seven : {n : ℕ} → 0 < n → n < 7 → OfStripe n → ⊥
below_seven a b o = ⊎_elim (λ z. omega arith) (λ t. omega (arith, t.0)) o

pub above_ten : {n : ℕ} → 10 < n → OfStripe n → ⊥
above_ten a o = ⊎_elim (λ z. omega arith) (λ t. omega (arith, t.1)) o

-- THE CALLS `recover` AND `explain`
module _ (h : Header) (m e : List ℕ) {sizes : Bool} {lengths : Type 0} (s : Says sizes lengths) where
  abbrev early : ℕ
  early = refusal (image_tests h m e sizes done)

  early_number : EachNumber early (ImageRows h m e lengths none)
  early_number = each_number (ImageRows h m e lengths none) (image_beside h m e s {rest = done} ended)

  verdict_rows : (a : Verdict) → OfStripe a.number → EachRow (if_taken early a (unnamed early)).number (ImageRows h m e lengths none)
  verdict_rows a o =
      let rows = early_number.0 in
      let given = λ (n : ℕ) (some : 0 < n) (low : n < 7). verdict_given early n a o (below_seven some low) in
      let one = given 1 (omega arith) (omega arith) in
      let two = given 2 (omega arith) (omega arith) in
      let three = given 3 (omega arith) (omega arith) in
      (then_iff one rows.0, (then_iff two rows.1.0, (then_iff three rows.1.1.0, tt)))

pub scratch_says : (h : Header) (scratch : List ℕ) → Says (eqb (length scratch) (scratch_size h)) (ScratchLength h scratch)
scratch_says h scratch = equal_says {a = length scratch} {b = scratch_size h} refl

pub recover_says : (h : Header) (out scratch : List ℕ)
    → Says (eqb (length out) (raw_size h) && eqb (length scratch) (scratch_size h)) (RawLength h out × ScratchLength h scratch)
recover_says h out scratch = both_say (equal_says {a = length out} {b = raw_size h} refl) (scratch_says h scratch)

explain_says : (h : Header) (n o scratch : List ℕ)
    → Says (eqb (length n) (counts_size h) && (eqb (length o) (origins_size h) && eqb (length scratch) (scratch_size h)))
    (CountsLength h n × OriginsLength h o × ScratchLength h scratch)
explain_says h n o scratch =
    three_say (equal_says {a = length n} {b = counts_size h} (omega arith)) (equal_says {a = length o} {b = origins_size h} (omega arith))
    (scratch_says h scratch)

pub recover_numbers : RecoverNumbers
recover_numbers h m e out scratch =
    let d = decode_stripe h m (erasures_in e) in
    verdict_rows h m e (recover_says h out scratch) (answer_of (recover h d)) (ends_with h d (records h) (λ l. rows_fail _ _ _))

pub explain_numbers : ExplainNumbers
explain_numbers h m e n o scratch =
    let d = decode_stripe h m (erasures_in e) in
    verdict_rows h m e (explain_says h n o scratch) (answer_of (explain h d)) (ends_with h d (origins h) (λ l. rows_fail _ _ _))

-- they go on if and only if no row applies
pub recover_asked : (h : Header) (m e out scratch : List ℕ) → NoRow (RecoverRows h m e out scratch) → recover_early h m e out scratch ≡ 0
recover_asked h m e out scratch = (early_number h m e (recover_says h out scratch)).1.1

pub explain_asked_iff : ExplainAskedIff
explain_asked_iff h m e n o s = (early_number h m e (explain_says h n o s)).1

pub explain_asked : (h : Header) (m e n o s : List ℕ) → NoRow (ExplainRows h m e n o s) → explain_early h m e n o s ≡ 0
explain_asked h m e n o s = (explain_asked_iff h m e n o s).1
