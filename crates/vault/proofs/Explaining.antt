-- EXPLAINING, for every input: what the room Explaining of specs/promises says of no history. What is laid does not matter to the number and to the stripe,
-- so these
-- are recovery's; the counts are the survivors of each needed stripe, and sharp. Assumes nothing.
use mathlib.Core.Path.{◌≡◌, refl, ap, ap₂, ◌∙◌}
use mathlib.Core.Bool.{Bool, true, false}
use mathlib.Core.List.{List}
use Prim.Native.Nat.{ℕ, zero, suc, ◌+◌, ◌*◌, ◌-◌, ◌^◌, ◌≤◌}
use native.Mathlib.Omega.{arith}
use borrow.Author.Tests.{eq-eqb}
use lib.ListN.{length, get_or, replicate}
use Rattle.decoder.specs.Decoding.{survivors}
use Rattle.layout.specs.declared.Header.{Header}
use Rattle.layout.specs.Header.{raw_size, scratch_size, is_filled, has_stripe, stripe_of}
use Rattle.layout.specs.Refusals.{if_taken}
use Rattle.image.specs.Erasures.{erasures_in}
use Rattle.judging.specs.Decoding.{Decoded, failed, decoded}
use Rattle.judging.proofs.Proved as Decoding
use Rattle.stripe_decoding.specs.Decoding.{decode_stripe}
use Rattle.recovery.specs.Verdicts.{Verdict}
use Rattle.recovery.specs.Recovery.{Layer, Recovered, then_lay, levels_over, stripes_over, records}
use Rattle.recovery.specs.Origins.{origins_size, origins, explain}
use Rattle.recovery.specs.RecoveryCall.{recover_early, unnamed, answer_of, recovered_words}
use Rattle.explanation.specs.Counts.{counts_size, left, shortfall, counts_of}
use Rattle.explanation.specs.ExplainCall.{explain_early, explain_counts}
use Rattle.vault.specs.promises.Decoding.{marks}
use Rattle.vault.specs.promises.Losses.{Needed}
use Rattle.vault.specs.promises.Explaining.{Agrees, CountsAre, CountsSharp, ExplainLeaves}
use Rattle.field.proofs.Booleans.{is_false}
use Rattle.layout.proofs.Refusals.{if_taken_lem, if_refused}
use Rattle.range_laying.proofs.PairLoops.{length_pairs, pair_at}
use Rattle.recovery.proofs.RecoverCall.{stopped_words}
use Rattle.explanation.proofs.ExplainCall.{left_needed, left_none, short_needed, short_none}
use Rattle.vault.proofs.StripeCall.{needed_passes, passes_needed, needed_within}

-- WHAT IS LAID does not matter to the number and to the stripe
then_same : (l : ℕ) (x : Decoded) (next next' : List ℕ → Recovered) → ((bs : List ℕ) → answer_of (next bs) ≡ answer_of (next' bs))
    → answer_of (then_lay l x next) ≡ answer_of (then_lay l x next')
then_same l (failed n) next next' e = refl
then_same l (decoded bs) next next' e = e bs

module _ (h : Header) (d : ℕ → Decoded) (y y' : Layer) where
  levels_same : (l : ℕ) (r r' : List ℕ) → answer_of (levels_over l h d y r) ≡ answer_of (levels_over l h d y' r')
  unfolding levels_over
  levels_same zero r r' = refl
  levels_same (suc l) r r' = go (is_filled h l) refl (levels_same l)
    where
      go : (f : Bool) → is_filled h l ≡ f → ((x x' : List ℕ) → answer_of (levels_over l h d y x) ≡ answer_of (levels_over l h d y' x'))
          → answer_of (levels_over (suc l) h d y r) ≡ answer_of (levels_over (suc l) h d y' r')
      go true f rest = rw (f, levels_over) (then_same l (d l) _ _ (λ bs. rest (y.over l bs r) (y'.over l bs r')))
      go false f rest = rw (f, levels_over) (rest r r')

  stripes_same : answer_of (stripes_over h d y) ≡ answer_of (stripes_over h d y')
  stripes_same = then_same h.k (d h.k) _ _ (λ bs. levels_same h.k (y.full bs) (y'.full bs))

-- so, with the lent lengths right, the answer is recovery's
same_early : (h : Header) (m e out n o s : List ℕ) → length out ≡ raw_size h → length n ≡ counts_size h → length o ≡ origins_size h
    → explain_early h m e n o s ≡ recover_early h m e out s
same_early h m e out n o s p q r =
    rw (eq-eqb (length out) (raw_size h) p, eq-eqb (length n) (counts_size h) q, eq-eqb (length o) (origins_size h) r)

pub agrees : Agrees
agrees h m e out n o s p q r =
    ap₂ (λ (x : ℕ) (a : Verdict). if_taken x a (unnamed x)) (same_early h m e out n o s p q r)
    (stripes_same h (decode_stripe h m (erasures_in e)) (origins h) (records h))

-- THE COUNTS
module _ (h : Header) (m e n o s : List ℕ) (taken : explain_early h m e n o s ≡ 0) where
  abbrev counts : List ℕ
  counts = explain_counts h m e n o s

  abbrev left_of : ℕ → ℕ
  left_of l = length (survivors l (marks h e l))

  counted : counts ≡ counts_of h (erasures_in e)
  counted = if_taken_lem (counts_of h (erasures_in e)) n taken

  count_at : (l : ℕ) → l ≤ h.k → (get_or counts (2 * l) 0 ≡ left h (erasures_in e) l) × (get_or counts (2 * l + 1) 0 ≡ shortfall h (erasures_in e) l)
  count_at l b = rw counted (pair_at (left h (erasures_in e)) (shortfall h (erasures_in e)) (suc h.k) l (omega arith))

  count_needed : (l : ℕ) → Needed h l → (get_or counts (2 * l) 0 ≡ left_of l) × (get_or counts (2 * l + 1) 0 ≡ 2 ^ l - left_of l)
  count_needed l need =
      let t = needed_passes h l need in
      let c = count_at l (needed_within h l need) in
      (c.0 ∙ left_needed h (erasures_in e) l t, c.1 ∙ short_needed h (erasures_in e) l t)

  count_other : (l : ℕ) → l ≤ h.k → (Needed h l → ⊥) → (get_or counts (2 * l) 0 ≡ 0) × (get_or counts (2 * l + 1) 0 ≡ 0)
  count_other l b d =
      let f = is_false (has_stripe h l) (λ t. d (passes_needed h l t)) in
      let c = count_at l b in
      (c.0 ∙ left_none h (erasures_in e) l f, c.1 ∙ short_none h (erasures_in e) l f)

pub counts_are : CountsAre
counts_are h m e n o s t = (
  ap (λ (x : List ℕ). length x) (counted h m e n o s t) ∙ length_pairs (left h (erasures_in e)) (shortfall h (erasures_in e)) (suc h.k),
  λ l b. (count_needed h m e n o s t l, count_other h m e n o s t l b),
)

pub counts_sharp : CountsSharp
counts_sharp h m e n o s l d ms r t need more =
    let c = count_needed h m e n o s t l need in
    let few = (Decoding.proved).seven_iff (stripe_of h l) ms r in
    (λ q. omega (arith, few.0 q, c.0, c.1), λ b. few.1 (omega (arith, c.0, c.1)))

-- WHAT IT LEAVES
pub explain_leaves : ExplainLeaves
explain_leaves h m e n o s =
    let x = explain h (decode_stripe h m (erasures_in e)) in
    let early = explain_early h m e n o s in (
      λ t. (
        if_taken_lem (replicate (scratch_size h) 0) s t,
        λ f. if_taken_lem (recovered_words x (origins_size h)) o t
            ∙ stopped_words x (origins_size h) (if_taken_lem (answer_of x) (unnamed early) t) f,
      ),
      λ f. (
        if_refused (counts_of h (erasures_in e)) n f,
        if_refused (recovered_words x (origins_size h)) o f,
        if_refused (replicate (scratch_size h) 0) s f,
      ),
    )
