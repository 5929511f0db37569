-- Laws of the decoder's weights (specs/steps/Decoder): a weight by one position more, that weights are words of the field, and that none is 0. Assumes nothing.
use mathlib.Core.Path.{◌≡◌, refl, sym, ◌∙◌}
use mathlib.Core.Logic.{◌≢◌, ⊎_elim}
use mathlib.Core.Bool.{Bool, true, false, ◌&&◌, not}
use mathlib.Core.List.{List}
use Prim.Native.Nat.{ℕ, zero, suc, ◌^◌, ◌<◌}
use native.Mathlib.Decide.{ℕ_discrete}
use native.Mathlib.Omega.{arith, ne_cases}
use borrow.Author.Tests.{eq-eqb, ne_eqb}
use lib.Dec.{eqb}
use lib.ListN.{get_or}
use Rattle.field.specs.Residue.{minus, times}
use Rattle.field.specs.Field.{Prime}
use Rattle.field.proofs.Laws.{minus_lt, times_lt}
use Rattle.field.proofs.Polynomials.{minus_zero, no_divisors}
use Rattle.decoder.specs.Decoding.{point_at}
use Rattle.decoder.specs.steps.Decoder.{weight_to}
use Rattle.decoder.specs.Promises.{Parameters}
use Rattle.field.proofs.Booleans.{either, choice_lt}
use Rattle.decoder.proofs.Points.{point_lt, points_distinct}

-- one position more: one that survives, the weight's own, or another
module _ (p w k l : ℕ) (ms : List Bool) (i : ℕ) where
  pub weight_zero : weight_to p w k l ms i zero ≡ 1
  unfolding weight_to
  weight_zero = refl

  pub weight_survivor : (n : ℕ) → get_or ms n false ≡ false → weight_to p w k l ms i (suc n) ≡ weight_to p w k l ms i n
  unfolding weight_to
  weight_survivor n e = rw (e, weight_to)

  pub weight_own : (n : ℕ) → eqb n i ≡ true → weight_to p w k l ms i (suc n) ≡ weight_to p w k l ms i n
  unfolding weight_to
  weight_own n e = own (get_or ms n false)
    where
      own : (m : Bool) → elim (m && not (eqb n i)) [
        | true ↦ times p (weight_to p w k l ms i n)
            (minus p (point_at p w k l i) (point_at p w k l n))
        | false ↦ weight_to p w k l ms i n
      ] ≡ weight_to p w k l ms i n
      own true = rw (e, weight_to)
      own false = refl

  pub weight_other : (n : ℕ) → get_or ms n false ≡ true → eqb n i ≡ false
      → weight_to p w k l ms i (suc n) ≡ times p (weight_to p w k l ms i n) (minus p (point_at p w k l i) (point_at p w k l n))
  unfolding weight_to
  weight_other n e d = rw (e, d, weight_to)

module _ (p : ℕ) (h : 1 < p) (w k l : ℕ) where
  pub weight_lt : (ms : List Bool) (i n : ℕ) → weight_to p w k l ms i n < p
  unfolding weight_to
  weight_lt ms i zero = h
  weight_lt ms i (suc n) = choice_lt (get_or ms n false && not (eqb n i)) (times_lt p (omega arith) _ _) (weight_lt ms i n)

-- no weight is 0
module _ (p w k l : ℕ) (ms : List Bool) (P : Prime p) (i : ℕ) where
  nonzero_before : (n : ℕ) → ((j : ℕ) → j < n → j ≢ i → point_at p w k l i ≢ point_at p w k l j) → weight_to p w k l ms i n ≢ 0
  nonzero_before zero d e = let z : ◌≡◌ {A = ℕ} 1 0 = sym (weight_zero p w k l ms i) ∙ e in omega arith
  nonzero_before (suc n) d e =
      let r : weight_to p w k l ms i n ≢ 0 = nonzero_before n (λ j b. d j (omega arith)) in
      ⊎_elim (λ m. other m r (ℕ_discrete n i)) (λ m. r (sym (weight_survivor p w k l ms i n m) ∙ e)) (either (get_or ms n false))
    where
      other : get_or ms n false ≡ true → weight_to p w k l ms i n ≢ 0 → Dec (n ≡ i) → ⊥
      other m r (yes q) = r (sym (weight_own p w k l ms i n (eq-eqb n i q)) ∙ e)
      other m r (no q) =
          let h : 0 < p = omega (arith, P.big) in
          let x = point_at p w k l i in
          let a = point_at p w k l n in
          d n (omega arith) q
          (minus_zero p h x a (point_lt p w k l P.big i) (point_lt p w k l P.big n)
          (no_divisors p P (weight_to p w k l ms i n) (minus p x a) (minus_lt p h x a) (weight_lt p P.big w k l ms i n) r
          (sym (weight_other p w k l ms i n m (ne_eqb n i q)) ∙ e)))

pub weight_nonzero : (p w k l t : ℕ) (ms : List Bool) → Parameters p w k l t → (i : ℕ) → i < 2 ^ suc l → weight_to p w k l ms i (2 ^ suc l) ≢ 0
weight_nonzero p w k l t ms stripe i b =
    nonzero_before p w k l ms stripe.prime i (2 ^ suc l)
    (λ j d n q. ne_cases j i ⊥ n (λ o. points_distinct p w k l t j i stripe o b (sym q)) (λ o. points_distinct p w k l t i j stripe o d q))
