-- What coding gives: each word of X and of Y is the value of the column's polynomial at its position's point. The polynomial of a column xs of
-- 2 ^ l words is bit_reversed l xs. Assumes nothing.
use mathlib.Core.Path.{◌≡◌, sym, ap, ap₂, ◌∙◌}
use mathlib.Core.List.{List}
use Prim.Native.Nat.{ℕ, zero, suc, ◌+◌, ◌*◌, ◌-◌, ◌/◌, ◌%◌, ◌^◌, ◌≤◌, ◌<◌}
use native.Mathlib.Omega.{arith}
use lib.ListN.{get_or, take, drop}
use lib.Seq.{get_or-take, get_or-drop}
use Rattle.field.specs.Residue.{plus, times}
use Rattle.field.specs.Power.{power}
use Rattle.field.specs.Polynomial.{horner}
use Rattle.field.proofs.Ring.{v, ◌⊕◌, ◌⊗◌, ring}
use Rattle.field.proofs.Laws.{times_assoc}
use Rattle.field.proofs.Powers.{power_zero, power_suc, power_add, power_mul, power_double}
use Rattle.field.proofs.Unity.{two_div}
use Rattle.code.specs.Transform.{reversed, turned, bit_reversed}
use Rattle.decoder.specs.Promises.{ValuesX, ValuesY}
use Rattle.code.proofs.Shapes.{length_turned, coded_low, coded_high, turned_at, words_turned}
use Rattle.decoder.proofs.Points.{point_low, point_high}
use Rattle.code.proofs.Values.{transform_at}
use Rattle.code.proofs.BitReversal.{reversed_zero, reversed_low, reversed_high, reversed_from, value_zero, value_suc}

module _ (p : ℕ) (big : 1 < p) where
  -- the factor of word j: that of the first word, times the power rev(j) of the level's root
  turned_factor : (w k l t j : ℕ) → l ≤ k → t % 2 ^ l ≡ 0 → j < 2 ^ l
      → power p w (reversed k (t + j)) ≡ times p (power p w (reversed k t)) (power p (power p w (2 ^ k / 2 ^ l)) (reversed l j))
  turned_factor w k l t j s a b =
      ap (power p w) (reversed_from k l t j s a b) ∙ power_add p big w (reversed k t) (2 ^ (k - l) * reversed l j)
      ∙ ap (times p (power p w (reversed k t))) (power_mul p big w (2 ^ (k - l)) (reversed l j)
      ∙ ap (λ (e : ℕ). power p (power p w e) (reversed l j)) (sym (two_div k l s)))

  -- word j times c * u ^ rev(j): the value is c times that at u * x
  turned_value : (l c u : ℕ) (xs ys : List ℕ) (x : ℕ) → ((j : ℕ) → j < 2 ^ l → get_or ys j 0 ≡ times p (times p c (power p u (reversed l j))) (get_or xs j 0))
      → horner p (bit_reversed l ys) x ≡ times p c (horner p (bit_reversed l xs) (times p u x))
  turned_value zero c u xs ys x e =
      let h : 0 < p = omega arith in
      let x0 = get_or xs 0 0 in
      value_zero p h ys x ∙ ap (λ (t : ℕ). plus p t 0) (e 0 (omega arith)
      ∙ ap (λ (t : ℕ). times p (times p c t) x0) (ap (power p u) (reversed_zero 0) ∙ power_zero p big u))
      ∙ ring p h (v c ⊗ v 1 ⊗ v x0 ⊕ v 0) (v c ⊗ (v x0 ⊕ v 0)) h h (omega arith) ∙ ap (times p c) (sym (value_zero p h xs (times p u x)))
  turned_value (suc l) c u xs ys x e =
      let h : 0 < p = omega arith in
      let z = times p (times p u x) (times p u x) in
      let q : times p (times p u u) (times p x x) ≡ z = ring p h (v u ⊗ v u ⊗ (v x ⊗ v x)) (v u ⊗ v x ⊗ (v u ⊗ v x)) h h (omega arith) in
      let a = horner p (bit_reversed l (take (2 ^ l) xs)) z in
      let b = horner p (bit_reversed l (drop (2 ^ l) xs)) z in
      value_suc p h l ys x
      ∙ ap₂ (λ (s t : ℕ). plus p s (times p x t))
      (turned_value l c (times p u u) (take (2 ^ l) xs) (take (2 ^ l) ys) (times p x x)
      (λ j m. get_or-take (2 ^ l) ys j 0 m ∙ e j (omega arith)
      ∙ ap₂ (λ (s t : ℕ). times p (times p c s) t) (ap (power p u) (reversed_low l j m) ∙ power_double p big u (reversed l j))
      (sym (get_or-take (2 ^ l) xs j 0 m)))
      ∙ ap (λ (t : ℕ). times p c (horner p (bit_reversed l (take (2 ^ l) xs)) t)) q)
      (turned_value l (times p c u) (times p u u) (drop (2 ^ l) xs) (drop (2 ^ l) ys) (times p x x)
      (λ j m. get_or-drop (2 ^ l) ys j 0 ∙ e (2 ^ l + j) (omega arith)
      ∙ ap₂ (λ (s t : ℕ). times p s t) (ap (λ (i : ℕ). times p c (power p u i)) (reversed_high l j m)
      ∙ ap (times p c) (power_suc p big u (2 * reversed l j) ∙ ap (times p u) (power_double p big u (reversed l j)))
      ∙ sym (times_assoc p h c u (power p (times p u u) (reversed l j)))) (sym (get_or-drop (2 ^ l) xs j 0)))
      ∙ ap (λ (t : ℕ). times p (times p c u) (horner p (bit_reversed l (drop (2 ^ l) xs)) t)) q)
      ∙ ring p h (v c ⊗ v a ⊕ v x ⊗ (v c ⊗ v u ⊗ v b)) (v c ⊗ (v a ⊕ v u ⊗ v x ⊗ v b)) h h (omega arith)
      ∙ ap (times p c) (sym (value_suc p h l xs (times p u x)))

pub values_x : ValuesX
values_x p w k l t xs i S C m =
    coded_low p w k l t xs C.long i m ∙ transform_at p w k S.root l xs S.within C.long C.words i m
    ∙ ap (horner p (bit_reversed l xs)) (sym (point_low p w k l i m))

pub values_y : ValuesY
values_y p w k l t xs i S C m =
    let h : 1 < p = S.prime.big in
    let ys = turned p w k t xs in
    let u = power p w (2 ^ k / 2 ^ l) in
    let f = power p w (reversed k t) in
    coded_high p w k l t xs C.long i
    ∙ transform_at p w k S.root l ys S.within (length_turned p w k t xs ∙ C.long) (words_turned p (omega arith) w k t xs) i m
    ∙ turned_value p h l f u xs ys (power p u (2 * i)) (λ j b. turned_at p w k t xs j (omega (arith, C.long))
    ∙ ap (λ (s : ℕ). times p s (get_or xs j 0)) (turned_factor p h w k l t j S.within S.aligned b))
    ∙ ap (λ (s : ℕ). times p f (horner p (bit_reversed l xs) s)) (sym (power_suc p h u (2 * i)) ∙ sym (point_high p w k l i))
