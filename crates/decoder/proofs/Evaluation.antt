-- What a transform and its inverse do to a polynomial: coefficients, at bit-reversed places, become the values at the points of X or Y, and values
-- become 2 ^ level times the coefficients. Assumes nothing.
use mathlib.Core.Path.{◌≡◌, refl, sym, ap, ap₂, ◌∙◌}
use mathlib.Core.List.{List, [], ◌∷◌}
use Prim.Native.Nat.{ℕ, suc, ◌+◌, ◌/◌, ◌^◌, ◌<◌}
use native.Mathlib.Omega.{arith}
use lib.ListN.{length, get_or}
use lib.Seq.{ext_get_or}
use Rattle.field.specs.Residue.{times}
use Rattle.field.specs.Power.{power, inverse}
use Rattle.field.specs.Polynomial.{horner}
use Rattle.field.specs.Field.{Prime, Root}
use Rattle.field.specs.Words.{Words, table}
use Rattle.field.proofs.Congruence.{Cong, of_eq}
use Rattle.field.proofs.Ring.{v, ◌⊗◌, lin, lin~}
use Rattle.field.proofs.PowersOfTwo.{two_inverse}
use Rattle.field.proofs.Unity.{power_inverse}
use Rattle.field.proofs.WordLists.{is_table, words_tail}
use Rattle.code.specs.Transform.{transform, untransform, turned, scaled, reversed, bit_reversed}
use Rattle.decoder.specs.Decoding.{point_at}
use Rattle.decoder.specs.steps.Decoder.{half_of}
use Rattle.decoder.specs.Promises.{Parameters}
use Rattle.code.specs.Rows.{Column}
use Rattle.code.proofs.Shapes.{length_transform, length_untransform, length_scaled, length_turned, length_bit_reversed, bit_reversed_at, coded_low, coded_high}
use Rattle.code.proofs.Shapes.{scaled_at, reversed_lt, words_untransform, column_reversed, column_turned}
use Rattle.code.proofs.BitReversal.{bit_reversed_twice}
use Rattle.code.proofs.Values.{values_at}
use Rattle.decoder.proofs.Points.{point_low}
use Rattle.decoder.proofs.Values.{values_x, values_y}
use Rattle.decoder.proofs.Inverse.{untransforms, transforms}

-- M / 2
pub half_is : (p : ℕ) → Prime p → 2 < p → (l : ℕ) → Cong p (times p 2 (half_of p l)) (2 ^ l)
unfolding half_of
half_is p P b l = let g = v ((p + 1) / 2) in let m = v (2 ^ l) in lin~ p (omega arith) (v 2 ⊗ (g ⊗ m)) m m (v 2 ⊗ g) (v 1) (two_inverse p P b) (omega arith)

pub bit_reversed_scaled : (p g l : ℕ) (cs : List ℕ) → length cs ≡ 2 ^ l → bit_reversed l (scaled p g cs) ≡ scaled p g (bit_reversed l cs)
bit_reversed_scaled p g l cs e =
    ext_get_or 0 (bit_reversed l (scaled p g cs)) (scaled p g (bit_reversed l cs)) (length_bit_reversed l (scaled p g cs)
    ∙ sym (length_scaled p g (bit_reversed l cs) ∙ length_bit_reversed l cs))
    (λ i b.
    let b' : i < 2 ^ l = omega (arith, length_bit_reversed l (scaled p g cs)) in
    bit_reversed_at l (scaled p g cs) i b' ∙ scaled_at p g cs (reversed l i) (omega (arith, reversed_lt l i)) ∙ ap (times p g) (sym (bit_reversed_at l cs i b'))
    ∙ sym (scaled_at p g (bit_reversed l cs) i (omega (arith, length_bit_reversed l cs))))

-- turning by w and by its inverse
module _ (p w k : ℕ) (P : Prime p) (R : Root p k w) where
  h : 0 < p
  h = omega (arith, P.big)

  unturned : (g t : ℕ) (xs : List ℕ) → turned p (inverse p w) k t (scaled p g (turned p w k t xs)) ≡ scaled p g xs
  unfolding turned scaled
  unturned g t [] = refl
  unturned g t (x ∷ xs) =
      let a = v (power p w (reversed k t)) in
      let b = v (power p (inverse p w) (reversed k t)) in
      ap₂ ◌∷◌ (lin p h (b ⊗ (v g ⊗ (a ⊗ v x))) (v g ⊗ v x) (v g ⊗ v x) (a ⊗ b) (v 1) (of_eq p (power_inverse p k w P R (reversed k t))) h h (omega arith))
      (unturned g (suc t) xs)

  returned : (t : ℕ) (xs : List ℕ) → Words p xs → turned p w k t (turned p (inverse p w) k t xs) ≡ xs
  unfolding turned
  returned t [] u = refl
  returned t (x ∷ xs) u =
      let a = v (power p w (reversed k t)) in
      let b = v (power p (inverse p w) (reversed k t)) in
      ap₂ ◌∷◌ (lin p h (a ⊗ (b ⊗ v x)) (v x) (v x) (a ⊗ b) (v 1) (of_eq p (power_inverse p k w P R (reversed k t))) h (u.word 0) (omega arith))
      (returned (suc t) xs (words_tail u))

module _ (p w k l t : ℕ) (stripe : Parameters p w k l t) where
  positive : 0 < p
  positive = omega (arith, stripe.prime.big)

  module _ (cs : List ℕ) (column : Column p (2 ^ l) cs) where
    reversed_column : Column p (2 ^ l) (bit_reversed l cs)
    reversed_column = column_reversed p positive l cs column

    pub transform_values : transform p w k l (bit_reversed l cs) ≡ table (2 ^ l) (λ i. horner p cs (point_at p w k l i))
    transform_values =
        is_table (transform p w k l (bit_reversed l cs)) (2 ^ l) (λ i. horner p cs (point_at p w k l i))
        (length_transform p w k l (bit_reversed l cs) (length_bit_reversed l cs))
        (λ i b. values_at p w k stripe.root l cs stripe.within column i b ∙ ap (horner p cs) (sym (point_low p w k l i b)))

    transform_turned_values : transform p w k l (turned p w k t (bit_reversed l cs)) ≡ table (2 ^ l)
        (λ i. times p (power p w (reversed k t)) (horner p cs (point_at p w k l (2 ^ l + i))))
    transform_turned_values =
        is_table (transform p w k l (turned p w k t (bit_reversed l cs))) (2 ^ l)
        (λ i. times p (power p w (reversed k t)) (horner p cs (point_at p w k l (2 ^ l + i))))
        (length_transform p w k l (turned p w k t (bit_reversed l cs)) (length_turned p w k t (bit_reversed l cs) ∙ length_bit_reversed l cs))
        (λ i b. sym (coded_high p w k l t (bit_reversed l cs) (length_bit_reversed l cs) i) ∙ values_y p w k l t (bit_reversed l cs) i stripe reversed_column b
        ∙ ap (λ ds. times p (power p w (reversed k t)) (horner p ds (point_at p w k l (2 ^ l + i)))) (bit_reversed_twice l cs column.long))

    pub untransform_values : untransform p (inverse p w) k l (table (2 ^ l) (λ i. horner p cs (point_at p w k l i))) ≡ scaled p (2 ^ l) (bit_reversed l cs)
    untransform_values = ap (untransform p (inverse p w) k l) (sym transform_values) ∙ untransforms p w k l t (bit_reversed l cs) stripe reversed_column

    pub untransform_turned_values : turned p (inverse p w) k t
        (untransform p (inverse p w) k l (table (2 ^ l) (λ i. times p (power p w (reversed k t)) (horner p cs (point_at p w k l (2 ^ l + i))))))
        ≡ scaled p (2 ^ l) (bit_reversed l cs)
    untransform_turned_values =
        ap (λ c. turned p (inverse p w) k t (untransform p (inverse p w) k l c)) (sym transform_turned_values)
        ∙ ap (turned p (inverse p w) k t)
        (untransforms p w k l t (turned p w k t (bit_reversed l cs)) stripe (column_turned p positive w k t (bit_reversed l cs) (length_bit_reversed l cs)))
        ∙ unturned p w k stripe.prime stripe.root (2 ^ l) t (bit_reversed l cs)

  -- values that are untransformed are 2 ^ level times the coefficients' values
  module _ (vs : List ℕ) (column : Column p (2 ^ l) vs) where
    transformed_at : (i : ℕ) → i < 2 ^ l → get_or (transform p w k l (untransform p (inverse p w) k l vs)) i 0 ≡ times p (2 ^ l) (get_or vs i 0)
    transformed_at i b =
        ap (λ (c : List ℕ). get_or c i 0) (transforms p w k l t vs stripe column) ∙ scaled_at p (2 ^ l) vs i (omega (arith, column.long))

    pub untransformed_value : (i : ℕ) → i < 2 ^ l
        → horner p (bit_reversed l (untransform p (inverse p w) k l vs)) (point_at p w k l i) ≡ times p (2 ^ l) (get_or vs i 0)
    untransformed_value i b =
        let a = untransform p (inverse p w) k l vs in
        let e : length a ≡ 2 ^ l = length_untransform p (inverse p w) k l vs column.long in
        sym (values_x p w k l t a i stripe (record { long = e; words = words_untransform p positive (inverse p w) k l column.words }) b)
        ∙ coded_low p w k l t a e i b ∙ transformed_at i b

    pub untransformed_turned_value : (i : ℕ) → i < 2 ^ l
        → times p (power p w (reversed k t))
        (horner p (bit_reversed l (turned p (inverse p w) k t (untransform p (inverse p w) k l vs))) (point_at p w k l (2 ^ l + i)))
        ≡ times p (2 ^ l) (get_or vs i 0)
    untransformed_turned_value i b =
        let a = untransform p (inverse p w) k l vs in
        let d = turned p (inverse p w) k t a in
        let e : length d ≡ 2 ^ l = length_turned p (inverse p w) k t a ∙ length_untransform p (inverse p w) k l vs column.long in
        sym (values_y p w k l t d i stripe (column_turned p positive (inverse p w) k t a (length_untransform p (inverse p w) k l vs column.long)) b)
        ∙ coded_high p w k l t d e i
        ∙ ap (λ (c : List ℕ). get_or (transform p w k l c) i 0)
        (returned p w k stripe.prime stripe.root t a (words_untransform p positive (inverse p w) k l column.words))
        ∙ transformed_at i b
