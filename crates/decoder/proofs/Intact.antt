-- Where no position is erased: all factors are 1, so that the words are R's values as they stand, and the blocks' words are S over the count of blocks. Assumes
-- nothing.
use mathlib.Core.Path.{◌≡◌, sym, ap, ◌∙◌}
use mathlib.Core.Logic.{⊎_elim}
use mathlib.Core.Bool.{Bool, true, false}
use mathlib.Core.List.{List, ◌++◌}
use Prim.Native.Nat.{ℕ, zero, suc, ◌%◌, ◌^◌, ◌≤◌, ◌<◌}
use native.Mathlib.Decide.{dec_lt}
use native.Mathlib.Omega.{arith}
use lib.ListN.{length, get_or, take}
use lib.Seq.{ext_get_or, take_at}
use Rattle.logarithms.specs.Weights.{erased_to}
use Rattle.field.specs.Residue.{times}
use Rattle.field.specs.Power.{inverse}
use Rattle.field.proofs.Booleans.{either}
use Rattle.field.proofs.Laws.{times_comm, times_one}
use Rattle.field.proofs.WordLists.{is_table, get_or_table}
use Rattle.code.specs.Rows.{Column}
use Rattle.code.specs.Stripe.{coded}
use Rattle.code.specs.Transform.{transform, untransform, turned, scaled}
use Rattle.code.proofs.Shapes.{length_coded, length_transform, length_untransform}
use Rattle.decoder.specs.Decoding.{decoded_column, consistent_column}
use Rattle.decoder.specs.Promises.{Parameters, Enough}
use Rattle.decoder.specs.steps.Decoder.{erased_count, weight_to, factor_at, factors, weighed_at, weighed, halves_unmixed, unscaled, halves_column}
use Rattle.decoder.proofs.Columns.{found_column_lem}
use Rattle.decoder.proofs.Inverse.{untransforms, unscales}
use Rattle.decoder.proofs.Survivors.{erased_true, erased_false, count}
use Rattle.decoder.proofs.WeightLaws.{weight_zero, weight_survivor}

-- no mark is set
last : (ms : List Bool) (n : ℕ) → get_or ms n false ≡ false → ((i : ℕ) → i < n → get_or ms i false ≡ false) → (i : ℕ) → i < suc n
    → get_or ms i false ≡ false
last ms n m before i b = at (dec_lt i n)
  where
    at : Dec (i < n) → get_or ms i false ≡ false
    at (yes h) = before i h
    at (no h) = ap (λ (j : ℕ). get_or ms j false) {x = i} {y = n} (omega arith) ∙ m

unmarked_to : (ms : List Bool) (n : ℕ) → erased_to ms n ≡ 0 → (i : ℕ) → i < n → get_or ms i false ≡ false
unmarked_to ms zero e = λ i b. absurd (omega arith)
unmarked_to ms (suc n) e =
    ⊎_elim (λ m. absurd (omega (arith, erased_true ms n m))) (λ m. last ms n m (unmarked_to ms n (sym (erased_false ms n m) ∙ e))) (either (get_or ms n false))

-- no position is marked of a stripe of which all are left
pub unmarked : (l : ℕ) (ms : List Bool) → erased_count l ms ≡ 0 → (i : ℕ) → i < 2 ^ suc l → get_or ms i false ≡ false
unmarked l ms none = unmarked_to ms (2 ^ suc l) (sym (count ms l) ∙ none)

module _ (p w k l : ℕ) (ms : List Bool) (big : 1 < p) (none : erased_count l ms ≡ 0) where
  weight_none : (i n : ℕ) → n ≤ 2 ^ suc l → weight_to p w k l ms i n ≡ 1
  weight_none i zero b = weight_zero p w k l ms i
  weight_none i (suc n) b = weight_survivor p w k l ms i n (unmarked l ms none n (omega arith)) ∙ weight_none i n (omega arith)

  pub factor_none : (i : ℕ) → i < 2 ^ suc l → factor_at p w k l ms i ≡ 1
  unfolding factor_at
  factor_none i b = rw (unmarked l ms none i b, factor_at) (weight_none i (2 ^ suc l) (omega arith))

  pub weighed_none : (c : List ℕ) → Column p (2 ^ suc l) c → weighed p l ms (factors p w k l ms) c ≡ c
  unfolding weighed weighed_at
  weighed_none c C =
      let ws = factors p w k l ms in
      sym (is_table c (2 ^ suc l) (weighed_at p ms ws c) C.long
      (λ i b. sym (rw (unmarked l ms none i b, weighed_at)
      (ap (λ (f : ℕ). times p f (get_or c i 0)) (get_or_table (2 ^ suc l) i (factor_at p w k l ms) b ∙ factor_none i b)
      ∙ times_comm p (omega arith) 1 (get_or c i 0) ∙ times_one p (omega arith) (get_or c i 0) (C.words.word i)))))

-- S over M of a column that codes to all words
module _ (p w k l t : ℕ) (xs : List ℕ) (stripe : Parameters p w k l t) (column : Column p (2 ^ l) xs) where
  first_unmixed : take (2 ^ l) (halves_unmixed p (inverse p w) k l t (coded p w k l t xs)) ≡ scaled p (2 ^ l) xs
  unfolding halves_unmixed coded
  first_unmixed =
      let x = transform p w k l xs in
      let y = transform p w k l (turned p w k t xs) in
      let long : length x ≡ 2 ^ l = length_transform p w k l xs column.long in
      take_at (untransform p (inverse p w) k l (take (2 ^ l) (x ++ y))) _ (2 ^ l)
      (length_untransform p (inverse p w) k l (take (2 ^ l) (x ++ y)) (ap length (take_at x y (2 ^ l) long) ∙ long))
      ∙ ap (untransform p (inverse p w) k l) (take_at x y (2 ^ l) long) ∙ untransforms p w k l t xs stripe column

  pub unscaled_coded : unscaled p l (halves_unmixed p (inverse p w) k l t (coded p w k l t xs)) ≡ xs
  unfolding unscaled
  unscaled_coded = ap (scaled p (inverse p (2 ^ l % p))) first_unmixed ∙ unscales p w k l t xs stripe column

-- and so of a consistent one
module _ (p w k l t : ℕ) (ms : List Bool) (stripe : Parameters p w k l t) (enough : Enough l ms) (none : erased_count l ms ≡ 0) (c : List ℕ)
    (C : Column p (2 ^ suc l) c) where
  pub unscaled_column : consistent_column p w k l t ms c ≡ true → unscaled p l (halves_column p w k l t ms c) ≡ decoded_column p w k l t ms c
  unscaled_column e =
      let xs = decoded_column p w k l t ms c in
      let x = found_column_lem p w k l t ms c stripe enough C e in
      let long : length (coded p w k l t xs) ≡ 2 ^ suc l = length_coded p w k l t xs x.0.long in
      let same : c ≡ coded p w k l t xs =
      ext_get_or 0 c (coded p w k l t xs) (C.long ∙ sym long)
      (λ i b. let b' : i < 2 ^ suc l = omega (arith, C.long) in sym (x.1.same i b' (unmarked l ms none i b'))) in
      ap (λ (d : List ℕ). unscaled p l (halves_unmixed p (inverse p w) k l t d)) (weighed_none p w k l ms stripe.prime.big none c C ∙ same)
      ∙ unscaled_coded p w k l t xs stripe x.0
