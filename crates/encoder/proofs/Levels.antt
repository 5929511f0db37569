-- A stripe of 2 ^ l blocks is transformed alike whatever k is: the roots under which its levels are mixed depend on the level alone. Assumes nothing.
use mathlib.Core.Path.{◌≡◌, refl, sym, ap₂, ◌∙◌}
use mathlib.Core.Bool.{Bool, true, false}
use mathlib.Core.List.{List, ◌++◌}
use Prim.Native.Nat.{ℕ, zero, suc, ◌/◌, ◌^◌, ◌≤◌}
use native.Mathlib.Omega.{arith}
use lib.ListN.{take, drop}
use Rattle.field.specs.Power.{power, inverse}
use Rattle.field.specs.Field.{fermat, root_of}
use Rattle.field.proofs.PowerTables.{level_root, level_inverse}
use Rattle.code.specs.Rows.{lifted}
use Rattle.code.specs.Transform.{transform, unmixed, untransform}
use Rattle.code.proofs.Lifting.{lifted_same}
use Rattle.transform.specs.steps.Transforms.{transform_of}

module _ (k m : ℕ) (hk : k ≤ 15) (hm : m ≤ 15) where
  same_transform : (l : ℕ) (xs : List ℕ) → l ≤ k → l ≤ m → transform 65537 (root_of fermat k) k l xs ≡ transform 65537 (root_of fermat m) m l xs
  unfolding transform
  same_transform zero xs b d = refl
  same_transform (suc l) xs b d =
      let e : power 65537 (root_of fermat k) (2 ^ k / 2 ^ l) ≡ power 65537 (root_of fermat m) (2 ^ m / 2 ^ l) =
      level_root k l (omega arith) hk ∙ sym (level_root m l (omega arith) hm) in
      rw (e, same_transform l (take (2 ^ l) xs) (omega arith) (omega arith), same_transform l (drop (2 ^ l) xs) (omega arith) (omega arith)) refl

  same_untransform : (l : ℕ) (xs : List ℕ) → l ≤ k → l ≤ m
      → untransform 65537 (inverse 65537 (root_of fermat k)) k l xs ≡ untransform 65537 (inverse 65537 (root_of fermat m)) m l xs
  unfolding untransform
  same_untransform zero xs b d = refl
  same_untransform (suc l) xs b d =
      let e : power 65537 (inverse 65537 (root_of fermat k)) (2 ^ k / 2 ^ l) ≡ power 65537 (inverse 65537 (root_of fermat m)) (2 ^ m / 2 ^ l) =
      level_inverse k l (omega arith) hk ∙ sym (level_inverse m l (omega arith) hm) in
      let y = unmixed 65537 (power 65537 (inverse 65537 (root_of fermat m)) (2 ^ m / 2 ^ l)) (2 ^ l) xs in
      rw e (ap₂ ◌++◌ (same_untransform l (take (2 ^ l) y) (omega arith) (omega arith)) (same_untransform l (drop (2 ^ l) y) (omega arith) (omega arith)))

-- and so are its rows
module _ (width k l : ℕ) (rows : List ℕ) (b : l ≤ k) (t : k ≤ 10) where
  pub rows_transform : lifted width (2 ^ l) (2 ^ l) (transform 65537 (root_of fermat l) l l) rows
      ≡ lifted width (2 ^ l) (2 ^ l) (transform 65537 (root_of fermat k) k l) rows
  rows_transform =
      lifted_same width (2 ^ l) (2 ^ l) (transform 65537 (root_of fermat l) l l) (transform 65537 (root_of fermat k) k l) rows
      (λ j _. same_transform l k (omega arith) (omega arith) l _ (omega arith) b)

  pub rows_untransform : lifted width (2 ^ l) (2 ^ l) (untransform 65537 (inverse 65537 (root_of fermat l)) l l) rows
      ≡ lifted width (2 ^ l) (2 ^ l) (untransform 65537 (inverse 65537 (root_of fermat k)) k l) rows
  rows_untransform =
      lifted_same width (2 ^ l) (2 ^ l) (untransform 65537 (inverse 65537 (root_of fermat l)) l l)
      (untransform 65537 (inverse 65537 (root_of fermat k)) k l) rows
      (λ j _. same_untransform l k (omega arith) (omega arith) l _ (omega arith) b)

  -- either way
  pub rows_crossed : (u : Bool) → lifted width (2 ^ l) (2 ^ l) (transform_of u 65537 (root_of fermat l) l l) rows
      ≡ lifted width (2 ^ l) (2 ^ l) (transform_of u 65537 (root_of fermat k) k l) rows
  rows_crossed false = rows_transform
  rows_crossed true = rows_untransform
