-- `weights::columns::cross` meets its contract: rows of one word are a column. Assumes nothing.
use Rattle.std.proofs.Common.{◌≡◌, Bool, true, false, List, ℕ, suc, ◌+◌, ◌^◌, length, ap, ◌∙◌, add-one, arith}
use lib.Pow.{pow_mono}
use Rattle.field.specs.Power.{inverse}
use Rattle.field.specs.Field.{fermat, root_of}
use Rattle.code.specs.Transform.{transform, untransform}
use Rattle.code.specs.Rows.{lifted}
use Rattle.code.proofs.Shapes.{length_transform, length_untransform}
use Rattle.code.proofs.Lifting.{lifted_one}
use Rattle.transform.specs.steps.Transforms.{transform_of}
use Rattle.weights.specs.steps.Digits.{mixed_column, unmixed_column, crossed_column}
use Rattle.weights.proofs.columns.cross.Goals as goal

module _ (l : ℕ) (c : List ℕ) (e : length c ≡ 2 ^ suc l) where
  mixed_is : lifted 1 (2 ^ (l + 1)) (2 ^ (l + 1)) (transform 65537 (root_of fermat (l + 1)) (l + 1) (l + 1)) c ≡ mixed_column l c
  unfolding mixed_column
  mixed_is =
      let w = root_of fermat (suc l) in
      rw add-one (lifted_one (2 ^ suc l) (transform 65537 w (suc l) (suc l)) c e (length_transform 65537 w (suc l) (suc l) c e))

  unmixed_is : lifted 1 (2 ^ (l + 1)) (2 ^ (l + 1)) (untransform 65537 (inverse 65537 (root_of fermat (l + 1))) (l + 1) (l + 1)) c ≡ unmixed_column l c
  unfolding unmixed_column
  unmixed_is =
      let w = inverse 65537 (root_of fermat (suc l)) in
      rw add-one (lifted_one (2 ^ suc l) (untransform 65537 w (suc l) (suc l)) c e (length_untransform 65537 w (suc l) (suc l) c e))

-- either way
column_crossed : (u : Bool) (l : ℕ) (c : List ℕ) → length c ≡ 2 ^ suc l
    → lifted 1 (2 ^ (l + 1)) (2 ^ (l + 1)) (transform_of u 65537 (root_of fermat (l + 1)) (l + 1) (l + 1)) c ≡ crossed_column u l c
column_crossed false l c e = mixed_is l c e
column_crossed true l c e = unmixed_is l c e

pub cross_small_rows-requires-clause-level_bound : goal.cross_small_rows-requires-clause-level_bound
cross_small_rows-requires-clause-level_bound g c =
    (omega arith, omega (arith, ap (λ (k : ℕ). 2 ^ k) (add-one c.args.at.level), pow_mono {i = c.args.at.level} {j = 10} c.args.at.few))

pub returns : goal.returns
returns g c = c.cross_small_rows.ensures ∙ column_crossed g.D.Direction.unmixing c.args.at.level c.args.column.now c.requires.column_len
