-- Rows alone: the factor of row 0 is 1 whatever the root is, so that mixing and unmixing of single rows are their sums and differences. Assumes nothing.
use mathlib.Core.Path.{◌≡◌, ◌∙◌}
use mathlib.Core.List.{List}
use Prim.Native.Nat.{ℕ, ◌+◌, ◌*◌, ◌<◌}
use native.Mathlib.Omega.{arith}
use lib.ListN.{length}
use Rattle.field.specs.Power.{power}
use Rattle.field.proofs.Ring.{v, ◌⊕◌, ◌⊖◌, ◌⊗◌, ring}
use Rattle.field.proofs.Powers.{power_zero}
use Rattle.code.specs.Rows.{lifted}
use Rattle.code.specs.Transform.{mixed_halves, unmixed}
use Rattle.code.specs.steps.Mixing.{summing, sum_row, each_block}
use Rattle.code.proofs.Blocks.{each_rows, each_same}
use Rattle.mixing.proofs.Crossing.{Crosses, mixing_crosses, unmixing_crosses, sums_lifted}

module _ (x : ℕ) where
  factor_one : {i : ℕ} → i < 1 → power 65537 x i ≡ 1
  factor_one {i} h =
      let z : i ≡ 0 = omega arith in
      rw z (power_zero 65537 (omega arith) x)

  pub mixing_sums : Crosses (summing 65537) 1 1 (mixed_halves 65537 x 1)
  mixing_sums = record {
    low_at = λ a i e h. (mixing_crosses x 1).low_at a i e h
        ∙ rw (factor_one h) (ring 65537 (omega arith) (v _ ⊕ v 1 ⊗ v _) (v _ ⊕ v _) (omega arith) (omega arith) (omega arith));
    high_at = λ a i e h. (mixing_crosses x 1).high_at a i e h
        ∙ rw (factor_one h) (ring 65537 (omega arith) (v _ ⊖ v 1 ⊗ v _) (v _ ⊖ v _) (omega arith) (omega arith) (omega arith));
  }

  pub unmixing_sums : Crosses (summing 65537) 1 1 (unmixed 65537 x 1)
  unmixing_sums = record {
    low_at = λ a i e h. (unmixing_crosses x 1).low_at a i e h;
    high_at = λ a i e h. (unmixing_crosses x 1).high_at a i e h
        ∙ rw (factor_one h) (ring 65537 (omega arith) (v 1 ⊗ (v _ ⊖ v _)) (v _ ⊖ v _) (omega arith) (omega arith) (omega arith));
  }

-- all blocks of two rows
pub sums_level : (width blocks : ℕ) (d : List ℕ → List ℕ) (l : List ℕ) → Crosses (summing 65537) 1 1 d → length l ≡ blocks * (width + width)
    → each_block blocks (width + width) (sum_row 65537 width 0 width) l ≡ each_rows width blocks 2 d l
sums_level width blocks d l t e =
    let q : 2 * width ≡ width + width = omega arith in
    rw q (each_same blocks (width + width) (sum_row 65537 width 0 width) (lifted width 2 2 d) l (omega arith) (λ a b. sums_lifted width d a t b))
