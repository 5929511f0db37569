-- The loop of `weights::sums::powers_sum`: the sum is that of the first i positions, each below 65536. Assumes nothing.
use Rattle.std.proofs.Common.{◌≡◌, Bool, List, ℕ, ◌*◌, ◌≤◌}
use Rattle.weights.specs.steps.Digits.{powers_to}
use Rattle.weights.proofs.sums.powers_sum.Given as goal

pub record Inv (level : ℕ) (marks : List Bool) (sum i : ℕ) : Type 0 where
  pub is : sum ≡ powers_to level marks i
  pub small : sum ≤ 65536 * i

abbrev pub invariant-loop-i : goal.invariant-loop-i
invariant-loop-i l = Inv l.marks.at.level l.marks.erased.now l.sum l.i
