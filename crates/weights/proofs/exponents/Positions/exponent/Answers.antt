-- `weights::exponents::Positions::exponent` meets its contract: each branch is a case of `exponent_at`. Assumes nothing.
use Rattle.std.proofs.Common.{ℕ, ◌+◌, ◌*◌, ◌-◌, sym, ap, ◌∙◌, arith}
use Rattle.logarithms.proofs.Weights.{exponent_low, exponent_high}
use Rattle.weights.proofs.exponents.Positions.exponent.Goals as goal

pub returns-then-i-half : goal.returns-then-i-half
returns-then-i-half c = sym (exponent_low c.args.self.level c.args.i (omega arith))

pub returns-else-i-half : goal.returns-else-i-half
returns-else-i-half c =
    ap (λ (n : ℕ). 2 * (c.args.i - n) + 1) c.two_to-half.ensures ∙ sym (exponent_high c.args.self.level c.args.i (omega arith))
