-- `weights::exponents::Positions::position` meets its contract: each branch is a case of `position_at`. Assumes nothing.
use Rattle.std.proofs.Common.{ℕ, ◌+◌, ◌/◌, sym, ap, ◌∙◌}
use Rattle.weights.proofs.ExponentLaws.{position_even, position_odd}
use Rattle.weights.proofs.exponents.Positions.position.Goals as goal

pub returns-then-e-eq0 : goal.returns-then-e-eq0
returns-then-e-eq0 c = sym (position_even c.args.self.level c.args.e c.if-e-eq0.true)

pub returns-else-e-eq0 : goal.returns-else-e-eq0
returns-else-e-eq0 c =
    ap (λ (n : ℕ). n + c.args.e / 2) c.two_to.ensures ∙ sym (position_odd c.args.self.level c.args.e c.if-e-eq0.false)
