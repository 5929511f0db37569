-- `weights::exponents::Positions::log_of_power` meets its contract: a logarithm is below 65536. Assumes nothing.
use Rattle.std.proofs.Common.{ℕ, ◌*◌, ◌/◌, sym, ap, ◌∙◌}
use Rattle.weights.proofs.ExponentLaws.{log_of_power_is}
use Rattle.weights.proofs.exponents.Positions.log_of_power.Goals as goal

pub returns : goal.returns
returns c = ap (λ (n : ℕ). 32 * (1024 / n) * c.args.e) c.two_to.ensures ∙ sym (log_of_power_is c.args.self.level c.args.e)
