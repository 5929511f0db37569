-- `image::erasures::check` meets its contract: test 1, and what `check_sized` answers of the header. Assumes nothing.
use Rattle.layout.proofs.Refusals.{header_passed_on}
use Rattle.image.proofs.erasures.check.Goals as goal

pub returns-in_err-valid-clause-number : goal.returns-in_err-valid-clause-number
returns-in_err-valid-clause-number c = header_passed_on c.args.header _ c.from_residual.result _ c.from_residual.ensures.1 c.in_err-valid.ensures
