-- `encoder::scale_row` meets its contract: a row scaled is one stored over itself. Assumes nothing.
use Rattle.code.specs.steps.Storing.{scale_row}
use Rattle.encoder.proofs.scale_row.Goals as goal

pub returns : goal.returns
unfolding scale_row
returns g c = c.scale_row_over.ensures
