-- `field::short_65537::mul` meets its contract. Assumes nothing.
use Rattle.field.specs.Residue.{times}
use Rattle.field.proofs.short_65537.mul.Goals as goal

pub returns : goal.returns
unfolding times
returns c = c.reduce.ensures
