-- `field::inverse` meets its contract. Assumes nothing.
use Rattle.field.specs.Power as Power
use Rattle.field.proofs.inverse.Goals as goal

pub returns : goal.returns
unfolding Power.inverse
returns c = c.power.ensures
