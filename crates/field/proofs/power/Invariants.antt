-- The invariant of `field::power`: the accumulator times the power that is left is the whole power. Assumes nothing.
use Rattle.std.proofs.Common.{◌≡◌, ◌<◌}
use Rattle.field.specs.Residue.{times}
use Rattle.field.specs.Power as Power
use Rattle.field.proofs.power.Given as goal

abbrev pub invariant-loop-rest : goal.invariant-loop-rest
invariant-loop-rest l = record {
  acc_in : l.acc < 65537;
  base_in : l.base < 65537;
  whole : times 65537 l.acc (Power.power 65537 l.base l.rest) ≡ Power.power 65537 l.fn.x l.fn.e;
}

abbrev pub decreases-loop-rest : goal.decreases-loop-rest
decreases-loop-rest l = l.rest
