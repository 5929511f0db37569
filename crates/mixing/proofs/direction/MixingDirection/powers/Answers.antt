-- `mixing::direction::Mixing` takes the powers of the root of 2 ^ level records: they are factors of rows. Assumes nothing.
use Rattle.std.proofs.Common.{arith}
use Rattle.field.proofs.PowerTables.{table_is}
use Rattle.code.proofs.Factors.{root_factors}
use Rattle.mixing.proofs.direction.MixingDirection.powers.Goals as goal

pub invariant_of-result : goal.invariant_of-result
invariant_of-result c = record { factors = rw (c.two_to-rows.ensures, c.powers.ensures) (root_factors {n = 10} table_is c.requires (omega arith)) }
