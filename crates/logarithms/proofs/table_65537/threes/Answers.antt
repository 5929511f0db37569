-- `logarithms::table_65537::threes` meets its contract: the numbers pass the test of field/proofs/PowerTables. Assumes nothing.
use lib.Dec.{lit<}
use Rattle.field.specs.Residue.{times}
use Rattle.field.proofs.PowerTables.{powers_rule}
use Rattle.logarithms.proofs.table_65537.threes.Goals as goal

pub returns : goal.returns
unfolding times
returns c = powers_rule 65537 3 _ (lit< tt) tt
