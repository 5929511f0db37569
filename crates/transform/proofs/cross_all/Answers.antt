-- `transform::cross_all` meets its contract: 1,024 rows of at most three words are few enough for `cross_small_rows`. Assumes nothing.
use Rattle.std.proofs.Common.{arith}
use Rattle.transform.proofs.MixLevels.{small_few}
use Rattle.transform.proofs.cross_all.Goals as goal

pub cross_small_rows-requires-clause-level_bound : goal.cross_small_rows-requires-clause-level_bound
cross_small_rows-requires-clause-level_bound g c = (omega (arith, c.requires.level_bound), small_few c.requires.level_bound c.if-width-lt4.true)
