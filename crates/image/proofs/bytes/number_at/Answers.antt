-- `image::bytes::number_at` meets its contract. Assumes nothing.
use Rattle.std.proofs.Common.{arith}
use Rattle.image.proofs.ErasureLists.{number_at_is}
use Rattle.image.proofs.bytes.number_at.Goals as goal

pub returns : goal.returns
returns c = omega (arith, c.from_le_bytes.ensures, number_at_is c.args.bytes.now c.args.at c.requires)
