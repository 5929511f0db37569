-- `layout::valid_header::ValidHeader::full_size` meets its contract. Assumes nothing.
use Rattle.std.proofs.Common.{arith}
use Rattle.layout.proofs.Bounds.{fits}
use Rattle.layout.proofs.valid_header.ValidHeader.full_size.Goals as goal

pub returns : goal.returns
returns c = omega (arith, fits c.args.self.header c.args.self.fits)
