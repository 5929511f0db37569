-- `layout::valid_header::ValidHeader::stripe_at` meets its contract. Assumes nothing.
use Rattle.std.proofs.Common.{arith, add-one, pow_pos}
use Rattle.layout.proofs.valid_header.ValidHeader.stripe_at.Goals as goal

pub overflow_sub-rows : goal.overflow_sub-rows
overflow_sub-rows c = rw (c.two_to-rows.ensures, add-one) (omega (arith, pow_pos c.args.level))
