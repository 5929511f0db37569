-- `mixing::direction::One` meets the contract of a factor: a word is once itself. Assumes nothing.
use Rattle.std.proofs.Common.{sym, ◌∙◌, arith}
use Rattle.field.proofs.Laws.{times_one, times_comm}
use Rattle.mixing.proofs.direction.OneFactor.product.Goals as goal

pub returns : goal.returns
returns c = sym (times_comm 65537 (omega arith) 1 c.args.y ∙ times_one 65537 (omega arith) c.args.y c.requires)
