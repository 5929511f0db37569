-- `mixing::direction::One` leaves a word as it is. Assumes nothing.
use Rattle.std.proofs.Common.{sym, ◌∙◌, arith}
use native.Mathlib.Nat.{mod-eq_of_lt}
use Rattle.field.proofs.Laws.{times_one, times_comm}
use Rattle.mixing_twice.proofs.direction.OneUnreducedFactor.unreduced_product.Goals as goal

pub returns : goal.returns
returns c =
    let y = c.args.y in
    (omega arith, mod-eq_of_lt c.requires ∙ sym (times_comm 65537 (omega arith) 1 y ∙ times_one 65537 (omega arith) y c.requires))
