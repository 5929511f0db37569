-- `field::mul` meets its contract. Assumes nothing.
use Rattle.std.proofs.Common.{◌≡◌, sym, refl, ◌∙◌, ap₂}
use Rattle.field.specs.Residue.{times}
use Rattle.field.proofs.mul.Goals as goal

-- 65536 is -1
square : 1 ≡ times 65537 65536 65536
unfolding times
square = refl

pub returns-then-y-eq65536 : goal.returns-then-y-eq65536
returns-then-y-eq65536 c = square ∙ sym (ap₂ (times 65537) c.if-x-eq65536.true c.if-y-eq65536.true)

pub returns-else-x-eq65536 : goal.returns-else-x-eq65536
unfolding times
returns-else-x-eq65536 c = c.reduce.ensures
