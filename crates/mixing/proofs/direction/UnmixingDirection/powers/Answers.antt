-- `mixing::direction::Unmixing` takes the powers of the inverse of the root of 2 ^ level records: they are factors of rows. Assumes nothing.
use Rattle.std.proofs.Common.{◌-◌, ◌/◌, ap, ◌∙◌, arith}
use Prim.Native.Nat.{ℕ}
use Rattle.field.proofs.Unity.{two_div}
use Rattle.code.proofs.Factors.{unmixing_factors}
use Rattle.mixing.proofs.direction.UnmixingDirection.powers.Goals as goal

pub invariant_of-result : goal.invariant_of-result
invariant_of-result c =
    let few = c.requires in
    let step = ap (λ (n : ℕ). 2048 - n) (ap (λ (n : ℕ). 1024 / n) c.two_to-rows.ensures ∙ two_div 10 c.args.level few) in
    record { factors = (unmixing_factors {k = c.args.level} c.powers.ensures (omega arith) (few, omega (arith, few)) c.two_to-rows.ensures step).rows }
