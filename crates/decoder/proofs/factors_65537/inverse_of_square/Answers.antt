-- `decoder::factors_65537::inverse_of_square` meets its contract: at each of the eleven levels both sides are the same number. Assumes nothing.
use Rattle.std.proofs.Common.{◌≡◌, ◌-◌, ◌^◌, ◌≤◌, ◌<◌, ℕ, suc, ◌*◌, ◌%◌, ◌+◌, zero, refl, arith}
use Rattle.field.specs.Residue.{times}
use Rattle.field.specs.Power.{power, power_from, inverse}
use Rattle.decoder.proofs.DecoderShapes.{few_levels}
use Rattle.decoder.proofs.factors_65537.inverse_of_square.Goals as goal

abbrev low : ℕ → ℕ
low l = 1 * 2 ^ (16 - 2 * l) % 4294967296

abbrev high : ℕ → ℕ
high l = 1 * 2 ^ (32 - 2 * l) % 4294967296

abbrev over : ℕ → ℕ
over l = inverse 65537 (times 65537 (2 ^ l) (2 ^ l))

low_small : (l : ℕ) → 2 * l < 16 → low l ≤ 65537
low_small zero b = omega arith
low_small (suc zero) b = omega arith
low_small (suc (suc zero)) b = omega arith
low_small (suc (suc (suc zero))) b = omega arith
low_small (suc (suc (suc (suc zero)))) b = omega arith
low_small (suc (suc (suc (suc (suc zero))))) b = omega arith
low_small (suc (suc (suc (suc (suc (suc zero)))))) b = omega arith
low_small (suc (suc (suc (suc (suc (suc (suc zero))))))) b = omega arith
low_small (suc (suc (suc (suc (suc (suc (suc (suc l)))))))) b = absurd (omega arith)

low_is : (l : ℕ) → 2 * l < 16 → 65537 - low l ≡ over l
unfolding inverse times power power_from
low_is zero b = refl
low_is (suc zero) b = refl
low_is (suc (suc zero)) b = refl
low_is (suc (suc (suc zero))) b = refl
low_is (suc (suc (suc (suc zero)))) b = refl
low_is (suc (suc (suc (suc (suc zero))))) b = refl
low_is (suc (suc (suc (suc (suc (suc zero)))))) b = refl
low_is (suc (suc (suc (suc (suc (suc (suc zero))))))) b = refl
low_is (suc (suc (suc (suc (suc (suc (suc (suc l)))))))) b = absurd (omega arith)

high_is : (d : ℕ) → d ≤ 2 → high (8 + d) ≡ over (8 + d)
unfolding inverse times power power_from
high_is zero b = refl
high_is (suc zero) b = refl
high_is (suc (suc zero)) b = refl
high_is (suc (suc (suc d))) b = absurd (omega arith)

pub overflow_sub-result-then-e-lt16 : goal.overflow_sub-result-then-e-lt16
overflow_sub-result-then-e-lt16 c = low_small c.args.st.stripe.level c.if-e-lt16.true

pub returns-then-e-lt16 : goal.returns-then-e-lt16
returns-then-e-lt16 c = low_is c.args.st.stripe.level c.if-e-lt16.true

pub returns-else-e-lt16 : goal.returns-else-e-lt16
returns-else-e-lt16 c =
    let l = c.args.st.stripe.level in
    let e : 8 + (l - 8) ≡ l = omega arith in
    rw e at (high_is (l - 8) (omega (arith, few_levels c.args.st.numbers)))
