-- A stripe has at most 2,048 positions. Assumes nothing.
use Rattle.std.proofs.Common.{◌≡◌, ◌≤◌, ℕ, suc, arith}
use lib.Pow.{pow_mono}
use Rattle.code.specs.declared.Stripe.{Stripe}
use Rattle.code.specs.Stripe.{Numbers, position_count}

pub room : (st : Stripe) → Numbers st → position_count st ≤ 2048
room st n = pow_mono {i = suc st.level} {j = 11} (omega (arith, n.within, n.small))

pub counted : (st : Stripe) {n : ℕ} → Numbers st → n ≡ position_count st → n ≤ 2048
counted st n e = omega (arith, e, room st n)
