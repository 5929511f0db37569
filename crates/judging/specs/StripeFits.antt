-- Stripes that a vault can have. Assumes nothing: these are definitions.
use Rattle.std.specs.Prelude.{◌≤◌, ◌<◌}
use Rattle.code.specs.declared.Stripe.{Stripe}
use Rattle.code.specs.Stripe.{Numbers}

-- numbers that a stripe of a vault can have: a block of its number and 1 to 128 data words
pub record StripeFits (st : Stripe) : Type 0 where
  pub numbers : Numbers st
  pub thick : 1 < st.width
  pub thin : st.width ≤ 129
