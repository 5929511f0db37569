-- Stripes of which enough survives. Assumes nothing: these are definitions.
use Rattle.std.specs.Prelude.{Bool, List, ◌≤◌, length}
use Rattle.code.specs.declared.Stripe.{Stripe}
use Rattle.code.specs.Stripe.{position_count}
use Rattle.decoder.specs.Promises.{Enough}
use Rattle.judging.specs.StripeFits.{StripeFits}

-- half of its positions survive
pub record Ready (st : Stripe) (marks : List Bool) : Type 0 where
  pub fits : StripeFits st
  pub long : position_count st ≤ length marks
  pub enough : Enough st.level marks
