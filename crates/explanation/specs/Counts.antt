-- The counts of each stripe that recovery needs (docs/FORMAT.md, section 8): its positions left, and how many more it needs; zeros for any other stripe.
-- Assumes nothing: these are definitions.
use Rattle.std.specs.Prelude.{true, false, List, ℕ, suc, ◌*◌, ◌-◌, ◌^◌}
use Rattle.layout.specs.declared.Header.{Header}
use Rattle.layout.specs.Header.{has_stripe}
use Rattle.image.specs.Erasures.{Erasure}
use Rattle.range_laying.specs.Laid.{pairs_to}
use Rattle.stripe_decoding.specs.Decoding.{positions_left}

abbrev pub counts_size : Header → ℕ
counts_size h = suc h.k * 2

unfoldable pub left : Header → List Erasure → (stripe : ℕ) → ℕ
left h gs l = elim (has_stripe h l) [ true ↦ positions_left h gs l | false ↦ 0 ]

unfoldable pub shortfall : Header → List Erasure → (stripe : ℕ) → ℕ
shortfall h gs l = elim (has_stripe h l) [ true ↦ 2 ^ l - positions_left h gs l | false ↦ 0 ]

-- a pair for each stripe, the full one too
abbrev pub counts_of : Header → List Erasure → List ℕ
counts_of h gs = pairs_to (left h gs) (shortfall h gs) (suc h.k)
