-- The call `decode`: what holds where its first tests pass. Assumes nothing.
use mathlib.Core.Path.{◌≡◌, sym, ◌∙◌}
use mathlib.Core.List.{List}
use Prim.Native.Nat.{ℕ, ◌≤◌}
use native.Mathlib.Omega.{arith}
use lib.ListN.{length}
use Rattle.layout.specs.declared.Header.{Header}
use Rattle.layout.specs.Header.{width, has_stripe}
use Rattle.layout.specs.Refusals.{Tests, done, test, refusal}
use Rattle.stripe_decoding.specs.StripeCall.{decode_early}
use Rattle.layout.proofs.Refusals.{passes}
use Rattle.layout.proofs.StripePlaces.{stripe_within}
use Rattle.image.proofs.ImageRefusals.{image_tests, Lent, lent, passed, none_before}

module _ (h : Header) (m e : List ℕ) (l : ℕ) (o s : List ℕ) where
  abbrev rest : Tests
  rest = test (has_stripe h l) 6 done

  -- WHAT HOLDS if no test applies
  module _ (z : decode_early h m e l o s ≡ 0) where
    none : refusal (image_tests h m e (width h) (length o) (length s) done) ≡ 0
    none = none_before h m e (width h) (length o) (length s) rest z

    pub decode_lent : Lent h m e (width h) (length o) (length s)
    decode_lent = lent h m e (width h) (length o) (length s) none

    pub decode_within : l ≤ h.k
    decode_within = stripe_within h l (passes (has_stripe h l) 6 done (sym (passed h m e (width h) (length o) (length s) rest none) ∙ z) (omega arith)).0
