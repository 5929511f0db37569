-- The tests of one stripe after it is decoded, 9 and 10; that a number other than 0 is that of a failure; and that the stripes of a header are those of a
-- vault. Assumes nothing.
use mathlib.Core.Path.{◌≡◌, sym, ap}
use mathlib.Core.Bool.{Bool, true, false}
use mathlib.Core.List.{List}
use Prim.Native.Nat.{ℕ, ◌≤◌}
use native.Mathlib.Omega.{arith}
use Rattle.code.specs.declared.Stripe.{Stripe}
use Rattle.code.specs.Stripe.{block_count}
use Rattle.decoder.specs.Decoding.{is_consistent, blocks_in}
use Rattle.layout.specs.declared.Header.{Header}
use Rattle.layout.specs.Header.{header_fits, stripe_of}
use Rattle.layout.proofs.Bounds.{fits}
use Rattle.layout.proofs.StripePlaces.{stripe_numbers}
use Rattle.judging.specs.Decoding.{Decoded, failed, decoded, decoded_number, are_records, from_test9}
use Rattle.judging.specs.StripeFits.{StripeFits}

-- WHAT A STRIPE DECODES TO where its surviving words are of the field
module _ (st : Stripe) (ms : List Bool) (r : List ℕ) where
  pub solved_nine : is_consistent st ms r ≡ false → from_test9 st ms r ≡ failed 9
  solved_nine c = rw (c, from_test9)

  module _ (c : is_consistent st ms r ≡ true) where
    pub solved_ten : are_records st (blocks_in st ms r) (block_count st) ≡ false → from_test9 st ms r ≡ failed 10
    solved_ten e = rw (c, e, from_test9)

    pub solved_blocks : are_records st (blocks_in st ms r) (block_count st) ≡ true → from_test9 st ms r ≡ decoded (blocks_in st ms r)
    solved_blocks e = rw (c, e, from_test9)

-- a number other than 0 is that of a failure
pub failed_is : (d : Decoded) {r : ℕ} → r ≡ decoded_number d → (r ≡ 0 → ⊥) → d ≡ failed r
failed_is (failed n) e f = ap failed (sym e)
failed_is (decoded bs) e f = absurd (f e)

-- the stripes of a header that fits
pub stripe_fits : (h : Header) (l : ℕ) → header_fits h ≡ true → l ≤ h.k → StripeFits (stripe_of h l)
stripe_fits h l e w =
    let f = fits h e in
    record { numbers = stripe_numbers h l e w; thick = omega (arith, f.s_low); thin = omega (arith, f.s_high) }
