-- A stripe of an image handed on as its numbers, its marks and its bytes: their sizes, and what is room for in the scratch. Assumes nothing.
use mathlib.Core.Path.{◌≡◌}
use mathlib.Core.Bool.{Bool, true}
use mathlib.Core.List.{List}
use Prim.Native.Nat.{ℕ, suc, ◌*◌, ◌/◌, ◌^◌, ◌≤◌, ◌<◌}
use native.Mathlib.Nat.{mul-le-mul_right}
use native.Mathlib.Omega.{arith}
use lib.ListN.{length}
use lib.Pow.{pow_mono}
use Rattle.code.specs.declared.Stripe.{Stripe}
use Rattle.code.specs.Stripe.{position_count, stripe_words}
use Rattle.layout.specs.declared.Header.{Header}
use Rattle.layout.specs.Header.{header_fits, record_count, width, scratch_size, image_size, stripe_size, stripe_of}
use Rattle.layout.proofs.Bounds.{fits}
use Rattle.layout.proofs.StripePlaces.{inside}
use Rattle.image.specs.Erasures.{Erasure, mark_at, marks_of}
use Rattle.image.specs.Loading.{stripe_in}
use Rattle.image.proofs.Marking.{length_flags}
use Rattle.image.proofs.StripeLoads.{stripe_long}

-- THE NUMBERS st of stripe l
module _ (h : Header) (l : ℕ) {st : Stripe} (e : st ≡ stripe_of h l) where
  -- its marks and its bytes
  pub marks_fit : (gs : List Erasure) {marks : List Bool} → header_fits h ≡ true → l ≤ h.k → marks ≡ marks_of h gs l → position_count st ≤ length marks
  marks_fit gs f w em = rw (e, em, length_flags 0 2048 (mark_at h gs l)) (pow_mono {i = suc l} {j = 11} (omega (arith, (fits h f).k_high)))

  pub bytes_fit : (m : List ℕ) {bs : List ℕ} → header_fits h ≡ true → l ≤ h.k → length m ≡ image_size h → bs ≡ stripe_in h m l
      → length bs / 4 ≡ stripe_words st
  bytes_fit m f w i eb =
      let n : length (stripe_in h m l) ≡ 4 * stripe_size h l = stripe_long h m l (rw i (inside h l (fits h f) w)) in
      rw (e, eb, n) (omega arith)

  -- the scratch: three words for each position, and the rows of a level
  module _ {n : ℕ} (s : n ≡ scratch_size h) where
    pub rows_room : st.level < st.k → stripe_words st ≤ n
    rows_room b =
        let c : l < h.k = rw e at b in
        let d : 2 ^ suc l ≤ record_count h = pow_mono {i = suc l} {j = h.k} c in
        rw (s, e) (omega (arith, mul-le-mul_right (width h) d))
