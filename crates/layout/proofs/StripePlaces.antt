-- Where a stripe stands in the image, the write number of its first block, and its numbers; and that the stripes of a header are at most k. Assumes nothing.
use mathlib.Core.Path.{◌≡◌, ap, ◌∙◌}
use mathlib.Core.Bool.{true, false≢true}
use mathlib.Core.Logic.{⊎_elim}
use Prim.Native.Nat.{ℕ, suc, ◌+◌, ◌*◌, ◌-◌, ◌/◌, ◌%◌, ◌^◌, ◌≤◌, ◌<◌}
use native.Mathlib.Nat.{div-lt_iff_lt-mul, eq-or-lt_of_le, mul-mod_left, mul-le-mul_right, zero-mod}
use native.Mathlib.Decide.{dec_lt}
use native.Mathlib.Omega.{arith}
use borrow.Author.Tests.{eq-eqb, ne_eqb, le-ltb}
use lib.Pow.{pow_pos, pow_mono, pow-add}
use Rattle.code.specs.Stripe.{Numbers}
use Rattle.layout.specs.declared.Header.{Header}
use Rattle.layout.specs.Header.{header_fits, width, full_size, image_size, level_at, first_of, has_stripe, stripe_at, stripe_of}
use Rattle.layout.proofs.Bounds.{Fits, fits}

level_size : (m s : ℕ) → 2 ≤ m → (m - 2) * suc s + 2 * suc s ≡ m * suc s
level_size m s b = let e : m - 2 + 2 ≡ m = omega arith in omega (arith, ap (λ (x : ℕ). x * suc s) e)

doubled : (x m n : ℕ) → m ≡ n + n → x * m % n ≡ 0
doubled x m n e = ap (λ (y : ℕ). y % n) {x = x * m} {y = x * 2 * n} (ap (λ (y : ℕ). x * y) e ∙ omega arith) ∙ mul-mod_left (x * 2) n

-- the multiple of 2^(l+1) below c is followed by 2^(l+1) numbers that are below 2^k too
block_in : (c l k : ℕ) → suc l ≤ k → c < 2 ^ k → c / 2 ^ suc l * 2 ^ suc l + 2 ^ suc l ≤ 2 ^ k
block_in c l k b u =
    let e : 2 ^ k ≡ 2 ^ (k - suc l) * 2 ^ suc l =
    ap (λ (x : ℕ). 2 ^ x) {x = k} {y = k - suc l + suc l} (omega arith) ∙ pow-add 2 (k - suc l) (suc l) in
    let d : c / 2 ^ suc l < 2 ^ (k - suc l) = (div-lt_iff_lt-mul (pow_pos (suc l))).1 (rw e at u) in
    omega (arith, e, mul-le-mul_right (2 ^ suc l) d)

module _ (h : Header) (l : ℕ) where
  pub first_full : l ≡ h.k → first_of h l ≡ 0
  first_full e = rw (eq-eqb l h.k e, first_of)

  pub first_level : (l ≡ h.k → ⊥) → first_of h l ≡ h.c / 2 ^ suc l * 2 ^ suc l
  first_level d = rw (ne_eqb l h.k d, first_of)

  pub at_full : l ≡ h.k → stripe_at h l ≡ 0
  at_full e = rw (eq-eqb l h.k e, stripe_at)

  pub at_level : (l ≡ h.k → ⊥) → stripe_at h l ≡ full_size h + level_at h l
  at_level d = rw (ne_eqb l h.k d, stripe_at)

  module _ (f : Fits h) (w : l ≤ h.k) where
    -- a stripe's writes are among n
    pub first_ends : first_of h l + 2 ^ l ≤ 2 ^ h.k
    first_ends =
        ⊎_elim (λ e. rw (first_full e, e) (omega arith))
        (λ b. rw (first_level (λ e. omega arith)) (omega (arith, block_in h.c l h.k b f.c_low))) (eq-or-lt_of_le w)

    -- a stripe's first write number is a multiple of its blocks
    pub first_aligned : first_of h l % 2 ^ l ≡ 0
    first_aligned =
        ⊎_elim (λ e. rw (first_full e) (zero-mod (2 ^ l)))
        (λ b. rw (first_level (λ e. omega arith)) (doubled (h.c / 2 ^ suc l) (2 ^ suc l) (2 ^ l) (omega arith))) (eq-or-lt_of_le w)

    -- the stripe ends inside the image
    pub inside : 4 * stripe_at h l + 4 * (2 ^ suc l * width h) ≤ image_size h
    inside = ⊎_elim (λ e. rw (at_full e, e) (omega (arith, f.image_is))) (λ b. rw (at_level (λ e. omega arith)) (below b)) (eq-or-lt_of_le w)
      where
        below : l < h.k → 4 * (full_size h + level_at h l) + 4 * (2 ^ suc l * width h) ≤ image_size h
        below b =
            omega (
              arith,
              mul-le-mul_right (width h) (pow_mono {i = suc l} {j = h.k} b),
              level_size (2 ^ suc l) h.s (omega (arith, pow_pos l)),
              f.full_is,
              f.log_is,
              f.image_is,
            )

-- a stripe that the header has is one of those from 0 to k
pub stripe_within : (h : Header) (l : ℕ) → has_stripe h l ≡ true → l ≤ h.k
stripe_within h l e = at (dec_lt h.k l)
  where
    at : Dec (h.k < l) → l ≤ h.k
    at (yes b) = absurd (false≢true (rw (ne_eqb l h.k (λ (q : l ≡ h.k). omega arith), le-ltb l h.k (omega arith), has_stripe) at e))
    at (no b) = omega arith

-- the numbers of a stripe are such as a stripe can have
pub stripe_numbers : (h : Header) (l : ℕ) → header_fits h ≡ true → l ≤ h.k → Numbers (stripe_of h l)
stripe_numbers h l e w =
    let f = fits h e in
    record {
      within = w;
      small = f.k_high;
      aligned = first_aligned h l f w;
      ends = first_ends h l f w;
    }
