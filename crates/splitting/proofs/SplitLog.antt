-- A level taken apart: what that leaves of the log is `log_before` of specs/Splitting. Assumes nothing.
use mathlib.Core.Path.{◌≡◌, sym, ap, ap₂, ◌∙◌}
use mathlib.Core.Bool.{true}
use mathlib.Core.List.{List, ◌++◌}
use Prim.Native.Nat.{ℕ, suc, ◌+◌, ◌-◌, ◌*◌, ◌^◌, ◌≤◌, ◌<◌}
use native.Mathlib.Omega.{arith}
use lib.ListN.{length, take, drop, replicate, length-drop}
use lib.Seq.{length-take-le, take_at, drop_at, drop-drop}
use Rattle.std.proofs.lemmas.List.{replicate-append-replicate}
use Rattle.field.specs.Field.{fermat, root_of}
use Rattle.code.specs.Rows.{Column}
use Rattle.code.specs.Stripe.{coded_stripe}
use Rattle.code.proofs.CodedRows.{half_rows, length_half, coded_halves}
use Rattle.layout.specs.declared.Header.{Header}
use Rattle.layout.specs.Header.{header_fits, log_size, width, first_of, level_at, stripe_size, stripe_of}
use Rattle.layout.proofs.Bounds.{Fits, fits}
use Rattle.store.specs.steps.Writing.{half_start}
use Rattle.store.proofs.Gathering.{level_within, rows_double}
use Rattle.store.proofs.RebuiltLog.{Places, places, place_in}
use Rattle.splitting.specs.Splitting.{lowest_of, log_before}
use Rattle.splitting.specs.steps.Unfolding.{levels_out}
use Rattle.splitting.proofs.HalfBack.{back}
use Rattle.splitting.proofs.LevelsBelow.{levels_below}
use Rattle.splitting.proofs.Lowest.{Lowest, lowest}

-- BY THE STEPS OF THE CODE, for the lowest filled level of a header that fits
module _ (h : Header) (l : ℕ) (g : List ℕ) (valid : header_fits h ≡ true) (some : 0 < h.c) (is : l ≡ lowest_of h) {w : ℕ} (ew : w ≡ width h) where
  fit : Fits h
  fit = fits h valid

  low : Lowest h l
  low = lowest h some fit.c_low is

  pub small : (suc l ≤ 10) × (w ≤ 129)
  small = (omega (arith, low.within, fit.k_high), omega (arith, ew, fit.s_high))

  -- which stands from a to e
  module _ (long : length g ≡ log_size h) {a e : ℕ} (ea : a ≡ half_start w l 0) (ee : e ≡ half_start w (l + 1) 0) where
    at : Places (width h) l a e
    at = places (width h) l ew ea ee

    size : e - a ≡ stripe_size h l
    size = omega (arith, at.end_is, rows_double (width h) l)

    in_log : e ≤ length g
    in_log = place_in at (level_within (width h) low.within long)

    -- behind what stands before it
    module _ {p : List ℕ} (ep : p ≡ drop a g) where
      pub bounds : (a ≤ length g) × (e - a ≤ length p)
      bounds = (omega (arith, at.end_is, in_log), rw ep (omega (arith, length-drop a g, at.end_is, in_log)))

      pub lent_long : length (take (e - a) p) ≡ 2 ^ l * w + 2 ^ l * w
      lent_long = length-take-le (e - a) p bounds.1 ∙ omega (arith, at.end_is) ∙ ap (λ (n : ℕ). 2 ^ l * n + 2 ^ l * n) (sym ew)

      -- which is what is said to be the code of its blocks
      pub lent_is : take (e - a) p ≡ take (stripe_size h l) (drop (level_at h l) g)
      lent_is =
          ap₂ (λ (n : ℕ) (r : List ℕ). take n r) size (ep ∙ ap (λ (m : ℕ). drop m g) {x = a} {y = level_at h l} (omega (arith, at.start_is)))

      pub split_log : {b r : List ℕ} → b ≡ levels_out 65537 32769 back w l (take (2 ^ l * w) (take (e - a) p)) (drop (2 ^ l * w) (take (e - a) p))
          → r ≡ replicate (2 ^ l * w) 0 ++ replicate (2 ^ l * w) 0 → (bs : List ℕ) → Column 65537 (2 ^ l * width h) bs
          → take (stripe_size h l) (drop (level_at h l) g) ≡ coded_stripe (stripe_of h l) bs → b ++ (r ++ drop (e - a) p) ≡ log_before h g l bs
      split_log {b} {r} eb er bs C code =
          let n = 2 ^ l * width h in
          let x = half_rows 65537 (root_of fermat h.k) h.k (width h) 0 l (first_of h l) bs in
          let y = half_rows 65537 (root_of fermat h.k) h.k (width h) 1 l (first_of h l) bs in
          let ex : length x ≡ n = length_half 65537 (root_of fermat h.k) h.k (width h) 0 l (first_of h l) bs in
          let q : take (e - a) p ≡ x ++ y = lent_is ∙ code ∙ coded_halves 65537 (root_of fermat h.k) h.k (width h) l (first_of h l) bs in
          let zeros : r ≡ replicate (stripe_size h l) 0 =
          er ∙ replicate-append-replicate (2 ^ l * w) (2 ^ l * w) 0
          ∙ ap (λ (m : ℕ). replicate m 0) (ap (λ (m : ℕ). 2 ^ l * m + 2 ^ l * m) ew ∙ omega (arith, size, at.end_is)) in
          let rest : drop (e - a) p ≡ drop (level_at h l + stripe_size h l) g =
          ap (drop (e - a)) ep ∙ drop-drop (e - a) a g ∙ ap (λ (i : ℕ). drop i g) (omega (arith, at.start_is, size)) in
          ap₂ ◌++◌
          (eb ∙ ap (λ (m : ℕ). levels_out 65537 32769 back m l (take (2 ^ l * m) (take (e - a) p)) (drop (2 ^ l * m) (take (e - a) p))) ew
          ∙ levels_below h l bs fit.k_high low C (ap (take n) q ∙ take_at x y n ex) (ap (drop n) q ∙ drop_at x y n ex))
          (ap₂ ◌++◌ zeros rest)
