-- THE LOG AFTER A TAKING-BACK, of any header and any blocks: what the lowest filled level says of the count, where each level below it stands then and which of
-- its blocks it codes, that its own place is zeros, and that what stands above it stays. Assumes nothing.
use mathlib.Core.Path.{◌≡◌, refl, sym, ap, ap₂, ◌∙◌}
use mathlib.Core.List.{List, ◌++◌, append_assoc}
use Prim.Native.Nat.{ℕ, suc, ◌+◌, ◌*◌, ◌-◌, ◌^◌, ◌≤◌, ◌<◌}
use native.Mathlib.Omega.{arith}
use lib.ListN.{length, get_or, take, drop, replicate, length-append, length-drop, length-replicate, get_or-replicate}
use lib.Seq.{take_at, take-append-le, drop-append-le}
use Rattle.code.specs.Stripe.{coded_rows, coded_stripe}
use Rattle.code.proofs.CodedRows.{length_coded_rows}
use Rattle.layout.specs.declared.Header.{Header}
use Rattle.layout.specs.Header.{prime_of, vault_root, width, first_of, level_at, stripe_size, stripe_of}
use Rattle.splitting.specs.Splitting.{header_before, blocks_before, levels_before, log_before}
use Rattle.splitting.proofs.Lowest.{Lowest, first_below, first_apart}
use Rattle.vault.proofs.Levels.{level_end, level_in, levels_long, levels_place}
use Rattle.vault.proofs.WrittenLog.{parts_long, middle, above}

-- THE LEVELS below level l then, each of which codes its own of the blocks
pub coded_then : {h : Header} {l : ℕ} → Lowest h l → (j : ℕ) → j < l → (bs : List ℕ) → coded_stripe (stripe_of (header_before h) j) (blocks_before h l bs j)
    ≡ coded_rows (prime_of h) (vault_root h) h.k j (h.c - 2 ^ suc j) (width h) (take (2 ^ j * width h) (drop ((2 ^ l - 2 ^ suc j) * width h) bs))
coded_then {h} {l} w j d bs =
    let first : first_of (header_before h) j ≡ h.c - 2 ^ suc j = omega (arith, first_below w j d) in
    let among : first_of (header_before h) j - first_of h l ≡ 2 ^ l - 2 ^ suc j = omega (arith, first_apart w j d) in
    ap₂ (λ (t n : ℕ). coded_rows (prime_of h) (vault_root h) h.k j t (width h) (take (2 ^ j * width h) (drop (n * width h) bs))) first among

module _ (h : Header) (l : ℕ) (bs : List ℕ) where
  abbrev level_then : ℕ → List ℕ
  level_then j = coded_stripe (stripe_of (header_before h) j) (blocks_before h l bs j)

  length_then : (j : ℕ) → length (level_then j) ≡ stripe_size h j
  length_then j = length_coded_rows (prime_of h) (vault_root h) h.k j (first_of (header_before h) j) (width h) (blocks_before h l bs j)

  length_levels : (n : ℕ) → length (levels_before h l bs n) ≡ level_at h n
  unfolding levels_before
  length_levels = levels_long h (levels_before h l bs) level_then refl (λ n. refl) length_then

  place_then : (j n : ℕ) → j < n → take (stripe_size h j) (drop (level_at h j) (levels_before h l bs n)) ≡ level_then j
  unfolding levels_before
  place_then = levels_place h (levels_before h l bs) level_then refl (λ n. refl) length_then

  -- THE LOG: these levels, zeros, and what the log g has after that
  module _ (g : List ℕ) (fits : level_at h (suc l) ≤ length g) where
    abbrev zeros : List ℕ
    zeros = replicate (stripe_size h l) 0

    zeros_long : length zeros ≡ stripe_size h l
    zeros_long = length-replicate (stripe_size h l) 0

    inside : level_at h l + stripe_size h l ≤ length g
    inside = rw (← level_end) fits

    -- its front, that level and those below it, is of the blocks alone
    pub log_front : take (level_at h (suc l)) (log_before h g l bs) ≡ levels_before h l bs l ++ zeros
    log_front =
        let a = levels_before h l bs l in
        let d = drop (level_at h l + stripe_size h l) g in
        ap (take (level_at h (suc l))) (sym (append_assoc a zeros d))
        ∙ take_at (a ++ zeros) d (level_at h (suc l)) (length-append a zeros ∙ ap₂ ◌+◌ (length_levels l) zeros_long ∙ sym (level_end h l))

    pub log_long : length (log_before h g l bs) ≡ length g
    log_long = parts_long (levels_before h l bs l) zeros g (length_levels l) zeros_long inside

    pub log_below : (j : ℕ) → j < l → take (stripe_size h j) (drop (level_at h j) (log_before h g l bs)) ≡ level_then j
    log_below j d =
        let a = level_at h j in
        let s = stripe_size h j in
        let x = levels_before h l bs l in
        let rest = zeros ++ drop (level_at h l + stripe_size h l) g in
        let b : a + s ≤ length x = rw length_levels (level_in h j l d) in
        ap (take s) (drop-append-le a x rest (omega arith)) ∙ take-append-le s (drop a x) rest (rw length-drop (omega arith)) ∙ place_then j l d

    pub log_zeros : (q : ℕ) → level_at h l ≤ q → q < level_at h (suc l) → get_or (log_before h g l bs) q 0 ≡ 0
    log_zeros q d b =
        middle (levels_before h l bs l) zeros g (length_levels l) zeros_long inside q d (rw (← level_end) b)
        ∙ get_or-replicate (stripe_size h l) (q - level_at h l) 0 0 (omega (arith, level_end h l))

    pub log_above : (q : ℕ) → level_at h (suc l) ≤ q → get_or (log_before h g l bs) q 0 ≡ get_or g q 0
    log_above q d = above (levels_before h l bs l) zeros g (length_levels l) zeros_long inside q (rw (← level_end) d)
