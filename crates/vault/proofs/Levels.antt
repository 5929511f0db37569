-- Laws of the log's levels of specs/Round: their lengths, where each stands, and a log whose levels are all empty. Assumes nothing.
use mathlib.Core.Path.{◌≡◌, refl, sym, ap, ap₂, ◌∙◌}
use mathlib.Core.Bool.{Bool, true, false}
use mathlib.Core.List.{List, [], ◌++◌}
use Prim.Native.Nat.{ℕ, zero, suc, ◌+◌, ◌*◌, ◌-◌, ◌/◌, ◌%◌, ◌^◌, ◌≤◌, ◌<◌}
use native.Mathlib.Nat.{add-mul, mul-le-mul_right, zero-mul}
use native.Mathlib.Omega.{arith}
use lib.ListN.{length, take, drop, replicate, length-append, length-replicate, replicate-append-replicate}
use lib.Seq.{take_all, take-append-le, drop_at}
use lib.Pow.{pow_pos, pow_mono}
use borrow.Author.Tests.{eqb-true}
use Rattle.field.proofs.WordLists.{part_inside}
use Rattle.layout.proofs.StripePlaces.{first_level}
use Rattle.code.specs.Stripe.{coded_rows}
use Rattle.layout.specs.declared.Header.{Header}
use Rattle.layout.specs.Header.{prime_of, vault_root, width, is_filled, first_of, level_at, stripe_size}
use Rattle.layout.proofs.Counting.{bit_in}
use Rattle.code.proofs.CodedRows.{length_coded_rows}
use Rattle.vault.specs.Event.{Entry}
use Rattle.vault.specs.Round.{rows_of, level_entries, level_words, log_words}

-- a filled level's 2^l writes are among the c: t0 + 2^l ≤ c
pub filled_in : (h : Header) (l : ℕ) → l < h.k → is_filled h l ≡ true → first_of h l + 2 ^ l ≤ h.c
filled_in h l b e = rw (first_level h l (λ e. omega arith)) (bit_in h.c l (eqb-true (h.c / 2 ^ l % 2) 1 e))

-- LENGTHS
pub level_filled : (h : Header) (xs : List Entry) (l : ℕ) → is_filled h l ≡ true
    → level_words h xs l ≡ coded_rows (prime_of h) (vault_root h) h.k l (first_of h l) (width h) (rows_of (level_entries h xs l))
level_filled h xs l e = rw (e, level_words)

pub level_empty : (h : Header) (xs : List Entry) (l : ℕ) → is_filled h l ≡ false → level_words h xs l ≡ replicate (stripe_size h l) 0
level_empty h xs l e = rw (e, level_words)

pub length_level : (h : Header) (xs : List Entry) (l : ℕ) → length (level_words h xs l) ≡ stripe_size h l
length_level h xs l = go (is_filled h l) refl
  where
    go : (b : Bool) → is_filled h l ≡ b → length (level_words h xs l) ≡ stripe_size h l
    go true e =
        ap length (level_filled h xs l e) ∙ length_coded_rows (prime_of h) (vault_root h) h.k l (first_of h l) (width h) (rows_of (level_entries h xs l))
    go false e = ap length (level_empty h xs l e) ∙ length-replicate (stripe_size h l) 0

-- the next level begins where this one ends
pub level_end : (h : Header) (l : ℕ) → level_at h (suc l) ≡ level_at h l + stripe_size h l
level_end h l =
    ap (λ (n : ℕ). n * width h) {x = 2 ^ suc (suc l) - 2} {y = (2 ^ suc l - 2) + 2 ^ suc l} (omega (arith, pow_pos l))
    ∙ add-mul (2 ^ suc l - 2) (2 ^ suc l) (width h)

-- PLACES: level l stands at level_at
level_rises : (h : Header) (l n : ℕ) → l ≤ n → level_at h l ≤ level_at h n
level_rises h l n b = mul-le-mul_right (width h) (omega (arith, pow_mono {i = suc l} {j = suc n} (omega arith)))

pub level_in : (h : Header) (l n : ℕ) → l < n → level_at h l + stripe_size h l ≤ level_at h n
level_in h l n b = rw (← level_end) (level_rises h (suc l) n b)

-- LEVELS ONE AFTER THE OTHER: g n are the first n, and f n is the next one
module _ (h : Header) (g f : ℕ → List ℕ) (begins : g 0 ≡ []) (next : (n : ℕ) → g (suc n) ≡ g n ++ f n) (long : (n : ℕ) → length (f n) ≡ stripe_size h n) where
  pub levels_long : (n : ℕ) → length (g n) ≡ level_at h n
  levels_long zero = ap length begins ∙ sym (zero-mul (width h))
  levels_long (suc l) = ap length (next l) ∙ length-append (g l) (f l) ∙ ap₂ ◌+◌ (levels_long l) (long l) ∙ sym (level_end h l)

  pub levels_front : (n m : ℕ) → n ≤ m → take (level_at h n) (g m) ≡ g n
  levels_front n m b = go (m - n) m (omega arith)
    where
      go : (d m : ℕ) → m ≡ n + d → take (level_at h n) (g m) ≡ g n
      go zero m e = let s : m ≡ n = omega arith in rw s (take_all (level_at h n) (g n) (omega (arith, levels_long n)))
      go (suc d) zero e = absurd (omega arith)
      go (suc d) (suc m) e =
          ap (take (level_at h n)) (next m) ∙ take-append-le (level_at h n) (g m) (f m) (rw levels_long (level_rises h n m (omega arith)))
          ∙ go d m (omega arith)

  pub levels_place : (l n : ℕ) → l < n → take (stripe_size h l) (drop (level_at h l) (g n)) ≡ f l
  levels_place l n b =
      let a = level_at h l in
      let s = stripe_size h l in
      sym (part_inside a s (level_at h (suc l)) (g n) (omega (arith, level_end h l)))
      ∙ ap (λ (x : List ℕ). take s (drop a x)) (levels_front (suc l) n b ∙ next l)
      ∙ ap (take s) (drop_at (g l) (f l) a (levels_long l)) ∙ take_all s (f l) (omega (arith, long l))

-- THE LOG's levels
pub length_log : (h : Header) (xs : List Entry) (n : ℕ) → length (log_words h xs n) ≡ level_at h n
unfolding log_words
length_log h xs = levels_long h (log_words h xs) (level_words h xs) refl (λ n. refl) (length_level h xs)

pub log_front : (h : Header) (xs : List Entry) (n m : ℕ) → n ≤ m → take (level_at h n) (log_words h xs m) ≡ log_words h xs n
unfolding log_words
log_front h xs = levels_front h (log_words h xs) (level_words h xs) refl (λ n. refl) (length_level h xs)

pub level_place : (h : Header) (xs : List Entry) (l n : ℕ) → l < n → take (stripe_size h l) (drop (level_at h l) (log_words h xs n)) ≡ level_words h xs l
unfolding log_words
level_place h xs = levels_place h (log_words h xs) (level_words h xs) refl (λ n. refl) (length_level h xs)

-- a log whose levels are all empty is zeros
pub log_empty : (h : Header) (xs : List Entry) (n : ℕ) → ((l : ℕ) → l < n → is_filled h l ≡ false) → log_words h xs n ≡ replicate (level_at h n) 0
unfolding log_words
log_empty h xs zero e = ap (λ (i : ℕ). replicate i 0) (sym (zero-mul (width h)))
log_empty h xs (suc l) e =
    ap₂ ◌++◌ (log_empty h xs l (λ i b. e i (omega arith))) (level_empty h xs l (e l (omega arith)))
    ∙ replicate-append-replicate (level_at h l) (stripe_size h l) 0
    ∙ ap (λ (i : ℕ). replicate i 0) (sym (level_end h l))
