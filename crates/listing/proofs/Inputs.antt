-- Laws of what specs/Listing says of an input, by its length and its first two bytes. Assumes nothing.
use mathlib.Core.Path.{◌≡◌, refl}
use mathlib.Core.Bool.{Bool, true, false, ◌&&◌}
use mathlib.Core.List.{List, [], ◌∷◌}
use Prim.Native.Nat.{ℕ, ◌-◌, ◌≤◌, ◌<◌}
use native.Mathlib.Omega.{arith}
use borrow.Author.Tests.{le-leb, leb-true}
use lib.Dec.{leb}
use lib.ListN.{length, get_or, take, drop}
use lib.Seq.{take_all}
use Rattle.field.proofs.Booleans.{both_true, first_true, second_true, is_false}
use Rattle.layout.specs.Header.{is_in}
use Rattle.listing.specs.Listing.{stopped, fill, write_all, zero_rack}
use Rattle.listing.proofs.Opening.{InRange}

pub short_input : (input : List ℕ) → length input < 2 → fill input ≡ stopped 2
short_input [] b = refl
short_input (k ∷ []) b = refl
short_input (k ∷ s ∷ bs) b = absurd (omega arith)

-- k and s in racklist's ranges
abbrev pub range_test : (k s : ℕ) → Bool
range_test k s = is_in 1 5 k && is_in 1 16 s

tested : (k s : ℕ) → InRange k s → range_test k s ≡ true
tested k s r = both_true (both_true (le-leb 1 k r.0) (le-leb k 5 r.1)) (both_true (le-leb 1 s r.2) (le-leb s 16 r.3))

pub told : (k s : ℕ) → range_test k s ≡ true → InRange k s
told k s e =
    let a = first_true (is_in 1 5 k) (is_in 1 16 s) e in
    let b = second_true (is_in 1 5 k) (is_in 1 16 s) e in (
      leb-true 1 k (first_true (leb 1 k) (leb k 5) a),
      leb-true k 5 (second_true (leb 1 k) (leb k 5) a),
      leb-true 1 s (first_true (leb 1 s) (leb s 16) b),
      leb-true s 16 (second_true (leb 1 s) (leb s 16) b),
    )

module _ {k s : ℕ} where
  pub out_of_range : (input : List ℕ) → 2 ≤ length input → k ≡ get_or input 0 0 → s ≡ get_or input 1 0 → (InRange k s → ⊥) → fill input ≡ stopped 1
  out_of_range [] b ek es d = absurd (omega arith)
  out_of_range (x ∷ []) b ek es d = absurd (omega arith)
  out_of_range (x ∷ y ∷ bs) b ek es d =
      let e : range_test x y ≡ false = is_false (range_test x y) (λ t. d (rw (ek, es) (told x y t))) in rw (e, fill)

  pub in_range : (input : List ℕ) → 2 ≤ length input → k ≡ get_or input 0 0 → s ≡ get_or input 1 0 → InRange k s
      → fill input ≡ write_all 256 (zero_rack k s) (take (length input - 2) (drop 2 input))
  in_range [] b ek es r = absurd (omega arith)
  in_range (x ∷ []) b ek es r = absurd (omega arith)
  in_range (x ∷ y ∷ bs) b ek es r =
      let e : range_test x y ≡ true = tested x y (rw (← ek, ← es) r) in
      let all : take (length (x ∷ y ∷ bs) - 2) bs ≡ bs = take_all (length (x ∷ y ∷ bs) - 2) bs (omega arith) in
      rw (e, fill, ek, es, all)
