-- Numbers of four bytes, and the loop over an erasure list that test 3 is. Assumes nothing.
use mathlib.Core.Path.{◌≡◌, refl, sym, ap, ◌∙◌}
use mathlib.Core.Bool.{Bool, true, false, ◌&&◌, and-false}
use mathlib.Core.List.{List, [], ◌∷◌}
use Prim.Native.Nat.{ℕ, suc, ◌+◌, ◌*◌, ◌-◌, ◌/◌, ◌%◌, ◌≤◌, ◌<◌}
use native.Mathlib.Numerals.{add-one}
use native.Mathlib.Omega.{arith}
use lib.Dec.{ltb, leb, eqb}
use borrow.Author.Tests.{lt-ltb, le-ltb, le-leb, lt-leb}
use lib.ListN.{length, get_or, drop}
use lib.Seq.{drop-cons}
use Rattle.image.specs.Image.{number_of, number_at}
use Rattle.image.specs.Erasures.{erasures_from, erasures_in, erasures_rise}
use Rattle.image.proofs.Pairs.{IsPair}

four_bytes : (a b c d : ℕ) → number_of (a ∷ b ∷ c ∷ d ∷ []) ≡ a + 256 * (b + 256 * (c + 256 * (d + 256 * 0)))
unfolding number_of
four_bytes a b c d = refl

byte_next : (l : List ℕ) (i j : ℕ) → i < length l → suc i ≡ j → drop i l ≡ get_or l i 0 ∷ drop j l
byte_next l i j h e = drop-cons l i 0 h ∙ ap (λ (n : ℕ). get_or l i 0 ∷ drop n l) e

-- the number of the four bytes from an offset on, from the bytes
pub number_at_is : (l : List ℕ) (o : ℕ) → o + 4 ≤ length l
    → get_or l o 0 + 256 * (get_or l (o + 1) 0 + 256 * (get_or l (o + 2) 0 + 256 * get_or l (o + 3) 0)) ≡ number_at l o
number_at_is l o h =
    rw (
      byte_next l o (o + 1) (omega arith) (omega arith),
      byte_next l (o + 1) (o + 2) (omega arith) (omega arith),
      byte_next l (o + 2) (o + 3) (omega arith) (omega arith),
      byte_next l (o + 3) (o + 4) (omega arith) (omega arith),
      four_bytes,
    ) (omega arith)

-- THE LOOP OF TEST 3: before pair i all pairs passed have risen, and the rest have to rise from the least offset on
pub record RiseLoop (bytes : List ℕ) (size least i : ℕ) : Type 0 where
  pub within : i ≤ length bytes / 8
  pub left : erasures_rise least size (erasures_from bytes i (length bytes / 8 - i)) ≡ erasures_rise 0 size (erasures_in bytes)

rise_next : (bytes : List ℕ) (size least i d : ℕ) → erasures_rise least size (erasures_from bytes i (suc d))
    ≡ (leb least (number_at bytes (8 * i)) && (ltb 0 (number_at bytes (8 * i + 4)) && (leb (number_at bytes (8 * i) + number_at bytes (8 * i + 4)) size
    && erasures_rise (suc (number_at bytes (8 * i) + number_at bytes (8 * i + 4))) size (erasures_from bytes (suc i) d))))
unfolding erasures_rise erasures_from
rise_next bytes size least i d = refl

module _ {bytes : List ℕ} {size least i o s : ℕ} (r : RiseLoop bytes size least i) (p : IsPair bytes i o s) where
  rise_step : (leb least o && (ltb 0 s && (leb (o + s) size && erasures_rise (suc (o + s)) size (erasures_from bytes (suc i) (length bytes / 8 - suc i)))))
      ≡ erasures_rise 0 size (erasures_in bytes)
  rise_step =
      let d : length bytes / 8 - i ≡ suc (length bytes / 8 - suc i) = omega arith in
      rw (p.offset, p.size, ← rise_next, ← d) r.left

  pub rise_turn : least ≤ o → o < o + s → o + s ≤ size → RiseLoop bytes size (o + s + 1) (i + 1)
  rise_turn a b c =
      record {
        within = omega arith;
        left = rw (add-one (o + s), add-one i) (rw (le-leb least o a, lt-ltb 0 s (omega arith), le-leb (o + s) size c) at rise_step);
      }

  pub rise_low : o < least → false ≡ erasures_rise 0 size (erasures_in bytes)
  rise_low a = rw (lt-leb least o a) at rise_step

  pub rise_empty : o + s ≤ o → false ≡ erasures_rise 0 size (erasures_in bytes)
  rise_empty a = simp (le-ltb 0 s (omega arith), and-false) at rise_step

  pub rise_over : size < o + s → false ≡ erasures_rise 0 size (erasures_in bytes)
  rise_over a = simp (lt-leb (o + s) size a, and-false) at rise_step

-- a test that fails refuses the list
pub refused : (bytes : List ℕ) {r : Bool} → false ≡ r → false ≡ (eqb (length bytes % 8) 0 && r)
refused bytes e = rw (← e) (sym (and-false (eqb (length bytes % 8) 0)))

pub rise_end : {bytes : List ℕ} {size least i : ℕ} → RiseLoop bytes size least i → length bytes / 8 ≤ i → true ≡ erasures_rise 0 size (erasures_in bytes)
unfolding erasures_rise erasures_from
rise_end {bytes} {size} {least} {i} r h =
    let d : length bytes / 8 - i ≡ 0 = omega arith in
    rw d at r.left
