-- A stripe of which neither reading has lost a position: comparing it position by position is comparing its words in one run. Assumes nothing.
use mathlib.Core.Path.{◌≡◌, refl, sym, ap, ap₂, ◌∙◌}
use mathlib.Core.Bool.{Bool, false, ◌&&◌}
use mathlib.Core.List.{List}
use Prim.Native.Nat.{ℕ, zero, suc, ◌+◌, ◌*◌, ◌^◌, ◌≤◌, ◌<◌}
use native.Mathlib.Omega.{arith}
use lib.Dec.{eqb}
use Rattle.decoder.proofs.Intact.{unmarked}
use Rattle.layout.specs.declared.Header.{Header}
use Rattle.layout.specs.Header.{width, stripe_at}
use Rattle.layout.proofs.Bounds.{Fits}
use Rattle.image.specs.Image.{word_at}
use Rattle.image.specs.Erasures.{Erasure, erasures_in, is_erased, marks_of}
use Rattle.stripe_decoding.specs.Decoding.{positions_left}
use Rattle.two_readings.specs.Agreeing.{all_below, same_word, same_words, position_agrees, stripe_agrees}
use Rattle.two_readings.proofs.AllBelow.{all_alike, all_sum}
use Rattle.two_readings.proofs.Comparing.{mark_is}

-- THE WORDS of n rows in one run, and row by row
module _ (m m' : List ℕ) (at w : ℕ) where
  row_alike : (a j : ℕ) → same_word m m' at (a + j) ≡ same_word m m' (at + a) j
  unfolding same_word
  row_alike a j = ap (λ q. eqb (word_at m q) (word_at m' q)) {x = at + (a + j)} {y = at + a + j} (omega arith)

  rows_alike : (n : ℕ) → all_below n (λ i. same_words m m' (at + i * w) w) ≡ same_words m m' at (n * w)
  unfolding all_below
  rows_alike zero = ap (λ n. all_below n (same_word m m' at)) {x = 0} {y = 0 * w} (omega arith)
  rows_alike (suc n) =
      ap₂ (λ (a b : Bool). a && b) (rows_alike n) (all_alike w _ _ (λ j b. sym (row_alike (n * w) j)))
      ∙ sym (all_sum (n * w) w (same_word m m' at)) ∙ ap (same_words m m' at) {x = n * w + w} {y = suc n * w} (omega arith)

-- A STRIPE of which all positions are left in both
module _ (h : Header) (f : Fits h) (l : ℕ) (w : l ≤ h.k) where
  none_erased : (gs : List Erasure) → positions_left h gs l ≡ 2 ^ suc l → (i : ℕ) → i < 2 ^ suc l → is_erased h gs l i ≡ false
  none_erased gs all i b = sym (mark_is h l i f.k_high w b gs) ∙ unmarked l (marks_of h gs l) (omega (arith, all)) i b

  pub whole_agrees : (m e m' e' : List ℕ) → positions_left h (erasures_in e) l ≡ 2 ^ suc l → positions_left h (erasures_in e') l ≡ 2 ^ suc l
      → stripe_agrees h m e m' e' l ≡ same_words m m' (stripe_at h l) (2 ^ suc l * width h)
  unfolding position_agrees
  whole_agrees m e m' e' all all' =
      all_alike (2 ^ suc l) _ _ (λ i b. rw (none_erased (erasures_in e) all i b, none_erased (erasures_in e') all' i b) refl)
      ∙ rows_alike m m' (stripe_at h l) (width h) (2 ^ suc l)
