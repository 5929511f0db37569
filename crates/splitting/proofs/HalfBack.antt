-- Half of a level (X or Y) taken apart: of its blocks' code, the words that go to the level below are the code of the older blocks, and those that stay are
-- that of the newer ones. Assumes nothing.
use mathlib.Core.Path.{◌≡◌, refl, sym, ap, ap₂, ◌∙◌}
use mathlib.Core.List.{List, ◌++◌}
use Prim.Native.Nat.{ℕ, suc, ◌+◌, ◌*◌, ◌/◌, ◌^◌, ◌≤◌, ◌<◌}
use native.Mathlib.Omega.{arith}
use lib.Arith.{digits_div, digits_lt}
use lib.Dec.{lit<}
use lib.ListN.{length, get_or, take, drop, take-append-drop, get_or-append}
use lib.Seq.{length-take-le, get_or-take, get_or-drop, get_or-append-add}
use Rattle.field.specs.Field.{fermat, root_of}
use Rattle.field.specs.Power.{power, inverse}
use Rattle.field.specs.Residue.{plus, minus, times}
use Rattle.field.specs.Words.{Words}
use Rattle.field.proofs.Congruence.{of_eq}
use Rattle.field.proofs.Primes.{fermat_prime, fermat_root}
use Rattle.field.proofs.PowerTables.{level_root}
use Rattle.field.proofs.Ring.{v, ◌⊕◌, ◌⊖◌, ◌⊗◌, fact, none, lin, from}
use Rattle.field.proofs.Unity.{power_inverse}
use Rattle.field.proofs.WordLists.{words_take, words_drop, length_table, get_or_table}
use Rattle.code.specs.Rows.{column, lifted}
use Rattle.code.specs.Transform.{mixed_halves}
use Rattle.code.proofs.CodedRows.{half_rows, length_half, words_half, mixed_half}
use Rattle.code.proofs.Lifting.{length_column, column_at, lifted_at, rows_ext, two_halves}
use Rattle.mixing.proofs.Crossing.{mixing_crosses}
use Rattle.splitting.specs.steps.Unfolding.{half_sum, difference_by, half_difference, older, newer}

-- the inverse of the root of 2 ^ l records
abbrev pub back : ℕ → ℕ
back l = inverse 65537 (root_of fermat l)

-- ONE PAIR of words, a + g b and a - g b: half their sum is a, and half their difference times the inverse of g is b
module _ (a b g f : ℕ) where
  sum_back : a < 65537 → times 65537 32769 (plus 65537 (plus 65537 a (times 65537 g b)) (minus 65537 a (times 65537 g b))) ≡ a
  sum_back h =
      lin 65537 (omega arith) (v 32769 ⊗ ((v a ⊕ v g ⊗ v b) ⊕ (v a ⊖ v g ⊗ v b))) (v a) (v a) (v 65538) (v 1) (record { eq = refl }) (omega arith) h
      (omega arith)

  difference_back : times 65537 g f ≡ 1 → b < 65537
      → times 65537 (times 65537 32769 f) (minus 65537 (plus 65537 a (times 65537 g b)) (minus 65537 a (times 65537 g b))) ≡ b
  difference_back e h =
      from 65537 (omega arith)
      (fact (v 65538 ⊗ v b) (v g ⊗ v f) (v 1) (of_eq 65537 e) (fact (v b) (v 65538) (v 1) (record { eq = refl }) none))
      ((v 32769 ⊗ v f) ⊗ ((v a ⊕ v g ⊗ v b) ⊖ (v a ⊖ v g ⊗ v b))) (v b) (omega arith) h (omega arith)

-- ROWS a and b, of m rows each, mixed under the root u
module _ (width m u : ℕ) (a b : List ℕ) (ea : length a ≡ m * width) where
  abbrev both : List ℕ
  both = lifted width (m + m) (m + m) (mixed_halves 65537 u m) (a ++ b)

  -- word j of row i of each
  module _ (i j : ℕ) (h : i < m) (t : j < width) where
    abbrev place : ℕ
    place = i * width + j

    first : get_or (column width (m + m) j (a ++ b)) i 0 ≡ get_or a place 0
    first = column_at width (m + m) j (a ++ b) i (omega arith) ∙ get_or-append a b 0 place (rw ea (digits_lt h t))

    second : get_or (column width (m + m) j (a ++ b)) (m + i) 0 ≡ get_or b place 0
    second =
        column_at width (m + m) j (a ++ b) (m + i) (omega arith)
        ∙ ap (λ (n : ℕ). get_or (a ++ b) n 0) {x = (m + i) * width + j} {y = length a + place} (omega (arith, ea)) ∙ get_or-append-add a b place 0

    sum_is : get_or both place 0 ≡ plus 65537 (get_or a place 0) (times 65537 (power 65537 u i) (get_or b place 0))
    sum_is =
        lifted_at width (m + m) (m + m) (mixed_halves 65537 u m) (a ++ b) i j (omega arith) t
        ∙ (mixing_crosses u m).low_at (column width (m + m) j (a ++ b)) i (length_column width (m + m) j (a ++ b)) h
        ∙ ap₂ (λ (x y : ℕ). plus 65537 x (times 65537 (power 65537 u i) y)) first second

    difference_is : get_or both (m * width + place) 0 ≡ minus 65537 (get_or a place 0) (times 65537 (power 65537 u i) (get_or b place 0))
    difference_is =
        ap (λ (n : ℕ). get_or both n 0) {x = m * width + place} {y = (m + i) * width + j} (omega arith)
        ∙ lifted_at width (m + m) (m + m) (mixed_halves 65537 u m) (a ++ b) (m + i) j (omega arith) t
        ∙ (mixing_crosses u m).high_at (column width (m + m) j (a ++ b)) i (length_column width (m + m) j (a ++ b)) h
        ∙ ap₂ (λ (x y : ℕ). minus 65537 x (times 65537 (power 65537 u i) y)) first second

    low_is : get_or (take (m * width) both) place 0 ≡ plus 65537 (get_or a place 0) (times 65537 (power 65537 u i) (get_or b place 0))
    low_is = get_or-take (m * width) both place 0 (digits_lt h t) ∙ sum_is

    high_is : get_or (drop (m * width) both) place 0 ≡ minus 65537 (get_or a place 0) (times 65537 (power 65537 u i) (get_or b place 0))
    high_is = get_or-drop (m * width) both place 0 ∙ difference_is

  -- TAKEN APART they are a and b again
  older_back : Words 65537 a → older 65537 32769 (m * width) both ≡ a
  unfolding half_sum
  older_back w =
      rows_ext width m (older 65537 32769 (m * width) both) a (length_table (m * width) _) ea
      (λ i j h t. get_or_table (m * width) (i * width + j) _ (digits_lt h t)
      ∙ ap₂ (λ (x y : ℕ). times 65537 32769 (plus 65537 x y)) (low_is i j h t) (high_is i j h t)
      ∙ sum_back (get_or a (i * width + j) 0) (get_or b (i * width + j) 0) (power 65537 u i) 0 (w.word (i * width + j)))

  newer_back : (u' : ℕ) → ((i : ℕ) → times 65537 (power 65537 u i) (power 65537 u' i) ≡ 1) → length b ≡ m * width → Words 65537 b
      → newer 65537 32769 u' width (m * width) both ≡ b
  unfolding half_difference difference_by
  newer_back u' inv eb w =
      rows_ext width m (newer 65537 32769 u' width (m * width) both) b (length_table (m * width) _) eb
      (λ i j h t. get_or_table (m * width) (i * width + j) _ (digits_lt h t)
      ∙ ap (λ (q : ℕ). times 65537 (times 65537 32769 (power 65537 u' q))
      (minus 65537 (get_or (take (m * width) both) (i * width + j) 0) (get_or (drop (m * width) both) (i * width + j) 0))) (digits_div i t)
      ∙ ap₂ (λ (x y : ℕ). times 65537 (times 65537 32769 (power 65537 u' i)) (minus 65537 x y)) (low_is i j h t) (high_is i j h t)
      ∙ difference_back (get_or a (i * width + j) 0) (get_or b (i * width + j) 0) (power 65537 u i) (power 65537 u' i) (inv i) (w.word (i * width + j)))

-- A HALF (y 0: X, 1: Y) of the blocks of level suc l
module _ (k : ℕ) (few : k ≤ 10) (width y l t : ℕ) (below : l ≤ k) (bs : List ℕ) (long : length bs ≡ 2 ^ suc l * width) (words : Words 65537 bs) where
  abbrev half : (level t : ℕ) → List ℕ → List ℕ
  half l t bs = half_rows 65537 (root_of fermat k) k width y l t bs

  abbrev old : List ℕ
  old = half l t (take (2 ^ l * width) bs)

  abbrev new : List ℕ
  new = half l (t + 2 ^ l) (drop (2 ^ l * width) bs)

  length_old : length old ≡ 2 ^ l * width
  length_old = length_half 65537 (root_of fermat k) k width y l t (take (2 ^ l * width) bs)

  length_new : length new ≡ 2 ^ l * width
  length_new = length_half 65537 (root_of fermat k) k width y l (t + 2 ^ l) (drop (2 ^ l * width) bs)

  abbrev root : ℕ
  root = power 65537 (root_of fermat k) (2 ^ k / 2 ^ l)

  mixed_is : half (suc l) t bs ≡ lifted width (2 ^ l + 2 ^ l) (2 ^ l + 2 ^ l) (mixed_halves 65537 root (2 ^ l)) (old ++ new)
  mixed_is =
      ap (half (suc l) t) (sym (take-append-drop (2 ^ l * width) bs))
      ∙ sym (mixed_half 65537 (root_of fermat k) k width y l t (take (2 ^ l * width) bs) (drop (2 ^ l * width) bs)
      (length-take-le (2 ^ l * width) bs (omega (arith, long, two_halves l width))))
      ∙ ap (λ (m : ℕ). lifted width m m (mixed_halves 65537 root (2 ^ l)) (old ++ new)) {x = 2 ^ suc l} {y = 2 ^ l + 2 ^ l} (omega arith)

  inv : (i : ℕ) → times 65537 (power 65537 root i) (power 65537 (back l) i) ≡ 1
  inv i =
      rw (level_root k l below (omega arith))
      (power_inverse 65537 l (root_of fermat l) fermat_prime (fermat_root l (omega arith)) i)

  pub older_half : older 65537 32769 (2 ^ l * width) (half (suc l) t bs) ≡ half l t (take (2 ^ l * width) bs)
  older_half =
      ap (older 65537 32769 (2 ^ l * width)) mixed_is
      ∙ older_back width (2 ^ l) root old new length_old
      (words_half 65537 (root_of fermat k) k width y l t (lit< tt) (words_take 65537 (lit< tt) (2 ^ l * width) words))

  pub newer_half : newer 65537 32769 (back l) width (2 ^ l * width) (half (suc l) t bs) ≡ half l (t + 2 ^ l) (drop (2 ^ l * width) bs)
  newer_half =
      ap (newer 65537 32769 (back l) width (2 ^ l * width)) mixed_is
      ∙ newer_back width (2 ^ l) root old new length_old (back l) inv length_new
      (words_half 65537 (root_of fermat k) k width y l (t + 2 ^ l) (lit< tt) (words_drop 65537 (lit< tt) (2 ^ l * width) words))
