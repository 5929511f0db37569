-- Rows taken apart: half a word, the loop over the words of a row, and the loop over the rows. Assumes nothing.
use mathlib.Core.Path.{◌≡◌, refl, sym, ap, ap₂, ◌∙◌}
use mathlib.Core.List.{List}
use Prim.Native.Nat.{ℕ, ◌+◌, ◌-◌, ◌*◌, ◌/◌, ◌%◌, min, ◌<◌}
use native.Mathlib.Nat.{zero-mul}
use native.Mathlib.Omega.{arith}
use lib.Arith.{digits_div}
use lib.Dec.{lit<}
use lib.ListN.{get_or, set}
use Rattle.field.specs.Power.{power}
use Rattle.field.specs.Residue.{plus, minus, times}
use Rattle.field.specs.Words.{Words}
use Rattle.field.proofs.Laws.{times_lt}
use Rattle.code.specs.steps.Storing.{stored, always}
use Rattle.code.proofs.Lifting.{row_next}
use Rattle.code.proofs.RowLaws.{Storing, storing_start, storing_turn, storing_rest}
use Rattle.code.proofs.RowLaws.{StoringRows, storing_rows_start, storing_rows_turn, storing_rows_rest, storing_rows_words}
use Rattle.splitting.specs.steps.Unfolding.{half_sum, difference_by, half_difference}

-- HALF A WORD: an odd one is 1 more than twice its half, and 32769 is half of 1
pub half_word : (x : ℕ) → x < 65537 → x / 2 + x % 2 * 32769 ≡ times 65537 32769 x
unfolding times
half_word x h = omega arith

-- and of a sum, which is reduced behind
sum_halved : (s h : ℕ) → s < 131074 → h ≡ s / 2 + s % 2 * 32769 → h % 65537 ≡ 32769 * (s % 65537) % 65537
sum_halved s h b e = omega arith

less_modulus : (h : ℕ) → h < 131074 → min h ((h + (4294967296 - 65537)) % 4294967296) ≡ h % 65537
less_modulus h b = omega arith

pub half_sum_word : (a b h : ℕ) {r : ℕ} → a < 65537 → b < 65537 → h ≡ (a + b) / 2 + (a + b) % 2 * 32769
    → r ≡ min h ((h + (4294967296 - 65537)) % 4294967296) → r ≡ times 65537 32769 (plus 65537 a b)
unfolding times plus
half_sum_word a b h ha hb e er = er ∙ less_modulus h (omega arith) ∙ sum_halved (a + b) h (omega arith) e

-- THE LOOP OVER A ROW, from index `at` on: the first j words are stored in each of the three slices
pub record SplitRow (at width g : ℕ) (to₀ low₀ high₀ to low high : List ℕ) (j : ℕ) : Type 0 where
  pub low_words : Words 65537 low₀
  pub high_words : Words 65537 high₀
  pub to_is : Storing at (λ j. half_sum 65537 32769 low₀ high₀ (at + j)) width to₀ to j
  pub low_is : Storing at (always 0) width low₀ low j
  pub high_is : Storing at (λ j. difference_by 65537 g low₀ high₀ (at + j)) width high₀ high j

module _ {at width g : ℕ} {to₀ low₀ high₀ : List ℕ} where
  pub row_start : Words 65537 low₀ → Words 65537 high₀ → SplitRow at width g to₀ low₀ high₀ to₀ low₀ high₀ 0
  row_start u w = record {
    low_words = u;
    high_words = w;
    to_is = storing_start _ _ _ _;
    low_is = storing_start _ _ _ _;
    high_is = storing_start _ _ _ _;
  }

  module _ {to low high : List ℕ} {j : ℕ} (h : SplitRow at width g to₀ low₀ high₀ to low high j) where
    low_same : get_or low (at + j) 0 ≡ get_or low₀ (at + j) 0
    low_same = storing_rest h.low_is (at + j) (omega arith)

    high_same : get_or high (at + j) 0 ≡ get_or high₀ (at + j) 0
    high_same = storing_rest h.high_is (at + j) (omega arith)

    pub row_words : (get_or low (at + j) 0 < 65537) × (get_or high (at + j) 0 < 65537)
    row_words = (rw low_same (h.low_words.word (at + j)), rw high_same (h.high_words.word (at + j)))

    pub row_turn : {s d : ℕ} → j < width → s ≡ times 65537 32769 (plus 65537 (get_or low (at + j) 0) (get_or high (at + j) 0))
        → d ≡ times 65537 g (minus 65537 (get_or low (at + j) 0) (get_or high (at + j) 0))
        → SplitRow at width g to₀ low₀ high₀ (set to (at + j) s) (set low (at + j) 0) (set high (at + j) d) (j + 1)
    unfolding half_sum difference_by always
    row_turn b es ed = record {
      low_words = h.low_words;
      high_words = h.high_words;
      to_is = storing_turn h.to_is b (es ∙ ap₂ (λ (a c : ℕ). times 65537 32769 (plus 65537 a c)) low_same high_same);
      low_is = storing_turn h.low_is b refl;
      high_is = storing_turn h.high_is b (ed ∙ ap₂ (λ (a c : ℕ). times 65537 g (minus 65537 a c)) low_same high_same);
    }

-- THE LOOP OVER THE ROWS: the first i of m are split, row i by the power i of v over 2
pub record SplitRows (m width v : ℕ) (to₀ low₀ high₀ to low high : List ℕ) (i : ℕ) : Type 0 where
  pub low_words : Words 65537 low₀
  pub high_words : Words 65537 high₀
  pub to_is : StoringRows 0 (half_sum 65537 32769 low₀ high₀) m width to₀ to (i * width) i
  pub low_is : StoringRows 0 (always 0) m width low₀ low (i * width) i
  pub high_is : StoringRows 0 (half_difference 65537 32769 v width low₀ high₀) m width high₀ high (i * width) i

module _ {m width v : ℕ} {to₀ low₀ high₀ : List ℕ} where
  pub rows_start : Words 65537 low₀ → Words 65537 high₀ → SplitRows m width v to₀ low₀ high₀ to₀ low₀ high₀ 0
  rows_start u w = record {
    low_words = u;
    high_words = w;
    to_is = rw zero-mul (storing_rows_start _ _ _ _ _);
    low_is = rw zero-mul (storing_rows_start _ _ _ _ _);
    high_is = rw zero-mul (storing_rows_start _ _ _ _ _);
  }

  module _ {to low high : List ℕ} {i : ℕ} (h : SplitRows m width v to₀ low₀ high₀ to low high i) where
    pub low_fine : Words 65537 low
    unfolding always
    low_fine = storing_rows_words h.low_is (lit< tt) h.low_words (λ k. lit< tt)

    pub high_fine : Words 65537 high
    unfolding half_difference difference_by
    high_fine = storing_rows_words h.high_is (lit< tt) h.high_words (λ k. times_lt 65537 (lit< tt) _ _)

    pub rows_turn : {to' low' high' : List ℕ} {g : ℕ} → i < m → g ≡ times 65537 32769 (power 65537 v i)
        → to' ≡ stored (i * width) (λ j. half_sum 65537 32769 low high (i * width + j)) width to → low' ≡ stored (i * width) (always 0) width low
        → high' ≡ stored (i * width) (λ j. difference_by 65537 g low high (i * width + j)) width high
        → SplitRows m width v to₀ low₀ high₀ to' low' high' (i + 1)
    unfolding half_sum difference_by half_difference always
    rows_turn {g = g} b eg et el eh =
        let at = i * width in
        let a : (j : ℕ) → get_or low (at + j) 0 ≡ get_or low₀ (at + j) 0 = λ j. storing_rows_rest h.low_is (at + j) (omega arith) in
        let c : (j : ℕ) → get_or high (at + j) 0 ≡ get_or high₀ (at + j) 0 = λ j. storing_rows_rest h.high_is (at + j) (omega arith) in
        record {
          low_words = h.low_words;
          high_words = h.high_words;
          to_is = rw row_next (storing_rows_turn h.to_is (λ j. half_sum 65537 32769 low high (at + j)) b et
              (λ j t. ap₂ (λ (x y : ℕ). times 65537 32769 (plus 65537 x y)) (a j) (c j)));
          low_is = rw row_next (storing_rows_turn h.low_is (always 0) b el (λ j t. refl));
          high_is = rw row_next (storing_rows_turn h.high_is (λ j. difference_by 65537 g low high (at + j)) b eh
              (λ j t. ap₂ (λ (x y : ℕ). times 65537 g (minus 65537 x y)) (a j) (c j)
              ∙ ap (λ (x : ℕ). times 65537 x (minus 65537 (get_or low₀ (at + j) 0) (get_or high₀ (at + j) 0)))
              (eg ∙ ap (λ (q : ℕ). times 65537 32769 (power 65537 v q)) (sym (digits_div i t)))));
        }
