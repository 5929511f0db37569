-- Loops that store each word of a list, and columns of a word for each position: one that is loaded by exponents in bit-reversed order, its words, and those
-- of what is mixed and multiplied. Assumes nothing.
use mathlib.Core.Path.{◌≡◌, refl, sym, ap, subst, ◌∙◌}
use mathlib.Core.Bool.{Bool, false}
use mathlib.Core.List.{List, ◌++◌}
use Prim.Native.Nat.{ℕ, suc, ◌+◌, ◌/◌, ◌%◌, ◌^◌, ◌≤◌, ◌<◌}
use native.Mathlib.Nat.{zero-add}
use native.Mathlib.Omega.{arith}
use borrow.Rule.Slice.PartMut.{put_mid}
use lib.ListN.{length, get_or, set, take, drop, length-drop}
use lib.Seq.{length-take-le}
use Rattle.std.proofs.lemmas.List.{length-take}
use Rattle.field.specs.Residue.{times}
use Rattle.field.specs.Power.{inverse}
use Rattle.field.specs.Field.{fermat, root_of}
use Rattle.field.proofs.Laws.{times_lt}
use Rattle.field.specs.Words.{Words, table}
use Rattle.field.proofs.WordLists.{length_table, get_or_table}
use Rattle.code.specs.Transform.{reversed, bit_reversed}
use Rattle.code.specs.Convolution.{products}
use Rattle.code.specs.Rows.{Column}
use Rattle.code.proofs.Shapes.{reversed_lt, length_transform, length_untransform, words_transform, words_untransform, column_reversed, column_table}
use Rattle.code.specs.steps.Storing.{stored}
use Rattle.code.proofs.RowLaws.{Storing, storing_start, storing_turn, storing_done, storing_rest, stored_front, stored_part, no_rest}
use Rattle.logarithms.specs.Weights.{log_of_less}
use Rattle.weights.specs.steps.Digits.{position_at, flag, flag_at, flags, digit_at, digits, mixed_column, unmixed_column}
use Rattle.weights.proofs.ExponentLaws.{flag_le}

-- A LOOP THAT STORES EACH WORD of a list: i of them
pub record StoringEach (f : ℕ → ℕ) (l₀ l : List ℕ) (i : ℕ) : Type 0 where
  pub storing : Storing 0 f (length l₀) l₀ l i

pub each_start : (f : ℕ → ℕ) (l : List ℕ) → StoringEach f l l 0
each_start f l = record { storing = storing_start 0 f (length l) l }

module _ {f : ℕ → ℕ} {l₀ l : List ℕ} {i : ℕ} (h : StoringEach f l₀ l i) where
  pub each_turn : {x : ℕ} → i < length l₀ → x ≡ f i → StoringEach f l₀ (set l i x) (i + 1)
  each_turn {x} b e = subst (λ (k : ℕ). StoringEach f l₀ (set l k x) (i + 1)) (zero-add i) record { storing = storing_turn h.storing b e }

  -- the word whose turn it is
  pub each_next : get_or l i 0 ≡ get_or l₀ i 0
  each_next = storing_rest h.storing i (omega arith)

  pub each_done : {n : ℕ} → length l₀ ≤ i → length l₀ ≡ n → l ≡ table n f
  each_done {n} b e =
      storing_done h.storing b ∙ stored_front f (length l₀) l₀ (omega arith) ∙ no_rest (table (length l₀) f) l₀ (length l₀) refl
      ∙ ap (λ (m : ℕ). table m f) e

-- an index into a front that is lent
pub lent_lt : {A : Type 0} (n : ℕ) (w : List A) {i : ℕ} → i < length (take n w) → i < n
lent_lt n w b = omega (arith, length-take n w)

-- A PART of w that is lent to such a loop, and comes back: the front of m words, or n words from index b on
pub each_front : {m n : ℕ} (w : List ℕ) {f : ℕ → ℕ} {l : List ℕ} {i : ℕ} → n ≡ m → StoringEach f (take n w) l i → length (take n w) ≤ i → m ≤ length w
    → l ++ drop n w ≡ stored 0 f m w
each_front {n = n} w {f} e h b room =
    ap (λ (r : List ℕ). r ++ drop n w) (each_done h b (length-take-le n w (omega arith))) ∙ sym (stored_front f n w (omega arith))
    ∙ ap (λ (k : ℕ). stored 0 f k w) e

pub each_part : {a b k n : ℕ} (w : List ℕ) {f : ℕ → ℕ} {l : List ℕ} {i : ℕ} → a ≡ b → k ≡ n → StoringEach f (take k (drop a w)) l i
    → length (take k (drop a w)) ≤ i → b + n ≤ length w → put_mid a k w l ≡ stored b f n w
each_part {a} {b} {k} {n} w {f} {l} ea ek h c room =
    let is : l ≡ table n f = each_done h c (length-take-le k (drop a w) (omega (arith, length-drop a w)) ∙ ek) in
    ap (λ (m : ℕ). put_mid m k w l) ea
    ∙ stored_part b f n k w l ek room (ap length is ∙ length_table n f) (λ i t. ap (λ (r : List ℕ). get_or r i 0) is ∙ get_or_table n i f t)

-- THE COLUMN THAT IS LOADED: the words of xs, by exponents, stand at reversed places
abbrev pub loaded_at : (level : ℕ) (xs : List ℕ) (j : ℕ) → ℕ
loaded_at l xs j = get_or xs (reversed (suc l) j) 0

pub load_done : (level : ℕ) (xs : List ℕ) {l₀ l : List ℕ} {i : ℕ} → StoringEach (loaded_at level xs) l₀ l i → length l₀ ≤ i → length l₀ ≡ 2 ^ suc level
    → l ≡ bit_reversed (suc level) xs
unfolding bit_reversed
load_done level xs h b e = each_done h b e

-- what is loaded: a mark, a digit
pub flag_loaded : (l : ℕ) (ms : List Bool) (j : ℕ) {e i x : ℕ} → e ≡ reversed (suc l) j → i ≡ position_at l e → x ≡ flag (get_or ms i false)
    → x ≡ loaded_at l (flags l ms) j
unfolding flags flag_at
flag_loaded l ms j {e} {i} a b c =
    c ∙ ap (λ (k : ℕ). flag (get_or ms k false)) (b ∙ ap (position_at l) a)
    ∙ sym (get_or_table (2 ^ suc l) (reversed (suc l) j) (flag_at l ms) (reversed_lt (suc l) j))

pub digit_loaded : (l unit j : ℕ) {d x : ℕ} → d ≡ reversed (suc l) j → x ≡ log_of_less l d → x / unit % 64 ≡ loaded_at l (digits l unit) j
unfolding digits digit_at
digit_loaded l unit j a b =
    ap (λ (y : ℕ). y / unit % 64) (b ∙ ap (log_of_less l) a) ∙ sym (get_or_table (2 ^ suc l) (reversed (suc l) j) (digit_at l unit) (reversed_lt (suc l) j))

-- WORDS OF THE FIELD: marks and digits, mixed, multiplied and unmixed
pub digit_le : (l unit d : ℕ) → digit_at l unit d ≤ 63
unfolding digit_at
digit_le l unit d = omega arith

pub flags_column : (l : ℕ) (ms : List Bool) → Column 65537 (2 ^ suc l) (flags l ms)
unfolding flags flag_at
flags_column l ms = column_table 65537 (omega arith) (2 ^ suc l) (flag_at l ms) (λ e. omega (arith, flag_le (get_or ms (position_at l e) false)))

pub digits_column : (l unit : ℕ) → Column 65537 (2 ^ suc l) (digits l unit)
unfolding digits
digits_column l unit = column_table 65537 (omega arith) (2 ^ suc l) (digit_at l unit) (λ d. omega (arith, digit_le l unit d))

pub loaded_column : (l : ℕ) {xs c : List ℕ} → Column 65537 (2 ^ suc l) xs → c ≡ bit_reversed (suc l) xs → Column 65537 (2 ^ suc l) c
loaded_column l {xs} C e = rw e (column_reversed 65537 (omega arith) (suc l) xs C)

pub mixed_column_lem : (l : ℕ) {c d : List ℕ} → Column 65537 (2 ^ suc l) c → d ≡ mixed_column l c → Column 65537 (2 ^ suc l) d
unfolding mixed_column
mixed_column_lem l {c} C e = rw e record {
  long = length_transform 65537 (root_of fermat (suc l)) (suc l) (suc l) c C.long;
  words = words_transform 65537 (omega arith) (root_of fermat (suc l)) (suc l) (suc l) C.words;
}

pub product_column : (n : ℕ) (a b : List ℕ) → Column 65537 n (products 65537 n a b)
unfolding products
product_column n a b = column_table 65537 (omega arith) n _ (λ i. times_lt 65537 (omega arith) _ _)

pub unmixed_column_lem : (l : ℕ) {c d : List ℕ} → Column 65537 (2 ^ suc l) c → d ≡ unmixed_column l c → Column 65537 (2 ^ suc l) d
unfolding unmixed_column
unmixed_column_lem l {c} C e = rw e record {
  long = length_untransform 65537 (inverse 65537 (root_of fermat (suc l))) (suc l) (suc l) c C.long;
  words = words_untransform 65537 (omega arith) (inverse 65537 (root_of fermat (suc l))) (suc l) (suc l) C.words;
}

-- THE COLUMN THAT IS MULTIPLIED, each word of l by that of a
abbrev pub product_at : (a l : List ℕ) (i : ℕ) → ℕ
product_at a l i = times 65537 (get_or a i 0) (get_or l i 0)

module _ (a : List ℕ) {l₀ l : List ℕ} {i : ℕ} (h : StoringEach (product_at a l₀) l₀ l i) where
  pub multiply_words : Words 65537 l₀ → Words 65537 a → (get_or a i 0 < 65537) × (get_or l i 0 < 65537)
  multiply_words w v = (v.word i, rw (each_next h) (w.word i))

  pub multiply_turn : {x : ℕ} → i < length l₀ → x ≡ times 65537 (get_or a i 0) (get_or l i 0) → StoringEach (product_at a l₀) l₀ (set l i x) (i + 1)
  multiply_turn b e = each_turn h b (e ∙ ap (times 65537 (get_or a i 0)) (each_next h))

  pub multiply_done : length l₀ ≤ i → l ≡ products 65537 (length l₀) a l₀
  unfolding products
  multiply_done b = each_done h b refl
