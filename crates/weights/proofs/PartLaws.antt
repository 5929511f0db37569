-- The two arrays between two digits (`Holds` of specs/steps/Digits): what is left of them by the sums of a digit stored behind the mixed marks, by the loop
-- that adds them to the words at the positions, and by both. Assumes nothing.
use mathlib.Core.Path.{◌≡◌, refl, sym, ap, ap₂, ◌∙◌}
use mathlib.Core.List.{List, ◌++◌}
use Prim.Native.Nat.{ℕ, suc, ◌+◌, ◌*◌, ◌%◌, ◌^◌, ◌≤◌, ◌<◌}
use native.Mathlib.Omega.{arith}
use lib.ListN.{length, get_or, set, take, drop, length-append, get_or-append}
use lib.Seq.{take-append-le, drop-append-le, take-take, take_at, drop_at, length-take-le, get_or-take, get_or-drop}
use Rattle.field.specs.Residue.{times}
use Rattle.field.specs.Power.{inverse}
use Rattle.field.specs.Words.{Words, table}
use Rattle.field.proofs.WordLists.{length_table, same_table, words_table}
use Rattle.code.specs.Transform.{reversed}
use Rattle.code.specs.Rows.{Column}
use Rattle.code.specs.steps.Storing.{stored, always}
use Rattle.code.proofs.Shapes.{reversed_lt}
use Rattle.code.proofs.RowLaws.{stored_front}
use Rattle.logarithms.specs.Weights.{exponent_at}
use Rattle.weights.specs.steps.Digits.{Holds, sum_rows, sum_at, with_sum, with_sums, added_at}
use Rattle.weights.proofs.ColumnLaws.{StoringEach, lent_lt, each_turn, each_next, product_column, unmixed_column_lem}

-- the first words stored
module _ (n : ℕ) (f : ℕ → ℕ) (u v : List ℕ) (room : n ≤ length u) (e : v ≡ stored 0 f n u) where
  stored_is : v ≡ table n f ++ drop n u
  stored_is = e ∙ stored_front f n u room

  pub first_stored : take n v ≡ table n f
  first_stored = ap (take n) stored_is ∙ take_at (table n f) (drop n u) n (length_table n f)

  pub rest_stored : drop n v ≡ drop n u
  rest_stored = ap (drop n) stored_is ∙ drop_at (table n f) (drop n u) n (length_table n f)

-- THE SUMS of a digit stored behind the mixed marks
sum_column : (l unit : ℕ) (a : List ℕ) → Column 65537 (2 ^ suc l) (sum_rows l unit a)
unfolding sum_rows
sum_column l unit a = unmixed_column_lem l (product_column (2 ^ suc l) a _) refl

module _ (l unit : ℕ) (u x : List ℕ) (room : 2 * 2 ^ suc l ≤ length u) {m : ℕ} (both : m ≡ 2 * 2 ^ suc l)
    (is : x ≡ take (2 ^ suc l) (take m u) ++ sum_rows l unit (take (2 ^ suc l) (take m u))) where
  abbrev n : ℕ
  n = 2 ^ suc l

  abbrev a : List ℕ
  a = take n u

  x_is : x ≡ a ++ sum_rows l unit a
  x_is = is ∙ ap (λ (b : List ℕ). b ++ sum_rows l unit b) (take-take n m u (omega arith))

  a_long : length a ≡ n
  a_long = length-take-le n u (omega arith)

  x_long : length x ≡ m
  x_long = ap length x_is ∙ length-append a (sum_rows l unit a) ∙ ap₂ ◌+◌ a_long (sum_column l unit a).long ∙ omega arith

  sums_first : take n (x ++ drop m u) ≡ a
  sums_first = take-append-le n x (drop m u) (omega (arith, x_long)) ∙ ap (take n) x_is ∙ take_at a (sum_rows l unit a) n a_long

  sums_behind : drop n (x ++ drop m u) ≡ sum_rows l unit a ++ drop m u
  sums_behind =
      drop-append-le n x (drop m u) (omega (arith, x_long))
      ∙ ap (λ (r : List ℕ). r ++ drop m u) (ap (drop n) x_is ∙ drop_at a (sum_rows l unit a) n a_long)

  pub sums_words : Words 65537 (take n (drop n (x ++ drop m u)))
  sums_words = rw (sums_behind, take_at (sum_rows l unit a) (drop m u) n (sum_column l unit a).long) (sum_column l unit a).words

  -- what is then added to the words of w
  sums_added : (w : List ℕ) (i : ℕ) → i < n → added_at l unit (x ++ drop m u) w i ≡ with_sum l unit (sum_rows l unit a) (get_or (take n w) i 0) i
  unfolding added_at with_sum sum_at
  sums_added w i b =
      let k = reversed (suc l) (exponent_at l i) in
      ap₂ (λ (y z : ℕ). (y + unit * times 65537 (inverse 65537 n) z) % 65536) (sym (get_or-take n w i 0 b))
      (ap (λ (r : List ℕ). get_or r k 0) sums_behind
      ∙ get_or-append (sum_rows l unit a) (drop m u) 0 k (omega (arith, (sum_column l unit a).long, reversed_lt (suc l) (exponent_at l i))))

  pub digit_added : (w v : List ℕ) → n ≤ length w → v ≡ stored 0 (added_at l unit (x ++ drop m u) w) n w
      → Holds l v (x ++ drop m u) a (with_sums l unit a (take n w)) (drop n w)
  unfolding with_sums
  digit_added w v long e =
      let f = added_at l unit (x ++ drop m u) w in
      record { mixed = sums_first; begins = first_stored n f w v long e ∙ same_table n _ _ (sums_added w); ends = rest_stored n f w v long e }

-- THE LOOP that adds them: n words, to those of u; g is the inverse of the factor
module _ (l : ℕ) {n : ℕ} (count : n ≡ 2 ^ suc l) where
  -- the sum that a turn reads
  row_is : (part : List ℕ) (r : ℕ) → get_or part (n + r) 0 ≡ get_or (drop (2 ^ suc l) part) r 0
  row_is part r = ap (λ (k : ℕ). get_or part (k + r) 0) count ∙ sym (get_or-drop (2 ^ suc l) part r 0)

  pub row_lt : (part : List ℕ) (r : ℕ) → r < 2 ^ suc l → Words 65537 (take (2 ^ suc l) (drop (2 ^ suc l) part)) → get_or part (n + r) 0 < 65537
  row_lt part r c w = rw (row_is part r, ← get_or-take (2 ^ suc l) (drop (2 ^ suc l) part) r 0 c) (w.word r)

  -- and the word, of the front of u that is lent
  pub word_lt : {f : ℕ → ℕ} (u : List ℕ) {v : List ℕ} {i : ℕ} → StoringEach f (take n u) v i → Words 65536 (take (2 ^ suc l) u) → get_or v i 0 < 65536
  word_lt u {i = i} h w = rw (each_next h, count) (w.word i)

  pub adding_turn : (unit : ℕ) (part u : List ℕ) {v : List ℕ} {i g e r x : ℕ} → StoringEach (added_at l unit part u) (take n u) v i → i < length (take n u)
      → g ≡ inverse 65537 n → e ≡ exponent_at l i → r ≡ reversed (suc l) e → x ≡ times 65537 g (get_or part (n + r) 0)
      → StoringEach (added_at l unit part u) (take n u) (set v i ((get_or v i 0 + unit * x) % 65536)) (i + 1)
  unfolding added_at with_sum sum_at
  adding_turn unit part u {i = i} {r = r} h b eg ee er ex =
      each_turn h b
      (ap₂ (λ (y z : ℕ). (y + unit * z) % 65536) (each_next h ∙ get_or-take n u i 0 (lent_lt n u b))
      (ex ∙ ap₂ (times 65537) (eg ∙ ap (inverse 65537) count)
      (row_is part r ∙ ap (λ (k : ℕ). get_or (drop (2 ^ suc l) part) k 0) (er ∙ ap (reversed (suc l)) ee))))

-- a digit more
pub holds_next : (l unit : ℕ) {u v part w a xs rest : List ℕ} → Holds l u part a xs rest
    → Holds l v w (take (2 ^ suc l) part) (with_sums l unit (take (2 ^ suc l) part) (take (2 ^ suc l) u)) (drop (2 ^ suc l) u)
    → Holds l v w a (with_sums l unit a xs) rest
holds_next l unit h k = record { mixed = k.mixed ∙ h.mixed; begins = k.begins ∙ ap₂ (with_sums l unit) h.mixed h.begins; ends = k.ends ∙ h.ends }

pub sums_below : (l unit : ℕ) (a xs : List ℕ) → Words 65536 (with_sums l unit a xs)
unfolding with_sums with_sum
sums_below l unit a xs = words_table 65536 (omega arith) (2 ^ suc l) _ (λ i _. omega arith)

pub start_below : (n x : ℕ) → Words 65536 (table n (always (x % 65536)))
unfolding always
start_below n x = words_table 65536 (omega arith) n _ (λ i _. omega arith)
