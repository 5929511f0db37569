-- Laws of `decimal` and `lines` of specs/Text: of what std prints of a number, of one list after the other, of one number more, and of a line that is put
-- behind others in a buffer. Assumes nothing.
use mathlib.Core.Path.{◌≡◌, refl, sym, ap, ap₂, ◌∙◌}
use mathlib.Core.List.{List, [], ◌∷◌, ◌++◌, append_assoc}
use Prim.Native.Nat.{ℕ, zero, suc, ◌+◌, ◌/◌, ◌%◌, ◌^◌, ◌≤◌, ◌<◌}
use native.Mathlib.Numerals.{add-one}
use native.Mathlib.Omega.{arith}
use borrow.Author.Tests.{lt-ltb, le-ltb}
use lib.ListN.{length, take, set, get_or}
use lib.Seq.{take-suc-set}
use Rattle.std.specs.Fmt as Fmt
use Rattle.std.proofs.lemmas.Fmt.{decimal_by_steps, length-decimal-le}
use Rattle.std.proofs.lemmas.List.{take_more}
use Rattle.print_lines.specs.Putting.{put, put_end}
use Rattle.print_lines.specs.Text.{decimal_from, decimal, lines}
use Rattle.print_lines.proofs.PutTexts.{length_put, whole_end, whole_put}

one_digit : (f n : ℕ) → n < 10 → decimal_from (suc f) n ≡ (48 + n) ∷ []
unfolding decimal_from
one_digit f n b = rw (lt-ltb n 10 b, decimal_from)

more_digits : (f n : ℕ) → 10 ≤ n → decimal_from (suc f) n ≡ decimal_from f (n / 10) ++ ((48 + n % 10) ∷ [])
unfolding decimal_from
more_digits f n b = rw (le-ltb n 10 b, decimal_from)

-- with fuel enough
abbrev Written : ℕ → List ℕ → Type 0
Written n l = (f : ℕ) → n < f → decimal_from f n ≡ l

one : (n : ℕ) → n < 10 → Written n ((48 + n) ∷ [])
one n b zero l = absurd (omega arith)
one n b (suc f) l = one_digit f n b

more : (n : ℕ) (ds : List ℕ) → 10 ≤ n → Written (n / 10) ds → Written n (ds ++ ((48 + n % 10) ∷ []))
more n ds b w zero l = absurd (omega arith)
more n ds b w (suc f) l = more_digits f n b ∙ ap (λ (t : List ℕ). t ++ ((48 + n % 10) ∷ [])) (w f (omega arith))

-- THE DIGITS of n
pub digits_are : (n : ℕ) → n < 2 ^ 64 → Fmt.decimal n ≡ decimal n
unfolding decimal
digits_are n b = sym (decimal_by_steps Written one more n b (suc n) (omega arith))

-- how many there are
pub few_digits : (d n : ℕ) → 0 < d → n < 10 ^ d → n < 2 ^ 64 → length (decimal n) ≤ d
few_digits d n h b c = rw (← digits_are n c) (length-decimal-le d n h b c)

-- the definition computes: 1 and 61869, the table's first lines
first_lines : lines (1 ∷ 61869 ∷ []) ≡ 49 ∷ 10 ∷ 54 ∷ 49 ∷ 56 ∷ 54 ∷ 57 ∷ 10 ∷ []
unfolding lines decimal decimal_from
first_lines = refl

lines_append : (xs ys : List ℕ) → lines (xs ++ ys) ≡ lines xs ++ lines ys
unfolding lines
lines_append [] ys = refl
lines_append (x ∷ xs) ys =
    ap (λ (l : List ℕ). decimal x ++ (10 ∷ l)) (lines_append xs ys) ∙ sym (append_assoc (decimal x) (10 ∷ lines xs) (lines ys))

-- ONE NUMBER MORE
pub lines_more : (l : List ℕ) (i : ℕ) → i < length l → lines (take (i + 1) l) ≡ lines (take i l) ++ lines (get_or l i 0 ∷ [])
lines_more l i b = ap lines (take_more l i 0 b) ∙ lines_append (take i l) (get_or l i 0 ∷ [])

-- A LINE THAT IS PUT into l at index i: the digits of n, and the line feed behind them
pub line_put : (l : List ℕ) (i n : ℕ) {m : ℕ} {l' : List ℕ} → i + length (decimal n) < length l → m ≡ put_end l i (decimal n) → l' ≡ put l i (decimal n)
    → take (m + 1) (set l' m 10) ≡ take i l ++ lines (n ∷ [])
unfolding lines
line_put l i n {m} {l'} room e f =
    let d = decimal n in
    let inside : i ≤ length l = omega arith in
    let end : m ≡ i + length d = e ∙ whole_end l i inside d (omega arith) in
    ap₂ (λ (j : ℕ) (t : List ℕ). take (j + 1) (set t j 10)) end f ∙ ap (λ (j : ℕ). take j (set (put l i d) (i + length d) 10)) (add-one (i + length d))
    ∙ take-suc-set (put l i d) (i + length d) 10 (rw (length_put l i inside d) room)
    ∙ ap (λ (t : List ℕ). t ++ (10 ∷ [])) (whole_put l i inside d (omega arith)) ∙ append_assoc (take i l) d (10 ∷ [])
