-- Decoding of a column: the column found is the one that codes to all surviving words, if there is one. Assumes nothing.
use mathlib.Core.Path.{◌≡◌, refl, sym, ap, ◌∙◌, subst}
use mathlib.Core.Bool.{Bool, true, false, ◌&&◌, ◌||◌}
use mathlib.Core.List.{List, map}
use Prim.Native.Nat.{ℕ, zero, suc, ◌^◌, ◌<◌}
use native.Mathlib.Omega.{arith}
use lib.Dec.{eqb}
use lib.ListN.{length, get_or, take, length-map}
use lib.Seq.{length-take-le, get_or-take}
use Rattle.field.specs.Polynomial.{horner, interpolate}
use Rattle.field.specs.Words.{Words}
use Rattle.field.proofs.Polynomials.{Distinct, interpolate_length, interpolate_words, interpolate_is}
use Rattle.field.proofs.WordLists.{words_map, get_or_map}
use Rattle.code.specs.Stripe.{coded}
use Rattle.decoder.specs.Decoding.{survivors, point_at, value_at, decoded_column, agrees, consistent_column}
use Rattle.code.specs.Transform.{bit_reversed}
use Rattle.decoder.specs.steps.RowTests.{all_to}
use Rattle.decoder.specs.Promises.{Parameters, Enough, Agrees, FindsColumn, FoundColumn}
use Rattle.code.specs.Rows.{Column}
use Rattle.code.proofs.Shapes.{words_coded, column_reversed}
use Rattle.code.proofs.BitReversal.{bit_reversed_twice}
use Rattle.decoder.proofs.Survivors.{Survivors, survivors_are}
use Rattle.decoder.proofs.AllTo.{unless_same, same_unless, all_to_all, all_to_each}
use Rattle.decoder.proofs.Points.{point_lt, points_distinct}
use Rattle.decoder.proofs.Half.{value_same, value_lt, value_is, same_polynomial}

-- the test `agrees` says what `Agrees` does
agrees_all : (ms : List Bool) (n : ℕ) (a b : List ℕ) → agrees ms n a b ≡ all_to n (λ i. get_or ms i false || eqb (get_or a i 0) (get_or b i 0))
unfolding agrees all_to
agrees_all ms zero a b = refl
agrees_all ms (suc n) a b = ap (λ (t : Bool). (get_or ms n false || eqb (get_or a n 0) (get_or b n 0)) && t) (agrees_all ms n a b)

agrees_true : (ms : List Bool) (n : ℕ) (a b : List ℕ) → Agrees ms n a b → agrees ms n a b ≡ true
agrees_true ms n a b A = agrees_all ms n a b ∙ all_to_all n _ (λ i l. unless_same (get_or ms i false) (get_or a i 0) (get_or b i 0) (A.same i l))

agrees_same : (ms : List Bool) (n : ℕ) (a b : List ℕ) → agrees ms n a b ≡ true → Agrees ms n a b
agrees_same ms n a b e =
    record { same = λ i l. same_unless (get_or ms i false) (get_or a i 0) (get_or b i 0) (all_to_each n _ (sym (agrees_all ms n a b) ∙ e) i l) }

-- the polynomial that is interpolated from the words at the first 2 ^ l surviving positions
abbrev firsts : (l : ℕ) → List Bool → List ℕ
firsts l ms = take (2 ^ l) (survivors l ms)

abbrev found : (p w k l t : ℕ) → List Bool → List ℕ → List ℕ
found p w k l t ms c = interpolate p (map (point_at p w k l) (firsts l ms)) (map (value_at p w k l t c) (firsts l ms))

decoded_is : (p w k l t : ℕ) (ms : List Bool) (c : List ℕ) → decoded_column p w k l t ms c ≡ bit_reversed l (found p w k l t ms c)
unfolding decoded_column
decoded_is p w k l t ms c = refl

module _ (p w k l t : ℕ) (ms : List Bool) (c : List ℕ) (S : Parameters p w k l t) (E : Enough l ms)
    (b : (j : ℕ) → j < 2 ^ l → get_or c (get_or (survivors l ms) j 0) 0 < p) where
  h : 0 < p
  h = omega (arith, S.root.odd)

  long_firsts : length (firsts l ms) ≡ 2 ^ l
  long_firsts = length-take-le (2 ^ l) (survivors l ms) E

  long_points : length (map (point_at p w k l) (firsts l ms)) ≡ 2 ^ l
  long_points = length-map (firsts l ms) (point_at p w k l) ∙ long_firsts

  long_values : length (map (value_at p w k l t c) (firsts l ms)) ≡ 2 ^ l
  long_values = length-map (firsts l ms) (value_at p w k l t c) ∙ long_firsts

  first_is : (j : ℕ) → j < 2 ^ l → get_or (firsts l ms) j 0 ≡ get_or (survivors l ms) j 0
  first_is j m = get_or-take (2 ^ l) (survivors l ms) j 0 m

  words_values : Words p (map (value_at p w k l t c) (firsts l ms))
  words_values =
      words_map p h (value_at p w k l t c) (firsts l ms)
      (λ j m. value_lt p w k l t c (get_or (firsts l ms) j 0) h (rw (first_is j (omega (arith, long_firsts))) (b j (omega (arith, long_firsts)))))

  found_column : Column p (2 ^ l) (found p w k l t ms c)
  found_column = record {
    long = interpolate_length p _ (map (value_at p w k l t c) (firsts l ms)) (long_points ∙ sym long_values) ∙ long_points;
    words = interpolate_words p S.prime.big (map (point_at p w k l) (firsts l ms)) (map (value_at p w k l t c) (firsts l ms)) words_values;
  }

  point_is : (j : ℕ) → j < 2 ^ l → get_or (map (point_at p w k l) (firsts l ms)) j 0 ≡ point_at p w k l (get_or (survivors l ms) j 0)
  point_is j m = get_or_map (point_at p w k l) (firsts l ms) j (omega (arith, long_firsts)) ∙ ap (point_at p w k l) (first_is j m)

  points_apart : Distinct (map (point_at p w k l) (firsts l ms))
  points_apart = record {
    apart = λ i j m n q.
        let R : Survivors ms 0 (2 ^ suc l) (survivors l ms) = survivors_are ms 0 (2 ^ suc l) in
        points_distinct p w k l t (get_or (survivors l ms) i 0) (get_or (survivors l ms) j 0) S (R.rising i j m (omega (arith, long_points)))
        (omega (arith, R.high j (omega (arith, long_points)))) (sym (point_is i (omega (arith, long_points))) ∙ q ∙ point_is j (omega (arith, long_points)));
  }

  found_value : (j : ℕ) → j < 2 ^ l
      → horner p (found p w k l t ms c) (point_at p w k l (get_or (survivors l ms) j 0)) ≡ value_at p w k l t c (get_or (survivors l ms) j 0)
  found_value j m =
      ap (horner p (found p w k l t ms c)) (sym (point_is j m))
      ∙ interpolate_is p S.prime (map (point_at p w k l) (firsts l ms)) (map (value_at p w k l t c) (firsts l ms)) (long_points ∙ sym long_values)
      (words_map p h (point_at p w k l) (firsts l ms) (λ i n. point_lt p w k l S.prime.big (get_or (firsts l ms) i 0))) words_values points_apart j
      (omega (arith, long_points))
      ∙ get_or_map (value_at p w k l t c) (firsts l ms) j (omega (arith, long_firsts)) ∙ ap (value_at p w k l t c) (first_is j m)

-- a column that codes to the words at those positions is the one found
decoded_same : (p w k l t : ℕ) (ms : List Bool) (c xs : List ℕ) → Parameters p w k l t → Enough l ms → Column p (2 ^ l) xs
    → Agrees ms (2 ^ suc l) (coded p w k l t xs) c
    → decoded_column p w k l t ms c ≡ xs
decoded_same p w k l t ms c xs S E C A =
    decoded_is p w k l t ms c
    ∙ ap (bit_reversed l)
    (same_polynomial p w k l t ms (found p w k l t ms c) (bit_reversed l xs) S E (found_column p w k l t ms c S E below) (column_reversed p h' l xs C)
    (λ j m. found_value p w k l t ms c S E below j m ∙ sym (value_same p w k l t ys c (at j) (same j m)) ∙ sym (value_is p w k l t xs S C (at j) (inside j m))))
    ∙ bit_reversed_twice l xs C.long
  where
    h' : 0 < p
    h' = omega (arith, S.root.odd)

    ys : List ℕ
    ys = coded p w k l t xs

    at : ℕ → ℕ
    at j = get_or (survivors l ms) j 0

    inside : (j : ℕ) → j < 2 ^ l → at j < 2 ^ suc l
    inside j m = omega (arith, (survivors_are ms 0 (2 ^ suc l)).high j (omega arith))

    same : (j : ℕ) → j < 2 ^ l → get_or ys (at j) 0 ≡ get_or c (at j) 0
    same j m = A.same (at j) (inside j m) ((survivors_are ms 0 (2 ^ suc l)).kept j (omega arith))

    below : (j : ℕ) → j < 2 ^ l → get_or c (at j) 0 < p
    below j m = subst (λ (x : ℕ). x < p) (same j m) ((words_coded p h' w k l t C.words).word (at j))

pub finds_column : FindsColumn
unfolding consistent_column
finds_column p w k l t ms c xs S E C A =
    let e : decoded_column p w k l t ms c ≡ xs = decoded_same p w k l t ms c xs S E C A in
    (ap (λ (x : List ℕ). agrees ms (2 ^ suc l) (coded p w k l t x) c) e ∙ agrees_true ms (2 ^ suc l) (coded p w k l t xs) c A, e)

pub found_column_lem : FoundColumn
unfolding consistent_column
found_column_lem p w k l t ms c S E C e =
    let h' : 0 < p = omega (arith, S.root.odd) in (
      rw decoded_is (column_reversed p h' l (found p w k l t ms c) (found_column p w k l t ms c S E (λ j m. C.words.word _))),
      agrees_same ms (2 ^ suc l) _ c e,
    )
