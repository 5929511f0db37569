-- The decoder's steps on rows: what a part holds after each, that the check is `consistent`, and that what is left is `rows_left`. Assumes nothing.
use mathlib.Core.Path.{◌≡◌, refl, sym, ap, ap₂, ◌∙◌}
use mathlib.Core.Bool.{Bool, true, false, ◌||◌}
use mathlib.Core.List.{List, ◌++◌}
use Prim.Native.Nat.{ℕ, suc, ◌+◌, ◌*◌, ◌^◌, ◌<◌}
use native.Mathlib.Omega.{arith}
use lib.Dec.{ltb, eqb}
use lib.ListN.{length, get_or, replicate}
use Rattle.field.specs.Power.{inverse}
use Rattle.field.specs.Words.{Words}
use Rattle.code.specs.Transform.{reversed}
use Rattle.code.specs.Rows.{column, lifted, Column}
use Rattle.decoder.specs.Decoding.{decoded_column, consistent_column, consistent, decoded_rows}
use Rattle.decoder.specs.steps.Decoder.{rows_left}
use Rattle.decoder.specs.steps.Decoder as Decoder
use Rattle.decoder.specs.steps.Decoder.{erased_count, factors, weighed, is_low, halves_column, interpolated_column, is_low_column}
use Rattle.decoder.specs.steps.RowTests.{all_to, same_at, low_row_at, low_rows}
use Rattle.decoder.specs.Promises.{Parameters, Enough}
use Rattle.code.proofs.Lifting.{length_column, column_at, words_column, length_lifted, column_lifted, lifted_id, lifted_same, lifted_then, words_lifted}
use Rattle.decoder.proofs.Columns.{finds_column, found_column_lem}
use Rattle.decoder.proofs.BlockDecoding.{consistent_all, each_consistent}
use Rattle.decoder.proofs.Folding.{low_all}
use Rattle.decoder.proofs.Decoder.{solves, low}
use Rattle.decoder.proofs.DecoderShapes.{length_weighed, length_halves_unmixed, words_weighed, words_halves_unmixed}
use Rattle.decoder.proofs.Intact.{weighed_none, unscaled_column}
use Rattle.field.proofs.Booleans.{same_truth}
use Rattle.decoder.proofs.AllTo.{all_to_same, all_to_swap, or_all_to}

-- A COLUMN passes the check where it is consistent, and what is interpolated is then what is decoded
module _ (p w k l t : ℕ) (ms : List Bool) (stripe : Parameters p w k l t) (enough : Enough l ms) (c : List ℕ) (C : Column p (2 ^ suc l) c) where
  low_finds : is_low_column p w k l t ms c ≡ true → consistent_column p w k l t ms c ≡ true
  low_finds e =
      let x = low p w k l t ms c stripe enough C e in
      (finds_column p w k l t ms c x.0 stripe enough x.1 x.2).0

  found_solves : consistent_column p w k l t ms c ≡ true
      → (is_low_column p w k l t ms c ≡ true) × (interpolated_column p w k l t ms c ≡ decoded_column p w k l t ms c)
  found_solves e =
      let x = found_column_lem p w k l t ms c stripe enough C e in
      solves p w k l t ms c (decoded_column p w k l t ms c) stripe enough x.0 x.1

  low_consistent : is_low_column p w k l t ms c ≡ consistent_column p w k l t ms c
  low_consistent = same_truth (is_low_column p w k l t ms c) (consistent_column p w k l t ms c) low_finds (λ e. (found_solves e).0)

-- THE TEST OF ROWS is that of each column
low_columns : (l e width : ℕ) (r : List ℕ) → low_rows l e width r ≡ all_to width (λ j. is_low l e (column width (2 ^ suc l) j r))
unfolding low_row_at same_at
low_columns l e width r =
    all_to_same (2 ^ l) (low_row_at l e width r) (λ i. all_to width (test i))
    (λ i h. or_all_to (ltb (reversed l i) e) width (same_at (i * width) (2 ^ l * width + i * width) r))
    ∙ all_to_swap (2 ^ l) width test
    ∙ all_to_same width (λ j. all_to (2 ^ l) (λ i. test i j)) (λ j. is_low l e (column width (2 ^ suc l) j r))
    (λ j b. all_to_same (2 ^ l) (λ i. test i j) (of_column (column width (2 ^ suc l) j r)) (λ i h. same i j h)
    ∙ sym (low_all l e (2 ^ l) (column width (2 ^ suc l) j r)))
  where
    test : ℕ → ℕ → Bool
    test i j = ltb (reversed l i) e || same_at (i * width) (2 ^ l * width + i * width) r j

    of_column : List ℕ → ℕ → Bool
    of_column c i = ltb (reversed l i) e || eqb (get_or c i 0) (get_or c (2 ^ l + i) 0)

    same : (i j : ℕ) → i < 2 ^ l → test i j ≡ of_column (column width (2 ^ suc l) j r) i
    same i j h =
        ap₂ (λ (x y : ℕ). ltb (reversed l i) e || eqb x y) (sym (column_at width (2 ^ suc l) j r i (omega arith)))
        (ap (λ (q : ℕ). get_or r q 0) {x = 2 ^ l * width + i * width + j} {y = (2 ^ l + i) * width + j} (omega arith)
        ∙ sym (column_at width (2 ^ suc l) j r (2 ^ l + i) (omega arith)))

-- WHAT DECODING LEAVES, by the check
module _ (p w k l t width : ℕ) (ms : List Bool) (r : List ℕ) where
  pub leaves_blocks : consistent p w k l t width ms r ≡ true → rows_left p w k l t width ms r ≡ decoded_rows p w k l t width ms r ++ replicate (2 ^ l * width) 0
  unfolding rows_left
  leaves_blocks e = rw (e, rows_left)

  pub leaves_zeros : consistent p w k l t width ms r ≡ false → rows_left p w k l t width ms r ≡ replicate (2 ^ suc l * width) 0
  unfolding rows_left
  leaves_zeros e = rw (e, rows_left)

-- WHAT ROWS BECOME by steps on their columns: n rows of `width` words are m rows now, f of each column
pub record Holds (p width n m : ℕ) (rows : List ℕ) (f : List ℕ → List ℕ) (part : List ℕ) : Type 0 where
  pub long : (c : List ℕ) → length c ≡ n → length (f c) ≡ m
  pub words : (c : List ℕ) → Column p n c → Words p (f c)
  pub is : part ≡ lifted width n m f rows

pub holds_start : (p width n : ℕ) (rows : List ℕ) → length rows ≡ n * width → Holds p width n n rows (λ c. c) rows
holds_start p width n rows e = record { long = λ c h. h; words = λ c C. C.words; is = sym (lifted_id width n rows e) }

column_of : (p width n : ℕ) {rows : List ℕ} → Words p rows → (j : ℕ) → Column p n (column width n j rows)
column_of p width n {rows} u j = record { long = length_column width n j rows; words = words_column p width n j u }

module _ {p width n m : ℕ} {rows part : List ℕ} {f : List ℕ → List ℕ} (h : Holds p width n m rows f part) where
  pub holds_length : length part ≡ m * width
  holds_length = ap length h.is ∙ length_lifted width n m f rows

  pub holds_words : 0 < p → Words p rows → Words p part
  holds_words z u = rw h.is (words_lifted p width n m f rows z (λ j _. h.words (column width n j rows) (column_of p width n u j)))

  -- a step more
  pub holds_next : {o : ℕ} {g : List ℕ → List ℕ} {x : List ℕ} → ((c : List ℕ) → length c ≡ m → length (g c) ≡ o)
      → ((c : List ℕ) → Words p c → Words p (g c)) → x ≡ lifted width m o g part → Holds p width n o rows (λ c. g (f c)) x
  holds_next {o} {g} long words e = record {
    long = λ c q. long (f c) (h.long c q);
    words = λ c C. words (f c) (h.words c C);
    is = e ∙ ap (lifted width m o g) h.is ∙ lifted_then width n m o f g rows h.long;
  }

-- THE STEPS of a decoding: the rows weighed, the check, and the blocks, with erased positions and without
module _ (p w k l t width : ℕ) (ms : List Bool) {rows : List ℕ} (stripe : Parameters p w k l t) (enough : Enough l ms) (u : Words p rows) where
  abbrev n : ℕ
  n = 2 ^ suc l

  abbrev weighing : List ℕ → List ℕ
  weighing c = weighed p l ms (factors p w k l ms) c

  abbrev unmixing : List ℕ → List ℕ
  unmixing c = halves_column p w k l t ms c

  positive : 0 < p
  positive = omega (arith, stripe.prime.big)

  pub weighed_holds : {ws x : List ℕ} → ws ≡ factors p w k l ms → x ≡ lifted width n n (weighed p l ms ws) rows → Holds p width n n rows weighing x
  weighed_holds e ex = record {
    long = λ c _. length_weighed p l ms (factors p w k l ms) c;
    words = λ c _. words_weighed p positive l ms (factors p w k l ms) c;
    is = ex ∙ ap (λ (v : List ℕ). lifted width n n (weighed p l ms v) rows) e;
  }

  pub spared_holds : erased_count l ms ≡ 0 → length rows ≡ n * width → Holds p width n n rows weighing rows
  spared_holds e long =
      weighed_holds refl (sym (lifted_id width n rows long)
      ∙ lifted_same width n n (λ c. c) weighing rows
      (λ j _. sym (weighed_none p w k l ms stripe.prime.big e (column width n j rows) (column_of p width n u j))))

  pub halves_holds : {part x : List ℕ} → Holds p width n n rows weighing part → x ≡ lifted width n n (Decoder.halves_unmixed p (inverse p w) k l t) part
      → Holds p width n n rows unmixing x
  halves_holds h = holds_next h (length_halves_unmixed p l (inverse p w) k t) (λ c v. words_halves_unmixed p positive l (inverse p w) k t v)

  pub check_is : {e : ℕ} {part : List ℕ} → Holds p width n n rows unmixing part → e ≡ erased_count l ms
      → low_rows l e width part ≡ consistent p w k l t width ms rows
  check_is {part = part} h q =
      let e = erased_count l ms in
      let at : ℕ → List ℕ = λ j. column width n j rows in
      ap (λ (i : ℕ). low_rows l i width part) q ∙ low_columns l e width part
      ∙ all_to_same width (λ j. is_low l e (column width n j part)) (λ j. consistent_column p w k l t ms (at j))
      (λ j b. ap (λ (r : List ℕ). is_low l e (column width n j r)) h.is
      ∙ ap (is_low l e) (column_lifted width n n unmixing rows j b (h.long (at j) (length_column width n j rows)))
      ∙ low_consistent p w k l t ms stripe enough (at j) (column_of p width n u j))
      ∙ sym (consistent_all p w k l t width ms rows width)

  module _ (c : consistent p w k l t width ms rows ≡ true) where
    pub interpolated_blocks : {ws part x : List ℕ} → Holds p width n n rows unmixing part → ws ≡ factors p w k l ms
        → x ≡ lifted width n (2 ^ l) (Decoder.interpolated p w k l ms ws) part → x ≡ decoded_rows p w k l t width ms rows
    unfolding decoded_rows
    interpolated_blocks {ws} {part} h e ex =
        ex ∙ ap₂ (λ (v r : List ℕ). lifted width n (2 ^ l) (Decoder.interpolated p w k l ms v) r) e h.is
        ∙ lifted_then width n n (2 ^ l) unmixing (Decoder.interpolated p w k l ms (factors p w k l ms)) rows h.long
        ∙ lifted_same width n (2 ^ l) (interpolated_column p w k l t ms) (decoded_column p w k l t ms) rows
        (λ j b. (found_solves p w k l t ms stripe enough (column width n j rows) (column_of p width n u j) (each_consistent p w k l t width ms rows c j b)).1)

    pub unscaled_blocks : {part x : List ℕ} → Holds p width n n rows unmixing part → erased_count l ms ≡ 0
        → x ≡ lifted width n (2 ^ l) (Decoder.unscaled p l) part → x ≡ decoded_rows p w k l t width ms rows
    unfolding decoded_rows
    unscaled_blocks {part} h e ex =
        ex ∙ ap (lifted width n (2 ^ l) (Decoder.unscaled p l)) h.is
        ∙ lifted_then width n n (2 ^ l) unmixing (Decoder.unscaled p l) rows h.long
        ∙ lifted_same width n (2 ^ l) (λ d. Decoder.unscaled p l (unmixing d)) (decoded_column p w k l t ms) rows
        (λ j b. unscaled_column p w k l t ms stripe enough e (column width n j rows) (column_of p width n u j)
        (each_consistent p w k l t width ms rows c j b))
