-- A stripe decoded and laid by ranges of its columns: what holds before each range, what a range makes of it, and what its ends answer. Assumes nothing.
use mathlib.Core.Path.{◌≡◌, refl, sym, ap, ap₂, ◌∙◌}
use mathlib.Core.Bool.{Bool, true, false, ◌&&◌}
use mathlib.Core.List.{List, ◌++◌, append_assoc}
use Prim.Native.Nat.{ℕ, zero, suc, ◌+◌, ◌*◌, ◌^◌, ◌≤◌, ◌<◌}
use native.Mathlib.Decide.{dec_lt}
use native.Mathlib.Omega.{arith}
use borrow.Author.Tests.{le-ltb}
use lib.ListN.{length, take, drop, replicate, length-replicate, length-drop, length-append}
use lib.Pow.{pow_mono}
use lib.Seq.{take_all, take_at, length-take-le}
use Rattle.code.specs.declared.Stripe.{Stripe}
use Rattle.code.specs.declared.Range.{Range}
use Rattle.code.specs.Rows.{column}
use Rattle.code.specs.Stripe.{modulus_of, root_in, block_count, stripe_words}
use Rattle.decoder.specs.Decoding.{survivors, consistent_to, consistent_column, is_consistent, blocks_in}
use Rattle.field.proofs.Booleans.{both_true, first_false, second_false}
use Rattle.image.specs.Loading.{are_below, rows_in}
use Rattle.image.specs.steps.Loading.{columns_of}
use Rattle.judging.specs.Decoding.{Decoded, failed, decoded, are_records, from_test8, decode_rows, decoded_number}
use Rattle.judging.specs.declared.records.Fit.{Fit}
use Rattle.judging.specs.steps.Judging.{all_fit, Judged}
use Rattle.judging.specs.steps.Ready.{Ready}
use Rattle.judging.specs.StripeFits.{StripeFits}
use Rattle.judging.proofs.Judging.{any_fit, none_held, MarksTo, marks_none, marks_range, held_before, held_records, held_below, held_place}
use Rattle.judging.proofs.ColumnRanges.{consistent_range, length_columns, length_decoded}
use Rattle.range_decoding.specs.steps.Ranges.{RangeFits, is_consistent_range, range_number}
use Rattle.range_laying.specs.declared.Content.{Content}
use Rattle.range_laying.specs.steps.Blocks.{row_words, lay_blocks, laid_from, laid_range, Placed}
use Rattle.range_laying.proofs.LaidRanges.{LaidTo, laid_start, laid_first, laid_placed, laid_next, laid_all}

-- a column that is not consistent makes all of them so
less_consistent : (p w k l t width : ℕ) (ms : List Bool) (r : List ℕ) (i n : ℕ) → i ≤ n → consistent_to p w k l t width ms r i ≡ false
    → consistent_to p w k l t width ms r n ≡ false
unfolding consistent_to
less_consistent p w k l t width ms r i zero b e = let z : i ≡ 0 = omega arith in rw z at e
less_consistent p w k l t width ms r i (suc n) b e = by (dec_lt n i) (less_consistent p w k l t width ms r i n)
  where
    by : Dec (n < i) → (i ≤ n → consistent_to p w k l t width ms r i ≡ false → consistent_to p w k l t width ms r n ≡ false)
        → consistent_to p w k l t width ms r (suc n) ≡ false
    by (yes y) rest = let z : i ≡ suc n = omega arith in rw z at e
    by (no y) rest = second_false (consistent_column p w k l t ms (column width (2 ^ suc l) n r)) (rest (omega arith) e)

-- WHAT A STRIPE OF WHICH ENOUGH SURVIVES decodes to, by its tests
abbrev pub by_tests : (below is_consistent are_records : Bool) → (blocks : List ℕ) → Decoded
by_tests b c f bs = elim b [ true ↦ elim c [ true ↦ elim f [ true ↦ decoded bs | false ↦ failed 10 ] | false ↦ failed 9 ] | false ↦ failed 8 ]

module _ (st : Stripe) (ms : List Bool) (ws : List ℕ) where
  abbrev pub rows : List ℕ
  rows = rows_in st ms ws

  abbrev pub blocks : List ℕ
  blocks = blocks_in st ms rows

  abbrev below : Bool
  below = are_below (modulus_of st) rows

  abbrev consistent : Bool
  consistent = is_consistent st ms rows

  abbrev records : Bool
  records = are_records st blocks (block_count st)

  by_tests_lem : Ready st ms → decode_rows st ms ws ≡ by_tests below consistent records blocks
  by_tests_lem d =
      ap (λ (b : Bool). elim b [ true ↦ failed 7 | false ↦ from_test8 st ms rows ]) (le-ltb (length (survivors st.level ms)) (block_count st) d.enough)

  module _ (d : Ready st ms) where
    stray : below ≡ false → decode_rows st ms ws ≡ failed 8
    stray b = by_tests_lem d ∙ ap (λ (x : Bool). by_tests x consistent records blocks) b

    module _ (b : below ≡ true) where
      differs : consistent ≡ false → decode_rows st ms ws ≡ failed 9
      differs c = by_tests_lem d ∙ ap₂ (λ (x y : Bool). by_tests x y records blocks) b c

      judged_by : consistent ≡ true → {f : Bool} → records ≡ f → decode_rows st ms ws ≡ by_tests true true f blocks
      judged_by c {f} e = by_tests_lem d ∙ ap₂ (λ (x y : Bool). by_tests x y records blocks) b c ∙ ap (λ (x : Bool). by_tests true true x blocks) e

-- a range whose number is not 0, by its tests
data Refused (b c : Bool) (n : ℕ) : Type 0 where
  by_eight : b ≡ false → n ≡ 8 → Refused b c n
  by_nine : b ≡ true → c ≡ false → n ≡ 9 → Refused b c n

refused : {b c : Bool} {n : ℕ} → n ≡ range_number b c → (n ≡ 0 → ⊥) → Refused b c n
unfolding range_number
refused {b} {c} {n} e z = by b c refl refl e
  where
    by : (b' c' : Bool) → b ≡ b' → c ≡ c' → n ≡ range_number b' c' → Refused b c n
    by true true x y e = absurd (z e)
    by true false x y e = by_nine x y e
    by false c' x y e = by_eight x e

taken : {b c : Bool} {n : ℕ} → n ≡ range_number b c → n ≡ 0 → (b ≡ true) × (c ≡ true)
unfolding range_number
taken {b} {c} {n} e z = by b c refl refl (sym e ∙ z)
  where
    by : (b' c' : Bool) → b ≡ b' → c ≡ c' → range_number b' c' ≡ 0 → (b ≡ true) × (c ≡ true)
    by true true x y e = (x, y)
    by true false x y e = absurd (omega arith)
    by false c' x y e = absurd (omega arith)

-- the blocks' words stand first in a part that is lent, and what is lent does not change the length
pub first_words : {b n : ℕ} (cols : ℕ) {x part : List ℕ} (zs rest : List ℕ) → b ≡ n → length x ≡ n * cols → part ≡ x ++ zs → take (b * cols) (part ++ rest) ≡ x
first_words {b} {n} cols {x} {part} zs rest e k q =
    rw (q, append_assoc) (take_at x (zs ++ rest) (b * cols) (rw e k))

pub same_length : (n : ℕ) (s part : List ℕ) → n ≤ length s → length part ≡ length (take n s) → length (part ++ drop n s) ≡ length s
same_length n s part b e = length-append part (drop n s) ∙ omega (arith, e, length-take-le n s b, length-drop n s)

-- THE LOOP before the range from column `from` on: `fits` are the marks of the blocks, `fit` says whether all may be records, and only while they may is
-- anything laid. A level's first range is its only one
module _ (c : Content) (st : Stripe) (ms : List Bool) (ws : List ℕ) where
  abbrev are_consistent : (from : ℕ) → Bool
  are_consistent from = consistent_to (modulus_of st) (root_in st) st.k st.level st.first st.width ms (rows st ms ws) from

  pub record Ranging (room : ℕ) (o₀ o s : List ℕ) (fits : List Fit) (fit : Bool) (from : ℕ) : Type 0 where
    pub turns : from ≤ st.width
    pub sized : length s ≡ room
    pub same : length o ≡ length o₀
    pub wide : block_count st ≤ length fits
    pub below : 0 < from → are_below (modulus_of st) (rows st ms ws) ≡ true
    pub agreed : are_consistent from ≡ true
    pub marked : MarksTo st (blocks st ms ws) from fits
    pub judged : fit ≡ all_fit fits (block_count st)
    pub laid : fit ≡ true → LaidTo c st (blocks st ms ws) from o₀ o
    pub untouched : st.level < st.k → fit ≡ false → o ≡ o₀

  pub ranging_start : (o s : List ℕ) → StripeFits st → Ranging (length s) o o s (replicate 1024 any_fit) true 0
  unfolding consistent_to
  ranging_start o s f =
      let few : block_count st ≤ 1024 = pow_mono {i = st.level} {j = 10} (omega (arith, f.numbers.within, f.numbers.small)) in
      record {
        turns = omega arith;
        sized = refl;
        same = refl;
        wide = rw length-replicate few;
        below = λ z. absurd (omega arith);
        agreed = refl;
        marked = marks_none st (blocks st ms ws) 1024 few;
        judged = sym (none_held (block_count st) 1024 few);
        laid = λ e. laid_start c st (blocks st ms ws) o;
        untouched = λ w e. refl;
      }

  module _ {room : ℕ} {o₀ o s : List ℕ} {fits : List Fit} {fit : Bool} {from : ℕ} (R : Ranging room o₀ o s fits fit from) where
    module _ {range : Range} (f : RangeFits st from room range) {number : ℕ}
        (e : number ≡ range_number (are_below (modulus_of st) (rows st ms ws)) (is_consistent_range st ms (rows st ms ws) range)) where
      more_consistent : are_consistent (range.from + range.cols) ≡ (is_consistent_range st ms (rows st ms ws) range && are_consistent range.from)
      more_consistent = consistent_range (modulus_of st) (root_in st) st.k st.level st.first ms st.width (rows st ms ws) range.from range.cols

      range_differs : is_consistent_range st ms (rows st ms ws) range ≡ false → is_consistent st ms (rows st ms ws) ≡ false
      range_differs q =
          less_consistent (modulus_of st) (root_in st) st.k st.level st.first st.width ms (rows st ms ws) (range.from + range.cols) st.width f.within
          (more_consistent ∙ first_false (are_consistent range.from) q)

      -- a level that has a range left is not laid yet
      level_kept : StripeFits st → length o₀ ≡ 2 ^ st.k * row_words c st → st.level < st.k → o ≡ o₀
      level_kept d m w = by fit refl
        where
          by : (b : Bool) → fit ≡ b → o ≡ o₀
          by true e = (R.laid e).none (laid_first (R.laid e) d m w (omega (arith, f.begins, f.some, f.within)))
          by false e = R.untouched w e

      -- a range that is refused: its number is the stripe's
      pub range_stops : Ready st ms → (number ≡ 0 → ⊥) → number ≡ decoded_number (decode_rows st ms ws)
      range_stops d z = by (refused e z)
        where
          by : Refused (are_below (modulus_of st) (rows st ms ws)) (is_consistent_range st ms (rows st ms ws) range) number
              → number ≡ decoded_number (decode_rows st ms ws)
          by (by_eight b n) = n ∙ sym (ap decoded_number (stray st ms ws d b))
          by (by_nine b q n) = n ∙ sym (ap decoded_number (differs st ms ws d b (range_differs q)))

      -- and a level's output is as it was
      pub range_left : Ready st ms → (number ≡ 0 → ⊥) → length o₀ ≡ 2 ^ st.k * row_words c st → st.level < st.k
          → o ≡ laid_from (lay_blocks c st) (decode_rows st ms ws) o₀
      range_left d z m w = by (refused e z)
        where
          left : {n : ℕ} → decode_rows st ms ws ≡ failed n → o ≡ laid_from (lay_blocks c st) (decode_rows st ms ws) o₀
          left q = level_kept d.fits m w ∙ sym (ap (λ (x : Decoded). laid_from (lay_blocks c st) x o₀) q)

          by : Refused (are_below (modulus_of st) (rows st ms ws)) (is_consistent_range st ms (rows st ms ws) range) number
              → o ≡ laid_from (lay_blocks c st) (decode_rows st ms ws) o₀
          by (by_eight b n) = left (stray st ms ws d b)
          by (by_nine b q n) = left (differs st ms ws d b (range_differs q))

      -- a range that is taken, its blocks' words l, and the marks after it
      module _ (z : number ≡ 0) {l : List ℕ} (q : l ≡ columns_of st.width range.from range.cols (block_count st) (blocks st ms ws))
          {fits' : List Fit} {fit' : Bool} (J : Judged st range.from range.cols l fits fits') (h : fit' ≡ all_fit fits' (block_count st)) where
        front : take (block_count st * range.cols) l ≡ columns_of st.width range.from range.cols (block_count st) (blocks st ms ws)
        front =
            let x = columns_of st.width range.from range.cols (block_count st) (blocks st ms ws) in
            ap (take (block_count st * range.cols)) q
            ∙ take_all (block_count st * range.cols) x (omega (arith, length_columns st.width range.from range.cols (block_count st) (blocks st ms ws)))

        size : length (blocks st ms ws) ≡ block_count st * st.width
        size = length_decoded (modulus_of st) (root_in st) st.k st.level st.first ms st.width (rows st ms ws)

        marked_more : MarksTo st (blocks st ms ws) (range.from + range.cols) fits'
        marked_more =
            let bs = blocks st ms ws in
            let M : MarksTo st bs range.from fits = rw f.begins R.marked in
            marks_range st range.from range.cols bs l f.some f.within size front M J

        fit_before : fit' ≡ true → fit ≡ true
        fit_before t = R.judged ∙ held_before J (sym h ∙ t)

        module _ (d : StripeFits st) (m : length o₀ ≡ 2 ^ st.k * row_words c st) (enough : st.level < st.k → stripe_words st ≤ room) where
          pub range_placed : fit' ≡ true → st.level < st.k → Placed c st range l o
          range_placed t w =
              laid_placed (R.laid (fit_before t)) d m size range f.begins f.some f.within (λ v. f.whole (enough v)) l q w
              (λ j b. held_below marked_more (omega (arith, f.some)) (sym h ∙ t) j b w)

          pub range_taken : {o' s' : List ℕ} → length s' ≡ length s → length o' ≡ length o → (fit' ≡ true → o' ≡ laid_range c st range l o)
              → (fit' ≡ false → o' ≡ o) → Ranging room o₀ o' s' fits' fit' (from + range.cols)
          range_taken {o'} {s'} n k x y =
              let b = taken e z in
              let at : from + range.cols ≡ range.from + range.cols = ap (λ (i : ℕ). i + range.cols) (sym f.begins) in
              record {
                turns = rw at f.within;
                sized = n ∙ R.sized;
                same = k ∙ R.same;
                wide = rw J.same R.wide;
                below = λ _. b.0;
                agreed = rw at (more_consistent ∙ both_true b.1 (rw f.begins R.agreed));
                marked = rw at marked_more;
                judged = h;
                laid = λ t.
                    laid_next (R.laid (fit_before t)) d m size range f.begins f.some f.within (λ v. f.whole (enough v)) l q (x t);
                untouched = λ w t. y t ∙ level_kept d m w;
              }

    -- all ranges
    module _ (last : st.width ≤ from) (d : Ready st ms) where
      all_from : from ≡ st.width
      all_from = omega (arith, R.turns)

      fit_is : are_records st (blocks st ms ws) (block_count st) ≡ fit
      fit_is = sym (R.judged
          ∙ held_records (omega (arith, d.fits.thick)) (rw all_from at R.marked))

      all_ranges : {b : Bool} → fit ≡ b → decode_rows st ms ws ≡ by_tests true true b (blocks st ms ws)
      all_ranges e = judged_by st ms ws d (R.below (omega (arith, d.fits.thick))) (rw all_from at R.agreed) (fit_is ∙ e)

      pub ranges_ten : fit ≡ false → 10 ≡ decoded_number (decode_rows st ms ws)
      ranges_ten e = sym (ap decoded_number (all_ranges e))

      pub ranges_zero : fit ≡ true → 0 ≡ decoded_number (decode_rows st ms ws)
      ranges_zero e = sym (ap decoded_number (all_ranges e))

      pub ranges_laid : fit ≡ true → length o₀ ≡ 2 ^ st.k * row_words c st → o ≡ laid_from (lay_blocks c st) (decode_rows st ms ws) o₀
      ranges_laid e m =
          laid_all (rw all_from at (R.laid e)) d.fits m
          (length_decoded (modulus_of st) (root_in st) st.k st.level st.first ms st.width (rows st ms ws))
          (λ w j b. held_place (rw all_from at R.marked) (omega (arith, d.fits.thick)) (sym R.judged ∙ e) j b w)
          ∙ sym (ap (λ (x : Decoded). laid_from (lay_blocks c st) x o₀) (all_ranges e))

      pub ranges_left : fit ≡ false → st.level < st.k → o ≡ laid_from (lay_blocks c st) (decode_rows st ms ws) o₀
      ranges_left e w = R.untouched w e ∙ sym (ap (λ (x : Decoded). laid_from (lay_blocks c st) x o₀) (all_ranges e))
