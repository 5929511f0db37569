-- Test 10, range by range of columns: laws of specs/steps/Judging, and the loop that judges the words of a range. Assumes nothing.
use mathlib.Core.Path.{◌≡◌, refl, sym, ap, ap₂, ◌∙◌}
use mathlib.Core.Bool.{Bool, true, false, ◌&&◌, ◌||◌, and_assoc, and_comm, and-or_distrib_left}
use mathlib.Core.Logic.{⊎_elim}
use mathlib.Core.List.{List, ◌++◌}
use Prim.Native.Nat.{ℕ, zero, suc, pred, ◌+◌, ◌*◌, ◌-◌, ◌^◌, ◌≤◌, ◌<◌}
use native.Mathlib.Numerals.{add-one}
use native.Mathlib.Decide.{dec_lt}
use native.Mathlib.Omega.{arith}
use borrow.Author.Tests.{ltb-true, eqb-true, eq-eqb, ne_eqb}
use lib.Dec.{eqb, ltb}
use lib.ListN.{length, get_or, set, take, drop, replicate, length-set, length-drop, length-append, get_or-append, get_or-replicate}
use Rattle.std.proofs.lemmas.List.{drop-take}
use Rattle.std.proofs.lemmas.Bool.{or_left, or_right, or_cases}
use lib.Seq.{get_or-set_same, get_or-set_other, take-length, length-take-le, get_or-take, get_or-drop, drop-drop}
use Rattle.code.specs.declared.Stripe.{Stripe}
use Rattle.code.specs.Stripe.{block_count}
use Rattle.code.proofs.Lifting.{row_in}
use Rattle.layout.specs.Records.{is_data, is_struck_word}
use Rattle.field.specs.Words.{every}
use Rattle.field.proofs.WordLists.{part_inside}
use Rattle.field.proofs.EveryWord.{every_parts}
use Rattle.field.proofs.Booleans.{both_true, first_true, second_true, first_false}
use Rattle.image.specs.steps.Loading.{columns_of}
use Rattle.judging.specs.declared.records.Fit.{Fit}
use Rattle.judging.specs.Decoding.{number_fits, block_number, block_data, is_record, are_records}
use Rattle.judging.specs.steps.Judging.{fits_to, row_fits, no_fit, mark_at, Judged, all_fit}
use Rattle.judging.proofs.ColumnRanges.{row_of}

-- THE WORDS OF ONE BLOCK in a range: those that pass the test, after the number where the range is the first
module _ (f : ℕ → Bool) (st : Stripe) (row : List ℕ) (j : ℕ) where
  pub row_first : (from : ℕ) → from ≤ 0 → row_fits f st from row j ≡ (number_fits st j (get_or row 0 0) && every f (drop 1 row))
  unfolding row_fits
  row_first zero h = refl
  row_first (suc from) h = absurd (omega arith)

  pub row_later : (from : ℕ) → 0 < from → row_fits f st from row j ≡ every f row
  unfolding row_fits
  row_later from h = rw (ne_eqb from 0 (λ e. omega arith), row_fits)

-- what `number_fits` is of a number, with n in the place of 2 ^ st.k, as the code has counted the records
abbrev pub fits_below : Stripe → (n j number : ℕ) → Bool
fits_below st n j x = elim (eqb st.level st.k) [ true ↦ eqb x j | false ↦ ltb x n ]

module _ (f : ℕ → Bool) (st : Stripe) (n from : ℕ) (row : List ℕ) (j : ℕ) (e : n ≡ 2 ^ st.k) (h : from ≤ 0) where
  first_number : row_fits f st from row j ≡ (fits_below st n j (get_or row 0 0) && every f (drop 1 row))
  first_number = row_first f st row j from h ∙ rw e refl

  pub first_refused : fits_below st n j (get_or row 0 0) ≡ false → row_fits f st from row j ≡ false
  first_refused r = first_number ∙ first_false (every f (drop 1 row)) r

  pub first_fits : fits_below st n j (get_or row 0 0) ≡ true → row_fits f st from row j ≡ every f (take (length row - 1) (drop 1 row))
  first_fits t =
      first_number ∙ ap (λ (b : Bool). b && every f (drop 1 row)) t
      ∙ ap (every f) (sym (take-length (drop 1 row)) ∙ ap (λ (m : ℕ). take m (drop 1 row)) (length-drop 1 row))

-- A MARK, as its two fields, and whether its block may still be a record
abbrev pub plain_of : Fit → Bool
plain_of m = m.plain

abbrev pub struck_of : Fit → Bool
struck_of m = m.struck

abbrev may_fit : Fit → Bool
may_fit m = m.plain || m.struck

-- the marks behind do not matter
fit_same : (fs gs : List Fit) (n : ℕ) → ((j : ℕ) → j < n → mark_at fs j ≡ mark_at gs j) → all_fit fs n ≡ all_fit gs n
unfolding all_fit
fit_same fs gs zero e = refl
fit_same fs gs (suc n) e = ap₂ ◌&&◌ (ap may_fit (e n (omega arith))) (fit_same fs gs n (λ j b. e j (omega arith)))

-- WHAT THE WORDS OF A RANGE SAY of the first n blocks by a test f, in the field g of the marks
pub record Said (f : ℕ → Bool) (g : Fit → Bool) (st : Stripe) (from cols : ℕ) (words : List ℕ) (before after : List Fit) (n : ℕ) : Type 0 where
  pub each : (i : ℕ) → i < n → g (mark_at after i) ≡ (g (mark_at before i) && row_fits f st from (take cols (drop (i * cols) words)) i)

-- of one block more, where its mark is as it was, and becomes m
said_more : {f : ℕ → Bool} {g : Fit → Bool} {st : Stripe} {from cols : ℕ} {words : List ℕ} {before fits : List Fit} {j : ℕ} (m : Fit)
    → Said f g st from cols words before fits j → j < length fits
    → g m ≡ (g (mark_at before j) && row_fits f st from (take cols (drop (j * cols) words)) j) → Said f g st from cols words before (set fits j m) (j + 1)
said_more {f} {g} {st} {from} {cols} {words} {before} {fits} {j} m S b e = record { each = λ i h. by i h (dec_lt i j) }
  where
    by : (i : ℕ) → i < j + 1 → Dec (i < j)
        → g (mark_at (set fits j m) i) ≡ (g (mark_at before i) && row_fits f st from (take cols (drop (i * cols) words)) i)
    by i h (yes y) = ap g (get_or-set_other fits j i m no_fit (λ q. omega arith)) ∙ S.each i y
    by i h (no y) = let q : i ≡ j = omega arith in rw q (ap g (get_or-set_same fits j m no_fit b) ∙ e)

-- THE LOOP that judges the words of blocks, after j of them
pub record JudgeLoop (st : Stripe) (from cols : ℕ) (words : List ℕ) (before fits : List Fit) (all : Bool) (j : ℕ) : Type 0 where
  pub same : length fits ≡ length before
  pub plain : Said is_data plain_of st from cols words before fits j
  pub struck : Said is_struck_word struck_of st from cols words before fits j
  pub left : (i : ℕ) → j ≤ i → mark_at fits i ≡ mark_at before i
  pub held : all ≡ all_fit fits j

pub judge_start : (st : Stripe) (from cols : ℕ) (words : List ℕ) (before : List Fit) → JudgeLoop st from cols words before before true 0
unfolding all_fit
judge_start st from cols words before = record {
  same = refl;
  plain = record { each = λ i b. absurd (omega arith) };
  struck = record { each = λ i b. absurd (omega arith) };
  left = λ i b. refl;
  held = refl;
}

module _ {st : Stripe} {from cols : ℕ} {words : List ℕ} {before fits : List Fit} {all : Bool} {j : ℕ}
    (J : JudgeLoop st from cols words before fits all j) where
  -- the code's row has its length as a difference
  abbrev row : List ℕ
  row = take (j * cols + cols - j * cols) (drop (j * cols) words)

  -- the mark's field g, and what the test f says of the row
  field : (f : ℕ → Bool) (g : Fit → Bool) {r : Bool} → r ≡ row_fits f st from row j
      → (g (mark_at fits j) && r) ≡ (g (mark_at before j) && row_fits f st from (take cols (drop (j * cols) words)) j)
  field f g e =
      ap₂ ◌&&◌ (ap g (J.left j (omega arith)))
      (e ∙ ap (λ (m : ℕ). row_fits f st from (take m (drop (j * cols) words)) j) {x = j * cols + cols - j * cols} {y = cols} (omega arith))

  module _ {r : Fit} (b : j < length before) (p : r.plain ≡ row_fits is_data st from row j) (s : r.struck ≡ row_fits is_struck_word st from row j) where
    abbrev fine : Fit
    fine = record { plain = (mark_at fits j).plain && r.plain; struck = (mark_at fits j).struck && r.struck }

    other : (i : ℕ) → (i ≡ j → ⊥) → mark_at (set fits j fine) i ≡ mark_at fits i
    other i d = get_or-set_other fits j i fine no_fit d

    all_held : (all && may_fit fine) ≡ all_fit (set fits j fine) (suc j)
    unfolding all_fit
    all_held =
        and_comm all (may_fit fine)
        ∙ ap₂ ◌&&◌ (sym (ap may_fit (get_or-set_same fits j fine no_fit (omega (arith, J.same)))))
        (J.held ∙ fit_same fits (set fits j fine) j (λ i h. sym (other i (λ e. omega arith))))

    pub judge_turn : JudgeLoop st from cols words before (set fits j fine) (all && may_fit fine) (j + 1)
    judge_turn =
        let b' : j < length fits = omega (arith, J.same) in
        record {
          same = length-set fits j fine ∙ J.same;
          plain = said_more fine J.plain b' (field is_data plain_of p);
          struck = said_more fine J.struck b' (field is_struck_word struck_of s);
          left = λ i h. other i (λ e. omega arith) ∙ J.left i (omega arith);
          held = rw add-one all_held;
        }

-- after all n of them, which are the first of the marks that are lent
module _ {st : Stripe} {from cols : ℕ} {words : List ℕ} (before : List Fit) {fits : List Fit} {all : Bool} {j n : ℕ}
    (J : JudgeLoop st from cols words (take n before) fits all j) (e : n ≡ block_count st) (h : n ≤ length before) (t : length (take n before) ≤ j) where
  long : length (take n before) ≡ n
  long = length-take-le n before h

  mark : (i : ℕ) → i < n → mark_at (fits ++ drop n before) i ≡ mark_at fits i
  mark i b = get_or-append fits (drop n before) no_fit i (omega (arith, J.same, long))

  said_all : {f : ℕ → Bool} {g : Fit → Bool} → Said f g st from cols words (take n before) fits j → (i : ℕ) → i < block_count st
      → g (mark_at (fits ++ drop n before) i) ≡ (g (mark_at before i) && row_fits f st from (take cols (drop (i * cols) words)) i)
  said_all {f} {g} S i b =
      let l : i < n = omega (arith, e) in
      ap g (mark i l) ∙ S.each i (omega (arith, long))
      ∙ ap (λ (m : Fit). g m && row_fits f st from (take cols (drop (i * cols) words)) i) (get_or-take n before i no_fit l)

  pub judged : Judged st from cols words before (fits ++ drop n before)
  judged = record {
    same = omega (arith, length-append fits (drop n before), length-drop n before, J.same, long);
    plain = said_all J.plain;
    struck = said_all J.struck;
  }

  pub judged_all : j ≤ length (take n before) → all ≡ all_fit (fits ++ drop n before) (block_count st)
  judged_all b =
      let k : j ≡ block_count st = omega (arith, e, long) in
      J.held ∙ ap (all_fit fits) k ∙ fit_same fits (fits ++ drop n before) (block_count st) (λ i b. sym (mark i (omega (arith, e))))

-- WHAT A BLOCK'S NUMBER HAS TO BE: below n on a level, its place on the full stripe
pub number_below : (st : Stripe) (j x : ℕ) → st.level < st.k → number_fits st j x ≡ true → x < 2 ^ st.k
number_below st j x b e = ltb-true x (2 ^ st.k) (rw (ne_eqb st.level st.k (λ s. omega arith), number_fits) at e)

pub number_place : (st : Stripe) (j x : ℕ) → st.level ≡ st.k → number_fits st j x ≡ true → x ≡ j
number_place st j x b e = eqb-true x j (rw (eq-eqb st.level st.k b, number_fits) at e)

-- BLOCKS RANGE BY RANGE. By a test of a word, a block fits to the end of a range if it fits to its beginning, and its words in the range do
module _ (f : ℕ → Bool) (st : Stripe) (bs : List ℕ) (j : ℕ) where
  abbrev start : ℕ
  start = j * st.width

  fits_none : fits_to f st bs 0 j ≡ true
  unfolding fits_to
  fits_none = refl

  -- all of its words
  some_words : (c : ℕ) → fits_to f st bs (suc c) j ≡ (number_fits st j (block_number st.width bs j) && every f (take c (drop (suc start) bs)))
  unfolding fits_to
  some_words c = refl

  fits_all : 0 < st.width → fits_to f st bs st.width j ≡ (number_fits st j (block_number st.width bs j) && every f (block_data st.width bs j))
  fits_all h = ap (λ (c : ℕ). fits_to f st bs c j) {x = st.width} {y = suc (pred st.width)} (omega arith) ∙ some_words (pred st.width)

  fits_number : (c : ℕ) → 0 < c → fits_to f st bs c j ≡ true → number_fits st j (block_number st.width bs j) ≡ true
  unfolding fits_to
  fits_number zero h e = absurd (omega arith)
  fits_number (suc c) h e = first_true (number_fits st j (block_number st.width bs j)) (every f (take c (drop (suc start) bs))) e

  -- and those of a range, which stand where they stand in the blocks
  to_range : (from cols : ℕ) → 0 < cols
      → fits_to f st bs (from + cols) j ≡ (fits_to f st bs from j && row_fits f st from (take cols (drop (start + from) bs)) j)
  unfolding fits_to
  to_range from zero h = absurd (omega arith)
  to_range zero (suc c) h =
      let row = take (suc c) (drop (start + 0) bs) in
      let number : get_or row 0 0 ≡ get_or bs start 0 =
      get_or-take (suc c) (drop (start + 0) bs) 0 0 (omega arith) ∙ get_or-drop (start + 0) bs 0 0
      ∙ ap (λ (x : ℕ). get_or bs x 0) {x = start + 0 + 0} {y = start} (omega arith) in
      let behind : drop 1 row ≡ take c (drop (suc start) bs) =
      ap (λ (n : ℕ). drop 1 (take n (drop (start + 0) bs))) {x = suc c} {y = 1 + c} (omega arith) ∙ drop-take 1 c (drop (start + 0) bs)
      ∙ ap (take c) (drop-drop 1 (start + 0) bs ∙ ap (λ (x : ℕ). drop x bs) {x = start + 0 + 1} {y = suc start} (omega arith)) in
      ap (λ (x : ℕ). fits_to f st bs x j) {x = 0 + suc c} {y = suc c} (omega arith) ∙ some_words c
      ∙ ap₂ (λ (x : ℕ) (d : List ℕ). number_fits st j x && every f d) (sym number) (sym behind) ∙ sym (row_first f st row j 0 (omega arith))
  to_range (suc b) (suc c) h =
      let row = take (suc c) (drop (start + suc b) bs) in
      let rest : drop b (drop (suc start) bs) ≡ drop (start + suc b) bs =
      drop-drop b (suc start) bs ∙ ap (λ (x : ℕ). drop x bs) {x = suc start + b} {y = start + suc b} (omega arith) in
      ap (λ (x : ℕ). fits_to f st bs x j) {x = suc b + suc c} {y = suc (b + suc c)} (omega arith) ∙ some_words (b + suc c)
      ∙ ap (λ (b : Bool). number_fits st j (block_number st.width bs j) && b)
      (every_parts f b (suc c) (drop (suc start) bs) ∙ ap (λ (d : List ℕ). every f (take b (drop (suc start) bs)) && every f (take (suc c) d)) rest)
      ∙ sym (and_assoc (number_fits st j (block_number st.width bs j)) (every f (take b (drop (suc start) bs))) (every f row))
      ∙ ap (λ (t : Bool). fits_to f st bs (suc b) j && t) (sym (row_later f st row j (suc b) (omega arith)))

-- THE MARKS OF ALL BLOCKS. The field g of each says whether the block's words in the first c columns fit by the test f
pub record FieldTo (f : ℕ → Bool) (g : Fit → Bool) (st : Stripe) (bs : List ℕ) (c : ℕ) (fits : List Fit) : Type 0 where
  pub each : (j : ℕ) → j < block_count st → g (mark_at fits j) ≡ fits_to f st bs c j

-- both fields
pub record MarksTo (st : Stripe) (bs : List ℕ) (c : ℕ) (fits : List Fit) : Type 0 where
  pub plain : FieldTo is_data plain_of st bs c fits
  pub struck : FieldTo is_struck_word struck_of st bs c fits

-- no column yet: a block may be either
abbrev pub any_fit : Fit
any_fit = record { plain = true; struck = true }

pub marks_none : (st : Stripe) (bs : List ℕ) (n : ℕ) → block_count st ≤ n → MarksTo st bs 0 (replicate n any_fit)
marks_none st bs n h = record { plain = none is_data plain_of refl; struck = none is_struck_word struck_of refl }
  where
    none : (f : ℕ → Bool) (g : Fit → Bool) → g any_fit ≡ true → FieldTo f g st bs 0 (replicate n any_fit)
    none f g e = record { each = λ j b. ap g (get_or-replicate n j any_fit no_fit (omega arith)) ∙ e ∙ sym (fits_none f st bs j) }

pub none_held : (n m : ℕ) → n ≤ m → all_fit (replicate m any_fit) n ≡ true
unfolding all_fit
none_held zero m h = refl
none_held (suc n) m h = both_true (ap may_fit (get_or-replicate m n any_fit no_fit (omega arith))) (none_held n m (omega arith))

-- A RANGE of the columns of the blocks, in the first words of l
module _ (st : Stripe) (from cols : ℕ) (bs l : List ℕ) (some : 0 < cols) (inside : from + cols ≤ st.width) (long : length bs ≡ block_count st * st.width)
    (range : take (block_count st * cols) l ≡ columns_of st.width from cols (block_count st) bs) where
  -- the words of a block in the range
  row_words : (j : ℕ) → j < block_count st → take cols (drop (j * cols) l) ≡ take cols (drop (j * st.width + from) bs)
  row_words j b =
      sym (part_inside (j * cols) cols (block_count st * cols) l (row_in cols b)) ∙ ap (λ (x : List ℕ). take cols (drop (j * cols) x)) range
      ∙ row_of st.width from cols (block_count st) bs j b (omega (arith, row_in st.width b))

  field_range : {f : ℕ → Bool} {g : Fit → Bool} {before after : List Fit} → FieldTo f g st bs from before
      → ((j : ℕ) → j < block_count st → g (mark_at after j) ≡ (g (mark_at before j) && row_fits f st from (take cols (drop (j * cols) l)) j))
      → FieldTo f g st bs (from + cols) after
  field_range {f} {g} {before} {after} F e = record {
    each = λ j b.
        e j b ∙ ap₂ (λ (x : Bool) (r : List ℕ). x && row_fits f st from r j) (F.each j b) (row_words j b) ∙ sym (to_range f st bs j from cols some);
  }

  pub marks_range : {before after : List Fit} → MarksTo st bs from before → Judged st from cols l before after → MarksTo st bs (from + cols) after
  marks_range M J = record { plain = field_range M.plain J.plain; struck = field_range M.struck J.struck }

-- BLOCKS THAT ALL MAY BE RECORDS: each may
held_each : (fs : List Fit) (n : ℕ) → all_fit fs n ≡ true → (j : ℕ) → j < n → may_fit (mark_at fs j) ≡ true
unfolding all_fit
held_each fs zero e j b = absurd (omega arith)
held_each fs (suc n) e j b = at (dec_lt j n) (held_each fs n (second_true (may_fit (mark_at fs n)) (all_fit fs n) e) j)
  where
    at : Dec (j < n) → (j < n → may_fit (mark_at fs j) ≡ true) → may_fit (mark_at fs j) ≡ true
    at (yes y) rest = rest y
    at (no y) rest = let s : j ≡ n = omega arith in rw s (first_true (may_fit (mark_at fs n)) (all_fit fs n) e)

all_held_true : (fs : List Fit) (n : ℕ) → ((j : ℕ) → j < n → may_fit (mark_at fs j) ≡ true) → all_fit fs n ≡ true
unfolding all_fit
all_held_true fs zero e = refl
all_held_true fs (suc n) e = both_true (e n (omega arith)) (all_held_true fs n (λ j b. e j (omega arith)))

-- those that may be after a range might be before it
either_first : (a r b s : Bool) → (a && r || b && s) ≡ true → (a || b) ≡ true
either_first a r b s e =
    ⊎_elim (λ t. or_left a b (first_true a r t)) (λ t. or_right a b (first_true b s t)) (or_cases (a && r) (b && s) e)

pub held_before : {st : Stripe} {from cols : ℕ} {l : List ℕ} {before after : List Fit} → Judged st from cols l before after
    → all_fit after (block_count st) ≡ true → all_fit before (block_count st) ≡ true
held_before {st} {from} {cols} {l} {before} {after} J e =
    all_held_true before (block_count st)
    (λ j b. either_first (mark_at before j).plain _ (mark_at before j).struck _
    (sym (ap₂ ◌||◌ (J.plain j b) (J.struck j b)) ∙ held_each after (block_count st) e j b))

module _ {st : Stripe} {bs : List ℕ} {fits : List Fit} where
  either_to : {c : ℕ} → MarksTo st bs c fits → (j : ℕ) → j < block_count st
      → may_fit (mark_at fits j) ≡ (fits_to is_data st bs c j || fits_to is_struck_word st bs c j)
  either_to M j b = ap₂ ◌||◌ (M.plain.each j b) (M.struck.each j b)

  -- of all columns: the blocks are records
  pub held_records : 0 < st.width → MarksTo st bs st.width fits → all_fit fits (block_count st) ≡ are_records st bs (block_count st)
  unfolding all_fit are_records
  held_records h M = to (block_count st) (λ j b. record_to j b)
    where
      record_to : (j : ℕ) → j < block_count st → may_fit (mark_at fits j) ≡ is_record st bs j
      record_to j b =
          let d = block_data st.width bs j in
          either_to M j b ∙ ap₂ ◌||◌ (fits_all is_data st bs j h) (fits_all is_struck_word st bs j h)
          ∙ sym (and-or_distrib_left (number_fits st j (block_number st.width bs j)) (every is_data d) (every is_struck_word d))

      to : (n : ℕ) → ((j : ℕ) → j < n → may_fit (mark_at fits j) ≡ is_record st bs j) → all_fit fits n ≡ are_records st bs n
      to zero e = refl
      to (suc n) e = ap₂ ◌&&◌ (e n (omega arith)) (to n (λ j b. e j (omega arith)))

  -- of some: the blocks' numbers are those of records
  module _ {c : ℕ} (M : MarksTo st bs c fits) (h : 0 < c) (e : all_fit fits (block_count st) ≡ true) (j : ℕ) (b : j < block_count st) where
    held_number : number_fits st j (block_number st.width bs j) ≡ true
    held_number =
        ⊎_elim (fits_number is_data st bs j c h) (fits_number is_struck_word st bs j c h)
        (or_cases (fits_to is_data st bs c j) (fits_to is_struck_word st bs c j) (sym (either_to M j b) ∙ held_each fits (block_count st) e j b))

    pub held_below : st.level < st.k → block_number st.width bs j < 2 ^ st.k
    held_below l = number_below st j (block_number st.width bs j) l held_number

    pub held_place : st.level ≡ st.k → block_number st.width bs j ≡ j
    held_place l = number_place st j (block_number st.width bs j) l held_number
