-- What the output holds once the columns below one are laid, range by range: at the start, after one more range, and after all. Assumes nothing.
use mathlib.Core.Path.{◌≡◌, refl, sym, ap, ap₂, ◌∙◌}
use mathlib.Core.List.{List, [], ◌∷◌, ◌++◌, append_assoc, append-nil}
use Prim.Native.Nat.{ℕ, zero, suc, pred, ◌+◌, ◌*◌, ◌-◌, ◌^◌, ◌≤◌, ◌<◌}
use native.Mathlib.Nat.{zero-mul, mul-le-mul_right}
use native.Mathlib.Numerals.{add-one}
use native.Mathlib.Decide.{dec_lt}
use native.Mathlib.Omega.{arith}
use lib.Pow.{pow_mono}
use lib.ListN.{length, drop, replicate, length-replicate, drop_of_length-le, length-append, length-drop}
use lib.Seq.{length-sets, length-take-le, take_at, drop-drop, drop-append-add}
use Rattle.code.specs.declared.Stripe.{Stripe}
use Rattle.code.specs.declared.Range.{Range}
use Rattle.code.specs.Stripe.{block_count}
use Rattle.layout.proofs.RecordWords.{replaced_is}
use Rattle.image.specs.steps.Loading.{columns_of}
use Rattle.judging.specs.Decoding.{block_number, block_data}
use Rattle.judging.specs.StripeFits.{StripeFits}
use Rattle.judging.proofs.ColumnRanges.{columns_none, columns_row, columns_all, length_columns}
use Rattle.range_laying.specs.Laid.{laid, origins_laid, pairs_to}
use Rattle.range_laying.specs.declared.Content.{Content}
use Rattle.range_laying.specs.declared.Content.TheVariants.{Blocks, Records, Origins}
use Rattle.range_laying.specs.steps.Blocks.{row_words, lay_blocks, laid_range, copied_columns, Placed}
use Rattle.range_laying.proofs.CopiedRows.{length_copied}
use Rattle.range_laying.proofs.FilledRows.{Filled, filled_none, filled_more, filled_all}
use Rattle.range_laying.proofs.PairLoops.{length_pairs, filled_whole}
use Rattle.range_laying.proofs.RangeCases.{is_whole_lem, not_whole, lays_blocks, lays_data, lays_records, names_none, names_writes}

-- NO WORD MORE OR LESS
pub length_laid : (s : ℕ) (bs : List ℕ) (n : ℕ) (o : List ℕ) → length (laid s bs n o) ≡ length o
unfolding laid
length_laid s bs zero o = refl
length_laid s bs (suc j) o = length-sets (laid s bs j o) (block_number (suc s) bs j * s) (block_data (suc s) bs j) ∙ length_laid s bs j o

pub length_origins : (w l t : ℕ) (bs : List ℕ) (n : ℕ) (o : List ℕ) → length (origins_laid w l t bs n o) ≡ length o
unfolding origins_laid
length_origins w l t bs zero o = refl
length_origins w l t bs (suc j) o =
    length-sets (origins_laid w l t bs j o) (block_number w bs j * 2) (l ∷ (t + j) ∷ []) ∙ length_origins w l t bs j o

-- as many pairs as before, whatever they were
length_named : (f g : ℕ → ℕ) (n : ℕ) (o : List ℕ) → n * 2 ≤ length o → length (pairs_to f g n ++ drop (n * 2) o) ≡ length o
length_named f g n o b = length-append (pairs_to f g n) (drop (n * 2) o) ∙ omega (arith, length_pairs f g n, length-drop (n * 2) o)

named_again : (f g : ℕ → ℕ) (n : ℕ) (o : List ℕ) → drop (n * 2) (pairs_to f g n ++ drop (n * 2) o) ≡ drop (n * 2) o
named_again f g n o =
    let x = pairs_to f g n in
    ap (λ (m : ℕ). drop m (x ++ drop (n * 2) o)) {x = n * 2} {y = length x + 0} (omega (arith, length_pairs f g n)) ∙ drop-append-add x (drop (n * 2) o) 0

length_range : (c : Content) (st : Stripe) (range : Range) (l o : List ℕ) → st.level ≤ st.k → block_count st * row_words c st ≤ length o
    → length (laid_range c st range l o) ≡ length o
length_range Blocks st range l o f b = ap length (lays_blocks st range l o) ∙ length_copied _ _ _ _ _ l (block_count st) o
length_range Records st range l o f b = by (dec_lt st.level st.k)
  where
    by : Dec (st.level < st.k) → length (laid_range Records st range l o) ≡ length o
    by (yes y) = ap length (lays_records st range l o (λ e. omega arith)) ∙ length_laid (pred st.width) l (block_count st) o
    by (no y) = ap length (lays_data st range l o (omega arith)) ∙ length_copied _ _ _ _ _ l (block_count st) o
length_range Origins st range l o f b = by (dec_lt st.level st.k)
  where
    by : Dec (st.level < st.k) → length (laid_range Origins st range l o) ≡ length o
    by (yes y) = ap length (names_writes st range l o (λ e. omega arith)) ∙ length_origins st.width st.level st.first l (block_count st) o
    by (no y) = ap length (names_none st range l o (omega arith)) ∙ length_named (λ i. st.k) (λ i. 0) (block_count st) o b

-- WHERE EACH NUMBER IS ITS PLACE the blocks laid over any records are their data
module _ (w : ℕ) (thick : 0 < w) (bs : List ℕ) where
  abbrev s : ℕ
  s = pred w

  wide : suc (pred w) ≡ w
  wide = omega (arith, thick)

  data_row : (n : ℕ) → suc n * w ≤ length bs → columns_of w 1 s (suc n) bs ≡ columns_of w 1 s n bs ++ block_data w bs n
  data_row n b = rw (← add-one (n * w)) (columns_row w 1 s n bs (omega (arith, wide, b)))

  laid_places : (n : ℕ) (r : List ℕ) → n * w ≤ length bs → n * s ≤ length r → ((j : ℕ) → j < n → block_number w bs j ≡ j)
      → laid s bs n r ≡ columns_of w 1 s n bs ++ drop (n * s) r
  unfolding laid
  laid_places zero r b c p = rw (columns_none, zero-mul)
  laid_places (suc n) r b c p =
      let x = columns_of w 1 s n bs in
      let t : length x ≡ n * s = length_columns w 1 s n bs in
      let i : laid s bs n r ≡ x ++ drop (n * s) r = laid_places n r (omega arith) (omega arith) (λ j h. p j (omega arith)) in
      let d : drop (suc n * s) (x ++ drop (n * s) r) ≡ drop (suc n * s) r =
      ap (λ (m : ℕ). drop m (x ++ drop (n * s) r)) {x = suc n * s} {y = length x + s} (omega arith) ∙ drop-append-add x (drop (n * s) r) s
      ∙ drop-drop s (n * s) r ∙ ap (λ (m : ℕ). drop m r) {x = n * s + s} {y = suc n * s} (omega arith) in
      let long : length (block_data w bs n) ≡ s = length-take-le s (drop (suc (n * w)) bs) (rw length-drop (omega (arith, wide))) in
      let room : suc n * s ≤ length (x ++ drop (n * s) r) = omega (arith, length-append x (drop (n * s) r), length-drop (n * s) r) in
      rw (wide, i, p n (omega arith))
      (replaced_is s (x ++ drop (n * s) r) n (block_data w bs n) long room
      ∙ rw (take_at x (drop (n * s) r) (n * s) t, d, data_row n b) (sym (append_assoc x (block_data w bs n) (drop (suc n * s) r))))

  data_laid : (n : ℕ) → n * w ≤ length bs → ((j : ℕ) → j < n → block_number w bs j ≡ j) → columns_of w 1 s n bs ≡ laid s bs n (replicate (n * s) 0)
  data_laid n b p =
      let z : length {A = ℕ} (replicate (n * s) 0) ≡ n * s = length-replicate (n * s) 0 in
      sym (laid_places n (replicate (n * s) 0) b (omega arith) p
      ∙ ap (λ (y : List ℕ). columns_of w 1 s n bs ++ y) (drop_of_length-le (replicate (n * s) 0) {i = n * s} (omega arith))
      ∙ append-nil (columns_of w 1 s n bs))

-- WHAT THE OUTPUT HOLDS once the columns below `from` are laid over the words o₀. A level's columns are all laid at once
pub record LaidTo (c : Content) (st : Stripe) (bs : List ℕ) (from : ℕ) (o₀ o : List ℕ) : Type 0 where
  pub same : length o ≡ length o₀
  pub none : from ≡ 0 → o ≡ o₀
  pub blocks : c ≡ Blocks → Filled st.width 0 from (block_count st) bs o₀ o
  pub records : c ≡ Records → st.level ≡ st.k → Filled st.width 1 from (block_count st) bs o₀ o
  pub named : c ≡ Origins → st.level ≡ st.k → 0 < from → o ≡ pairs_to (λ i. st.k) (λ i. 0) (block_count st) ++ drop (block_count st * 2) o₀
  pub whole : st.level < st.k → 0 < from → from ≡ st.width
  pub over : st.level < st.k → 0 < from → o ≡ lay_blocks c st bs o₀

pub laid_start : (c : Content) (st : Stripe) (bs o : List ℕ) → LaidTo c st bs 0 o o
laid_start c st bs o = record {
  same = refl;
  none = λ e. refl;
  blocks = λ e. filled_none st.width 0 (block_count st) bs o;
  records = λ e f. filled_none st.width 1 (block_count st) bs o;
  named = λ e f z. absurd (omega arith);
  whole = λ b z. absurd (omega arith);
  over = λ b z. absurd (omega arith);
}

-- all columns of the blocks
all_blocks : (width n : ℕ) (bs o₀ o : List ℕ) → Filled width 0 width n bs o₀ o → length bs ≡ n * width → n * width ≤ length o₀
    → o ≡ bs ++ drop (length bs) o₀
all_blocks width n bs o₀ o F e b =
    let z : width - 0 ≡ width = omega arith in
    let t : o ≡ columns_of width 0 (width - 0) n bs ++ drop (n * (width - 0)) o₀ = filled_all F (rw z b) in
    rw e ((rw z at t) ∙ ap (λ (x : List ℕ). x ++ drop (n * width) o₀) (columns_all width n bs e))

-- on a level a range is all of the blocks
level_range : (c : Content) (st : Stripe) (range : Range) (bs o : List ℕ) {o' : List ℕ} → st.level < st.k → (c ≡ Blocks → o' ≡ bs ++ drop (length bs) o)
    → o' ≡ laid_range c st range bs o → o' ≡ lay_blocks c st bs o
level_range Blocks st range bs o b all q = all refl
level_range Records st range bs o b all q = rw (lay_blocks, not_whole st (λ e. omega arith)) (q ∙ lays_records st range bs o (λ e. omega arith))
level_range Origins st range bs o b all q = rw (lay_blocks, not_whole st (λ e. omega arith)) (q ∙ names_writes st range bs o (λ e. omega arith))

module _ {c : Content} {st : Stripe} {bs : List ℕ} {from : ℕ} {o₀ o : List ℕ} (L : LaidTo c st bs from o₀ o) (f : StripeFits st)
    (long : length o₀ ≡ 2 ^ st.k * row_words c st) where
  room : block_count st * row_words c st ≤ length o₀
  room = omega (arith, long, mul-le-mul_right (row_words c st) (pow_mono f.numbers.within))

  pub laid_room : block_count st * row_words c st ≤ length o
  laid_room = omega (arith, room, L.same)

  -- a level's range is its first one
  pub laid_first : st.level < st.k → from < st.width → from ≡ 0
  laid_first b h = by (dec_lt 0 from)
    where
      by : Dec (0 < from) → from ≡ 0
      by (yes y) = absurd (omega (arith, L.whole b y))
      by (no y) = omega arith

  -- one range more
  module _ (e : length bs ≡ block_count st * st.width) (range : Range) (q : range.from ≡ from) (some : 0 < range.cols)
      (within : range.from + range.cols ≤ st.width) (all : st.level < st.k → range.from + range.cols ≡ st.width)
      (l : List ℕ) (is : l ≡ columns_of st.width range.from range.cols (block_count st) bs) where
    -- on a level it has all columns, and its words are the blocks
    level_start : st.level < st.k → from ≡ 0
    level_start b = laid_first b (omega (arith, within, q, some))

    level_cols : st.level < st.k → range.cols ≡ st.width
    level_cols b = omega (arith, all b, q, level_start b)

    level_words : st.level < st.k → l ≡ bs
    level_words b = is ∙ rw (q, level_start b, level_cols b) (columns_all st.width (block_count st) bs e)

    pub laid_placed : st.level < st.k → ((j : ℕ) → j < block_count st → block_number st.width bs j < 2 ^ st.k) → Placed c st range l o
    laid_placed b low = record {
      all = level_cols b;
      numbers = record { inside = λ j h. rw (level_words b, L.same, long) (mul-le-mul_right (row_words c st) (low j h)) };
    }

    module _ {o' : List ℕ} (p : o' ≡ laid_range c st range l o) where
      size : length o' ≡ length o₀
      size = ap length p ∙ length_range c st range l o f.numbers.within laid_room ∙ L.same

      -- the rows that are copied
      next_blocks : c ≡ Blocks → Filled st.width 0 (range.from + range.cols) (block_count st) bs o₀ o'
      next_blocks t =
          let old : Filled st.width 0 range.from (block_count st) bs o₀ o = rw q (L.blocks t) in
          let copied : o' ≡ copied_columns st range 0 l o = (rw t at p) ∙ lays_blocks st range l o in
          let here : block_count st * st.width ≤ length o₀ = rw t at room in
          let z : st.width - 0 ≡ st.width = omega arith in
          filled_more st range 0 within (omega arith) old (rw z here) l is copied

      next_records : c ≡ Records → st.level ≡ st.k → Filled st.width 1 (range.from + range.cols) (block_count st) bs o₀ o'
      next_records t u =
          let old : Filled st.width 1 range.from (block_count st) bs o₀ o = rw q (L.records t u) in
          let copied : o' ≡ copied_columns st range 1 l o = (rw t at p) ∙ lays_data st range l o u in
          let here : block_count st * pred st.width ≤ length o₀ = rw t at room in
          let z : st.width - 1 ≡ pred st.width = omega arith in
          filled_more st range 1 within (omega (arith, f.thick)) old (rw z here) l is copied

      next_named : c ≡ Origins → st.level ≡ st.k → o' ≡ pairs_to (λ i. st.k) (λ i. 0) (block_count st) ++ drop (block_count st * 2) o₀
      next_named t u = ((rw t at p) ∙ names_none st range l o u) ∙ ap (λ (x : List ℕ). pairs_to (λ i. st.k) (λ i. 0) (block_count st) ++ x) (by (dec_lt 0 from))
        where
          by : Dec (0 < from) → drop (block_count st * 2) o ≡ drop (block_count st * 2) o₀
          by (yes y) = ap (drop (block_count st * 2)) (L.named t u y) ∙ named_again (λ i. st.k) (λ i. 0) (block_count st) o₀
          by (no y) = ap (drop (block_count st * 2)) (L.none (omega arith))

      next_over : st.level < st.k → o' ≡ lay_blocks c st bs o₀
      next_over b =
          level_range c st range bs o₀ b
          (λ t. let here : block_count st * st.width ≤ length o₀ = rw t at room in
          all_blocks st.width (block_count st) bs o₀ o' (rw (all b) at next_blocks t) e here)
          (p ∙ ap₂ (laid_range c st range) (level_words b) (L.none (level_start b)))

      pub laid_next : LaidTo c st bs (from + range.cols) o₀ o'
      laid_next = rw (← q) (record {
        same = size;
        none = λ z. absurd (omega (arith, z, some));
        blocks = next_blocks;
        records = next_records;
        named = λ t u z. next_named t u;
        whole = λ b z. all b;
        over = λ b z. next_over b;
      })

-- ALL COLUMNS
pub laid_all : {c : Content} {st : Stripe} {bs o₀ o : List ℕ} → LaidTo c st bs st.width o₀ o → StripeFits st → length o₀ ≡ 2 ^ st.k * row_words c st
    → length bs ≡ block_count st * st.width → (st.level ≡ st.k → (j : ℕ) → j < block_count st → block_number st.width bs j ≡ j) → o ≡ lay_blocks c st bs o₀
laid_all {c} {st} {bs} {o₀} {o} L f long e places = at (dec_lt st.level st.k)
  where
    by : (c : Content) → st.level ≡ st.k → LaidTo c st bs st.width o₀ o → length o₀ ≡ block_count st * row_words c st → o ≡ lay_blocks c st bs o₀
    by Blocks full L long = all_blocks st.width (block_count st) bs o₀ o (L.blocks refl) e (omega (arith, long))
    by Records full L long =
        let n = block_count st in
        let s = pred st.width in
        let z : st.width - 1 ≡ s = omega arith in
        let t : o ≡ columns_of st.width 1 (st.width - 1) n bs ++ drop (n * (st.width - 1)) o₀ = filled_all (L.records refl full) (rw z (omega (arith, long))) in
        rw (lay_blocks, is_whole_lem st full)
        ((rw z at t) ∙ ap (λ (x : List ℕ). columns_of st.width 1 s n bs ++ x) (drop_of_length-le o₀ {i = n * s} (omega (arith, long)))
        ∙ append-nil (columns_of st.width 1 s n bs) ∙ data_laid st.width (omega (arith, f.thick)) bs n (omega (arith, e)) (places full))
    by Origins full L long =
        rw (lay_blocks, is_whole_lem st full)
        (filled_whole (λ i. st.k) (λ i. 0) (block_count st) o₀ long (L.named refl full (omega (arith, f.thick))))

    at : Dec (st.level < st.k) → o ≡ lay_blocks c st bs o₀
    at (yes y) = L.over y (omega (arith, f.thick))
    at (no y) =
        let full : st.level ≡ st.k = omega (arith, f.numbers.within) in
        by c full L (long ∙ ap (λ (x : ℕ). 2 ^ x * row_words c st) (sym full))
