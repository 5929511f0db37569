-- What a stripe's blocks make of the words so far, and what laying a range of their columns asks of them. Assumes nothing: these are definitions.
use Rattle.std.specs.Prelude.{◌≡◌, Bool, true, false, List, ◌++◌, ℕ, zero, suc, pred, ◌+◌, ◌*◌, ◌-◌, ◌≤◌, ◌<◌, max, eqb, length, drop, replicate}
use Rattle.code.specs.declared.Stripe.{Stripe}
use Rattle.code.specs.declared.Range.{Range}
use Rattle.code.specs.Stripe.{block_count}
use Rattle.code.specs.steps.Storing.{stored, word_from}
use Rattle.judging.specs.Decoding.{Decoded, failed, decoded, block_number}
use Rattle.range_laying.specs.Laid.{laid, origins_laid, pairs_to}
use Rattle.range_laying.specs.declared.Content.{Content}
use Rattle.range_laying.specs.declared.Content.TheVariants.{Blocks, Records, Origins}

-- THE WORDS that are laid for each record
abbrev pub row_words : Content → Stripe → ℕ
row_words Blocks st = st.width
row_words Records st = pred st.width
row_words Origins st = 2

-- WHAT THE BLOCKS of a stripe make of the words so far. The full stripe comes first, so that what it lays does not depend on them; it has no write's number
abbrev pub is_whole : Stripe → Bool
is_whole st = eqb st.level st.k

abbrev pub lay_blocks : Content → Stripe → (blocks words : List ℕ) → List ℕ
lay_blocks Blocks st bs o = bs ++ drop (length bs) o
lay_blocks Records st bs o =
    laid (pred st.width) bs (block_count st) (elim (is_whole st) [ true ↦ replicate (block_count st * pred st.width) 0 | false ↦ o ])
lay_blocks Origins st bs o =
    elim (is_whole st) [
      | true ↦ pairs_to (λ i. st.k) (λ i. 0) (block_count st)
      | false ↦ origins_laid st.width st.level st.first bs (block_count st) o
    ]

-- what a stripe makes of the words so far, where its blocks make `lay` of them: a stripe that fails leaves them as they are
abbrev pub laid_from : (lay : (blocks words : List ℕ) → List ℕ) → Decoded → (words : List ℕ) → List ℕ
laid_from f (failed x) r = r
laid_from f (decoded bs) r = f bs r

-- `count` words of each of n rows, from column `from` of rows of `stride` words to column `to` of rows of `width` words
unfoldable pub copied_rows : (to width from stride count : ℕ) → (words : List ℕ) → (n : ℕ) → (out : List ℕ) → List ℕ
copied_rows to width from stride count l zero o = o
copied_rows to width from stride count l (suc n) o =
    stored (to + n * width) (word_from l (from + n * stride)) count (copied_rows to width from stride count l n o)

-- the words of a range of columns in their columns of rows that lack the first `skip`
abbrev pub copied_columns : Stripe → Range → (skip : ℕ) → (words out : List ℕ) → List ℕ
copied_columns st range skip l o =
    copied_rows (max range.from skip - skip) (st.width - skip) (max range.from skip - range.from) range.cols
    (range.from + range.cols - max range.from skip) l (block_count st) o

-- WHAT A RANGE of the blocks' columns makes of the words so far. Of a level there is one range alone, since numbers say where it is laid
unfoldable pub laid_range : Content → Stripe → Range → (words out : List ℕ) → List ℕ
laid_range Blocks st range l o = copied_columns st range 0 l o
laid_range Records st range l o =
    elim (is_whole st) [ true ↦ copied_columns st range 1 l o | false ↦ laid (pred st.width) l (block_count st) o ]
laid_range Origins st range l o =
    elim (is_whole st) [
      | true ↦ pairs_to (λ i. st.k) (λ i. 0) (block_count st) ++ drop (block_count st * 2) o
      | false ↦ origins_laid st.width st.level st.first l (block_count st) o
    ]

-- each block's record lies inside
pub record NumbersInside (st : Stripe) (row : ℕ) (bs o : List ℕ) : Type 0 where
  pub inside : (j : ℕ) → j < block_count st → suc (block_number st.width bs j) * row ≤ length o

-- a level's range is all of its columns, and its numbers lie inside
pub record Placed (c : Content) (st : Stripe) (range : Range) (l o : List ℕ) : Type 0 where
  pub all : range.cols ≡ st.width
  pub numbers : NumbersInside st (row_words c st) l o
