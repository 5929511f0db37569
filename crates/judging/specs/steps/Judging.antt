-- Test 10, range by range of columns: for each block, what its words so far may be, the data of a record or those of a struck one. Assumes nothing: these are
-- definitions.
use Rattle.std.specs.Prelude.{◌≡◌, Bool, true, false, ◌&&◌, ◌||◌, List, ℕ, zero, suc, ◌*◌, ◌<◌, eqb, length, get_or, take, drop}
use Rattle.field.specs.Words.{every}
use Rattle.code.specs.declared.Stripe.{Stripe}
use Rattle.code.specs.Stripe.{block_count}
use Rattle.layout.specs.Records.{is_data, is_struck_word}
use Rattle.judging.specs.declared.records.Fit.{Fit}
use Rattle.judging.specs.Decoding.{number_fits, block_number}

-- whether the words of block j in the first c columns are its number, and after it words that pass the test `f` of a word
unfoldable pub fits_to : (f : ℕ → Bool) → Stripe → (blocks : List ℕ) → (c j : ℕ) → Bool
fits_to f st bs zero j = true
fits_to f st bs (suc c) j = number_fits st j (block_number st.width bs j) && every f (take c (drop (suc (j * st.width)) bs))

-- whether its words in the columns from `from` on are
unfoldable pub row_fits : (f : ℕ → Bool) → Stripe → (from : ℕ) → (row : List ℕ) → (j : ℕ) → Bool
row_fits f st from row j = elim (eqb from 0) [ true ↦ number_fits st j (get_or row 0 0) && every f (drop 1 row) | false ↦ every f row ]

-- A MARK for each block: what its words so far may be; where there is no mark, nothing
abbrev pub no_fit : Fit
no_fit = record { plain = false; struck = false }

abbrev pub mark_at : (marks : List Fit) → (j : ℕ) → Fit
mark_at fs j = get_or fs j no_fit

-- the marks after a range of `cols` columns, whose words stand in rows: those before, and what the words of the range say
pub record Judged (st : Stripe) (from cols : ℕ) (words : List ℕ) (before after : List Fit) : Type 0 where
  pub same : length after ≡ length before
  pub plain : (j : ℕ) → j < block_count st →
      (mark_at after j).plain ≡ ((mark_at before j).plain && row_fits is_data st from (take cols (drop (j * cols) words)) j)
  pub struck : (j : ℕ) → j < block_count st →
      (mark_at after j).struck ≡ ((mark_at before j).struck && row_fits is_struck_word st from (take cols (drop (j * cols) words)) j)

-- whether the first n blocks may be records
unfoldable pub all_fit : (marks : List Fit) → (n : ℕ) → Bool
all_fit fs zero = true
all_fit fs (suc n) = ((mark_at fs n).plain || (mark_at fs n).struck) && all_fit fs n
