-- Ranges of columns of a stripe: which are decoded at once, and what decoding them answers. Assumes nothing: these are definitions.
use Rattle.std.specs.Prelude.{◌≡◌, Bool, true, false, List, ℕ, ◌+◌, ◌*◌, ◌≤◌, ◌<◌}
use Rattle.code.specs.declared.Stripe.{Stripe}
use Rattle.code.specs.declared.Range.{Range}
use Rattle.code.specs.Stripe.{position_count, stripe_words, with_width}
use Rattle.decoder.specs.Decoding.{is_consistent}
use Rattle.image.specs.steps.Loading.{columns_of}

-- the range from column `from` on that so much room is for: at least one column, and all that are left where the room is for the whole stripe
pub record RangeFits (st : Stripe) (from room : ℕ) (range : Range) : Type 0 where
  pub begins : range.from ≡ from
  pub some : 0 < range.cols
  pub within : range.from + range.cols ≤ st.width
  pub inside : position_count st * range.cols ≤ room
  pub whole : stripe_words st ≤ room → range.from + range.cols ≡ st.width

-- whether the surviving words of a range of columns are those of some blocks
abbrev pub is_consistent_range : Stripe → (marks : List Bool) → (rows : List ℕ) → Range → Bool
is_consistent_range st ms r range = is_consistent (with_width st range.cols) ms (columns_of st.width range.from range.cols (position_count st) r)

-- the number of a range of columns: 8 if a surviving word of the stripe is not of the field, 9 if no blocks have the range's surviving words, 0 otherwise
unfoldable pub range_number : (below consistent : Bool) → ℕ
range_number b c = elim b [ true ↦ elim c [ true ↦ 0 | false ↦ 9 ] | false ↦ 8 ]
