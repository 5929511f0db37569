-- A range of columns decoded: its number, and its blocks, which are those columns of the stripe's blocks. Assumes nothing.
use mathlib.Core.Path.{◌≡◌, refl, sym, ap, ◌∙◌}
use mathlib.Core.Bool.{Bool, true, false}
use mathlib.Core.List.{List, ◌++◌}
use Prim.Native.Nat.{ℕ, zero, suc, ◌+◌, ◌*◌, ◌≤◌, ◌<◌}
use native.Mathlib.Omega.{arith}
use lib.ListN.{replicate}
use Rattle.code.specs.declared.Stripe.{Stripe}
use Rattle.code.specs.declared.Range.{Range}
use Rattle.code.specs.Stripe.{modulus_of, root_in, block_count, position_count, with_width}
use Rattle.decoder.specs.Decoding.{blocks_in}
use Rattle.decoder.specs.steps.Decoder.{left_of}
use Rattle.decoder.proofs.DecodeRows.{leaves_blocks}
use Rattle.image.specs.steps.Loading.{columns_of}
use Rattle.judging.proofs.ColumnRanges.{decoded_range}
use Rattle.range_decoding.specs.steps.Ranges.{is_consistent_range, range_number}

-- THE WORDS ARE TESTED ONCE, with the first range: what loading says of a range is what it says of all words, where these passed before a later one
pub tested_once : (from : ℕ) {fine all : Bool} → (from ≡ 0 → fine ≡ all) → (0 < from → fine ≡ true) → (0 < from → all ≡ true) → fine ≡ all
tested_once zero first later passed = first refl
tested_once (suc from) first later passed = later (omega arith) ∙ sym (passed (omega arith))

-- THE NUMBER of a range: that of the first test that fails
pub number_eight : (b c : Bool) → b ≡ false → range_number b c ≡ 8
unfolding range_number
number_eight b c e = rw (e, range_number)

pub number_nine : (b c : Bool) → b ≡ true → c ≡ false → range_number b c ≡ 9
unfolding range_number
number_nine b c e f = rw (e, f, range_number)

pub number_zero : (b c : Bool) → b ≡ true → c ≡ true → range_number b c ≡ 0
unfolding range_number
number_zero b c e f = rw (e, f, range_number)

module _ (st : Stripe) (ms : List Bool) (r : List ℕ) (range : Range) where
  pub range_blocks : range.from + range.cols ≤ st.width → is_consistent_range st ms r range ≡ true
      → left_of (with_width st range.cols) ms (columns_of st.width range.from range.cols (position_count st) r)
      ≡ columns_of st.width range.from range.cols (block_count st) (blocks_in st ms r) ++ replicate (block_count st * range.cols) 0
  range_blocks fit c =
      leaves_blocks (modulus_of st) (root_in st) st.k st.level st.first range.cols ms (columns_of st.width range.from range.cols (position_count st) r) c
      ∙ ap (λ (x : List ℕ). x ++ replicate (block_count st * range.cols) 0)
      (decoded_range (modulus_of st) (root_in st) st.k st.level st.first ms st.width r range.from range.cols fit)
