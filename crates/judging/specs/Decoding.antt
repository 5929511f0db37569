-- What a stripe's rows and marks decode to: 7, 8, 9, 10, or its blocks in order of time. Assumes nothing: these are definitions.
use Rattle.std.specs.Prelude.{Bool, true, false, ◌&&◌, List, ◌++◌, ℕ, zero, suc, pred, ◌*◌, ◌-◌, ◌^◌, ltb, eqb, length, get_or, take, drop, replicate}
use Rattle.code.specs.declared.Stripe.{Stripe}
use Rattle.code.specs.Stripe.{modulus_of, block_count}
use Rattle.decoder.specs.Decoding.{survivors, is_consistent, blocks_in}
use Rattle.layout.specs.Records.{record_fits}
use Rattle.image.specs.Loading.{rows_in, are_below}

-- BLOCK j of blocks of `width` words: its number, and its data words after it
abbrev pub block_number : (width : ℕ) → (blocks : List ℕ) → (j : ℕ) → ℕ
block_number width bs j = get_or bs (j * width) 0

abbrev pub block_data : (width : ℕ) → (blocks : List ℕ) → (j : ℕ) → List ℕ
block_data width bs j = take (pred width) (drop (suc (j * width)) bs)

-- whether block j is a record: its number is a record's, on the full stripe its place, and its data are a record's, those of a struck one among them
abbrev pub number_fits : Stripe → (j number : ℕ) → Bool
number_fits st j x = elim (eqb st.level st.k) [ true ↦ eqb x j | false ↦ ltb x (2 ^ st.k) ]

abbrev pub is_record : Stripe → (blocks : List ℕ) → (j : ℕ) → Bool
is_record st bs j = number_fits st j (block_number st.width bs j) && record_fits (block_data st.width bs j)

unfoldable pub are_records : Stripe → (blocks : List ℕ) → (n : ℕ) → Bool
are_records st bs zero = true
are_records st bs (suc j) = is_record st bs j && are_records st bs j

-- WHAT A STRIPE DECODES TO, the number of that, and what it leaves in a buffer of `size` words: the blocks and zeros after them, or zeros
pub data Decoded : Type 0 where
  failed : (number : ℕ) → Decoded
  decoded : (blocks : List ℕ) → Decoded

abbrev pub decoded_number : Decoded → ℕ
decoded_number (failed n) = n
decoded_number (decoded bs) = 0

abbrev pub decoded_words : Decoded → (size : ℕ) → List ℕ
decoded_words (failed n) size = replicate size 0
decoded_words (decoded bs) size = bs ++ replicate (size - length bs) 0

-- what surviving words that are all of the field come to
abbrev pub from_test9 : Stripe → (marks : List Bool) → (rows : List ℕ) → Decoded
from_test9 st ms r =
    elim (is_consistent st ms r) [
      | true ↦ let bs = blocks_in st ms r in
          elim (are_records st bs (block_count st)) [ true ↦ decoded bs | false ↦ failed 10 ]
      | false ↦ failed 9
    ]

-- and what the surviving words come to where enough positions survive: 8, or what words of the field do. The rows have zeros at erased positions
abbrev pub from_test8 : Stripe → (marks : List Bool) → (rows : List ℕ) → Decoded
from_test8 st ms r = elim (are_below (modulus_of st) r) [ true ↦ from_test9 st ms r | false ↦ failed 8 ]

-- DECODING of a stripe's words, whatever stands at erased positions
abbrev pub decode_rows : Stripe → (marks : List Bool) → (words : List ℕ) → Decoded
decode_rows st ms ws =
    elim (ltb (length (survivors st.level ms)) (block_count st)) [ true ↦ failed 7 | false ↦ from_test8 st ms (rows_in st ms ws) ]
