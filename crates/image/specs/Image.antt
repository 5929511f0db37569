-- Images: the full stripe and then the log, each word 4 bytes, low byte first. Assumes nothing: these are definitions.
use Rattle.std.specs.Prelude.{List, [], ◌∷◌, ◌++◌, ℕ, zero, suc, ◌+◌, ◌*◌, ◌/◌, ◌%◌, length, take, drop}
use Rattle.field.specs.Words.{table}

unfoldable pub little : (size value : ℕ) → List ℕ
little zero x = []
little (suc n) x = x % 256 ∷ little n (x / 256)

unfoldable pub bytes_of : (words : List ℕ) → List ℕ
bytes_of [] = []
bytes_of (x ∷ xs) = little 4 x ++ bytes_of xs

-- the number of some bytes, low byte first, and the one of the four bytes from an offset on
unfoldable pub number_of : (bytes : List ℕ) → ℕ
number_of [] = 0
number_of (b ∷ bs) = b + 256 * number_of bs

abbrev pub number_at : (bytes : List ℕ) → (offset : ℕ) → ℕ
number_at bs o = number_of (take 4 (drop o bs))

abbrev pub image_of : (full log : List ℕ) → List ℕ
image_of f g = bytes_of (f ++ g)

-- word i of an image
abbrev pub word_at : (image : List ℕ) → (i : ℕ) → ℕ
word_at m i = number_at m (4 * i)

-- the words of some bytes; bytes that the last one lacks count as 0
abbrev pub words_of : (bytes : List ℕ) → List ℕ
words_of bs = table ((length bs + 3) / 4) (word_at bs)
