-- Ranges of columns of rows, as the functions that load and decode them have it. Assumes nothing: these are definitions.
use Rattle.std.specs.Prelude.{List, ℕ, ◌+◌, ◌*◌, ◌/◌, ◌%◌, get_or}
use Rattle.field.specs.Words.{table}

-- THE COLUMNS `from` up to `from + cols` of n rows of `width` words
unfoldable pub columns_word : (width from cols : ℕ) → (rows : List ℕ) → (q : ℕ) → ℕ
columns_word width from cols r q = get_or r (q / cols * width + (from + q % cols)) 0

unfoldable pub columns_of : (width from cols n : ℕ) → (rows : List ℕ) → List ℕ
columns_of width from cols n r = table (n * cols) (columns_word width from cols r)
