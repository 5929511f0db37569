-- What the decoder's loops on rows come to: the words of a derived row, and a test of rows. Assumes nothing: these are definitions.
use Rattle.std.specs.Prelude.{Bool, true, ◌&&◌, ◌||◌, List, ℕ, zero, suc, ◌+◌, ◌*◌, ◌^◌, ltb, eqb, get_or}
use Rattle.field.specs.Residue.{minus, times}
use Rattle.code.specs.Transform.{reversed}

-- word j of a times the row at `low` less b times the row at `high`
unfoldable pub derive_at : (p low high a b : ℕ) → (words : List ℕ) → (j : ℕ) → ℕ
derive_at p low high a b l j = minus p (times p a (get_or l (low + j) 0)) (times p b (get_or l (high + j) 0))

-- whether f holds of n - 1, .., 0
unfoldable pub all_to : (n : ℕ) → (f : ℕ → Bool) → Bool
all_to zero f = true
all_to (suc n) f = f n && all_to n f

-- whether word j of two rows is the same, and so whether the rows are
unfoldable pub same_at : (low high : ℕ) → (words : List ℕ) → (j : ℕ) → Bool
same_at low high l j = eqb (get_or l (low + j) 0) (get_or l (high + j) 0)

-- whether row i of the first half has reversed bits below e or is row i of the second, and so whether all of them do
unfoldable pub low_row_at : (level e width : ℕ) → (rows : List ℕ) → (i : ℕ) → Bool
low_row_at l e width r i = ltb (reversed l i) e || all_to width (same_at (i * width) (2 ^ l * width + i * width) r)

abbrev pub low_rows : (level e width : ℕ) → (rows : List ℕ) → Bool
low_rows l e width r = all_to (2 ^ l) (low_row_at l e width r)
