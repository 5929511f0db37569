-- What the steps of taking a level apart make of its words; the clauses of private functions cite it. h is the inverse of 2. Assumes nothing: these are
-- definitions.
use Rattle.std.specs.Prelude.{List, [], ◌++◌, ℕ, zero, suc, ◌*◌, ◌/◌, ◌^◌, get_or, take, drop}
use Rattle.field.specs.Power.{power}
use Rattle.field.specs.Residue.{plus, minus, times}
use Rattle.field.specs.Words.{table}

-- ONE WORD of the older half, which unmixing gives out of two words of the level, and one of the newer half; v is the inverse of mixing's root
unfoldable pub half_sum : (p h : ℕ) → (low high : List ℕ) → (x : ℕ) → ℕ
half_sum p h a b x = times p h (plus p (get_or a x 0) (get_or b x 0))

unfoldable pub difference_by : (p g : ℕ) → (low high : List ℕ) → (x : ℕ) → ℕ
difference_by p g a b x = times p g (minus p (get_or a x 0) (get_or b x 0))

unfoldable pub half_difference : (p h v width : ℕ) → (low high : List ℕ) → (x : ℕ) → ℕ
half_difference p h v width a b x = difference_by p (times p h (power p v (x / width))) a b x

-- all n words of the older half, and of the newer
abbrev pub older : (p h n : ℕ) → (rows : List ℕ) → List ℕ
older p h n r = table n (half_sum p h (take n r) (drop n r))

abbrev pub newer : (p h v width n : ℕ) → (rows : List ℕ) → List ℕ
newer p h v width n r = table n (half_difference p h v width (take n r) (drop n r))

-- THE LEVELS BELOW out of X and Y of a level: the older halves are the level below it, and the newer ones give those below that. v l is the inverse of the root
-- of 2 ^ l records
unfoldable pub levels_out : (p h : ℕ) → (v : ℕ → ℕ) → (width level : ℕ) → (x y : List ℕ) → List ℕ
levels_out p h v width zero x y = []
levels_out p h v width (suc l) x y =
    levels_out p h v width l (newer p h (v l) width (2 ^ l * width) x) (newer p h (v l) width (2 ^ l * width) y)
    ++ (older p h (2 ^ l * width) x ++ older p h (2 ^ l * width) y)
