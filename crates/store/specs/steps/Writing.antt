-- What the steps of a write make of the log; the clauses of private functions cite it. Assumes nothing: these are definitions.
use Rattle.std.specs.Prelude.{List, ◌++◌, ℕ, zero, suc, ◌+◌, ◌*◌, ◌-◌, ◌^◌, take, drop}
use Rattle.code.specs.Rows.{lifted}
use Rattle.code.specs.Transform.{mixed_halves}
use Rattle.store.specs.Buffers.{reduced}

-- where X (half 0) or Y (half 1) of a level begins in the log, and its words modulo p, for rows of `width` words
abbrev pub half_start : (width level half : ℕ) → ℕ
half_start width l y = (2 ^ suc l - 2) * width + y * (2 ^ l * width)

abbrev pub half_in : (p width : ℕ) → (log : List ℕ) → (level half : ℕ) → List ℕ
half_in p width g l y = reduced p (take (2 ^ l * width) (drop (half_start width l y) g))

-- X or Y of all levels below, the oldest first, and a row after them
unfoldable pub gathered : (p width : ℕ) → (log : List ℕ) → (half : ℕ) → (row : List ℕ) → (level : ℕ) → List ℕ
gathered p width g y r zero = r
gathered p width g y r (suc l) = half_in p width g l y ++ gathered p width g y r l

-- the last row mixed with the one before it, those two with the two before them, and so on up to 2 ^ level rows; v l is the root of 2 ^ l records
unfoldable pub folded : (p : ℕ) → (v : ℕ → ℕ) → (width level : ℕ) → (rows : List ℕ) → List ℕ
folded p v width zero r = r
folded p v width (suc l) r =
    lifted width (2 ^ suc l) (2 ^ suc l) (mixed_halves p (v l) (2 ^ l)) (take (2 ^ l * width) r ++ folded p v width l (drop (2 ^ l * width) r))

-- both halves of a level
abbrev pub folded_both : (p : ℕ) → (v : ℕ → ℕ) → (width level : ℕ) → (rows : List ℕ) → List ℕ
folded_both p v width l r = folded p v width l (take (2 ^ l * width) r) ++ folded p v width l (drop (2 ^ l * width) r)
