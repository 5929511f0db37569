-- Decoding of a stripe from any half of its positions: what the words are, however they are found (docs/FORMAT.md, section 7). A mark is true where a
-- position is erased. Assumes nothing: these are definitions.
use Rattle.std.specs.Prelude.{Bool, true, false, ◌&&◌, ◌||◌, List, [], ◌∷◌, map, ℕ, zero, suc, ◌+◌, ◌*◌, ◌-◌, ◌/◌, ◌^◌, ltb, eqb, get_or, take}
use Rattle.field.specs.Residue.{times}
use Rattle.field.specs.Power.{power, inverse}
use Rattle.field.specs.Polynomial.{interpolate}
use Rattle.code.specs.Transform.{reversed, bit_reversed}
use Rattle.code.specs.Rows.{column, lifted}
use Rattle.code.specs.declared.Stripe.{Stripe}
use Rattle.code.specs.Stripe.{coded, modulus_of, root_in}

-- the positions that survive, of the n from i on
unfoldable pub survivors_from : (marks : List Bool) → (i n : ℕ) → List ℕ
survivors_from ms i zero = []
survivors_from ms i (suc n) = let rest = survivors_from ms (suc i) n in elim (get_or ms i false) [ true ↦ rest | false ↦ i ∷ rest ]

abbrev pub survivors : (level : ℕ) → (marks : List Bool) → List ℕ
survivors l ms = survivors_from ms 0 (2 ^ suc l)

-- THE POINT of a position: u^(2i) for position i of X, u^(2i+1) for position i of Y, where u = w^(n / 2^level)
unfoldable pub point_at : (p w k level position : ℕ) → ℕ
point_at p w k l i =
    elim (ltb i (2 ^ l)) [
      | true ↦ power p (power p w (2 ^ k / 2 ^ l)) (2 * i)
      | false ↦ power p (power p w (2 ^ k / 2 ^ l)) (2 * (i - 2 ^ l) + 1)
    ]

-- THE VALUE there of the column's polynomial: the word itself in X, and the word over w^rev(first) in Y
unfoldable pub value_at : (p w k level first : ℕ) → (words : List ℕ) → (position : ℕ) → ℕ
value_at p w k l t c i = elim (ltb i (2 ^ l)) [ true ↦ get_or c i 0 | false ↦ times p (inverse p (power p w (reversed k t))) (get_or c i 0) ]

-- THE COLUMN that codes to the words at the first 2^level surviving positions
unfoldable pub decoded_column : (p w k level first : ℕ) → (marks : List Bool) → (words : List ℕ) → List ℕ
decoded_column p w k l t ms c =
    let is = take (2 ^ l) (survivors l ms) in
    bit_reversed l (interpolate p (map (point_at p w k l) is) (map (value_at p w k l t c) is))

-- whether two columns have the same words at all surviving positions below n
unfoldable pub agrees : (marks : List Bool) → (n : ℕ) → (a b : List ℕ) → Bool
agrees ms zero a b = true
agrees ms (suc n) a b = (get_or ms n false || eqb (get_or a n 0) (get_or b n 0)) && agrees ms n a b

-- WHETHER A COLUMN IS CONSISTENT: the one found codes to all surviving words
unfoldable pub consistent_column : (p w k level first : ℕ) → (marks : List Bool) → (words : List ℕ) → Bool
consistent_column p w k l t ms c = agrees ms (2 ^ suc l) (coded p w k l t (decoded_column p w k l t ms c)) c

-- rows of any width: columns j - 1, .., 0
unfoldable pub consistent_to : (p w k level first width : ℕ) → (marks : List Bool) → (rows : List ℕ) → (j : ℕ) → Bool
consistent_to p w k l t width ms r zero = true
consistent_to p w k l t width ms r (suc j) = consistent_column p w k l t ms (column width (2 ^ suc l) j r) && consistent_to p w k l t width ms r j

abbrev pub consistent : (p w k level first width : ℕ) → (marks : List Bool) → (rows : List ℕ) → Bool
consistent p w k l t width ms r = consistent_to p w k l t width ms r width

unfoldable pub decoded_rows : (p w k level first width : ℕ) → (marks : List Bool) → (rows : List ℕ) → List ℕ
decoded_rows p w k l t width ms r = lifted width (2 ^ suc l) (2 ^ l) (decoded_column p w k l t ms) r

-- A STRIPE BY ITS NUMBERS, its marks and its rows: whether some blocks code to all surviving words, and the blocks
abbrev pub is_consistent : Stripe → (marks : List Bool) → (rows : List ℕ) → Bool
is_consistent st ms r = consistent (modulus_of st) (root_in st) st.k st.level st.first st.width ms r

abbrev pub blocks_in : Stripe → (marks : List Bool) → (rows : List ℕ) → List ℕ
blocks_in st ms r = decoded_rows (modulus_of st) (root_in st) st.k st.level st.first st.width ms r
