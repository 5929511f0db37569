-- The logarithms of the numbers by which the decoder weighs and divides, as sums over erased positions: the points of a stripe of 2 ^ level blocks are the
-- powers of u, the root of 2 ^ level records, and x_i - x_j is x_j (u^(e_i - e_j) - 1). A mark is true where a position is erased. Assumes nothing: these are
-- definitions.
use Rattle.std.specs.Prelude.{Bool, true, false, List, ℕ, zero, suc, ◌+◌, ◌*◌, ◌-◌, ◌/◌, ◌%◌, ◌^◌, ltb, get_or}
use Rattle.field.specs.Field.{fermat}
use Rattle.field.specs.Words.{table}
use Rattle.logarithms.specs.Logarithms.{log_table}

-- how many positions below n are erased
unfoldable pub erased_to : (marks : List Bool) → (n : ℕ) → ℕ
erased_to ms zero = 0
erased_to ms (suc n) = elim (get_or ms n false) [ true ↦ suc (erased_to ms n) | false ↦ erased_to ms n ]

-- THE EXPONENT of a position's point: 2i for position i of X, 2i + 1 for position i of Y
unfoldable pub exponent_at : (level position : ℕ) → ℕ
exponent_at l i = elim (ltb i (2 ^ l)) [ true ↦ 2 * i | false ↦ 2 * (i - 2 ^ l) + 1 ]

-- the logarithms of u^e and of u^d - 1: u is entry 1024 / 2 ^ level of the table of powers, and exponents count modulo 2 * 2 ^ level
unfoldable pub log_of_power : (level e : ℕ) → ℕ
log_of_power l e = 32 * (1024 / 2 ^ l) * e

unfoldable pub log_of_less : (level d : ℕ) → ℕ
log_of_less l d = get_or log_table (d % 2 ^ suc l * (1024 / 2 ^ l)) 0

-- the sum of the logarithms of x_j and of u^(e_i - e_j) - 1 over the erased positions j below n; where j is i the latter is entry 0, which is 0
unfoldable pub log_to : (level : ℕ) → (marks : List Bool) → (i n : ℕ) → ℕ
log_to l ms i zero = 0
log_to l ms i (suc n) =
    let r = log_to l ms i n in
    elim (get_or ms n false) [
      | true ↦ r + (log_of_power l (exponent_at l n) + log_of_less l (exponent_at l i + (2 ^ suc l - exponent_at l n)))
      | false ↦ r
    ]

-- THE LOGARITHM of position i, below 65536: that of its weight where it survives, and of its point times its weight where it is erased
unfoldable pub log_at : (level : ℕ) → (marks : List Bool) → (i : ℕ) → ℕ
log_at l ms i = log_to l ms i (2 ^ suc l) % (fermat.modulus - 1)

unfoldable pub logs : (level : ℕ) → (marks : List Bool) → List ℕ
logs l ms = table (2 ^ suc l) (log_at l ms)
