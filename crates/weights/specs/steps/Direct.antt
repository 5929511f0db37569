-- What the steps of `store_direct` make of a slice: sums over erased positions, by exponents. Assumes nothing: these are definitions.
use Rattle.std.specs.Prelude.{◌≡◌, Bool, false, List, ℕ, zero, suc, ◌+◌, ◌*◌, ◌-◌, ◌%◌, ◌^◌, ◌<◌, get_or}
use Rattle.field.specs.Field.{fermat}
use Rattle.logarithms.specs.Weights.{exponent_at, log_of_less}
use Rattle.weights.specs.steps.Digits.{flag}

-- the sum of the logarithms of u^(e - e_j) - 1 over the erased positions j below n
unfoldable pub less_to : (level : ℕ) → (marks : List Bool) → (e n : ℕ) → ℕ
less_to l ms e zero = 0
less_to l ms e (suc n) = less_to l ms e n + flag (get_or ms n false) * log_of_less l (e + (2 ^ suc l - exponent_at l n))

-- THE PART once n positions are added: the sums by exponents, and behind them the terms for all differences of exponents, twice
pub record Sums (level : ℕ) (marks : List Bool) (n : ℕ) (part : List ℕ) : Type 0 where
  pub sums : (e : ℕ) → e < 2 ^ suc level → get_or part e 0 ≡ less_to level marks e n
  pub terms : (d : ℕ) → d < 2 * 2 ^ suc level → get_or part (2 ^ suc level + d) 0 ≡ log_of_less level d

-- word e and word e of those from index `from` on
unfoldable pub row_sum : (words : List ℕ) → (from e : ℕ) → ℕ
row_sum l from e = get_or l e 0 + get_or l (from + e) 0

-- THE LOGARITHM of position i of what all share and of the sum at its exponent
unfoldable pub direct_at : (level shared : ℕ) → (part : List ℕ) → (i : ℕ) → ℕ
direct_at l shared part i = (shared + get_or part (exponent_at l i) 0) % (fermat.modulus - 1)
