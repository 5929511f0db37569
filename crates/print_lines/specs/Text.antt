-- Numbers as text: the bytes of a number in decimal, and of a list of numbers, one to a line. Assumes nothing: these are definitions.
use Rattle.std.specs.Prelude.{true, false, List, [], ◌∷◌, ◌++◌, ℕ, zero, suc, ◌+◌, ◌/◌, ◌%◌, ltb}

-- the digits of n, where 48 is the byte of the digit 0: those of n / 10, where there are any, and the last. The fuel bounds their number
unfoldable pub decimal_from : (fuel n : ℕ) → List ℕ
decimal_from zero n = []
decimal_from (suc f) n = elim (ltb n 10) [ true ↦ (48 + n) ∷ [] | false ↦ decimal_from f (n / 10) ++ ((48 + n % 10) ∷ []) ]

-- n + 1 digits are more than enough
unfoldable pub decimal : (n : ℕ) → List ℕ
decimal n = decimal_from (suc n) n

-- a line feed, the byte 10, after each number
unfoldable pub lines : List ℕ → List ℕ
lines [] = []
lines (x ∷ xs) = decimal x ++ (10 ∷ lines xs)
