-- Exponents of positions (`exponent_at` of specs/Weights): what they are in X and in Y, and that they are below 2 * 2 ^ level. Assumes nothing.
use mathlib.Core.Path.{◌≡◌}
use Prim.Native.Nat.{ℕ, suc, ◌+◌, ◌*◌, ◌-◌, ◌^◌, ◌≤◌, ◌<◌}
use native.Mathlib.Decide.{dec_lt}
use native.Mathlib.Omega.{arith}
use borrow.Author.Tests.{lt-ltb, le-ltb}
use Rattle.logarithms.specs.Weights.{exponent_at}

pub exponent_low : (l i : ℕ) → i < 2 ^ l → exponent_at l i ≡ 2 * i
unfolding exponent_at
exponent_low l i h = rw (lt-ltb i (2 ^ l) h, exponent_at)

pub exponent_high : (l i : ℕ) → 2 ^ l ≤ i → exponent_at l i ≡ 2 * (i - 2 ^ l) + 1
unfolding exponent_at
exponent_high l i h = rw (le-ltb i (2 ^ l) h, exponent_at)

pub exponent_lt : (l i : ℕ) → i < 2 ^ suc l → exponent_at l i < 2 ^ suc l
exponent_lt l i b = at (dec_lt i (2 ^ l))
  where
    at : Dec (i < 2 ^ l) → exponent_at l i < 2 ^ suc l
    at (yes h) = omega (arith, exponent_low l i h)
    at (no h) = omega (arith, exponent_high l i (omega arith))
