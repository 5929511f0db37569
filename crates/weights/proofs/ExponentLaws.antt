-- Laws of positions and exponents: what `position_at` is in each case, that it undoes `exponent_at`, the bounds of the logarithms that an exponent gives, and
-- of the flag of a mark. Assumes nothing.
use mathlib.Core.Path.{◌≡◌, refl, ap, ◌∙◌}
use mathlib.Core.Bool.{Bool, true, false}
use Prim.Native.Nat.{ℕ, suc, ◌+◌, ◌*◌, ◌/◌, ◌%◌, ◌^◌, ◌≤◌, ◌<◌}
use native.Mathlib.Nat.{mod-eq_of_lt, mul_assoc, mul_comm}
use native.Mathlib.Decide.{dec_lt}
use native.Mathlib.Omega.{arith}
use borrow.Author.Tests.{eq-eqb, ne_eqb}
use lib.ListN.{get_or}
use Rattle.std.specs.Int.{from_bool}
use Rattle.field.proofs.Unity.{two_div}
use Rattle.field.proofs.PowerTables.{entry_lt}
use Rattle.logarithms.specs.Logarithms.{log_table}
use Rattle.logarithms.specs.Weights.{log_of_power, log_of_less}
use Rattle.logarithms.proofs.Logarithms.{log_lt}
use Rattle.weights.specs.steps.Digits.{position_at, flag}

-- positions of even and of odd exponents
pub position_even : (l e : ℕ) → e % 2 ≡ 0 → position_at l e ≡ e / 2
unfolding position_at
position_even l e h = rw (eq-eqb (e % 2) 0 h, position_at)

pub position_odd : (l e : ℕ) → (e % 2 ≡ 0 → ⊥) → position_at l e ≡ 2 ^ l + e / 2
unfolding position_at
position_odd l e h = rw (ne_eqb (e % 2) 0 h, position_at)

pub position_lt : (l e : ℕ) → e < 2 ^ suc l → position_at l e < 2 ^ suc l
position_lt l e b = at (dec_lt (e % 2) 1)
  where
    at : Dec (e % 2 < 1) → position_at l e < 2 ^ suc l
    at (yes h) = omega (arith, position_even l e (omega arith))
    at (no h) = omega (arith, position_odd l e (λ z. omega arith))

-- the position of a position's exponent
pub position_even_is : (l i : ℕ) → position_at l (2 * i) ≡ i
position_even_is l i = position_even l (2 * i) (omega arith) ∙ omega arith

pub position_odd_is : (l i : ℕ) → position_at l (2 * i + 1) ≡ 2 ^ l + i
position_odd_is l i = position_odd l (2 * i + 1) (λ z. omega arith) ∙ omega arith

pub entry_in : (l e : ℕ) → l ≤ 10 → e < 2 ^ suc l → e * (1024 / 2 ^ l) < 2048
entry_in l e b h = rw (two_div 10 l b) (entry_lt l e b h)

pub log_of_power_is : (l e : ℕ) → log_of_power l e ≡ 32 * (1024 / 2 ^ l) * e
unfolding log_of_power
log_of_power_is l e = refl

pub log_of_power_lt : (l e : ℕ) → l ≤ 10 → e < 2 ^ suc l → log_of_power l e < 65536
log_of_power_lt l e b h =
    let s = 1024 / 2 ^ l in
    omega (arith, log_of_power_is l e, mul_assoc 32 s e, mul_comm s e, entry_in l e b h)

pub log_of_less_is : (l d : ℕ) → d < 2 ^ suc l → log_of_less l d ≡ get_or log_table (d * (1024 / 2 ^ l)) 0
unfolding log_of_less
log_of_less_is l d h = ap (λ (n : ℕ). get_or log_table (n * (1024 / 2 ^ l)) 0) (mod-eq_of_lt h)

pub log_of_less_lt : (l d : ℕ) → log_of_less l d < 65536
unfolding log_of_less
log_of_less_lt l d = log_lt _

-- it is the number that a mark converts to
pub flag_is : (b : Bool) → from_bool b ≡ flag b
unfolding flag
flag_is true = refl
flag_is false = refl

-- a flag is 0 or 1
pub flag_le : (b : Bool) → flag b ≤ 1
unfolding flag
flag_le true = omega arith
flag_le false = omega arith

pub flag_times_le : (b : Bool) (x : ℕ) → flag b * x ≤ x
unfolding flag
flag_times_le true x = omega arith
flag_times_le false x = omega arith
