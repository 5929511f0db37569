-- Logarithms modulo p, and the table of those of the powers of 3^32 less 1. Assumes nothing: these are definitions.
use Rattle.std.specs.Prelude.{true, false, List, ℕ, zero, suc, ◌-◌, eqb}
use Rattle.field.specs.Residue.{minus}
use Rattle.field.specs.Power.{power}
use Rattle.field.specs.Words.{table}
use Rattle.field.specs.Field.{fermat}

-- the first exponent from e on, fuel of them, whose power of g is x; 0 where there is none
unfoldable pub log_from : (fuel p g x e : ℕ) → ℕ
log_from zero p g x e = 0
log_from (suc n) p g x e = elim (eqb (power p g e) x) [ true ↦ e | false ↦ log_from n p g x (suc e) ]

-- THE LOGARITHM of x to the base g. That of 0, which is no power, is 0
unfoldable pub logarithm : (p g x : ℕ) → ℕ
logarithm p g x = log_from (p - 1) p g x 0

-- the logarithms of u^0 - 1, u^1 - 1, .., n of them
unfoldable pub logs_of : (p g u n : ℕ) → List ℕ
logs_of p g u n = table n (λ d. logarithm p g (minus p (power p u d) 1))

-- THE TABLE OF LOGARITHMS to the base 3: entry d is that of u^d - 1, where u = 3^32, of which the table of powers holds all powers. Entry 0 is 0
abbrev pub log_table : List ℕ
log_table = logs_of fermat.modulus fermat.generator (power fermat.modulus fermat.generator 32) 2048
