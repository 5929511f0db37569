-- The fields of the vault: a modulus with a generator, what it is to be prime, and roots of unity. Assumes nothing: these are definitions.
use Rattle.std.specs.Prelude.{◌≡◌, ℕ, ◌-◌, ◌*◌, ◌/◌, ◌%◌, ◌^◌, ◌<◌, ◌⊎◌, List}
use Rattle.field.specs.Residue.{times}
use Rattle.field.specs.Power.{power, inverse}
use Rattle.field.specs.Words.{table}

pub record Field : Type 0 where
  pub modulus : ℕ
  pub generator : ℕ

-- the field of docs/FORMAT.md, section 2: 65537 with 3
abbrev pub fermat : Field
fermat = record { modulus = 65537; generator = 3 }

-- p is prime: a product is a multiple of p only where a factor is; and each residue but 0 has its inverse
pub record Prime (p : ℕ) : Type 0 where
  pub big : 1 < p
  pub domain : (x y : ℕ) → x * y % p ≡ 0 → (x % p ≡ 0) ⊎ (y % p ≡ 0)
  pub invert : (x : ℕ) → 0 < x → x < p → times p x (inverse p x) ≡ 1

-- w is a root of unity of order 2 * 2 ^ k modulo p: its power at 2 ^ k is -1, which is not 1
pub record Root (p k w : ℕ) : Type 0 where
  pub odd : 2 < p
  pub small : w < p
  pub half : power p w (2 ^ k) ≡ p - 1

-- the root of a vault of n = 2 ^ k records: w = 3 ^ (32768 / n) in the field of 65537
unfoldable pub root_of : (f : Field) → (k : ℕ) → ℕ
root_of f k = power f.modulus f.generator ((f.modulus - 1) / (2 * 2 ^ k))

-- x^0, x^1, .., n of them
unfoldable pub powers_of : (p x n : ℕ) → List ℕ
powers_of p x n = table n (power p x)

-- THE TABLE OF POWERS that card readers carry: 2,048 powers of 3^32 modulo 65537, of which every root of a vault is one
abbrev pub power_table : List ℕ
power_table = powers_of fermat.modulus (power fermat.modulus fermat.generator 32) 2048
