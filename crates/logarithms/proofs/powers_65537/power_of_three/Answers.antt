-- `logarithms::powers_65537::power_of_three` meets its contract: 3^e is the product of (3^32)^(e / 32) and 3^(e % 32), which are entries. Assumes nothing.
use mathlib.Core.List.{List}
use mathlib.Core.Path.{◌≡◌, sym, ap₂, ◌∙◌}
use Prim.Native.Nat.{ℕ, ◌/◌, ◌%◌, ◌<◌}
use native.Mathlib.Omega.{arith}
use lib.Dec.{lit<}
use lib.ListN.{get_or}
use Rattle.field.specs.Residue.{times}
use Rattle.field.specs.Power.{power}
use Rattle.field.specs.Field.{powers_of, power_table}
use Rattle.field.proofs.PowerTables.{powers_entry}
use Rattle.logarithms.proofs.Logarithms.{powers_lt, power_digits}
use Rattle.logarithms.proofs.powers_65537.power_of_three.Goals as goal

-- the powers that stand at the digits of the exponent
product : {high low : List ℕ} (e : ℕ) → e < 65536 → high ≡ power_table → low ≡ powers_of 65537 3 32 → {r : ℕ}
    → r ≡ times 65537 (get_or high (e / 32) 0) (get_or low (e % 32) 0) → r ≡ power 65537 3 e
product e small f g q =
    q ∙ ap₂ (times 65537) (powers_entry 65537 _ 2048 (e / 32) f (omega arith)) (powers_entry 65537 _ 32 (e % 32) g (omega arith))
    ∙ sym (power_digits 65537 3 32 e (lit< tt))

pub mul-requires : goal.mul-requires
mul-requires c = (powers_lt 65537 _ 2048 _ (lit< tt) c.powers-high.ensures, powers_lt 65537 _ 32 _ (lit< tt) c.threes-low.ensures)

pub returns : goal.returns
returns c = product c.args.e c.requires c.powers-high.ensures c.threes-low.ensures c.mul.ensures
