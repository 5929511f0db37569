-- The promises of specs/Promises about the table of powers, each proved. Assumes nothing.
use mathlib.Core.Path.{◌≡◌, refl, sym, ap, ◌∙◌}
use Prim.Native.Nat.{ℕ, suc, ◌*◌, ◌-◌, ◌/◌, ◌^◌, ◌<◌}
use native.Mathlib.Nat.{mul-pos}
use native.Mathlib.Omega.{arith}
use lib.Pow.{pow_pos, pow_mono}
use lib.ListN.{get_or}
use Rattle.field.specs.Power.{power, inverse}
use Rattle.field.specs.Field.{fermat, root_of, power_table}
use Rattle.field.proofs.Unity.{two_div}
use Rattle.field.proofs.PowerTables.{length_table_of_powers, powers_at, table_step, entry_lt}
use Rattle.field.proofs.PowerTables.{table_root, table_inverse, inverse_power, level_root, level_inverse}
use Rattle.code.proofs.Factors.{turning_entry}
use Rattle.decoder.specs.Promises.{TableRule, RootInTable, PowersInTable, InversesInTable, MixingInTable, UnmixingInTable, TurningInTable, PointsInTable}
use Rattle.decoder.proofs.Points.{point_low, point_high}

pub table_rule : TableRule
table_rule = (length_table_of_powers, λ i b. powers_at 65537 (power 65537 3 32) 2048 i b)

pub root_in_table : RootInTable
root_in_table k b = ap (λ (e : ℕ). get_or power_table e 0) (two_div 10 k b) ∙ table_root k b

pub powers_in_table : PowersInTable
powers_in_table k j b h =
    let s : 2 ^ (10 - k) < 2048 = omega (arith, pow_mono {i = 10 - k} {j = 10} (omega arith)) in
    ap (λ (e : ℕ). get_or power_table (j * e) 0) (two_div 10 k b) ∙ table_step (2 ^ (10 - k)) j s (entry_lt k j b h)
    ∙ ap (λ (w : ℕ). power 65537 w j) (table_root k b)

pub inverses_in_table : InversesInTable
inverses_in_table k j b z h =
    let e = j * (1024 / 2 ^ k) in
    let s : 1024 / 2 ^ k ≡ 2 ^ (10 - k) = two_div 10 k b in
    let i : e < 2048 = rw s (entry_lt k j b h) in
    let o : 0 < e = rw s (mul-pos z (pow_pos (10 - k))) in
    table_inverse e o i ∙ ap (inverse 65537) (powers_in_table k j b h) ∙ sym (inverse_power 65537 (omega arith) (root_of fermat k) j)

pub mixing_in_table : MixingInTable
mixing_in_table k l i b t h =
    powers_in_table l i (omega arith) (omega arith) ∙ ap (λ (w : ℕ). power 65537 w i) (sym (level_root k l b (omega arith)))

pub unmixing_in_table : UnmixingInTable
unmixing_in_table k l i b t z h =
    inverses_in_table l i (omega arith) z (omega arith) ∙ ap (λ (w : ℕ). power 65537 w i) (sym (level_inverse k l b (omega arith)))

pub turning_in_table : TurningInTable
turning_in_table k t b h = turning_entry b h refl

pub points_in_table : PointsInTable
points_in_table k l i b t h =
    let w = root_of fermat k in
    let at : (j : ℕ) → j < 2 ^ suc l → get_or power_table (j * (1024 / 2 ^ l)) 0 ≡ power 65537 (power 65537 w (2 ^ k / 2 ^ l)) j =
    λ j m. powers_in_table l j (omega arith) m ∙ ap (λ (w : ℕ). power 65537 w j) (sym (level_root k l b (omega arith))) in
    (at (2 * i) (omega arith) ∙ sym (point_low 65537 w k l i h), at (suc (2 * i)) (omega arith) ∙ sym (point_high 65537 w k l i))
