-- `mixing_twice::four_65537::unreduced_mul` meets its contract. Assumes nothing.
use Rattle.std.proofs.Common.{◌≡◌, ℕ, ◌+◌, ◌-◌, ◌*◌, ◌/◌, ◌%◌, ◌≤◌, sym, ap, ◌∙◌, arith}
use native.Mathlib.Nat.{mul-le-mul, add-mul-mod_self_left, add-mod_right}
use Rattle.field.specs.Residue.{times}
use Rattle.mixing_twice.proofs.four_65537.unreduced_mul.Goals as goal

halves : (t : ℕ) → t ≤ 4294901760 → (t % 65536 + (65537 - t / 65536)) % 65537 ≡ t % 65537
halves t h =
    let s : ℕ = t % 65536 + (65537 - t / 65536) in
    let e : s + 65537 * (t / 65536) ≡ t + 65537 = omega arith in
    sym (add-mul-mod_self_left s 65537 (t / 65536)) ∙ ap (λ (n : ℕ). n % 65537) e ∙ add-mod_right t 65537

pub returns : goal.returns
unfolding times
returns c =
    let fits : c.args.g * c.args.y ≤ 4294901760 = mul-le-mul {n₂ = 65535} {m₂ = 65536} (omega arith) (omega arith) in
    (omega arith, halves _ fits)
