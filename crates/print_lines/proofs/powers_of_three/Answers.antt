-- `print_lines::powers_of_three` meets its contract: each turn writes the power that is next. Assumes nothing.
use Rattle.std.proofs.Common.{◌≡◌, sym, ap, ◌∙◌, ℕ, ◌<◌, arith, add-one}
use Rattle.std.proofs.lemmas.Grind.{get_or_default_zero, common_steps}
use Rattle.field.specs.Residue.{times}
use Rattle.field.specs.Power.{power}
use Rattle.field.specs.Field.{powers_of}
use Rattle.field.proofs.WordLists.{is_table}
use Rattle.field.proofs.Powers.{power_zero, power_suc, power_lt}
use Rattle.print_lines.proofs.powers_of_three.Goals as goal

below : (x i : ℕ) {y : ℕ} → y ≡ power 65537 x i → y < 65537
below x i e = omega (arith, power_lt 65537 (omega arith) x i)

pub loop-entry-init : goal.loop-entry-init
loop-entry-init c = record { next = sym (power_zero 65537 (omega arith) c.power-x.result); written = λ k b. absurd (omega arith) }

pub mul-power-requires : goal.mul-power-requires
mul-power-requires c = (below 3 c.args.step c.power-x.ensures, below c.power-x.result c.loop-entry.entry-index c.loop-entry.invariant.next)

pub loop-entry-preserved : goal.loop-entry-preserved
loop-entry-preserved c =
    let x = c.power-x.result in
    let i = c.loop-entry.entry-index in
    let inv = c.loop-entry.invariant in
    record {
      next = c.mul-power.ensures ∙ ap (times 65537 x) inv.next ∙ sym (power_suc 65537 (omega arith) x i) ∙ ap (power 65537 x) (sym (add-one i));
      written = grind (arith, common_steps, inv.next);
    }

pub returns-clause-powers : goal.returns-clause-powers
unfolding powers_of
returns-clause-powers c =
    is_table c.loop-entry.entry-items 2048 (power 65537 c.power-x.result) c.loop-entry-test.array_long (λ k b. c.loop-entry.invariant.written k (omega arith))
    ∙ ap (λ (x : ℕ). powers_of 65537 x 2048) c.power-x.ensures

pub returns-clause-words : goal.returns-clause-words
returns-clause-words c k d b =
    omega (arith, get_or_default_zero c.loop-entry.entry-items k d b, below c.power-x.result k (c.loop-entry.invariant.written k (omega arith)))
