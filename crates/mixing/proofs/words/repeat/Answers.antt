-- `mixing::words::repeat` meets its contract, by the laws of a loop that stores rows. Assumes nothing.
use Rattle.std.proofs.Common.{ℕ, ◌*◌, ◌%◌, get_or, sym, ap, ◌∙◌}
use lib.Arith.{digits_div}
use native.Mathlib.Nat.{zero-mul}
use Rattle.code.specs.steps.Mixing.{repeated_at}
use Rattle.code.specs.steps.Storing.{always}
use Rattle.code.proofs.RowLaws.{storing_rows_start, storing_rows_turn}
use Rattle.code.proofs.Lifting.{row_next}
use Rattle.mixing.proofs.words.repeat.Goals as goal

pub loop-i-init : goal.loop-i-init
loop-i-init c = rw zero-mul (storing_rows_start _ _ _ _ _)

pub loop-i-preserved : goal.loop-i-preserved
unfolding always repeated_at
loop-i-preserved c =
    rw row_next
    (storing_rows_turn c.loop-i.invariant (always c.of.result.g) c.loop-i-test.true c.repeat_factor.ensures
    (λ j b. c.of.ensures ∙ ap (λ (n : ℕ). get_or c.args.powers.table.now (n * c.args.powers.step % 2048) 0) (sym (digits_div _ b))))
