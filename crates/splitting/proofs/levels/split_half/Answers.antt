-- `splitting::levels::split_half` meets its contract: all words of each slice are stored. Assumes nothing.
use Rattle.std.proofs.Common.{List, ℕ, ◌*◌, ◌++◌, length, get_or, ap, ap₂, ◌∙◌, arith}
use lib.ListN.{length-drop}
use lib.Seq.{length-take-le}
use Rattle.field.specs.Words.{table}
use Rattle.splitting.specs.steps.Unfolding.{half_sum, half_difference}
use Rattle.splitting.proofs.HalvesLoop.{stored_all, stored_zeros}
use Rattle.splitting.proofs.levels.split_half.Goals as goal

pub returns-clause-to : goal.returns-clause-to
returns-clause-to c =
    let n = c.args.powers.rows * c.args.width in
    let e = c.split_at_mut-low.ensures in
    c.split_rows.ensures.to
    ∙ stored_all _ _ _ c.requires.to_len
    ∙ ap₂ (λ (a b : List ℕ). table n (half_sum 65537 32769 a b)) e.front e.back

pub returns-clause-part : goal.returns-clause-part
returns-clause-part c =
    let p = c.args.powers in
    let n = p.rows * c.args.width in
    let e = c.split_at_mut-low.ensures in
    ap₂ ◌++◌ (c.split_rows.ensures.low ∙ stored_zeros _ _ (ap length e.front ∙ length-take-le n c.args.part.now (omega (arith, c.requires.part_len))))
    (c.split_rows.ensures.high
    ∙ stored_all _ _ _ (ap length e.back ∙ length-drop n c.args.part.now ∙ omega (arith, c.requires.part_len))
    ∙ ap₂ (λ (a b : List ℕ). table n (half_difference 65537 32769 (get_or p.table.now p.step 0) c.args.width a b)) e.front e.back)
