-- `range_laying::blocks::lay_range` meets its contract. Assumes nothing.
use mathlib.Core.Path.{sym, ◌∙◌}
use Rattle.std.proofs.Common.{◌≡◌, pred, ◌-◌, arith}
use Rattle.range_laying.proofs.RangeCases.{lays_blocks, lays_data, lays_records, names_none, names_writes}
use Rattle.range_laying.proofs.blocks.lay_range.Goals as goal

pub returns-in-Blocks : goal.returns-in-Blocks
returns-in-Blocks c = rw c.in-Blocks.is (c.copy_columns.ensures ∙ sym (lays_blocks _ _ _ _))

pub returns-then-whole : goal.returns-then-whole
returns-then-whole c = rw c.in-Records.is (c.copy_columns-then-whole.ensures ∙ sym (lays_data _ _ _ _ c.if-whole.true))

pub returns-else-whole : goal.returns-else-whole
returns-else-whole c =
    let a = c.args in
    let s : pred c.args.vault.valid.stripe.width ≡ c.args.vault.valid.stripe.width - 1 = omega arith in
    rw (c.in-Records.is, lays_records a.vault.valid.stripe a.range a.words.now a.out.now c.if-whole.false, s, ← c.block_count-rows.ensures) c.lay_data.ensures

pub returns-then-whole-2 : goal.returns-then-whole-2
returns-then-whole-2 c =
    let a = c.args in
    rw (c.in-Origins.is, names_none a.vault.valid.stripe a.range a.words.now a.out.now c.if-whole-2.true, ← c.block_count-rows.ensures) c.fill_pairs.ensures

pub returns-else-whole-2 : goal.returns-else-whole-2
returns-else-whole-2 c = rw c.in-Origins.is (c.lay_origins.ensures ∙ sym (names_writes _ _ _ _ c.if-whole-2.false))
