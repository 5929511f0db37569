-- `range_laying::blocks::copy_columns` meets its contract. Assumes nothing.
use Rattle.std.proofs.Common.{arith, ◌+◌, ◌-◌, max}
use mathlib.Core.Path.{sym}
use Rattle.code.specs.Stripe.{block_count}
use Rattle.range_laying.proofs.CopiedRows.{copied_none}
use Rattle.range_laying.proofs.blocks.copy_columns.Goals as goal

-- no column of the range is copied
pub returns-else-first-end : goal.returns-else-first-end
returns-else-first-end c =
    let r = c.args.range in
    let s = c.args.skip in
    let w = c.args.vault.valid.stripe.width in
    sym (copied_none (max r.from s - s) (w - s) (max r.from s - r.from) r.cols (r.from + r.cols - max r.from s) c.args.words.now
    (omega (arith, c.max-first.ensures, c.if-first-end.false)) (block_count c.args.vault.valid.stripe) c.args.out.now)
