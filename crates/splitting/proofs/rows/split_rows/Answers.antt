-- `splitting::rows::split_rows` meets its contract, by the loop over rows of proofs/SplitRows. Assumes nothing.
use Rattle.std.proofs.Common.{ap, ◌∙◌, arith}
use Rattle.field.specs.Residue.{times}
use Rattle.code.proofs.RowLaws.{storing_rows_done}
use Rattle.splitting.proofs.SplitRows.{half_word, rows_start, low_fine, high_fine, rows_turn}
use Rattle.splitting.proofs.rows.split_rows.Goals as goal

pub loop-i-init : goal.loop-i-init
loop-i-init c = rows_start c.requires.low_words c.requires.high_words

pub split_by-requires-clause-factor : goal.split_by-requires-clause-factor
split_by-requires-clause-factor c = omega (arith, c.half-g.ensures, c.of.result.short)

pub split_by-requires-clause-low_words : goal.split_by-requires-clause-low_words
split_by-requires-clause-low_words c = low_fine c.loop-i.invariant

pub split_by-requires-clause-high_words : goal.split_by-requires-clause-high_words
split_by-requires-clause-high_words c = high_fine c.loop-i.invariant

pub loop-i-preserved : goal.loop-i-preserved
loop-i-preserved c =
    let g = c.of.result.g in
    let power = c.of.ensures ∙ c.args.powers.factors.entry c.loop-i.i c.loop-i-test.true in
    rows_turn c.loop-i.invariant c.loop-i-test.true (c.half-g.ensures ∙ half_word g (omega (arith, c.of.result.short)) ∙ ap (times 65537 32769) power)
    c.split_by.ensures.to c.split_by.ensures.low c.split_by.ensures.high

pub returns-clause-to : goal.returns-clause-to
returns-clause-to c = storing_rows_done (c.loop-i.invariant).to_is c.loop-i-test.false

pub returns-clause-low : goal.returns-clause-low
returns-clause-low c = storing_rows_done (c.loop-i.invariant).low_is c.loop-i-test.false

pub returns-clause-high : goal.returns-clause-high
returns-clause-high c = storing_rows_done (c.loop-i.invariant).high_is c.loop-i-test.false
