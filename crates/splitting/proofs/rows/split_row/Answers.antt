-- `splitting::rows::split_row` meets its contract, by the loop over a row of proofs/SplitRows. Assumes nothing.
use Rattle.mixing.proofs.Crossing.{difference_word}
use Rattle.code.proofs.RowLaws.{storing_done}
use Rattle.splitting.proofs.SplitRows.{row_start, row_words, row_turn}
use Rattle.splitting.proofs.rows.split_row.Goals as goal

pub loop-j-init : goal.loop-j-init
loop-j-init g c = row_start c.requires.low_words c.requires.high_words

pub half_of_sum-requires : goal.half_of_sum-requires
half_of_sum-requires g c = row_words c.loop-j.invariant

pub sub-requires : goal.sub-requires
sub-requires g c = row_words c.loop-j.invariant

pub product-requires : goal.product-requires
product-requires g c = difference_word _ _ c.sub.ensures

pub loop-j-preserved : goal.loop-j-preserved
loop-j-preserved g c = row_turn c.loop-j.invariant c.loop-j-test.true c.half_of_sum.ensures (rw c.sub.ensures at c.product.ensures)

pub returns-clause-to : goal.returns-clause-to
returns-clause-to g c = storing_done (c.loop-j.invariant).to_is c.loop-j-test.false

pub returns-clause-low : goal.returns-clause-low
returns-clause-low g c = storing_done (c.loop-j.invariant).low_is c.loop-j-test.false

pub returns-clause-high : goal.returns-clause-high
returns-clause-high g c = storing_done (c.loop-j.invariant).high_is c.loop-j-test.false
