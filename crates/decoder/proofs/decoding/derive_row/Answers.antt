-- `decoder::decoding::derive_row` meets its contract. Assumes nothing.
use Rattle.std.proofs.Common.{arith}
use lib.Dec.{lit<}
use Rattle.field.proofs.Laws.{times_lt}
use Rattle.code.proofs.RowLaws.{storing_start}
use Rattle.decoder.proofs.decoding.derive_row.Invariants.{low_word, high_word, turn}
use Rattle.decoder.proofs.decoding.derive_row.Goals as goal

pub loop-j-init : goal.loop-j-init
loop-j-init c = record { storing = storing_start _ _ _ _ }

pub mul-s-requires : goal.mul-s-requires
mul-s-requires c = (omega arith, rw (low_word c.loop-j.invariant c.loop-j-test.true c.requires.width_bound.0) (c.requires.words.word _))

pub mul-requires : goal.mul-requires
mul-requires c = (omega arith, rw (high_word c.loop-j.invariant c.loop-j-test.true) (c.requires.words.word _))

pub sub-requires : goal.sub-requires
sub-requires c = (rw c.mul-s.ensures (times_lt 65537 (lit< tt) _ _), rw c.mul.ensures (times_lt 65537 (lit< tt) _ _))

pub loop-j-preserved : goal.loop-j-preserved
loop-j-preserved c = turn c.loop-j.invariant c.loop-j-test.true c.requires.width_bound.0 c.mul-s.ensures c.mul.ensures c.sub.ensures
