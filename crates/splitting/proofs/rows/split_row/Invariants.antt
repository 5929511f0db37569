-- The loop of `splitting::rows::split_row`: the first j words are stored. Assumes nothing.
use Rattle.splitting.proofs.SplitRows.{SplitRow}
use Rattle.splitting.proofs.rows.split_row.Given as goal

abbrev pub invariant-loop-j : goal.invariant-loop-j
invariant-loop-j g l = SplitRow l.at l.width (g.F.Factor.value l.factor) l.initial.to l.initial.low l.initial.high l.to l.low l.high l.j
