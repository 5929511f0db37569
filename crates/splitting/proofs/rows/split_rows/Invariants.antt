-- The loop of `splitting::rows::split_rows`: the first i rows are split. Assumes nothing.
use Rattle.std.proofs.Common.{get_or}
use Rattle.splitting.proofs.SplitRows.{SplitRows}
use Rattle.splitting.proofs.rows.split_rows.Given as goal

abbrev pub invariant-loop-i : goal.invariant-loop-i
invariant-loop-i l =
    SplitRows l.powers.rows l.width (get_or l.powers.table.now l.powers.step 0) l.initial.to l.initial.low l.initial.high l.to l.low l.high l.i
