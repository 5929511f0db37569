-- The loop of `taking_back::finding::last_of`: the last of all is the last of those left. Assumes nothing: these are definitions.
use Rattle.taking_back.proofs.BlockSearch.{Searched}
use Rattle.taking_back.proofs.finding.last_of.Given as goal

abbrev pub invariant-loop-j : goal.invariant-loop-j
invariant-loop-j l = Searched l.width l.blocks l.record l.n l.j
