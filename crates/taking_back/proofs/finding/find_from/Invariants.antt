-- The loop of `taking_back::finding::find_from`: what is left to look at comes to all there was to look at. Assumes nothing: these are definitions.
use Rattle.taking_back.proofs.FindingBack.{Seeking}
use Rattle.taking_back.proofs.HeldStripes.{decoding}
use Rattle.taking_back.proofs.finding.find_from.Given as goal

abbrev pub invariant-loop-l : goal.invariant-loop-l
invariant-loop-l l = Seeking l.held.header.header (decoding l.held) l.record l.level l.l
