-- What holds in the loop of `judging::records::judge`: the marks of the first j blocks are as the words of the range say. Assumes nothing.
use Rattle.judging.proofs.Judging.{JudgeLoop}
use Rattle.judging.proofs.records.judge.Given as goal

abbrev pub invariant-loop-j : goal.invariant-loop-j
invariant-loop-j l = JudgeLoop l.st l.range.from l.cols l.words l.initial.marks l.marks l.all l.j
