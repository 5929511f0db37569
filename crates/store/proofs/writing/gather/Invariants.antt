-- The loop of `store::writing::gather`: the halves of the levels from l on are copied. Assumes nothing.
use Rattle.std.proofs.Common.{◌-◌, ◌*◌, ◌^◌}
use Rattle.store.proofs.Gathering.{GatherLoop}
use Rattle.store.proofs.writing.gather.Given as goal

abbrev pub invariant-loop-l : goal.invariant-loop-l
invariant-loop-l g l = GatherLoop l.width l.initial.log l.level l.half l.log (l.end - 2 ^ l.l * l.width) l.l
