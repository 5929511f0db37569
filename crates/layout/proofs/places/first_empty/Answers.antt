-- `layout::places::first_empty` meets its contract. Assumes nothing.
use Rattle.std.proofs.Common.{arith}
use Rattle.layout.proofs.FirstLevel.{start, turn, found}
use Rattle.layout.proofs.places.first_empty.Goals as goal

pub loop-rest-init : goal.loop-rest-init
loop-rest-init c = start c.args.c

pub overflow_add-level : goal.overflow_add-level
overflow_add-level c = omega (arith, c.loop-rest.invariant.few)

pub loop-rest-smaller : goal.loop-rest-smaller
loop-rest-smaller c = omega arith

pub loop-rest-preserved : goal.loop-rest-preserved
loop-rest-preserved c = turn c.loop-rest.invariant (omega arith)

pub returns : goal.returns
returns c = λ k h. found c.loop-rest.invariant c.if-rest-eq0.true k h
