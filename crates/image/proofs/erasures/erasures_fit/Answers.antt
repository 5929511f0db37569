-- `image::erasures::erasures_fit` meets its contract, by the loop of test 3 of proofs/ErasureLists. Assumes nothing.
use Rattle.std.proofs.Common.{arith}
use Rattle.image.proofs.Pairs.{is_pair}
use Rattle.image.proofs.ErasureLists.{rise_turn, rise_low, rise_empty, rise_over, rise_end, refused}
use Rattle.image.proofs.erasures.erasures_fit.Goals as goal
use Rattle.image.proofs.erasures.erasures_fit.Goals.{then-offset-least-via-then-offset-least, then-offset-least-via-else-offset-least+then-end-offset}
use Rattle.image.proofs.erasures.erasures_fit.Goals.{then-offset-least-via-else-offset-least+else-end-offset+then-size-end}

pub returns-then-offset-least : goal.returns-then-offset-least
returns-then-offset-least c =
    let r = c.loop-pair.invariant in
    let p = is_pair c.args.erasures.now c.as_chunks.ensures.front (omega arith) c.from-lost.ensures in
    refused c.args.erasures.now (elim c.then-offset-least.branch [
      | then-offset-least-via-then-offset-least w ↦ rise_low r p w.if-offset-least.true
      | then-offset-least-via-else-offset-least+then-end-offset w ↦ rise_empty r p (rw c.end-end.ensures at w.if-end-offset.true)
      | then-offset-least-via-else-offset-least+else-end-offset+then-size-end w ↦ rise_over r p (rw c.end-end.ensures at w.if-size-end.true)
    ])

pub loop-pair-preserved : goal.loop-pair-preserved
loop-pair-preserved c =
    let p = is_pair c.args.erasures.now c.as_chunks.ensures.front (omega arith) c.from-lost.ensures in
    rw c.end-end.ensures (rise_turn c.loop-pair.invariant p c.if-offset-least.false (omega arith) (omega arith))

pub returns : goal.returns
returns c =
    rw (← c.as_chunks.ensures.back_len, ← c.is_empty.ensures, c.if-not-is_empty.false) (rise_end c.loop-pair.invariant (omega arith))
