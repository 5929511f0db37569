-- `image::erasures::mark_touched` meets its contract: the positions touched are those between two quotients (proofs/Marking). Assumes nothing.
use Rattle.std.proofs.Common.{◌+◌, ◌/◌, ◌≤◌, arith}
use Rattle.image.proofs.Marking.{Lowest, Highest, lowest_at, highest_at, lowest_below, touched_between, marked_same, erased_before, erased_behind, fill_marked}
use Rattle.image.proofs.erasures.mark_touched.Goals as goal
use Rattle.image.proofs.erasures.mark_touched.Goals.{then-end-base-via-then-end-base, then-end-base-via-else-end-base+then-last-offset}

pub returns-then-end-base : goal.returns-then-end-base
returns-then-end-base c =
    let a = c.args in
    let p = a.places in
    elim c.then-end-base.branch [
      | then-end-base-via-then-end-base w ↦
          erased_before p.base p.step p.some p.positions a.lost.offset a.lost.size a.marks.now (rw c.end-end.ensures at w.if-end-base.true)
      | then-end-base-via-else-end-base+then-last-offset w ↦
          erased_behind p.base p.step p.some p.positions a.lost.offset a.lost.size a.marks.now w.if-last-offset.true
    ]

pub returns : goal.returns
returns c =
    let a = c.args in
    let p = a.places in
    let lowest : Lowest p.base p.step a.lost.offset (c.saturating_sub.result / p.step) =
    rw c.saturating_sub.ensures (lowest_at p.base p.step p.some a.lost.offset) in
    let highest : Highest p.base p.step p.positions (a.lost.offset + a.lost.size) c.min-high.result =
    rw c.end-end.ensures at (highest_at p.base p.step p.some p.positions c.end-end.result c.div_ceil.ensures c.min-high.ensures (omega arith)) in
    let rises : c.saturating_sub.result / p.step ≤ c.min-high.result =
    rw c.saturating_sub.ensures
    (lowest_below p.base p.step p.some p.positions c.end-end.result c.div_ceil.ensures c.min-high.ensures (omega arith) c.if-last-offset.false) in
    marked_same (touched_between a.lost.size lowest highest)
    (fill_marked a.marks.now rises (omega (arith, highest.within)) (c.fill.ensures.after (λ y e. e)))
