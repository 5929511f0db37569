-- `taking_back::finding::Held::stripe` meets its contract, by the laws of proofs/HeldStripes. Assumes nothing.
use Rattle.std.proofs.Common.{◌<◌, arith}
use Rattle.taking_back.proofs.HeldStripes.{level_ends, level_is}
use Rattle.taking_back.proofs.finding.Held.stripe.Goals as goal

pub slice_bounds-result-end : goal.slice_bounds-result-end
slice_bounds-result-end c =
    let a = c.args in
    let h = a.self.header.header in
    let b : a.level < h.k = omega (arith, c.requires, c.if-level-self.false) in
    level_ends h a.level c.width-width.ensures c.half_at-start.ensures c.half_at-end.ensures b a.self.log.now a.self.sized.1

pub returns : goal.returns
returns c =
    let a = c.args in
    let s = a.self in
    level_is s.header.header a.level c.width-width.ensures c.half_at-start.ensures c.half_at-end.ensures c.if-level-self.false s.full.now s.log.now
