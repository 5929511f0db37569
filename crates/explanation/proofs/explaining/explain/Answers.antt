-- `explanation::explaining::explain` meets its contract. Assumes nothing.
use mathlib.Core.Path.{sym}
use Rattle.explanation.proofs.ExplainCall.{Lent, lent}
use Rattle.explanation.proofs.explaining.explain.Goals.{In_ok-reading}
use Rattle.explanation.proofs.explaining.explain.Goals as goal

-- where no test applies
passed : (c : In_ok-reading) → let a = c.args in Lent a.header a.image.now a.erasures.now a.counts.now a.origins.now a.scratch.now
passed c =
    let a = c.args in
    lent a.header a.image.now a.erasures.now a.counts.now a.origins.now a.scratch.now (sym c.in_ok-reading.ensures.number)

pub count_stripes-requires : goal.count_stripes-requires
count_stripes-requires c = rw c.in_ok-reading.ensures.same.0 (passed (goal.at.count_stripes-requires c).In_ok-reading).counted

pub lay_stripes-requires : goal.lay_stripes-requires
lay_stripes-requires c =
    let L = passed (goal.at.lay_stripes-requires c).In_ok-reading in
    rw c.in_ok-reading.ensures.same.0 (record { output = L.named; room = L.room })
