-- The loop of `recovery::stripes::lay_each`: what is left to lay comes to all there was to lay. Assumes nothing: these are definitions.
use Rattle.recovery.specs.steps.Laying.{decoding, stripes_laid}
use Rattle.recovery.proofs.StripesLaid.{Left}
use Rattle.recovery.proofs.stripes.lay_each.Given as goal

abbrev pub invariant-loop-level : goal.invariant-loop-level
invariant-loop-level g l =
    let r = l.readings in
    let h = g.R.Readings.its_header r in
    let m = g.R.Readings.image r in
    let e = g.R.Readings.erasures r in
    Left h l.content (decoding h m e) (stripes_laid h l.content m e) l.out l.level-counter
