-- `store::opening::build` meets its contract, by the loop that stores the blocks. Assumes nothing.
use Rattle.std.proofs.Common.{refl}
use Rattle.layout.proofs.StripePlaces.{first_full}
use Rattle.store.proofs.Building.{building_start, building_turn, building_words, built}
use Rattle.store.proofs.opening.build.Goals as goal

pub loop-i-init : goal.loop-i-init
loop-i-init g c =
    let h = c.args.header in
    building_start h.header h.fits c.record_count-i-end.ensures c.width-width.ensures c.requires.lengths.0 c.requires.lengths.1

pub loop-i-preserved : goal.loop-i-preserved
loop-i-preserved g c = building_turn c.loop-i.invariant c.loop-i-test.true c.block_row.ensures

pub code-requires-clause-words : goal.code-requires-clause-words
code-requires-clause-words g c =
    rw (c.stripe_of-stripe.ensures, ← c.width-width.ensures, ← c.loop-i.invariant.n_is) (building_words c.loop-i.invariant c.loop-i-test.false)

pub returns : goal.returns
returns g c =
    let h = c.args.header.header in
    built c.loop-i.invariant h.c c.loop-i-test.false
    (rw (first_full h h.k refl, ← c.width-width.ensures) at (rw c.stripe_of-stripe.ensures at c.code.ensures))
