-- `transform::small_rows::cross_small_rows` meets its contract, by the laws of the loop over levels, either way, of proofs/EitherWay. Assumes nothing.
use Rattle.std.proofs.Common.{refl, sym, arith}
use native.Mathlib.Nat.{sub-zero}
use Rattle.transform.proofs.NarrowLevels.{lent, level_crossed}
use Rattle.transform.proofs.EitherWay.{levels_start, levels_done, crosses, narrow_here, level_turn}
use Rattle.transform.proofs.small_rows.cross_small_rows.Goals as goal

pub loop-turn-init : goal.loop-turn-init
loop-turn-init g c = rw (sub-zero c.args.level) (levels_start g.D.Direction.unmixing c.requires.level_bound.0 c.requires.half_len c.requires.words)

pub overflow_mul-words : goal.overflow_mul-words
overflow_mul-words g c =
    let t = narrow_here g.D.Direction.unmixing c.loop-turn.invariant c.loop-turn-test.true c.requires.level_bound.1 c.pass-l.ensures refl
    c.powers-powers.ensures in
    record { fits = omega (arith, t.room) }

pub repeat-requires : goal.repeat-requires
repeat-requires g c =
    let t = narrow_here g.D.Direction.unmixing c.loop-turn.invariant c.loop-turn-test.true c.requires.level_bound.1 c.pass-l.ensures c.two_to-blocks.ensures
    c.powers-powers.ensures in
    omega (arith, t.room)

pub slice_bounds-factors-end : goal.slice_bounds-factors-end
slice_bounds-factors-end g c =
    let t = narrow_here g.D.Direction.unmixing c.loop-turn.invariant c.loop-turn-test.true c.requires.level_bound.1 c.pass-l.ensures c.two_to-blocks.ensures
    c.powers-powers.ensures in
    omega (arith, t.room)

pub slice_bounds-cross_words_each-end : goal.slice_bounds-cross_words_each-end
slice_bounds-cross_words_each-end g c =
    let t = narrow_here g.D.Direction.unmixing c.loop-turn.invariant c.loop-turn-test.true c.requires.level_bound.1 c.pass-l.ensures c.two_to-blocks.ensures
    c.powers-powers.ensures in
    sym (lent c.loop-turn.half c.loop-turn.factors t (omega arith) c.repeat.ensures).long

pub cross_words_each-requires-clause-half_len : goal.cross_words_each-requires-clause-half_len
cross_words_each-requires-clause-half_len g c =
    let t = narrow_here g.D.Direction.unmixing c.loop-turn.invariant c.loop-turn-test.true c.requires.level_bound.1 c.pass-l.ensures c.two_to-blocks.ensures
    c.powers-powers.ensures in
    (lent c.loop-turn.half c.loop-turn.factors t (omega arith) c.repeat.ensures).words

pub cross_words_each-requires-clause-short_factors : goal.cross_words_each-requires-clause-short_factors
cross_words_each-requires-clause-short_factors g c =
    let t = narrow_here g.D.Direction.unmixing c.loop-turn.invariant c.loop-turn-test.true c.requires.level_bound.1 c.pass-l.ensures c.two_to-blocks.ensures
    c.powers-powers.ensures in
    (lent c.loop-turn.half c.loop-turn.factors t (omega arith) c.repeat.ensures).short

pub loop-turn-preserved : goal.loop-turn-preserved
loop-turn-preserved g c =
    let t = narrow_here g.D.Direction.unmixing c.loop-turn.invariant c.loop-turn-test.true c.requires.level_bound.1 c.pass-l.ensures c.two_to-blocks.ensures
    c.powers-powers.ensures in
    level_turn g.D.Direction.unmixing c.loop-turn.invariant c.loop-turn-test.true c.pass-l.ensures t.here c.cross_words_each.auto.half t.factors.entry
    (level_crossed c.loop-turn.half c.loop-turn.factors t (omega arith) c.repeat.ensures (crosses g.D.Direction.unmixing _ _) c.cross_words_each.ensures)

pub returns : goal.returns
returns g c = levels_done g.D.Direction.unmixing c.loop-turn.invariant c.loop-turn-test.false (omega arith)
