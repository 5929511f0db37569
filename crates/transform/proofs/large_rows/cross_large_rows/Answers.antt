-- `transform::large_rows::cross_large_rows` meets its contract, by the laws of the loop over passes, either way, of proofs/EitherWay. Assumes nothing.
use Rattle.std.proofs.Common.{refl, arith}
use Rattle.transform.proofs.EitherWay.{kept, passes_start, passes_done, pass_powers, pass_factors, pass_root, pass_here, pass_turn, single_here, single_turn}
use Rattle.transform.proofs.large_rows.cross_large_rows.Goals.{then-pass-odd, else-pass-odd}
use Rattle.transform.proofs.large_rows.cross_large_rows.Goals as goal

pub loop-turn-init : goal.loop-turn-init
loop-turn-init g c = passes_start g.D.Direction.unmixing c.requires.level_bound c.requires.half_len c.requires.words

pub sum_each-requires-clause-half_len : goal.sum_each-requires-clause-half_len
sum_each-requires-clause-half_len g c = single_here (kept g.D.Direction.unmixing c.loop-turn.invariant) c.if-pass-odd.true c.two_to.ensures

pub cross_each-requires-clause-half_len : goal.cross_each-requires-clause-half_len
cross_each-requires-clause-half_len g c =
    let p = pass_powers g.D.Direction.unmixing _ c.powers.ensures c.half.ensures in
    (pass_here g.D.Direction.unmixing c.loop-turn.invariant c.loop-turn-test.true c.pass-pass.ensures (c.if-pass-odd.false, refl) c.two_to-blocks.ensures
    p.0).1.rows

pub cross_each-requires-clause-width_bound : goal.cross_each-requires-clause-width_bound
cross_each-requires-clause-width_bound g c =
    let p = pass_powers g.D.Direction.unmixing _ c.powers.ensures c.half.ensures in
    let q = (pass_here g.D.Direction.unmixing c.loop-turn.invariant c.loop-turn-test.true c.pass-pass.ensures (c.if-pass-odd.false, refl)
    c.two_to-blocks.ensures p.0).1 in
    omega (arith, q.fits)

pub cross_each-requires-clause-quad_factors : goal.cross_each-requires-clause-quad_factors
cross_each-requires-clause-quad_factors g c =
    let p = pass_powers g.D.Direction.unmixing _ c.powers.ensures c.half.ensures in
    let q = pass_here g.D.Direction.unmixing c.loop-turn.invariant c.loop-turn-test.true c.pass-pass.ensures (c.if-pass-odd.false, refl)
    c.two_to-blocks.ensures p.0 in
    pass_factors g.D.Direction.unmixing _ (omega (arith, q.0, c.requires.level_bound)) p

pub loop-turn-preserved : goal.loop-turn-preserved
loop-turn-preserved g c =
    let i = c.loop-turn.invariant in
    elim c.if-pass-odd.branch [
      | then-pass-odd w ↦ rw w.half-is
          (single_turn g.D.Direction.unmixing i c.loop-turn-test.true c.pass-pass.ensures w.if-pass-odd.true w.two_to.ensures w.sum_each.auto.half
          w.sum_each.ensures)
      | else-pass-odd w ↦
          let p = pass_powers g.D.Direction.unmixing _ w.powers.ensures w.half.ensures in
          let q = pass_here g.D.Direction.unmixing i c.loop-turn-test.true c.pass-pass.ensures (w.if-pass-odd.false, refl) w.two_to-blocks.ensures p.0 in
          rw w.half-is
          (pass_turn g.D.Direction.unmixing i c.loop-turn-test.true c.pass-pass.ensures (w.if-pass-odd.false, refl) q w.cross_each.auto.half
          (pass_root g.D.Direction.unmixing c.args.level _ c.requires.level_bound q.0 p) w.cross_each.ensures)
    ]

pub returns : goal.returns
returns g c = passes_done g.D.Direction.unmixing c.loop-turn.invariant c.loop-turn-test.false
