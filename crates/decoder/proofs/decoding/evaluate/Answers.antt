-- `decoder::decoding::evaluate` meets its contract: each half is mixed in its place, by the laws of steps 2 and 4 of proofs/DecodeSteps. Assumes nothing.
use Rattle.std.proofs.Common.{arith}
use Rattle.code.proofs.Lifting.{two_halves}
use Rattle.decoder.proofs.DecodeSteps.{evaluated_rows}
use Rattle.decoder.proofs.decoding.evaluate.Goals as goal

pub cross_half-requires-2-clause-half_len : goal.cross_half-requires-2-clause-half_len
cross_half-requires-2-clause-half_len c = omega (arith, two_halves c.args.st.stripe.level c.args.st.stripe.width)

pub returns : goal.returns
returns c = evaluated_rows _ _ _ _ _ _ _ _ c.half_size-half.ensures c.requires.part_len c.cross_half.ensures c.cross_half-2.ensures
