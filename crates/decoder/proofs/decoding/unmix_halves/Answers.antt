-- `decoder::decoding::unmix_halves` meets its contract: each half is unmixed in its place, and the second turned, by the laws of steps 2 and 4 of
-- proofs/DecodeSteps.
-- Assumes nothing.
use Rattle.std.proofs.Common.{arith}
use Rattle.code.proofs.Lifting.{two_halves}
use Rattle.decoder.proofs.DecodeSteps.{long_again, again_words, split_rows}
use Rattle.decoder.proofs.decoding.unmix_halves.Goals as goal

pub cross_half-requires-2-clause-half_len : goal.cross_half-requires-2-clause-half_len
cross_half-requires-2-clause-half_len c = omega (arith, two_halves c.args.st.stripe.level c.args.st.stripe.width)

pub turn-requires-clause-room : goal.turn-requires-clause-room
turn-requires-clause-room c =
    let long = long_again _ _ _ _ _ _ _ _ c.half_size-half.ensures c.cross_half.ensures c.cross_half-2.ensures in
    omega (arith, long)

pub turn-requires-clause-words : goal.turn-requires-clause-words
turn-requires-clause-words c =
    again_words _ _ _ _ _ _ _ _ c.half_size-half.ensures c.cross_half.ensures c.cross_half-2.ensures c.requires.words

pub returns : goal.returns
returns c = split_rows _ _ _ _ _ _ _ _ c.half_size-half.ensures c.cross_half.ensures c.cross_half-2.ensures _ _ c.requires.part_len c.turn.ensures
