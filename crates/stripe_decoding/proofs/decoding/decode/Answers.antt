-- `stripe_decoding::decoding::decode` meets its contract. Assumes nothing.
use mathlib.Core.Path.{sym}
use Rattle.stripe_decoding.proofs.DecodeCall.{decode_lent, decode_within}
use Rattle.stripe_decoding.proofs.decoding.decode.Goals as goal

pub decode_stripe-requires-clause-within : goal.decode_stripe-requires-clause-within
decode_stripe-requires-clause-within c =
    let a = c.args in
    let r = c.in_ok-reading.ensures in
    rw r.same.0 (decode_within a.header a.image.now a.erasures.now a.stripe a.out.now a.scratch.now (sym r.number))

pub decode_stripe-requires-clause-out_len : goal.decode_stripe-requires-clause-out_len
decode_stripe-requires-clause-out_len c =
    let a = c.args in
    let r = c.in_ok-reading.ensures in
    let L = decode_lent a.header a.image.now a.erasures.now a.stripe a.out.now a.scratch.now (sym r.number) in
    rw r.same.0 (L.output, L.room)
