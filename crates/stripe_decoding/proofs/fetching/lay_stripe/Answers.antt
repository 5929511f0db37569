-- `stripe_decoding::fetching::lay_stripe` meets its contract, by the laws of proofs/StripeAnswers. Assumes nothing.
use Rattle.std.proofs.Common.{◌∙◌}
use Rattle.image.specs.Erasures.{erasures_in}
use Rattle.stripe_decoding.proofs.StripeAnswers.{marks_fit, bytes_fit, rows_room}
use Rattle.stripe_decoding.proofs.fetching.lay_stripe.Goals as goal

pub new-requires : goal.new-requires
new-requires c =
    let r = c.args.reading in
    marks_fit r.header.header c.args.level c.new-vault.ensures (erasures_in r.erasures.now) r.header.fits c.requires.within c.mark.ensures

pub decode_and_lay-requires-clause-source_len : goal.decode_and_lay-requires-clause-source_len
decode_and_lay-requires-clause-source_len c =
    let r = c.args.reading in
    bytes_fit r.header.header c.args.level (c.in-Some.ensures.0 ∙ c.new-vault.ensures) r.image.now r.header.fits c.requires.within r.sized
    c.stripe_bytes-bytes.ensures

pub decode_and_lay-requires-clause-level_room : goal.decode_and_lay-requires-clause-level_room
decode_and_lay-requires-clause-level_room c =
    rows_room c.args.reading.header.header c.args.level (c.in-Some.ensures.0 ∙ c.new-vault.ensures) c.requires.laying_fits.room
