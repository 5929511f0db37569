-- `taking_back::finding::Held::decode` meets its contract, by the laws of proofs/HeldStripes. Assumes nothing.
use mathlib.Core.Path.{ap, ◌∙◌}
use Rattle.layout.specs.Header.{stripe_of}
use Rattle.judging.specs.Decoding.{Decoded, decoded_number}
use Rattle.range_laying.specs.declared.Content.TheVariants.{Blocks}
use Rattle.range_laying.specs.steps.Blocks.{lay_blocks, laid_from}
use Rattle.stripe_decoding.proofs.StripeAnswers.{rows_room}
use Rattle.taking_back.proofs.HeldStripes.{stripe_long, positions_few, enough_survive, decode_same}
use Rattle.taking_back.proofs.finding.Held.decode.Goals as goal

pub new-requires : goal.new-requires
new-requires c = let a = c.args in positions_few a.self.header.header a.level c.new-vault.ensures a.self.header.fits c.requires.within

pub returns-in_default-clause-value : goal.returns-in_default-clause-value
returns-in_default-clause-value c = absurd (enough_survive (c.new-vault.result.valid.stripe) c.in_default.ensures)

pub decode_and_lay-requires-clause-source_len : goal.decode_and_lay-requires-clause-source_len
decode_and_lay-requires-clause-source_len c =
    let a = c.args in
    let h = a.self.header.header in
    rw (c.stripe.ensures, c.in-Some.ensures.0, c.new-vault.ensures) (stripe_long h a.self.full.now a.self.log.now a.level a.self.sized c.requires.within)

pub decode_and_lay-requires-clause-level_room : goal.decode_and_lay-requires-clause-level_room
decode_and_lay-requires-clause-level_room c =
    rows_room c.args.self.header.header c.args.level (c.in-Some.ensures.0 ∙ c.new-vault.ensures) c.requires.lengths.1

pub returns-clause-value : goal.returns-clause-value
returns-clause-value c =
    c.decode_and_lay.ensures.value
    ∙ ap decoded_number (decode_same (c.in-Some.ensures.0 ∙ c.new-vault.ensures) c.in-Some.ensures.1 c.stripe.ensures)

pub returns-clause-out_after : goal.returns-clause-out_after
returns-clause-out_after c =
    let a = c.args in
    λ z. c.decode_and_lay.ensures.out_after z
    ∙ ap (λ (d : Decoded). laid_from (lay_blocks Blocks (stripe_of a.self.header.header a.level)) d a.out.now)
    (decode_same (c.in-Some.ensures.0 ∙ c.new-vault.ensures) c.in-Some.ensures.1 c.stripe.ensures)
