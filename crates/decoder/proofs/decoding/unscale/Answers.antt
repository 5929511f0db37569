-- `decoder::decoding::unscale` meets its contract: the first half, as one row, times the inverse of the number of rows. Assumes nothing.
use Rattle.std.proofs.Common.{arith, ◌≡◌, ◌%◌, ◌^◌, ◌≤◌, ◌∙◌, sym, ap}
use native.Mathlib.Nat.{mod-eq_of_lt}
use lib.Dec.{lit<}
use lib.Pow.{pow_mono}
use Rattle.field.specs.Power.{inverse}
use Rattle.field.proofs.Powers.{inverse_lt}
use Rattle.code.specs.steps.Storing.{scale_row}
use Rattle.decoder.specs.steps.Decoder.{unscaled}
use Rattle.decoder.proofs.DecoderShapes.{few_levels}
use Rattle.decoder.proofs.DecodeSteps.{unscale_rows}
use Rattle.decoder.proofs.decoding.unscale.Goals as goal

pub invariant_of-scale_row : goal.invariant_of-scale_row
invariant_of-scale_row c = record { in_field = rw c.inverse-over.ensures (inverse_lt 65537 (lit< tt) _) }

pub returns : goal.returns
unfolding unscaled scale_row
returns c =
    let l = c.args.st.stripe.level in
    let m : 2 ^ l ≤ 2 ^ 10 = pow_mono {i = l} {j = 10} (few_levels c.args.st.numbers) in
    let e : c.inverse-over.result ≡ inverse 65537 (2 ^ l % 65537) =
    c.inverse-over.ensures ∙ ap (inverse 65537) (c.block_count-rows.ensures ∙ sym (mod-eq_of_lt (omega arith))) in
    c.scale_row.ensures
    ∙ rw (c.half_size.ensures, e) (unscale_rows 65537 l c.args.st.stripe.width (inverse 65537 (2 ^ l % 65537)) c.args.part.now c.requires.part_len)
