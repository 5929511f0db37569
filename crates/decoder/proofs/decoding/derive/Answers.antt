-- `decoder::decoding::derive` meets its contract. Assumes nothing.
use Rattle.std.proofs.Common.{arith, ◌≡◌, ◌^◌, ◌≤◌, ◌∙◌, ℕ, ap}
use native.Mathlib.Nat.{add-zero, zero-mul}
use lib.Dec.{lit<}
use lib.Pow.{pow_mono}
use Rattle.field.specs.Residue.{plus, times}
use Rattle.field.proofs.Laws.{times_lt}
use Rattle.code.proofs.Lifting.{two_halves}
use Rattle.code.proofs.Shapes.{reversed_lt}
use Rattle.code.proofs.RowLaws.{storing_rows_start, storing_rows_done}
use Rattle.decoder.specs.steps.Decoder.{half_of}
use Rattle.decoder.proofs.DecoderShapes.{few_levels}
use Rattle.decoder.proofs.DecodeSteps.{derive_word, derive_factors, derive_rows}
use Rattle.decoder.proofs.decoding.derive.Invariants.{words, turn}
use Rattle.decoder.proofs.decoding.derive.Goals as goal

half : (level : ℕ) {n b : ℕ} → n ≡ 2 ^ level → b ≡ times 65537 32769 n → b ≡ half_of 65537 level
unfolding half_of
half level en eb = eb ∙ ap (times 65537 32769) en

pub loop-j-init : goal.loop-j-init
loop-j-init c =
    let a = c.args in
    let h = c.half_size-half.result in
    let w = a.st.stripe.width in
    record {
      rows_is = c.block_count-rows.ensures;
      half_is = c.half_size-half.ensures;
      long = omega (arith, two_halves a.st.stripe.level a.st.stripe.width);
      b_is = half a.st.stripe.level c.block_count-rows.ensures c.mul-b.ensures;
      storing = rw (zero-mul w, add-zero h) (storing_rows_start h (derive_word 65537 a.st.stripe.level w a.part.now) c.block_count-rows.result w a.part.now);
    }

pub add-a-requires : goal.add-a-requires
add-a-requires c =
    let m : 2 ^ c.args.st.stripe.level ≤ 2 ^ 10 = pow_mono {i = c.args.st.stripe.level} {j = 10} (few_levels c.args.st.numbers) in
    (omega (arith, reversed_lt c.args.st.stripe.level c.loop-j.j), rw c.mul-b.ensures (times_lt 65537 (lit< tt) _ _))

pub derive_row-requires-clause-a_bound : goal.derive_row-requires-clause-a_bound
derive_row-requires-clause-a_bound c =
    let h = c.loop-j.invariant in
    let f = derive_factors c.args.st.stripe.level c.loop-j.j (omega (arith, few_levels c.args.st.numbers)) in
    (rw (c.add-a.ensures, c.reversed.ensures, h.b_is) f.0, rw h.b_is f.1)

pub derive_row-requires-clause-words : goal.derive_row-requires-clause-words
derive_row-requires-clause-words c = words c.loop-j.invariant c.requires.words

pub loop-j-preserved : goal.loop-j-preserved
loop-j-preserved c =
    turn c.loop-j.invariant c.loop-j-test.true
    (c.add-a.ensures ∙ ap (λ (n : ℕ). plus 65537 n c.mul-b.result) c.reversed.ensures) c.derive_row.ensures

pub returns : goal.returns
returns c =
    let h = c.loop-j.invariant in
    storing_rows_done h.storing c.loop-j-test.false
    ∙ rw (h.rows_is, h.half_is) (derive_rows 65537 c.args.st.stripe.level c.args.st.stripe.width c.args.part.now c.requires.part_len)
