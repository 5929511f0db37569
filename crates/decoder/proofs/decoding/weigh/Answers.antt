-- `decoder::decoding::weigh` meets its contract. Assumes nothing.
use Rattle.std.proofs.Common.{arith, ◌≡◌, ◌<◌, ◌∙◌, zero-mul}
use lib.Dec.{lit<}
use Rattle.code.specs.Stripe.{position_count}
use Rattle.code.proofs.Lifting.{row_next}
use Rattle.code.proofs.RowLaws.{storing_rows_start, storing_rows_done, scaling_words, scaling_turn}
use Rattle.decoder.specs.steps.Decoder.{raised}
use Rattle.decoder.proofs.DecoderShapes.{words_raised}
use Rattle.decoder.proofs.DecodeSteps.{factor_or_lt, weigh_rows}
use Rattle.decoder.proofs.decoding.weigh.Invariants.{multipliers, erased, survives}
use Rattle.decoder.proofs.decoding.weigh.Goals as goal
use Rattle.decoder.proofs.decoding.weigh.Goals.{Joined-marked-i, then-marked-i, else-marked-i}

pub loop-i-init : goal.loop-i-init
loop-i-init c = rw (zero-mul c.args.marked.st.stripe.width) (storing_rows_start 0 _ _ _ _)

-- what the row is multiplied by, where the two ways join
multiplier_at : (c : Joined-marked-i) → let m = c.args.marked in c.if-marked-i.g ≡ multipliers m.st.stripe m.marks.now m.factors.now c.loop-i.i
multiplier_at c =
    let m = c.args.marked in
    let t : c.loop-i.i < position_count m.st.stripe = omega (arith, c.position_count-rows.ensures) in
    elim c.if-marked-i.branch [
      | then-marked-i w ↦ erased m.st.stripe m.marks.now m.factors.now c.loop-i.i w.if-marked-i.true w.g-is
      | else-marked-i w ↦ survives m.st.stripe m.marks.now m.factors.now c.loop-i.i t w.if-marked-i.false (w.g-is ∙ w.factor-g.ensures)
    ]

pub invariant_of-scale_row : goal.invariant_of-scale_row
invariant_of-scale_row c =
    let m = c.args.marked in
    let e = multiplier_at (goal.at.invariant_of-scale_row c).Joined-marked-i in
    record { in_field = rw e (factor_or_lt 65537 (lit< tt) m.marks.now (words_raised 65537 (lit< tt) 3 m.st.stripe.level m.factors.now) c.loop-i.i) }

pub scale_row-requires-clause-words : goal.scale_row-requires-clause-words
scale_row-requires-clause-words c = scaling_words 65537 c.args.marked.st.stripe.width _ c.loop-i.invariant (lit< tt) c.requires.words

pub loop-i-preserved : goal.loop-i-preserved
loop-i-preserved c =
    let e = multiplier_at (goal.at.loop-i-preserved c).Joined-marked-i in
    rw (row_next c.loop-i.i c.args.marked.st.stripe.width)
    (scaling_turn 65537 c.args.marked.st.stripe.width _ c.loop-i.invariant c.loop-i-test.true e c.scale_row.ensures)

pub returns : goal.returns
returns c =
    let m = c.args.marked in
    storing_rows_done c.loop-i.invariant c.loop-i-test.false
    ∙ rw (c.position_count-rows.ensures) (weigh_rows 65537 (lit< tt) m.st.stripe.level m.st.stripe.width m.marks.now
    (raised 65537 3 m.st.stripe.level m.factors.now) c.args.part.now c.requires.part_len)
