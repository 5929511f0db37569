-- `decoder::decoding::select_values` meets its contract. Assumes nothing.
use Rattle.std.proofs.Common.{arith, ◌≡◌, ◌<◌, ◌+◌, ◌*◌, ◌∙◌, ℕ, ap, zero-mul}
use lib.Dec.{lit<}
use Rattle.field.specs.Residue.{times}
use Rattle.field.proofs.Laws.{times_lt}
use Rattle.field.proofs.Powers.{inverse_lt}
use Rattle.code.specs.Stripe.{block_count}
use Rattle.code.proofs.RowLaws.{storing_rows_start, storing_rows_done}
use Rattle.decoder.proofs.DecodeSteps.{select_word, select_rows}
use Rattle.decoder.proofs.decoding.select_values.Invariants.{divisors, words, room, divides, erased, survives}
use Rattle.decoder.proofs.decoding.select_values.Goals as goal
use Rattle.decoder.proofs.decoding.select_values.Goals.{then-marked-i, else-marked-i}

pub loop-i-init : goal.loop-i-init
loop-i-init c =
    let m = c.args.marked in
    let st = m.st.stripe in
    record {
      long = c.requires.part_len;
      over_is = c.inverse_of_square-over.ensures;
      words₀ = c.requires.words;
      storing = rw (zero-mul st.width)
          (storing_rows_start 0 (select_word 65537 st.level st.width m.marks.now (divisors st m.factors.now) c.args.part.now) (block_count st) st.width
          c.args.part.now);
    }

pub mul-requires : goal.mul-requires
mul-requires c = (
  rw c.loop-i.invariant.over_is (inverse_lt 65537 (lit< tt) _),
  rw c.reciprocal-d.ensures (inverse_lt 65537 (lit< tt) _),
)

product_lt : (over d : ℕ) {g : ℕ} → g ≡ times 65537 over d → g < 65537
product_lt over d e = rw e (times_lt 65537 (lit< tt) over d)

pub invariant_of-g : goal.invariant_of-g
invariant_of-g c = record { in_field = product_lt _ _ c.mul.ensures }

pub invariant_of-g-else-marked-i : goal.invariant_of-g-else-marked-i
invariant_of-g-else-marked-i c = record { in_field = product_lt _ _ c.mul.ensures }

pub scale_row_over-requires-clause-width_bound : goal.scale_row_over-requires-clause-width_bound
scale_row_over-requires-clause-width_bound c =
    let h = c.loop-i.invariant in
    let r = room h (omega (arith, c.block_count-rows.ensures)) in
    (omega (arith, r, h.storing.same), omega (arith, r, h.storing.same))

pub scale_row_over-requires-clause-by_index : goal.scale_row_over-requires-clause-by_index
scale_row_over-requires-clause-by_index c = λ j b. (words c.loop-i.invariant).word _

pub scale_row-requires-clause-words : goal.scale_row-requires-clause-words
scale_row-requires-clause-words c = words c.loop-i.invariant

pub loop-i-preserved : goal.loop-i-preserved
loop-i-preserved c =
    let st = c.args.marked.st.stripe in
    let h = c.loop-i.invariant in
    let l : c.loop-i.i < block_count st = omega (arith, c.block_count-rows.ensures) in
    elim c.if-marked-i.branch [
      | then-marked-i w ↦ rw w.part-is (erased h l w.if-marked-i.true
          (ap (λ (n : ℕ). n + c.loop-i.i * st.width) c.half_size-half.ensures)
          (divides h l c.reciprocal-d.ensures c.mul.ensures) w.scale_row_over.ensures)
      | else-marked-i w ↦ rw w.part-is (survives h l w.if-marked-i.false (divides h l c.reciprocal-d.ensures c.mul.ensures) w.scale_row.ensures)
    ]

pub returns : goal.returns
returns c =
    let m = c.args.marked in
    let st = m.st.stripe in
    storing_rows_done c.loop-i.invariant.storing (omega (arith, c.block_count-rows.ensures))
    ∙ select_rows 65537 st.level st.width m.marks.now (divisors st m.factors.now) c.args.part.now c.requires.part_len
