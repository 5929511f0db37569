-- `image::loading::row_in_field` meets its contract, by the loop over a row of proofs/StripeLoads. Assumes nothing.
use Rattle.code.specs.steps.Storing.{word_from}
use Rattle.image.proofs.StripeLoads.{below_start, below_fine, below_over, below_end}
use Rattle.image.proofs.loading.row_in_field.Goals as goal
use Rattle.image.proofs.loading.row_in_field.Goals.{then-word-ge-MODULUS, else-word-ge-MODULUS}

pub loop-j-init : goal.loop-j-init
loop-j-init g c = below_start

pub loop-j-preserved : goal.loop-j-preserved
unfolding word_from
loop-j-preserved g c =
    let h = c.loop-j.invariant in
    let b = c.loop-j-test.true in
    let e = c.word.ensures in
    elim c.if-word-ge-MODULUS.branch [
      | then-word-ge-MODULUS w ↦ rw w.fine-is (below_over h b e w.if-word-ge-MODULUS.true)
      | else-word-ge-MODULUS w ↦ rw w.fine-is (below_fine h b e w.if-word-ge-MODULUS.false)
    ]

pub returns : goal.returns
returns g c = below_end c.loop-j.invariant c.loop-j-test.false
