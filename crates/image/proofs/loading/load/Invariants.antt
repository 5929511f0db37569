-- The loop of `image::loading::load`: that which stores rows of code/proofs/RowLaws, and the one that tests them of proofs/StripeLoads, which runs with the
-- first range. Assumes nothing.
use Rattle.std.proofs.Common.{◌≡◌, true, ◌*◌, ◌<◌}
use Rattle.code.proofs.RowLaws.{StoringRows}
use Rattle.image.specs.Loading.{surviving, surviving_at}
use Rattle.image.specs.steps.Loading.{columns_word}
use Rattle.image.proofs.StripeLoads.{RowsLoop}
use Rattle.image.proofs.loading.load.Given as goal

abbrev pub invariant-loop-i : goal.invariant-loop-i
invariant-loop-i g l =
    let words = g.S.Source.words l.source in
    record {
      rows : StoringRows 0 (columns_word l.width l.from l.cols (surviving l.width l.rows l.marks words)) l.rows l.cols l.initial.part l.part (l.i * l.cols) l.i;
      all_in_field : l.from ≡ 0 → RowsLoop 65537 l.rows l.width (surviving_at l.width l.marks words) l.fine l.i;
      untested : 0 < l.from → l.fine ≡ true;
    }
