-- The loop of `image::loading::row_in_field`, which is the one over a row of proofs/StripeLoads. Assumes nothing.
use Rattle.code.specs.steps.Storing.{word_from}
use Rattle.image.proofs.StripeLoads.{BelowLoop}
use Rattle.image.proofs.loading.row_in_field.Given as goal

abbrev pub invariant-loop-j : goal.invariant-loop-j
invariant-loop-j g l = BelowLoop 65537 l.fn.st.width (word_from (g.S.Source.words l.source) l.at) l.fine l.j
