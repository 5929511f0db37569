-- The loop of `encoder::turn`: the first j rows stand turned in their places. Assumes nothing.
use Rattle.std.proofs.Common.{◌+◌, ◌*◌}
use Rattle.field.specs.Field.{fermat, root_of}
use Rattle.code.proofs.RowLaws.{StoringRows, scaled_rows_word}
use Rattle.mixing.specs.steps.Words.{root_for}
use Rattle.encoder.proofs.Turning.{factor}
use Rattle.encoder.proofs.turn.Given as goal

abbrev pub invariant-loop-j : goal.invariant-loop-j
invariant-loop-j g l =
    let k = l.fn.st.stripe.k in
    StoringRows l.to (scaled_rows_word 65537 l.width (factor (root_for g.D.Direction.unmixing 65537 (root_of fermat k)) k l.first) l.fn.part) l.rows l.width
    l.fn.part l.part (l.to + l.j * l.width) l.j
