-- `mixing::rows::sum_each` meets its contract: under the factor 1 mixing gives sums and differences. Assumes nothing.
use Rattle.std.proofs.Common.{◌+◌, refl, sym, ◌∙◌, arith}
use Rattle.code.specs.steps.Mixing.{mixing, crossed_row, sum_row}
use Rattle.code.proofs.Blocks.{each_same}
use Rattle.code.proofs.Factors.{sum_mixes}
use Rattle.mixing.proofs.rows.sum_each.Goals as goal

pub returns : goal.returns
returns c =
    let w = c.args.width in
    c.cross_each.ensures
    ∙ each_same c.args.blocks (w + w) (crossed_row (mixing 65537) (λ _. 1) w 0 w) (sum_row 65537 w 0 w) c.args.half.now (omega (arith, c.requires.half_len))
    (λ a _. sym (sum_mixes w 0 w a refl refl))
