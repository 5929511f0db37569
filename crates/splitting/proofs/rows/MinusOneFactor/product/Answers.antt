-- `splitting::rows::MinusOne` meets the contract of a factor: 0 less a word is 65536 times it. Assumes nothing.
use Rattle.std.proofs.Common.{refl, ◌∙◌, arith}
use Rattle.field.proofs.Ring.{v, ◌⊖◌, ◌⊗◌, lin}
use Rattle.splitting.proofs.rows.MinusOneFactor.product.Goals as goal

pub returns : goal.returns
returns c =
    let y = c.args.y in
    c.sub.ensures
    ∙ lin 65537 (omega arith) (v 0 ⊖ v y) (v 65536 ⊗ v y) (v y) (v 0) (v 65537) (record { eq = refl }) (omega arith) (omega arith) (omega arith)
