-- `store::writing::put_row` meets its contract, by the laws of a loop that stores words. Assumes nothing.
use Rattle.std.proofs.Common.{sym, ap, ◌∙◌, ℕ, suc, ◌∷◌, zero-add, get_or, length, arith}
use Rattle.field.specs.Residue.{times}
use Rattle.code.specs.Transform.{scaled}
use Rattle.code.proofs.Shapes.{length_scaled, scaled_at}
use Rattle.layout.proofs.CopiedWords.{stored_all}
use Rattle.store.proofs.Stores.{lent_others, row_put}
use Rattle.code.proofs.RowLaws.{storing_start, storing_turn, storing_done}
use Rattle.store.proofs.writing.put_row.Goals as goal

pub product-requires : goal.product-requires
product-requires g c = c.args.block.in_field.word 0

pub loop-j-init : goal.loop-j-init
loop-j-init g c = storing_start _ _ _ _

pub product-requires-in-loop-j : goal.product-requires-in-loop-j
product-requires-in-loop-j g c = c.args.block.in_field.word (suc c.loop-j.j)

pub loop-j-preserved : goal.loop-j-preserved
loop-j-preserved g c =
    rw zero-add at (storing_turn c.loop-j.invariant (rw (lent_others c.args.row.now c.product.result _ c.requires) at c.loop-j-test.true)
    c.product-in-loop-j.ensures)

pub returns : goal.returns
unfolding scaled
returns g c =
    let a = c.args in
    let ws = a.block.words.now in
    let f = g.F.Factor.value a.factor in
    let row = scaled 65537 f ws in
    let n = length_scaled 65537 f ws in
    let others = storing_done c.loop-j.invariant (rw (lent_others a.row.now c.product.result _ c.requires) at c.loop-j-test.false)
    ∙ rw n at (stored_all (λ i. times 65537 f (get_or ws i 0)) row _ (lent_others a.row.now c.product.result (length ws) c.requires ∙ sym n)
    (λ i b. scaled_at 65537 f ws i (omega (arith, n))))
    in
    rw others (row_put a.row.now c.product.result row (c.requires ∙ ap suc (sym n))) ∙ ap (λ (x : ℕ). x ∷ row) c.product.ensures
