-- `weights::direct::add_rows` meets its contract, by the laws of a row added (proofs/DirectLaws). Assumes nothing.
use Rattle.std.proofs.Common.{◌≡◌, Bool, true, false, List, ◌++◌, ℕ, suc, ◌+◌, ◌^◌, ◌≤◌, ◌<◌, length, get_or, take, subst, refl, sym, ◌∙◌, arith}
use lib.Seq.{get_or-take}
use Rattle.logarithms.specs.Weights.{exponent_at}
use Rattle.weights.specs.steps.Direct.{Sums}
use Rattle.logarithms.proofs.Weights.{exponent_lt}
use Rattle.weights.proofs.ColumnLaws.{lent_lt}
use Rattle.weights.proofs.DirectLaws.{sum_fits, row_added, row_skipped}
use Rattle.weights.proofs.direct.add_rows.Goals as goal
use Rattle.weights.proofs.direct.add_rows.Goals.{then-mark, else-mark}

-- position j, of the marks that are lent
module _ (l j n : ℕ) (ms : List Bool) (count : n ≡ 2 ^ suc l) (b : j < length (take n ms)) where
  inside : j < 2 ^ suc l
  inside = omega (arith, lent_lt n ms b)

  mark_is : (x : Bool) → get_or (take n ms) j false ≡ x → get_or ms j false ≡ x
  mark_is x e = sym (get_or-take n ms j false (lent_lt n ms b)) ∙ e

  exponent_le : {f : ℕ} → f ≡ exponent_at l j → f ≤ n
  exponent_le ef = omega (arith, ef, exponent_lt l j inside)

pub overflow_sub-ahead : goal.overflow_sub-ahead
overflow_sub-ahead c =
    exponent_le c.args.marks.at.level c.loop-j.j c.count-count.result c.args.marks.erased.now c.count-count.ensures c.loop-j-test.true c.exponent-f.ensures

pub add_row-requires-clause-by_index : goal.add_row-requires-clause-by_index
add_row-requires-clause-by_index c =
    sum_fits c.loop-j.sums c.split_at_mut-sums.result.1.now c.loop-j.invariant
    (inside c.args.marks.at.level c.loop-j.j c.count-count.result c.args.marks.erased.now c.count-count.ensures c.loop-j-test.true) c.count-count.ensures
    (omega arith) c.exponent-f.ensures refl c.args.marks.at.few

pub loop-j-preserved : goal.loop-j-preserved
loop-j-preserved c =
    let l = c.args.marks.at.level in
    let ms = c.args.marks.erased.now in
    let n = c.count-count.result in
    elim c.if-mark.branch [
      | then-mark w ↦ subst (λ (s : List ℕ). Sums l ms (c.loop-j.j + 1) (s ++ c.split_at_mut-sums.result.1.now)) (sym w.sums-is)
          (row_added c.loop-j.sums c.split_at_mut-sums.result.1.now c.loop-j.invariant
          (inside l c.loop-j.j n ms c.count-count.ensures c.loop-j-test.true) c.count-count.ensures (omega arith) w.exponent-f.ensures refl
          (mark_is l c.loop-j.j n ms c.count-count.ensures c.loop-j-test.true true w.if-mark.true) w.add_row.ensures)
      | else-mark w ↦ subst (λ (s : List ℕ). Sums l ms (c.loop-j.j + 1) (s ++ c.split_at_mut-sums.result.1.now)) (sym w.sums-is)
          (row_skipped c.loop-j.invariant (mark_is l c.loop-j.j n ms c.count-count.ensures c.loop-j-test.true false w.if-mark.false))
    ]
