-- `store::writing::fold` meets its contract, by the loop of a fold of proofs/Folding. Assumes nothing.
use Rattle.std.proofs.Common.{ℕ, get_or, arith, ap, ◌∙◌}
use Rattle.field.proofs.PowerTables.{table_is}
use Rattle.code.proofs.Factors.{root_there}
use Rattle.store.proofs.Folding.{fold_start, fold_turn, turn_room, turn_from, next_from, lent_long}
use Rattle.store.proofs.writing.fold.Goals as goal

pub loop-l-init : goal.loop-l-init
loop-l-init c = fold_start c.requires.half_len c.requires.words

pub overflow_sub-from : goal.overflow_sub-from
overflow_sub-from c = turn_room c.loop-l.invariant c.loop-l-test.true c.powers-powers.ensures.0

pub mix-requires-clause-part_len : goal.mix-requires-clause-part_len
mix-requires-clause-part_len c =
    rw (turn_from c.loop-l.invariant c.loop-l-test.true c.powers-powers.ensures.0, c.powers-powers.ensures.0) (lent_long c.loop-l.invariant c.loop-l-test.true)

pub loop-l-preserved : goal.loop-l-preserved
loop-l-preserved c =
    let h = c.loop-l.invariant in
    let b = c.loop-l-test.true in
    let at = turn_from h b c.powers-powers.ensures.0 in
    let root = ap (λ (e : ℕ). get_or c.powers-powers.result.table.now e 0) c.powers-powers.ensures.1
    ∙ root_there {n = 10} (c.powers-powers.ensures.2 ∙ table_is) (omega (arith, c.requires.level_bound, b)) (omega arith) in
    rw (← next_from h b, at) (fold_turn h b root (rw (at, c.powers-powers.ensures.0) at c.mix.ensures))
