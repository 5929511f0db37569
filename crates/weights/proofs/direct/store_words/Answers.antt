-- `weights::direct::store_words` meets its contract: the invariant is that of a loop that stores each word. Assumes nothing.
use Rattle.std.proofs.Common.{◌≡◌, List, ℕ, suc, ◌+◌, ◌%◌, ◌^◌, ◌<◌, length, get_or, take, ap, arith}
use Rattle.logarithms.specs.Weights.{exponent_at}
use Rattle.logarithms.proofs.Weights.{exponent_lt}
use Rattle.weights.specs.steps.Direct.{direct_at}
use Rattle.weights.proofs.ColumnLaws.{each_start, each_turn, each_front, lent_lt}
use Rattle.weights.proofs.direct.store_words.Goals as goal

-- a position's exponent is that of a sum
sum_in : (l : ℕ) (u : List ℕ) {n i f : ℕ} → n ≡ 2 ^ suc l → i < length (take n u) → f ≡ exponent_at l i → f < 2 ^ suc l
sum_in l u {n} {i} e b ef = omega (arith, ef, exponent_lt l i (omega (arith, lent_lt n u b)))

pub loop-i-init : goal.loop-i-init
loop-i-init c = each_start _ _

pub offset_bounds-part-from : goal.offset_bounds-part-from
offset_bounds-part-from c =
    omega (arith, c.requires.room, sum_in c.args.at.level c.args.logs.now c.count-count.ensures c.loop-i-test.true c.exponent-from.ensures)

pub bounds-part-from : goal.bounds-part-from
bounds-part-from c =
    omega (arith, c.requires.room, sum_in c.args.at.level c.args.logs.now c.count-count.ensures c.loop-i-test.true c.exponent-from.ensures)

pub overflow_add-log : goal.overflow_add-log
overflow_add-log c =
    omega (
      arith,
      c.requires.by_index c.exponent-from.result
          (sum_in c.args.at.level c.args.logs.now c.count-count.ensures c.loop-i-test.true c.exponent-from.ensures),
    )

pub loop-i-preserved : goal.loop-i-preserved
unfolding direct_at
loop-i-preserved c =
    each_turn c.loop-i.invariant c.loop-i-test.true
    (ap (λ (k : ℕ). (c.args.shared + get_or c.args.part.now k 0) % 65536) c.exponent-from.ensures)

pub returns : goal.returns
returns c = each_front c.args.logs.now c.count-count.ensures c.loop-i.invariant c.loop-i-test.false c.requires.logs_len
