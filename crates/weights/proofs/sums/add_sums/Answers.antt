-- `weights::sums::add_sums` meets its contract, by the laws of the loop that adds (proofs/PartLaws). Assumes nothing.
use Rattle.std.proofs.Common.{◌≡◌, ℕ, suc, ◌+◌, ◌*◌, ◌≤◌, get_or, arith}
use Rattle.std.proofs.Math.Nat.{mul-le-mul}
use Rattle.field.specs.Residue.{times}
use Rattle.field.proofs.Laws.{times_lt}
use Rattle.field.proofs.Powers.{inverse_lt}
use Rattle.code.proofs.Shapes.{reversed_lt}
use Rattle.weights.proofs.ColumnLaws.{each_start, each_front}
use Rattle.weights.proofs.PartLaws.{row_lt, word_lt, adding_turn}
use Rattle.weights.proofs.sums.add_sums.Goals as goal

-- a product is a word, and the unit is small
product_le : {unit x : ℕ} (g y : ℕ) → unit ≤ 4096 → x ≡ times 65537 g y → unit * x ≤ 4096 * 65536
product_le g y b e = mul-le-mul {n₂ = 4096} {m₂ = 65536} b (omega (arith, e, times_lt 65537 (omega arith) g y))

pub loop-i-init : goal.loop-i-init
loop-i-init c = each_start _ _

pub overflow_add-from : goal.overflow_add-from
overflow_add-from c = omega (arith, reversed_lt (suc c.args.at.level) c.exponent.result)

pub offset_bounds-part-from : goal.offset_bounds-part-from
offset_bounds-part-from c = omega (arith, reversed_lt (suc c.args.at.level) c.exponent.result)

pub bounds-part-from : goal.bounds-part-from
bounds-part-from c = omega (arith, reversed_lt (suc c.args.at.level) c.exponent.result)

pub mul-requires : goal.mul-requires
mul-requires c = (
  rw c.inverse-inverse.ensures (inverse_lt 65537 (omega arith) c.count-count.result),
  row_lt c.args.at.level c.count-count.ensures c.args.part.now c.reversed.result
      (omega (arith, c.reversed.ensures, reversed_lt (suc c.args.at.level) c.exponent.result)) c.requires.words,
)

pub overflow_mul-log : goal.overflow_mul-log
overflow_mul-log c =
    omega (
      arith,
      product_le c.inverse-inverse.result (get_or c.args.part.now (c.count-count.result + c.reversed.result) 0) c.requires.unit_bound c.mul.ensures,
    )

pub overflow_add-log : goal.overflow_add-log
overflow_add-log c =
    omega (
      arith,
      product_le c.inverse-inverse.result (get_or c.args.part.now (c.count-count.result + c.reversed.result) 0) c.requires.unit_bound c.mul.ensures,
      word_lt c.args.at.level c.count-count.ensures c.args.logs.now c.loop-i.invariant c.requires.words_2,
    )

pub loop-i-preserved : goal.loop-i-preserved
loop-i-preserved c =
    adding_turn c.args.at.level c.count-count.ensures c.args.digit.unit c.args.part.now c.args.logs.now c.loop-i.invariant c.loop-i-test.true
    c.inverse-inverse.ensures c.exponent.ensures c.reversed.ensures c.mul.ensures

pub returns : goal.returns
returns c = each_front c.args.logs.now c.count-count.ensures c.loop-i.invariant c.loop-i-test.false c.requires.logs_len
