-- `weights::sums::powers_sum` meets its contract: a turn adds a position's term, which is below 65536. Assumes nothing.
use Rattle.std.proofs.Common.{◌≡◌, Bool, false, List, ℕ, suc, ◌+◌, ◌*◌, ◌^◌, ◌≤◌, ◌<◌, length, get_or, take, refl, sym, ap, ap₂, ◌∙◌, add-one, arith}
use lib.Seq.{get_or-take}
use lib.Pow.{pow_mono}
use Rattle.logarithms.specs.Weights.{exponent_at, log_of_power}
use Rattle.weights.specs.steps.Digits.{flag, powers_to}
use Rattle.logarithms.proofs.Weights.{exponent_lt}
use Rattle.weights.proofs.ExponentLaws.{log_of_power_lt, flag_times_le, flag_is}
use Rattle.weights.proofs.ColumnLaws.{lent_lt}
use Rattle.weights.proofs.sums.powers_sum.Invariants.{Inv}
use Rattle.weights.proofs.sums.powers_sum.Goals as goal

none : (level : ℕ) (marks : List Bool) → powers_to level marks 0 ≡ 0
unfolding powers_to
none level marks = refl

-- the term of position i: x is its flag, e its exponent and y the logarithm of its point
module _ (level i : ℕ) (marks : List Bool) {n x e y : ℕ} (b : level ≤ 10) (count : n ≡ 2 ^ suc level) (h : i < length (take n marks))
    (ex : x ≡ flag (get_or (take n marks) i false)) (ee : e ≡ exponent_at level i) (ey : y ≡ log_of_power level e) where
  inside : i < n
  inside = lent_lt n marks h

  flag_at : x ≡ flag (get_or marks i false)
  flag_at = ex ∙ ap flag (get_or-take n marks i false inside)

  term_lt : x * y < 65536
  term_lt =
      omega (
        arith,
        ap (λ (z : ℕ). z * y) flag_at,
        flag_times_le (get_or marks i false) y,
        ey,
        log_of_power_lt level e b (omega (arith, ee, exponent_lt level i (omega (arith, inside)))),
      )

  sum_fits : {sum : ℕ} → sum ≤ 65536 * i → sum + x * y < 4294967296
  sum_fits s = omega (arith, inside, term_lt, pow_mono {i = suc level} {j = 11} (omega arith))

  turn : {sum : ℕ} → Inv level marks sum i → Inv level marks (sum + x * y) (i + 1)
  unfolding powers_to
  turn {sum} k = record { is = rw add-one (ap₂ ◌+◌ k.is (ap₂ ◌*◌ flag_at (ey ∙ ap (log_of_power level) ee))); small = omega (arith, k.small, term_lt) }

pub loop-i-init : goal.loop-i-init
loop-i-init c = record { is = sym (none _ _); small = omega arith }

pub log_of_power-requires : goal.log_of_power-requires
log_of_power-requires c =
    let m = c.args.marks in
    omega (arith, c.exponent.ensures, exponent_lt m.at.level c.loop-i.i (omega (arith, lent_lt c.count-count.result m.erased.now c.loop-i-test.true)))

pub overflow_add-sum : goal.overflow_add-sum
overflow_add-sum c =
    let m = c.args.marks in
    omega (
      arith,
      sum_fits m.at.level c.loop-i.i m.erased.now m.at.few c.count-count.ensures c.loop-i-test.true (c.from.ensures ∙ flag_is _)
          c.exponent.ensures c.log_of_power.ensures c.loop-i.invariant.small,
    )

pub loop-i-preserved : goal.loop-i-preserved
loop-i-preserved c =
    let m = c.args.marks in
    turn m.at.level c.loop-i.i m.erased.now m.at.few c.count-count.ensures c.loop-i-test.true (c.from.ensures ∙ flag_is _)
    c.exponent.ensures c.log_of_power.ensures c.loop-i.invariant
