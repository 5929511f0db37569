-- The invariant of `print_logarithms::logarithm`: the search from where the loop stands finds what is looked for. Assumes nothing.
use mathlib.Core.Path.{◌≡◌}
use Prim.Native.Nat.{ℕ, ◌-◌, ◌≤◌}
use Rattle.field.specs.Power.{power}
use Rattle.logarithms.specs.Logarithms.{log_from, logarithm}
use Rattle.print_logarithms.proofs.logarithm.Given as goal

-- y is the power at e, and the search from e on finds what is looked for
pub record Looking (x y e : ℕ) : Type 0 where
  pub turns : e ≤ 65536
  pub here : y ≡ power 65537 3 e
  pub rest : log_from (65536 - e) 65537 3 x e ≡ logarithm 65537 3 x

abbrev pub invariant-loop-e : goal.invariant-loop-e
invariant-loop-e l = Looking l.fn.x l.power l.e
