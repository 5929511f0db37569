-- The invariant of `code::number::reversed`: the bits taken so far, shifted up, and those left, reversed, are the whole. Assumes nothing.
use mathlib.Core.Path.{◌≡◌}
use Prim.Native.Nat.{ℕ, ◌+◌, ◌*◌, ◌-◌, ◌^◌, ◌≤◌, ◌<◌}
use Rattle.code.specs.Transform as Transform
use Rattle.code.proofs.number.reversed.Given as goal

pub record Inv (k t r rest i : ℕ) : Type 0 where
  pub turns : i ≤ k
  pub small : r < 2 ^ i
  pub whole : r * 2 ^ (k - i) + Transform.reversed (k - i) rest ≡ Transform.reversed k t

abbrev pub invariant-loop : goal.invariant-loop
invariant-loop l = Inv l.fn.k l.fn.t l.r l.rest l.counter
