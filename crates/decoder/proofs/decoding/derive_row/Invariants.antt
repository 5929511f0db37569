-- The invariant of `decoder::decoding::derive_row`: the first j words of the row at `high` are written. Assumes nothing.
use mathlib.Core.Path.{◌≡◌, ap₂, ◌∙◌}
use mathlib.Core.List.{List}
use Prim.Native.Nat.{ℕ, ◌+◌, ◌≤◌, ◌<◌}
use native.Mathlib.Omega.{arith}
use lib.ListN.{get_or, set}
use Rattle.field.specs.Residue.{minus, times}
use Rattle.decoder.specs.steps.RowTests.{derive_at}
use Rattle.code.proofs.RowLaws.{Storing, storing_turn, storing_front, storing_rest}
use Rattle.decoder.proofs.decoding.derive_row.Given as goal

pub record Inv (part₀ : List ℕ) (low high width a b : ℕ) (part : List ℕ) (j : ℕ) : Type 0 where
  pub storing : Storing high (derive_at 65537 low high a b part₀) width part₀ part j

module _ {part₀ : List ℕ} {low high width a b : ℕ} {part : List ℕ} {j : ℕ} (h : Inv part₀ low high width a b part j) (l : j < width) where
  -- the words to be read are as they were
  pub low_word : low + width ≤ high → get_or part (low + j) 0 ≡ get_or part₀ (low + j) 0
  low_word apart = storing_front h.storing (low + j) (omega arith)

  pub high_word : get_or part (high + j) 0 ≡ get_or part₀ (high + j) 0
  high_word = storing_rest h.storing (high + j) (omega arith)

  -- a turn; s, t and r are what the three calls gave
  pub turn : {s t r : ℕ} → low + width ≤ high → s ≡ times 65537 a (get_or part (low + j) 0) → t ≡ times 65537 b (get_or part (high + j) 0) → r ≡ minus 65537 s t
      → Inv part₀ low high width a b (set part (high + j) r) (j + 1)
  unfolding derive_at
  turn apart es et er = record { storing = storing_turn h.storing l (er ∙ ap₂ (minus 65537) (es ∙ rw (low_word apart)) (et ∙ rw high_word)) }

abbrev pub invariant-loop-j : goal.invariant-loop-j
invariant-loop-j l = Inv l.fn.part l.low l.high l.width l.a l.b l.part l.j
