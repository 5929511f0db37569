-- What the loops that mark a stripe's positions make of the marks; the clauses of functions inside the crate cite it. Assumes nothing: these are definitions.
use Rattle.std.specs.Prelude.{◌≡◌, Bool, true, false, ◌&&◌, ◌||◌, List, ℕ, ◌+◌, ◌*◌, ltb, leb, length, get_or}
use Rattle.image.specs.Erasures.{Erasure, touched, flags_from}

abbrev pub erasure : (offset size : ℕ) → Erasure
erasure o s = record { offset = o; size = s }

-- the mark of position i of a stripe of so many positions, which begins at the byte `base` and has `step` bytes a position
unfoldable pub mark_for : (base step positions : ℕ) → List Erasure → (i : ℕ) → Bool
mark_for base step n gs i = elim (ltb i n) [ true ↦ touched (base + i * step) (base + i * step + step) gs | false ↦ false ]

abbrev pub marks_for : (base step positions : ℕ) → List Erasure → List Bool
marks_for base step n gs = flags_from 0 2048 (mark_for base step n gs)

-- position i stands from `low` up to `high`
unfoldable pub is_between : (low high i : ℕ) → Bool
is_between low high i = leb low i && ltb i high

-- the marks afterwards: those before, and those of f
pub record Marked (f : ℕ → Bool) (before after : List Bool) : Type 0 where
  pub same : length after ≡ length before
  pub each : (i : ℕ) → get_or after i false ≡ (get_or before i false || f i)
