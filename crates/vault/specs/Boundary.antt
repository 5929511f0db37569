-- What the C boundary hands out of an answer, as numbers. Assumes nothing: these are definitions.
use Rattle.std.specs.Prelude.{true, false, List, ℕ, ◌*◌}
use Rattle.layout.specs.declared.Header.{Header}
use Rattle.recovery.specs.Verdicts.{Verdict}
use Rattle.layout.specs.Refusals.{if_taken}
use Rattle.store.specs.StoreCalls.{read_number}

-- READING hands out a part of the raw buffer as the index of its first word and its length; both are 0 where it is refused
abbrev pub read_start : Header → (raw : List ℕ) → (number : ℕ) → ℕ
read_start h raw i = if_taken (read_number h raw i) (i * h.s) 0

abbrev pub read_count : Header → (raw : List ℕ) → (number : ℕ) → ℕ
read_count h raw i = if_taken (read_number h raw i) h.s 0

-- RECOVERY, AND EXPLAINING, name the stripe at fault by its number, and none by the largest number of 32 bits, which no stripe has
abbrev pub no_shelf : ℕ
no_shelf = 4294967295

abbrev pub shelf_of : Verdict → ℕ
shelf_of verdict = elim verdict.named [ true ↦ verdict.stripe | false ↦ no_shelf ]
