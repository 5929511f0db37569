-- All mixing and its inverse as one, which a flag chooses. Assumes nothing: these are definitions.
use Rattle.std.specs.Prelude.{Bool, true, false, List, ℕ}
use Rattle.field.specs.Power.{inverse}
use Rattle.code.specs.Transform.{mixed_halves, unmixed, transform, untransform}

-- MIXING, or `unmixing`: m words with m words, under a root v
abbrev pub halves_of : (unmixing : Bool) → (p v m : ℕ) → (column : List ℕ) → List ℕ
halves_of false p v m c = mixed_halves p v m c
halves_of true p v m c = unmixed p v m c

-- ALL MIXING of 2 ^ l words in a vault of 2 ^ k records, whose root is w; or its inverse, but for the factor 2 ^ l
abbrev pub transform_of : (unmixing : Bool) → (p w k l : ℕ) → (column : List ℕ) → List ℕ
transform_of false p w k l c = transform p w k l c
transform_of true p w k l c = untransform p (inverse p w) k l c
