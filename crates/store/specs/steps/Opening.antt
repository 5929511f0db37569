-- What the steps of building the full stripe ask of a slice; the clauses of private functions cite it. Assumes nothing: these are definitions.
use Rattle.std.specs.Prelude.{◌≡◌, Bool, true, List, ℕ}
use Rattle.field.specs.Words.{Words}

-- where `whole` is true all words are words of the field, and none has to be reduced
pub record WholeWords (p : ℕ) (whole : Bool) (words : List ℕ) : Type 0 where
  pub words_of : whole ≡ true → Words p words
