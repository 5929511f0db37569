-- What is promised of words that are read, whatever the input is. Assumes nothing: these are definitions.
use Rattle.std.specs.Prelude.{◌≡◌, List, ℕ, length, take, drop}
use Rattle.field.specs.Words.{Words}

-- the first `count` words are words of the field, and the others stay
pub record Loaded (count : ℕ) (before after : List ℕ) : Type 0 where
  pub long : length after ≡ length before
  pub rest : drop count after ≡ drop count before
  pub words : Words 65537 (take count after)
