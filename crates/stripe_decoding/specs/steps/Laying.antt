-- What laying a stripe asks of its buffers. Assumes nothing: these are definitions.
use Rattle.std.specs.Prelude.{◌≡◌, List, ℕ, ◌*◌, length}
use Rattle.layout.specs.declared.Header.{Header}
use Rattle.layout.specs.Header.{record_count, scratch_size, stripe_of}
use Rattle.range_laying.specs.declared.Content.{Content}
use Rattle.range_laying.specs.steps.Blocks.{row_words}

-- THE WORDS that are laid, for all records: a row for each
abbrev pub laid_size : Header → Content → ℕ
laid_size h c = record_count h * row_words c (stripe_of h h.k)

-- an output and a scratch of their sizes
pub record LayingFits (h : Header) (c : Content) (o s : List ℕ) : Type 0 where
  pub output : length o ≡ laid_size h c
  pub room : length s ≡ scratch_size h
