-- One stripe of an image: how many of its positions are left, and what its rows and marks decode to. Assumes nothing: these are definitions.
use Rattle.std.specs.Prelude.{List, ℕ, length}
use Rattle.decoder.specs.Decoding.{survivors}
use Rattle.layout.specs.declared.Header.{Header}
use Rattle.layout.specs.Header.{stripe_of}
use Rattle.image.specs.Image.{words_of}
use Rattle.image.specs.Erasures.{Erasure, marks_of}
use Rattle.image.specs.Loading.{stripe_in}
use Rattle.judging.specs.Decoding.{Decoded, decode_rows}

abbrev pub positions_left : Header → List Erasure → (stripe : ℕ) → ℕ
positions_left h gs l = length (survivors l (marks_of h gs l))

abbrev pub decode_stripe : Header → (image : List ℕ) → List Erasure → (stripe : ℕ) → Decoded
decode_stripe h m gs l = decode_rows (stripe_of h l) (marks_of h gs l) (words_of (stripe_in h m l))
