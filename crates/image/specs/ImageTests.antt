-- Tests 1 to 3 of every call that is lent an image. Assumes nothing: these are definitions.
use Rattle.std.specs.Prelude.{Bool, ◌&&◌, List, ℕ, eqb, length}
use Rattle.layout.specs.declared.Header.{Header}
use Rattle.layout.specs.Header.{header_fits, image_size}
use Rattle.layout.specs.Refusals.{Tests, test}
use Rattle.image.specs.Erasures.{erasures_fit}

-- TESTS 1 TO 3 of every call that is lent an image, and the tests that follow; `sizes` says whether the other buffers have their sizes
abbrev pub image_tests : Header → (image erasures : List ℕ) → (sizes : Bool) → Tests → Tests
image_tests h m e sizes rest = test (header_fits h) 1 (test (eqb (length m) (image_size h) && sizes) 2 (test (erasures_fit h e) 3 rest))
