-- Tests 1, 2, 3 and 13 of every call that is lent two readings. Assumes nothing: these are definitions.
use Rattle.std.specs.Prelude.{Bool, ◌&&◌, List, ℕ, eqb, length}
use Rattle.layout.specs.declared.Header.{Header}
use Rattle.layout.specs.Header.{header_fits, image_size}
use Rattle.layout.specs.Refusals.{Tests, test}
use Rattle.image.specs.Erasures.{erasures_fit}
use Rattle.two_readings.specs.Agreeing.{readings_agree}

-- 3 is of either list. `sizes` says whether the other buffers have their sizes; `rest` are the tests that follow
abbrev pub two_tests : Header → (image erasures image' erasures' : List ℕ) → (sizes : Bool) → (rest : Tests) → Tests
two_tests h m e m' e' sizes rest =
    test (header_fits h) 1
    (test (eqb (length m) (image_size h) && (eqb (length m') (image_size h) && sizes)) 2
    (test (erasures_fit h e && erasures_fit h e') 3
    (test (readings_agree h m e m' e') 13 rest)))
