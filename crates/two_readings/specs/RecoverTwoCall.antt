-- What the call `recover_two` answers and leaves, for every input. Assumes nothing: these are definitions.
use Rattle.std.specs.Prelude.{◌&&◌, List, ℕ, eqb, length, replicate}
use Rattle.layout.specs.declared.Header.{Header}
use Rattle.layout.specs.Header.{raw_size, scratch_size}
use Rattle.layout.specs.Refusals.{done, refusal, if_taken}
use Rattle.recovery.specs.Verdicts.{Verdict}
use Rattle.recovery.specs.Recovery.{recover}
use Rattle.recovery.specs.RecoveryCall.{unnamed, answer_of, recovered_words}
use Rattle.two_readings.specs.Choosing.{decoding_of_two}
use Rattle.two_readings.specs.TwoTests.{two_tests}

-- RECOVERY of what each stripe decodes to in the reading that it is taken from; with 0 to 3 and 13 it names no stripe
abbrev pub recover_two_early : Header → (image erasures image' erasures' out scratch : List ℕ) → ℕ
recover_two_early h m e m' e' out scratch = refusal (two_tests h m e m' e' (eqb (length out) (raw_size h) && eqb (length scratch) (scratch_size h)) done)

abbrev pub recover_two_answer : Header → (image erasures image' erasures' out scratch : List ℕ) → Verdict
recover_two_answer h m e m' e' out scratch =
    let early = recover_two_early h m e m' e' out scratch in
    if_taken early (answer_of (recover h (decoding_of_two h m e m' e'))) (unnamed early)

abbrev pub recover_two_leaves : Header → (image erasures image' erasures' out scratch : List ℕ) → List ℕ
recover_two_leaves h m e m' e' out scratch =
    if_taken (recover_two_early h m e m' e' out scratch) (recovered_words (recover h (decoding_of_two h m e m' e')) (raw_size h)) out

abbrev pub recover_two_scratch : Header → (image erasures image' erasures' out scratch : List ℕ) → List ℕ
recover_two_scratch h m e m' e' out scratch = if_taken (recover_two_early h m e m' e' out scratch) (replicate (scratch_size h) 0) scratch
