-- What the call `explain` answers and leaves, for every input. Assumes nothing: these are definitions.
use Rattle.std.specs.Prelude.{◌&&◌, List, ℕ, eqb, length, replicate}
use Rattle.layout.specs.declared.Header.{Header}
use Rattle.recovery.specs.Verdicts.{Verdict}
use Rattle.layout.specs.Header.{scratch_size}
use Rattle.image.specs.Erasures.{erasures_in}
use Rattle.image.specs.ImageTests.{image_tests}
use Rattle.stripe_decoding.specs.Decoding.{decode_stripe}
use Rattle.recovery.specs.Origins.{origins_size, explain}
use Rattle.recovery.specs.RecoveryCall.{unnamed, answer_of, recovered_words}
use Rattle.explanation.specs.Counts.{counts_size, counts_of}
use Rattle.layout.specs.Refusals.{done, refusal, if_taken}

-- EXPLAINING counts what is left of all needed stripes, whatever follows; then it stops where recovery stops. After 7 to 10 the origins are zeros
abbrev pub explain_early : Header → (image erasures counts origins scratch : List ℕ) → ℕ
explain_early h m e counts origins scratch =
    refusal (image_tests h m e (eqb (length counts) (counts_size h) && (eqb (length origins) (origins_size h) && eqb (length scratch) (scratch_size h))) done)

abbrev pub explain_answer : Header → (image erasures counts origins scratch : List ℕ) → Verdict
explain_answer h m e counts origins scratch =
    let early = explain_early h m e counts origins scratch in
    if_taken early (answer_of (explain h (decode_stripe h m (erasures_in e)))) (unnamed early)

abbrev pub explain_counts : Header → (image erasures counts origins scratch : List ℕ) → List ℕ
explain_counts h m e counts origins scratch = if_taken (explain_early h m e counts origins scratch) (counts_of h (erasures_in e)) counts

abbrev pub explain_origins : Header → (image erasures counts origins scratch : List ℕ) → List ℕ
explain_origins h m e counts origins scratch =
    if_taken (explain_early h m e counts origins scratch) (recovered_words (explain h (decode_stripe h m (erasures_in e))) (origins_size h)) origins

abbrev pub explain_scratch : Header → (image erasures counts origins scratch : List ℕ) → List ℕ
explain_scratch h m e counts origins scratch = if_taken (explain_early h m e counts origins scratch) (replicate (scratch_size h) 0) scratch
