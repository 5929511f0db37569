-- What the call `recover` answers and leaves, for every input. Assumes nothing: these are definitions.
use Rattle.std.specs.Prelude.{true, false, ◌&&◌, List, ℕ, eqb, length, replicate}
use Rattle.layout.specs.declared.Header.{Header}
use Rattle.recovery.specs.Verdicts.{Verdict}
use Rattle.layout.specs.Header.{raw_size, scratch_size}
use Rattle.image.specs.Erasures.{erasures_in}
use Rattle.image.specs.ImageTests.{image_tests}
use Rattle.stripe_decoding.specs.Decoding.{decode_stripe}
use Rattle.recovery.specs.Recovery.{Recovered, stopped, recovered, recover}
use Rattle.layout.specs.Refusals.{done, refusal, if_taken}

-- RECOVERY names the first stripe at fault; with 0 to 3 it names none
abbrev pub recover_early : Header → (image erasures out scratch : List ℕ) → ℕ
recover_early h m e out scratch = refusal (image_tests h m e (eqb (length out) (raw_size h) && eqb (length scratch) (scratch_size h)) done)

abbrev pub unnamed : (number : ℕ) → Verdict
unnamed number = record { number = number; named = false; stripe = 0 }

abbrev pub at_fault : (number stripe : ℕ) → Verdict
at_fault number l = record { number = number; named = true; stripe = l }

abbrev pub answer_of : Recovered → Verdict
answer_of (stopped number l) = at_fault number l
answer_of (recovered words) = unnamed 0

abbrev pub recovered_words : Recovered → (size : ℕ) → List ℕ
recovered_words (stopped number l) size = replicate size 0
recovered_words (recovered words) size = words

abbrev pub recover_answer : Header → (image erasures out scratch : List ℕ) → Verdict
recover_answer h m e out scratch =
    let early = recover_early h m e out scratch in
    if_taken early (answer_of (recover h (decode_stripe h m (erasures_in e)))) (unnamed early)

abbrev pub recover_leaves : Header → (image erasures out scratch : List ℕ) → List ℕ
recover_leaves h m e out scratch = if_taken (recover_early h m e out scratch) (recovered_words (recover h (decode_stripe h m (erasures_in e))) (raw_size h)) out

abbrev pub recover_scratch : Header → (image erasures out scratch : List ℕ) → List ℕ
recover_scratch h m e out scratch = if_taken (recover_early h m e out scratch) (replicate (scratch_size h) 0) scratch
