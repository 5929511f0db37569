-- What the call `decode` answers and leaves, for every input. Assumes nothing: these are definitions.
use Rattle.std.specs.Prelude.{◌&&◌, List, ℕ, eqb, length, replicate}
use Rattle.layout.specs.declared.Header.{Header}
use Rattle.layout.specs.Header.{out_size, scratch_size, has_stripe}
use Rattle.image.specs.Erasures.{erasures_in}
use Rattle.image.specs.ImageTests.{image_tests}
use Rattle.judging.specs.Decoding.{decoded_number, decoded_words}
use Rattle.stripe_decoding.specs.Decoding.{decode_stripe}
use Rattle.layout.specs.Refusals.{done, test, refusal, if_taken}

-- STRIPE DECODING (docs/FORMAT.md, sections 9 and 10): blocks in order of time, zeros after them; after 7 to 10 output and scratch are zeros
abbrev pub decode_early : Header → (image erasures : List ℕ) → (stripe : ℕ) → (out scratch : List ℕ) → ℕ
decode_early h m e l out scratch =
    refusal (image_tests h m e (eqb (length out) (out_size h) && eqb (length scratch) (scratch_size h)) (test (has_stripe h l) 6 done))

abbrev pub decode_number : Header → (image erasures : List ℕ) → (stripe : ℕ) → (out scratch : List ℕ) → ℕ
decode_number h m e l out scratch =
    let early = decode_early h m e l out scratch in
    if_taken early (decoded_number (decode_stripe h m (erasures_in e) l)) early

abbrev pub decode_leaves : Header → (image erasures : List ℕ) → (stripe : ℕ) → (out scratch : List ℕ) → List ℕ
decode_leaves h m e l out scratch = if_taken (decode_early h m e l out scratch) (decoded_words (decode_stripe h m (erasures_in e) l) (out_size h)) out

abbrev pub decode_scratch : Header → (image erasures : List ℕ) → (stripe : ℕ) → (out scratch : List ℕ) → List ℕ
decode_scratch h m e l out scratch = if_taken (decode_early h m e l out scratch) (replicate (scratch_size h) 0) scratch
