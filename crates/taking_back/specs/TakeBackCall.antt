-- What the call `take_back` answers and leaves, for every input. Assumes nothing: these are definitions.
use Rattle.std.specs.Prelude.{◌&&◌, List, ℕ, ◌*◌, ltb, eqb, length, replicate}
use Rattle.layout.specs.declared.Header.{Header}
use Rattle.layout.specs.Header.{header_fits, scratch_size}
use Rattle.layout.specs.Refusals.{done, test, refusal, if_taken}
use Rattle.store.specs.Buffers.{Buffers}
use Rattle.store.specs.StoreCalls.{Written, buffers_fit}
use Rattle.splitting.specs.Splitting.{header_before}
use Rattle.taking_back.specs.TakingBack.{decode_held, TakenBack, goes_back, number_back, buffers_back}

-- TAKING BACK (docs/FORMAT.md, sections 9 and 10): the scratch is twice recovery's. The tests before a stripe is decoded, and what the stripes come to then
abbrev pub take_back_early : Header → Buffers → (scratch : List ℕ) → ℕ
take_back_early h u scratch =
    refusal (test (header_fits h) 1 (test (buffers_fit h u && eqb (length scratch) (2 * scratch_size h)) 2 (test (ltb 0 h.c) 12 done)))

abbrev pub take_back_comes : Header → Buffers → TakenBack
take_back_comes h u = goes_back h (decode_held h u.full u.log)

abbrev pub take_back_number : Header → Buffers → (scratch : List ℕ) → ℕ
take_back_number h u scratch = let early = take_back_early h u scratch in if_taken early (number_back (take_back_comes h u)) early

-- its number, and the header afterwards, which is the one before where it is refused
abbrev pub back_answer : Header → (given : ℕ) → Written
back_answer h given = record { number = given; header = if_taken given (header_before h) h }

abbrev pub take_back_answer : Header → Buffers → (scratch : List ℕ) → Written
take_back_answer h u scratch = back_answer h (take_back_number h u scratch)

-- 8 to 10 change nothing but the scratch, which is zeros then as it is where the call is taken; 1, 2 and 12 change nothing
abbrev pub take_back_leaves : Header → Buffers → (scratch : List ℕ) → Buffers
take_back_leaves h u scratch = if_taken (take_back_early h u scratch) (buffers_back h u (take_back_comes h u)) u

abbrev pub take_back_scratch : Header → Buffers → (scratch : List ℕ) → List ℕ
take_back_scratch h u scratch = if_taken (take_back_early h u scratch) (replicate (2 * scratch_size h) 0) scratch
