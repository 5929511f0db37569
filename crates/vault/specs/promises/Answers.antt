-- ANSWERS: what the contracts of calls read off an answer of the code, for every answer; and that the names by which contracts, histories and promises speak of
-- headers, buffers and a call's number mean one thing. Signs and letters: Demands. Assumes nothing.
use Rattle.std.specs.Prelude.{◌≡◌, List, [], ℕ, Some, None, Ok, Err}
use Rattle.std.specs.Borrow.{Bor}
use Rattle.layout.specs.declared.Header.{Header}
use Rattle.layout.specs.declared.refusal.Refusal.{Refusal}
use Rattle.layout.specs.Header.{header_of}
use Rattle.layout.specs.Refusals.{number_of, answer_number, read_part}
use Rattle.store.specs.Buffers.{buffers}
use Rattle.store.specs.StoreCalls.{opened_as, open_number, open_answer, written_as, write_answer, write_leaves, strike_answer, strike_leaves}
use Rattle.recovery.specs.Verdicts.{verdict_of}
use Rattle.recovery.specs.RecoveryCall.{unnamed, at_fault}
use Rattle.two_readings.specs.ShelfOfTwoCall.{place_given}
use Rattle.taking_back.specs.TakeBackCall.{take_back_answer, take_back_leaves}
use Rattle.vault.specs.Event.{write, strike, take_back}
use Rattle.vault.specs.History.{Vault, number_on, step}

-- a number: 0, or that of the refusal
abbrev pub NumberRead : Type 1
NumberRead = (T : Type 0) (given : T) (refusal : Refusal) → (answer_number (Ok given) ≡ 0) × (answer_number {A = T} (Err refusal) ≡ number_of refusal)

-- of an opening the header, 0, 0, 0 where it is refused; of a write, a strike and a taking-back the header afterwards, and the one before where it is refused
abbrev pub OpeningRead : Type 0
OpeningRead =
    (h : Header) (refusal : Refusal) →
    ((opened_as (Ok h)).number ≡ 0) × ((opened_as (Ok h)).header ≡ h) ×
    ((opened_as (Err refusal)).number ≡ number_of refusal) × ((opened_as (Err refusal)).header ≡ header_of 0 0 0)

abbrev pub WriteRead : Type 0
WriteRead =
    (before h : Header) (refusal : Refusal) →
    ((written_as before (Ok h)).number ≡ 0) × ((written_as before (Ok h)).header ≡ h) ×
    ((written_as before (Err refusal)).number ≡ number_of refusal) × ((written_as before (Err refusal)).header ≡ before)

-- of a reading its words, none where it is refused
abbrev pub PartRead : Type 0
PartRead = (part : Bor (List ℕ)) (refusal : Refusal) → (read_part (Ok part) ≡ part.now) × (read_part (Err refusal) ≡ [])

-- of the place of a stripe its three numbers, zeros where it is refused
abbrev pub PlaceRead : Type 0
PlaceRead =
    (reading start count : ℕ) (refusal : Refusal) →
    let given = place_given (Ok (record { reading = reading; start = start; count = count })) in
    let none = place_given (Err refusal) in
    (given.reading ≡ reading) × (given.start ≡ start) × (given.count ≡ count) × (none.reading ≡ 0) × (none.start ≡ 0) × (none.count ≡ 0)

-- of a recovery the number, and the stripe at fault where one is named
abbrev pub VerdictRead : Type 1
VerdictRead =
    (T : Type 0) (given : T) (refusal : Refusal) (l : ℕ) →
    (verdict_of (Ok given) ≡ unnamed 0) ×
    (verdict_of {A = T} (Err (record { refusal = refusal; stripe = None })) ≡ unnamed (number_of refusal)) ×
    (verdict_of {A = T} (Err (record { refusal = refusal; stripe = Some l })) ≡ at_fault (number_of refusal) l)

-- A HEADER has the three numbers that it is made of, and buffers are the three
abbrev pub HeaderHas : Type 0
HeaderHas = (k s c : ℕ) → ((header_of k s c).k ≡ k) × ((header_of k s c).s ≡ s) × ((header_of k s c).c ≡ c)

abbrev pub BuffersHave : Type 0
BuffersHave = (raw full log : List ℕ) → ((buffers raw full log).raw ≡ raw) × ((buffers raw full log).full ≡ full) × ((buffers raw full log).log ≡ log)

-- THE CALLS `open`, `write`, `strike` AND `take_back` answer the number and leave what promises and histories speak of
abbrev pub OpenAnswers : Type 0
OpenAnswers = (k s : ℕ) (raw full log : List ℕ) → (open_answer k s raw full log).number ≡ open_number k s raw full log

abbrev pub WriteAnswers : Type 0
WriteAnswers =
    (v : Vault) (i : ℕ) (b : List ℕ) →
    ((write_answer v.header v.held i b).number ≡ number_on v (write i b)) ×
    ((write_answer v.header v.held i b).header ≡ (step v (write i b)).header) × (write_leaves v.header v.held i b ≡ (step v (write i b)).held)

abbrev pub StrikeAnswers : Type 0
StrikeAnswers =
    (v : Vault) (i : ℕ) →
    ((strike_answer v.header v.held i).number ≡ number_on v (strike i)) ×
    ((strike_answer v.header v.held i).header ≡ (step v (strike i)).header) × (strike_leaves v.header v.held i ≡ (step v (strike i)).held)

abbrev pub BackAnswers : Type 0
BackAnswers =
    (v : Vault) (scratch : List ℕ) →
    let next = take_back scratch in
    ((take_back_answer v.header v.held scratch).number ≡ number_on v next) × ((take_back_answer v.header v.held scratch).header ≡ (step v next).header) ×
    (take_back_leaves v.header v.held scratch ≡ (step v next).held)

-- ALL OF THIS ROOM
pub record Answers : Type 1 where
  pub number_read : NumberRead
  pub opening_read : OpeningRead
  pub write_read : WriteRead
  pub part_read : PartRead
  pub place_read : PlaceRead
  pub verdict_read : VerdictRead
  pub header_has : HeaderHas
  pub buffers_have : BuffersHave
  pub open_answers : OpenAnswers
  pub write_answers : WriteAnswers
  pub strike_answers : StrikeAnswers
  pub back_answers : BackAnswers
