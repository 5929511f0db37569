-- What opening, writing, striking and reading answer, and what they leave in each lent buffer, for every input. Assumes nothing: these are definitions.
use Rattle.std.specs.Prelude.{Bool, ◌&&◌, not, List, [], ℕ, ltb, eqb, length, Result, Ok, Err}
use Rattle.layout.specs.declared.Header.{Header}
use Rattle.layout.specs.declared.refusal.Refusal.{Refusal}
use Rattle.layout.specs.Header.{header_of, record_count, header_fits, raw_size, full_size, log_size}
use Rattle.layout.specs.Records.{are_data, is_blank, is_struck, struck_data, record_in, records_fit}
use Rattle.store.specs.Buffers.{Buffers, buffers, opened}
use Rattle.store.specs.Writing.{next_header, written}
use Rattle.layout.specs.Refusals.{Tests, done, test, refusal, if_taken, number_of}

-- THE BUFFERS that a vault lives in have their lengths; the number of a call by this and by its header
abbrev pub buffers_fit : Header → Buffers → Bool
buffers_fit h u = eqb (length u.raw) (raw_size h) && (eqb (length u.full) (full_size h) && eqb (length u.log) (log_size h))

abbrev pub buffers_number : Header → Buffers → ℕ
buffers_number h u = refusal (test (header_fits h) 1 (test (buffers_fit h u) 2 done))

-- OPENING answers a number and the header of the vault, which is 0, 0, 0 where it is refused
pub record Opened : Type 0 where
  pub number : ℕ
  pub header : Header

-- what an answer of the code says
abbrev pub opened_as : Result Header Refusal → Opened
opened_as (Ok h) = record { number = 0; header = h }
opened_as (Err e) = record { number = number_of e; header = header_of 0 0 0 }

abbrev pub open_number : (k s : ℕ) → (raw full log : List ℕ) → ℕ
open_number k s raw full log =
    let h = header_of k s 0 in
    refusal (test (header_fits h) 1 (test (buffers_fit h (buffers raw full log)) 2 (test (records_fit s raw (record_count h)) 5 done)))

abbrev pub open_answer : (k s : ℕ) → (raw full log : List ℕ) → Opened
open_answer k s raw full log =
    record { number = open_number k s raw full log; header = if_taken (open_number k s raw full log) (header_of k s 0) (header_of 0 0 0) }

abbrev pub open_leaves : (k s : ℕ) → (raw full log : List ℕ) → Buffers
open_leaves k s raw full log = if_taken (open_number k s raw full log) (opened (header_of k s 0) raw) (buffers raw full log)

-- WRITING answers a number and the header afterwards, which is the one before where it is refused
pub record Written : Type 0 where
  pub number : ℕ
  pub header : Header

-- what an answer of the code says
abbrev pub written_as : (before : Header) → Result Header Refusal → Written
written_as h (Ok after) = record { number = 0; header = after }
written_as h (Err e) = record { number = number_of e; header = h }

-- the tests that a write has had at all times, and then more
abbrev pub write_tests : Header → Buffers → (number : ℕ) → (block : List ℕ) → (more : Tests) → Tests
write_tests h u i b more =
    test (header_fits h) 1
    (test (buffers_fit h u && eqb (length b) h.s) 2
    (test (ltb i (record_count h)) 4
    (test (are_data b) 5 more)))

-- what a write with this number answers, and what it leaves
abbrev pub numbered : (given : ℕ) → Header → Written
numbered given h = record { number = given; header = if_taken given (next_header h) h }

abbrev pub leaving : (given : ℕ) → Header → Buffers → (number : ℕ) → (block : List ℕ) → Buffers
leaving given h u i b = if_taken given (written h u i b) u

-- the call: a blank block is refused
abbrev pub write_number : Header → Buffers → (number : ℕ) → (block : List ℕ) → ℕ
write_number h u i b = refusal (write_tests h u i b (test (not (is_blank b)) 11 done))

abbrev pub write_answer : Header → Buffers → (number : ℕ) → (block : List ℕ) → Written
write_answer h u i b = numbered (write_number h u i b) h

abbrev pub write_leaves : Header → Buffers → (number : ℕ) → (block : List ℕ) → Buffers
write_leaves h u i b = leaving (write_number h u i b) h u i b

-- the call as it was before 11 was in the table. The library has it no more; vaults in use have been written by it
abbrev pub earlier_number : Header → Buffers → (number : ℕ) → (block : List ℕ) → ℕ
earlier_number h u i b = refusal (write_tests h u i b done)

abbrev pub earlier_answer : Header → Buffers → (number : ℕ) → (block : List ℕ) → Written
earlier_answer h u i b = numbered (earlier_number h u i b) h

abbrev pub earlier_leaves : Header → Buffers → (number : ℕ) → (block : List ℕ) → Buffers
earlier_leaves h u i b = leaving (earlier_number h u i b) h u i b

-- STRIKING a record is a write of 65536 in each of its data words
abbrev pub strike_number : Header → Buffers → (number : ℕ) → ℕ
strike_number h u i = refusal (test (header_fits h) 1 (test (buffers_fit h u) 2 (test (ltb i (record_count h)) 4 done)))

abbrev pub strike_answer : Header → Buffers → (number : ℕ) → Written
strike_answer h u i = numbered (strike_number h u i) h

abbrev pub strike_leaves : Header → Buffers → (number : ℕ) → Buffers
strike_leaves h u i = leaving (strike_number h u i) h u i (struck_data h.s)

-- READING gives a part of the raw buffer; a refused one an empty part, and so one of a struck record
abbrev pub read_number : Header → (raw : List ℕ) → (number : ℕ) → ℕ
read_number h raw i =
    refusal (test (header_fits h) 1
    (test (eqb (length raw) (raw_size h)) 2 (test (ltb i (record_count h)) 4 (test (not (is_struck (record_in h.s raw i))) 14 done))))

abbrev pub read_gives : Header → (raw : List ℕ) → (number : ℕ) → List ℕ
read_gives h raw i = if_taken (read_number h raw i) (record_in h.s raw i) []
