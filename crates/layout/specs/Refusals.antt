-- The refusals of a call, their numbers, and what it leaves of a buffer when it is refused. Assumes nothing: these are definitions.
use Rattle.std.specs.Prelude.{Bool, true, false, List, [], ℕ, eqb, Result, Ok, Err}
use Rattle.std.specs.Borrow.{Bor}
use Rattle.layout.specs.declared.refusal.Refusal.{Refusal}
use Rattle.layout.specs.declared.refusal.Refusal.TheVariants.{HeaderRange, Length, ErasureList, RecordNumber, DataWord, NoStripe, TooFew, OutOfField}
use Rattle.layout.specs.declared.refusal.Refusal.TheVariants.{Inconsistent, NotRecords, Blank, RoundStart, ReadingsDiffer, Struck}

-- THE TABLE OF REFUSALS (docs/FORMAT.md, section 10): the number of each
abbrev pub number_of : Refusal → ℕ
number_of HeaderRange = 1
number_of Length = 2
number_of ErasureList = 3
number_of RecordNumber = 4
number_of DataWord = 5
number_of NoStripe = 6
number_of TooFew = 7
number_of OutOfField = 8
number_of Inconsistent = 9
number_of NotRecords = 10
number_of Blank = 11
number_of RoundStart = 12
number_of ReadingsDiffer = 13
number_of Struck = 14

-- the number of an answer: 0 if the call is taken
abbrev pub answer_number : {A : Type 0} → Result A Refusal → ℕ
answer_number (Ok x) = 0
answer_number (Err e) = number_of e

-- the part of a lent buffer that an answer gives: an empty one if the call is refused
abbrev pub read_part : Result (Bor (List ℕ)) Refusal → List ℕ
read_part (Ok part) = part.now
read_part (Err e) = []

-- TESTS IN A ROW: the number of the first that fails, 0 if none does
pub data Tests : Type 0 where
  done : Tests
  test : (holds : Bool) → (number : ℕ) → Tests → Tests

unfoldable pub refusal : Tests → ℕ
refusal done = 0
refusal (test b n ts) = elim b [ true ↦ refusal ts | false ↦ n ]

-- what a call leaves of a buffer: what it makes of it if it is taken, the buffer if it is refused
abbrev pub if_taken : {A : Type 0} → (number : ℕ) → (made kept : A) → A
if_taken n x y = elim (eqb n 0) [ true ↦ x | false ↦ y ]
