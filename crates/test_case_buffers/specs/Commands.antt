-- The kinds and numbers of commands. Assumes nothing: these are definitions.
use Rattle.std.specs.Prelude.{◌≡◌, ◌<◌, List, MatchResult, Result, slice_index, ℕ}
use Rattle.test_case_buffers.specs.Numbers.{NamesBytes, number_of_number, number_of_words}
use Rattle.test_case_buffers.specs.declared.command.Call.TheVariants.{Open, Write, Strike, Read, Image, Decode, Recover}
use Rattle.test_case_buffers.specs.declared.command.Call.TheVariants.{List as ListCall, Explain, Powers, TakeBack, RecoverTwo, ShelfOfTwo}
use Rattle.test_case_buffers.specs.declared.command.Change.TheVariants.{Set, Fill, Put, Load, Garble, Exchange}
use Rattle.test_case_buffers.specs.declared.command.Command.{Command}
use Rattle.test_case_buffers.specs.declared.command.Command.TheVariants.{Change as OfChange, Call as OfCall}
use Rattle.test_case_buffers.specs.declared.command.Unknown.{Unknown}

-- the command of a kind and three numbers
abbrev pub IsCommand : Command → ℕ → ℕ → ℕ → ℕ → Type 0
IsCommand (OfChange (Set n count)) kind a b d = (kind ≡ 0) × (number_of_number n ≡ a) × (count ≡ b)
IsCommand (OfChange (Fill w bound seed)) kind a b d = (kind ≡ 1) × (number_of_words w ≡ a) × (bound ≡ b) × (seed ≡ d)
IsCommand (OfChange (Put w at word)) kind a b d = (kind ≡ 2) × (number_of_words w ≡ a) × (at ≡ b) × (word ≡ d)
IsCommand (OfChange (Load w at count)) kind a b d = (kind ≡ 3) × NamesBytes a w × (at ≡ b) × (count ≡ d)
IsCommand (OfChange (Garble from count seed)) kind a b d = (kind ≡ 4) × (from ≡ a) × (count ≡ b) × (seed ≡ d)
IsCommand (OfChange Exchange) kind a b d = kind ≡ 17
IsCommand (OfCall Open) kind a b d = kind ≡ 5
IsCommand (OfCall (Write r)) kind a b d = (kind ≡ 6) × (r ≡ a)
IsCommand (OfCall (Read r)) kind a b d = (kind ≡ 7) × (r ≡ a)
IsCommand (OfCall Image) kind a b d = kind ≡ 8
IsCommand (OfCall (Decode n)) kind a b d = (kind ≡ 9) × (n ≡ a)
IsCommand (OfCall Recover) kind a b d = kind ≡ 10
IsCommand (OfCall ListCall) kind a b d = kind ≡ 11
IsCommand (OfCall (Explain n)) kind a b d = (kind ≡ 12) × (n ≡ a)
IsCommand (OfCall Powers) kind a b d = kind ≡ 13
IsCommand (OfCall (TakeBack n)) kind a b d = (kind ≡ 14) × (n ≡ a)
IsCommand (OfCall RecoverTwo) kind a b d = kind ≡ 15
IsCommand (OfCall (ShelfOfTwo n)) kind a b d = (kind ≡ 16) × (n ≡ a)
IsCommand (OfCall (Strike r)) kind a b d = (kind ≡ 18) × (r ≡ a)

-- a kind that is none, or a first number that names nothing
abbrev pub NoCommand : ℕ → ℕ → Type 0
NoCommand kind a = (kind ≡ 0 → 12 < a) × (kind ≡ 1 → 5 < a) × (kind ≡ 2 → 5 < a) × (2 < kind → 18 < kind)

-- the command of what is read, where there is one
abbrev pub NamesCommand : (ℕ × List ℕ) → Result Command Unknown → Type 0
NamesCommand (kind, numbers) r = MatchResult r
    (λ c. IsCommand c kind (slice_index numbers 0) (slice_index numbers 1) (slice_index numbers 2))
    (λ _. NoCommand kind (slice_index numbers 0))
