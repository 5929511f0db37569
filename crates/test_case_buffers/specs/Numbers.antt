-- The numbers by which commands name buffers, and what is set. Assumes nothing: these are definitions.
use Rattle.std.specs.Prelude.{◌≡◌, ◌+◌, ◌<◌, MatchResult, Result, ℕ, min}
use Rattle.test_case_buffers.specs.declared.command.Bytes.{Bytes}
use Rattle.test_case_buffers.specs.declared.command.Bytes.TheVariants.{Image, List, Image2, List2}
use Rattle.test_case_buffers.specs.declared.command.Number.{Number}
use Rattle.test_case_buffers.specs.declared.command.Number.TheVariants.{K, S, C, Words as OfWords, Bytes as OfBytes}
use Rattle.test_case_buffers.specs.declared.command.Unknown.{Unknown}
use Rattle.test_case_buffers.specs.declared.command.Words.{Words}
use Rattle.test_case_buffers.specs.declared.command.Words.TheVariants.{Raw, Full, Log, Block, Out, Scratch}

abbrev pub number_of_words : Words → ℕ
number_of_words Raw = 0
number_of_words Full = 1
number_of_words Log = 2
number_of_words Block = 3
number_of_words Out = 4
number_of_words Scratch = 5

abbrev pub number_of_bytes : Bytes → ℕ
number_of_bytes Image = 0
number_of_bytes List = 1
number_of_bytes Image2 = 2
number_of_bytes List2 = 3

abbrev pub number_of_number : Number → ℕ
number_of_number K = 0
number_of_number S = 1
number_of_number C = 2
number_of_number (OfWords b) = 3 + number_of_words b
number_of_number (OfBytes b) = 9 + number_of_bytes b

-- the buffer of words with a number, where there is one
abbrev pub NamesWords : ℕ → Result Words Unknown → Type 0
NamesWords n r = MatchResult r (λ b. number_of_words b ≡ n) (λ _. 5 < n)

-- the buffer of bytes with a number, and the last for all beyond
abbrev pub NamesBytes : ℕ → Bytes → Type 0
NamesBytes n b = number_of_bytes b ≡ min n 3

-- what has a number, where there is one
abbrev pub NamesNumber : ℕ → Result Number Unknown → Type 0
NamesNumber n r = MatchResult r (λ x. number_of_number x ≡ n) (λ _. 12 < n)
