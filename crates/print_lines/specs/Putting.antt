-- A text that is put into a buffer as far as it fits: what the buffer then holds, and the index behind the text. Assumes nothing: these are definitions.
use Rattle.std.specs.Prelude.{List, ◌++◌, ℕ, ◌+◌, ◌-◌, min, length, take, drop}

-- over the first bytes of a buffer
abbrev pub over : (buffer text : List ℕ) → List ℕ
over l t = take (length l) t ++ drop (length t) l

-- from index `at` on, which is in the buffer or its length
unfoldable pub put : (buffer : List ℕ) → (at : ℕ) → (text : List ℕ) → List ℕ
put l a t = take a l ++ over (drop a l) t

unfoldable pub put_end : (buffer : List ℕ) → (at : ℕ) → (text : List ℕ) → ℕ
put_end l a t = a + min (length t) (length l - a)
