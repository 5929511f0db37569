-- The listing that the program `racklist` prints (docs/FORMAT.md, section 13): the text of an input, byte by byte. Assumes nothing: these are definitions.
use Rattle.std.specs.Prelude.{true, false, ◌&&◌, List, [], ◌∷◌, ◌++◌, ℕ, zero, suc, ◌+◌, ◌*◌, ◌^◌, ltb, length, get_or, take, drop, replicate}
use Rattle.std.specs.Prelude.{Result, Ok, Err}
use Rattle.layout.specs.declared.Header.{Header}
use Rattle.layout.specs.declared.refusal.Refusal.{Refusal}
use Rattle.layout.specs.Refusals.{if_taken, number_of}
use Rattle.layout.specs.Header.{header_of, is_in, width, raw_size, is_filled, level_at, stripe_size}
use Rattle.store.specs.Buffers.{Buffers, opened}
use Rattle.store.specs.StoreCalls.{write_number, write_answer, write_leaves}
use Rattle.print_lines.specs.Text.{decimal}

-- A RACK: a header, and the buffers that a vault lives in
pub record Rack : Type 0 where
  pub header : Header
  pub held : Buffers

abbrev pub rack : Header → Buffers → Rack
rack h u = record { header = h; held = u }

-- of zero records, just opened
abbrev pub zero_rack : (k s : ℕ) → Rack
zero_rack k s = let h = header_of k s 0 in rack h (opened h (replicate (raw_size h) 0))

-- WHAT AN INPUT COMES TO: the number of a refusal, or a rack
pub data Filled : Type 0 where
  stopped : (number : ℕ) → Filled
  filled : Rack → Filled

-- what an answer of the code says, with the buffers that it left
abbrev pub filled_as : Result Header Refusal → Buffers → Filled
filled_as (Ok h) u = filled (rack h u)
filled_as (Err e) u = stopped (number_of e)

abbrev pub then_fill : Filled → (Rack → Filled) → Filled
then_fill (stopped n) next = stopped n
then_fill (filled r) next = next r

-- A WRITE has 2 bytes for the record's number and for each word, low byte first
abbrev pub write_size : (s : ℕ) → ℕ
write_size s = 2 + 2 * s

unfoldable pub pairs : (bytes : List ℕ) → List ℕ
pairs [] = []
pairs (a ∷ []) = []
pairs (a ∷ b ∷ bs) = (a + 256 * b) ∷ pairs bs

unfoldable pub written : Rack → (number : ℕ) → (block : List ℕ) → Filled
written r i b =
    let n = write_number r.header r.held i b in
    if_taken n (filled (rack (write_answer r.header r.held i b).header (write_leaves r.header r.held i b))) (stopped n)

-- 2 where the bytes run out
unfoldable pub write_of : Rack → (bytes : List ℕ) → Filled
write_of r bs =
    elim (ltb (length bs) (write_size r.header.s)) [
      | true ↦ stopped 2
      | false ↦ let words = pairs (take (write_size r.header.s) bs) in written r (get_or words 0 0) (drop 1 words)
    ]

-- WRITES, n of them at most: what follows them is not read
unfoldable pub write_all : (n : ℕ) → Rack → (bytes : List ℕ) → Filled
write_all zero r bs = filled r
write_all (suc n) r [] = filled r
write_all (suc n) r (b ∷ bs) = then_fill (write_of r (b ∷ bs)) (λ (after : Rack). write_all n after (drop (write_size r.header.s) (b ∷ bs)))

-- AN INPUT: k and s, and then at most 256 writes
abbrev pub fill : (input : List ℕ) → Filled
fill [] = stopped 2
fill (k ∷ []) = stopped 2
fill (k ∷ s ∷ bs) = elim (is_in 1 5 k && is_in 1 16 s) [ true ↦ write_all 256 (zero_rack k s) bs | false ↦ stopped 1 ]

-- THE TEXT, as bytes: 10 is a line feed, 32 a space, 48 the digit 0, 67 the letter C. A line is a stripe's name, a position, and its words
unfoldable pub words : List ℕ → List ℕ
words [] = []
words (x ∷ xs) = 32 ∷ (decimal x ++ words xs)

abbrev pub line : (name position : ℕ) → (row : List ℕ) → List ℕ
line name i row = name ∷ 32 ∷ (decimal i ++ (words row ++ (10 ∷ [])))

-- n positions of `width` words each, from position i on
unfoldable pub positions : (name width : ℕ) → (rows : List ℕ) → (i n : ℕ) → List ℕ
positions name width rows i zero = []
positions name width rows i (suc n) = line name i (take width rows) ++ positions name width (drop width rows) (suc i) n

-- the full stripe, and then the filled levels, upward: n of them from level l on
abbrev pub full_text : Header → (full : List ℕ) → List ℕ
full_text h f = positions 67 (width h) f 0 (2 ^ suc h.k)

unfoldable pub level_text : Header → (log : List ℕ) → (level : ℕ) → List ℕ
level_text h g l =
    elim (is_filled h l) [ true ↦ positions (48 + l) (width h) (take (stripe_size h l) (drop (level_at h l) g)) 0 (2 ^ suc l) | false ↦ [] ]

unfoldable pub levels_text : Header → (log : List ℕ) → (l n : ℕ) → List ℕ
levels_text h g l zero = []
levels_text h g l (suc n) = level_text h g l ++ levels_text h g (suc l) n

abbrev pub rack_text : Header → (full log : List ℕ) → List ℕ
rack_text h f g = full_text h f ++ levels_text h g 0 h.k

-- `refused `, and the number
abbrev pub refused_text : (number : ℕ) → List ℕ
refused_text n = 114 ∷ 101 ∷ 102 ∷ 117 ∷ 115 ∷ 101 ∷ 100 ∷ 32 ∷ (decimal n ++ (10 ∷ []))

abbrev pub text_of : Filled → List ℕ
text_of (stopped n) = refused_text n
text_of (filled r) = rack_text r.header r.held.full r.held.log

-- THE LISTING of an input
abbrev pub listing : (input : List ℕ) → List ℕ
listing input = text_of (fill input)
