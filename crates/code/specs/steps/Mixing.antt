-- What the loops of mixing and unmixing make of a slice, step by step, and what they ask of their factors. Assumes nothing: these are definitions.
use Rattle.std.specs.Prelude.{◌≡◌, List, ◌++◌, ℕ, zero, suc, ◌+◌, ◌*◌, ◌-◌, ◌/◌, ◌%◌, ◌≤◌, ◌<◌, length, get_or, set, take, drop}
use Rattle.field.specs.Residue.{plus, minus, times}
use Rattle.field.specs.Power.{power}

-- A CROSSING of two words a and b under a factor g: what is stored in the place of each
pub record Crossing : Type 0 where
  pub low : (g a b : ℕ) → ℕ
  pub high : (g a b : ℕ) → ℕ

abbrev pub mixing : (p : ℕ) → Crossing
mixing p = record { low = λ g a b. plus p a (times p g b); high = λ g a b. minus p a (times p g b) }

abbrev pub unmixing : (p : ℕ) → Crossing
unmixing p = record { low = λ g a b. plus p a b; high = λ g a b. times p g (minus p a b) }

-- what both are under the factor 1: sum and difference
abbrev pub summing : (p : ℕ) → Crossing
summing p = record { low = λ g a b. plus p a b; high = λ g a b. minus p a b }

-- the words at x and y crossed
unfoldable pub crossed : (c : Crossing) → (g x y : ℕ) → List ℕ → List ℕ
crossed c g x y l = set (set l x (c.low g (get_or l x 0) (get_or l y 0))) y (c.high g (get_or l x 0) (get_or l y 0))

-- the n words from `low` on crossed with those from `high` on, words j under the factor f j
unfoldable pub crossed_row : (c : Crossing) → (f : ℕ → ℕ) → (n low high : ℕ) → List ℕ → List ℕ
crossed_row c f zero low high l = l
crossed_row c f (suc n) low high l = crossed c (f n) (low + n) (high + n) (crossed_row c f n low high l)

abbrev pub mix_row : (p width low high g : ℕ) → List ℕ → List ℕ
mix_row p width low high g l = crossed_row (mixing p) (λ _. g) width low high l

abbrev pub sum_row : (p width low high : ℕ) → List ℕ → List ℕ
sum_row p width low high l = crossed_row (summing p) (λ _. 1) width low high l

-- THE FACTORS of m rows in a table of powers, v ^ i for row i where v is entry `step`: they stand `step` apart, around the table of 2,048; none is -1, so
-- that the product of a factor and a word fits 32 bits
pub record RowFactors (p m step : ℕ) (powers : List ℕ) : Type 0 where
  pub room : m * step < 4294967296
  pub within : (i : ℕ) → i < m → i * step % 2048 < length powers
  pub entry : (i : ℕ) → i < m → get_or powers (i * step % 2048) 0 ≡ power p (get_or powers step 0) i
  pub short : (i : ℕ) → i < m → power p (get_or powers step 0) i < p - 1

-- FACTORS OF WORDS: the factors of rows, each `width` times
unfoldable pub repeated_at : (powers : List ℕ) → (width step : ℕ) → (x : ℕ) → ℕ
repeated_at powers width step x = get_or powers (x / width * step % 2048) 0

-- word x of some factors; none of the first n is -1
unfoldable pub factor_at : (factors : List ℕ) → (x : ℕ) → ℕ
factor_at fs x = get_or fs x 0

pub record ShortFactors (p n : ℕ) (factors : List ℕ) : Type 0 where
  pub room : n ≤ length factors
  pub short : (x : ℕ) → x < n → get_or factors x 0 < p - 1

-- f done to each of the first b blocks of n words
unfoldable pub each_block : (b n : ℕ) → (f : List ℕ → List ℕ) → List ℕ → List ℕ
each_block zero n f l = l
each_block (suc b) n f l = f (take n l) ++ each_block b n f (drop n l)
