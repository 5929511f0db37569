-- The lowest filled level taken apart (docs/FORMAT.md, section 5): its blocks but the last become the levels below it, and the log and the header are those of
-- one write less. Assumes nothing: these are definitions.
use Rattle.std.specs.Prelude.{true, false, List, [], ◌++◌, ℕ, zero, suc, ◌+◌, ◌*◌, ◌-◌, ◌/◌, ◌%◌, ◌^◌, eqb, take, drop, replicate}
use Rattle.code.specs.Stripe.{coded_stripe}
use Rattle.layout.specs.declared.Header.{Header}
use Rattle.layout.specs.Header.{header_of, width, first_of, level_at, stripe_size, stripe_of}

-- THE LOWEST FILLED LEVEL, of those from `level` on, of which c has the bits; fuel: the levels that are left
unfoldable pub first_filled : (fuel level c : ℕ) → ℕ
first_filled zero l c = l
first_filled (suc n) l c = elim (eqb (c % 2) 1) [ true ↦ l | false ↦ first_filled n (suc l) (c / 2) ]

abbrev pub lowest_of : Header → ℕ
lowest_of h = first_filled h.k 0 h.c

-- THE HEADER of one write less
abbrev pub header_before : Header → Header
header_before h = header_of h.k h.s (h.c - 1)

-- LEVEL j then, which is below level l: the blocks of its own writes, of those that level l has, the first of which is write t0 of level l; coded
abbrev pub blocks_before : Header → (level : ℕ) → (blocks : List ℕ) → (j : ℕ) → List ℕ
blocks_before h l bs j = take (2 ^ j * width h) (drop ((first_of (header_before h) j - first_of h l) * width h) bs)

-- levels 0 to n - 1
unfoldable pub levels_before : Header → (level : ℕ) → (blocks : List ℕ) → (n : ℕ) → List ℕ
levels_before h l bs zero = []
levels_before h l bs (suc j) = levels_before h l bs j ++ coded_stripe (stripe_of (header_before h) j) (blocks_before h l bs j)

-- THE LOG then: those levels, zeros in the place of level l, and the levels above it as they are
abbrev pub log_before : Header → (log : List ℕ) → (level : ℕ) → (blocks : List ℕ) → List ℕ
log_before h g l bs = levels_before h l bs l ++ (replicate (stripe_size h l) 0 ++ drop (level_at h l + stripe_size h l) g)
