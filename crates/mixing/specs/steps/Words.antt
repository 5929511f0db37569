-- Mixing and unmixing as one, which a flag chooses: of words, the order of the levels, the entry that they go by. Assumes nothing: these are definitions.
use Rattle.std.specs.Prelude.{Bool, true, false, List, ℕ, ◌-◌, ◌/◌, ◌^◌}
use Rattle.field.specs.Power.{inverse}
use Rattle.code.specs.steps.Mixing.{Crossing, mixing, unmixing, crossed_row, factor_at}

-- MIXING, or `unmixing`: what is stored in the place of two words
abbrev pub crossing_of : (unmixing : Bool) → (p : ℕ) → Crossing
crossing_of false p = mixing p
crossing_of true p = unmixing p

-- the pass that is made in a turn of all: mixing goes up, unmixing down
abbrev pub pass_of : (unmixing : Bool) → (turn all : ℕ) → ℕ
pass_of false turn all = turn
pass_of true turn all = all - 1 - turn

-- a root, or its inverse
abbrev pub root_for : (unmixing : Bool) → (p w : ℕ) → ℕ
root_for false p w = w
root_for true p w = inverse p w

-- the entry of the table of powers under whose powers 2 ^ level rows are crossed with as many
abbrev pub step_of : (unmixing : Bool) → (level : ℕ) → ℕ
step_of false level = 1024 / 2 ^ level
step_of true level = 2048 - 1024 / 2 ^ level

-- the first n words crossed with the next n, each under a factor of its own
abbrev pub cross_words : (unmixing : Bool) → (p : ℕ) → (factors : List ℕ) → (n : ℕ) → List ℕ → List ℕ
cross_words unmixing p fs n l = crossed_row (crossing_of unmixing p) (factor_at fs) n 0 n l
