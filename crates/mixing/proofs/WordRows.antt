-- A level crossed word by word, each under the factor of its row, which is repeated: the blocks, and the factors. Assumes nothing.
use mathlib.Core.Path.{◌≡◌, ap, ◌∙◌}
use mathlib.Core.List.{List}
use Prim.Native.Nat.{ℕ, zero, suc, ◌+◌, ◌*◌, ◌/◌, ◌≤◌, ◌<◌}
use native.Mathlib.Nat.{zero-add, add-mul, mul-zero, div-lt_iff_lt-mul}
use native.Mathlib.Omega.{arith}
use lib.ListN.{length, get_or, take}
use lib.Seq.{length-take-le, get_or-take}
use Rattle.field.specs.Power.{power}
use Rattle.code.specs.Rows.{lifted}
use Rattle.code.specs.steps.Mixing.{Crossing, crossed_row, RowFactors, ShortFactors, repeated_at, factor_at, each_block}
use Rattle.code.specs.steps.Storing.{stored}
use Rattle.code.proofs.RowLaws.{length_stored, stored_at}
use Rattle.mixing.proofs.Crossing.{Crosses, words_lifted}
use Rattle.code.proofs.Blocks.{each_same, each_rows}

-- the factors that are repeated
module _ (width : ℕ) (fs₀ : List ℕ) {m step : ℕ} {powers fs : List ℕ} (f : RowFactors 65537 m step powers) (room : m * width ≤ length fs₀)
    (e : fs ≡ stored 0 (repeated_at powers width step) (m * width) fs₀) where
  row_of : (x : ℕ) → x < m * width → x / width < m
  row_of x h = (div-lt_iff_lt-mul (positive width h)).1 h
    where
      positive : (w : ℕ) → x < m * w → 0 < w
      positive zero b = absurd (omega (arith, mul-zero m))
      positive (suc w) b = omega arith

  pub repeated_long : length (take (m * width) fs) ≡ m * width
  repeated_long = length-take-le (m * width) fs (rw (ap length e ∙ length_stored 0 (repeated_at powers width step) (m * width) fs₀) room)

  pub repeated_is : (x : ℕ) → x < m * width → get_or (take (m * width) fs) x 0 ≡ power 65537 (get_or powers step 0) (x / width)
  unfolding repeated_at
  repeated_is x h =
      let z : 0 + x ≡ x = zero-add x in
      get_or-take (m * width) fs x 0 h ∙ ap (λ (l : List ℕ). get_or l x 0) e
      ∙ (rw z at (stored_at 0 (repeated_at powers width step) (m * width) fs₀ x (omega arith) h)) ∙ f.entry (x / width) (row_of x h)

  pub repeated_short : ShortFactors 65537 (length (take (m * width) fs)) (take (m * width) fs)
  repeated_short = record {
    room = omega arith;
    short = λ x h. let b : x < m * width = rw repeated_long at h in rw (repeated_is x b) (f.short (x / width) (row_of x b));
  }

pub words_level : {c : Crossing} {x m : ℕ} {d : List ℕ → List ℕ} (width blocks : ℕ) (fs l : List ℕ) → Crosses c x m d → length l ≡ blocks * ((m + m) * width)
    → ((k : ℕ) → k < m * width → get_or fs k 0 ≡ power 65537 x (k / width))
    → each_block blocks (m * width + m * width) (crossed_row c (factor_at fs) (m * width) 0 (m * width)) l ≡ each_rows width blocks (m + m) d l
words_level {c} {x} {m} {d} width blocks fs l t e h =
    let q : (m + m) * width ≡ m * width + m * width = add-mul m m width in
    rw q (each_same blocks (m * width + m * width) (crossed_row c (factor_at fs) (m * width) 0 (m * width)) (lifted width (m + m) (m + m) d) l (omega arith)
    (λ a b. words_lifted width fs a t b h))
