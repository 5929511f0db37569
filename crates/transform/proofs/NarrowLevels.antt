-- A level of rows of few words, which the flat loops cross: the words of its blocks, and their factors. Assumes nothing.
use mathlib.Core.Path.{◌≡◌, sym, ap, ◌∙◌}
use mathlib.Core.List.{List}
use Prim.Native.Nat.{ℕ, ◌+◌, ◌-◌, ◌*◌, ◌^◌, ◌≤◌, ◌<◌}
use native.Mathlib.Nat.{add-mul}
use native.Mathlib.Omega.{arith}
use lib.ListN.{length, get_or, take}
use Rattle.code.specs.steps.Mixing.{Crossing, ShortFactors, crossed_row, repeated_at, factor_at, each_block}
use Rattle.code.specs.steps.Storing.{stored}
use Rattle.code.proofs.Blocks.{Level, each_rows}
use Rattle.code.proofs.Factors.{LevelFactors}
use Rattle.mixing.proofs.Crossing.{Crosses}
use Rattle.mixing.proofs.WordRows.{repeated_long, repeated_is, repeated_short, words_level}
use Rattle.transform.proofs.MixLevels.{level_here}

-- what a turn knows of its level: the words of half a block have a factor each, a power of the level's root
pub record Narrow (root width level l len blocks m step : ℕ) (powers : List ℕ) : Type 0 where
  pub here : Level width level l len blocks m
  pub room : m * width ≤ 1536
  pub factors : LevelFactors root level l m step powers

pub narrow : {root width level l len blocks m step : ℕ} {powers : List ℕ} → l < level → level ≤ 11 → 2 ^ level * width ≤ 3072 → len ≡ 2 ^ level * width
    → blocks ≡ 2 ^ (level - l - 1) → m ≡ 2 ^ l → LevelFactors root level l m step powers → Narrow root width level l len blocks m step powers
narrow {width = width} {level} {l} {len} {blocks} {m} lt few small e eb em f =
    let here : Level width level l len blocks m = level_here lt few e eb em in
    record { here = here; room = omega (arith, add-mul m m width, here.fits); factors = f }

-- and once the factors are stored: those that are lent, and what the words become
pub record Lent (len blocks m width : ℕ) (used : List ℕ) : Type 0 where
  pub long : length used ≡ m * width
  pub few : length used ≤ 1536
  pub words : len ≡ blocks * (length used + length used)
  pub short : ShortFactors 65537 (length used) used

module _ (half fs₀ : List ℕ) {root level width l m step blocks : ℕ} {powers fs : List ℕ} (t : Narrow root width level l (length half) blocks m step powers)
    (held : length fs₀ ≡ 1536) (e : fs ≡ stored 0 (repeated_at powers width step) (m * width) fs₀) where
  abbrev used : List ℕ
  used = take (m * width) fs

  room : m * width ≤ length fs₀
  room = omega (arith, t.room, held)

  pub lent : Lent (length half) blocks m width used
  lent =
      let long : length used ≡ m * width = repeated_long width fs₀ t.factors.rows room e in
      record {
        long = long;
        few = omega (arith, t.room, long);
        words = t.here.rows ∙ ap (λ (n : ℕ). blocks * n) (add-mul m m width ∙ ap (λ (n : ℕ). n + n) (sym long));
        short = repeated_short width fs₀ t.factors.rows room e;
      }

  pub level_crossed : {c : Crossing} {d : List ℕ → List ℕ} {half' : List ℕ} → Crosses c (get_or powers step 0) m d
      → half' ≡ each_block blocks (length used + length used) (crossed_row c (factor_at used) (length used) 0 (length used)) half
      → half' ≡ each_rows width blocks (m + m) d half
  level_crossed x eh = (rw lent.long at eh) ∙ words_level width blocks used half x t.here.rows (repeated_is width fs₀ t.factors.rows room e)
