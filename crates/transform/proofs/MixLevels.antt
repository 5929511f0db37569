-- THE LOOP OVER LEVELS of mixing, however a level is mixed: each turn mixes all blocks of one level, and after all of them the rows are transformed. Assumes
-- nothing.
use mathlib.Core.Path.{◌≡◌, refl, sym, ap, ap₂, ◌∙◌}
use mathlib.Core.List.{List}
use Prim.Native.Nat.{ℕ, suc, ◌+◌, ◌-◌, ◌*◌, ◌/◌, ◌^◌, ◌≤◌, ◌<◌}
use native.Mathlib.Nat.{sub-zero, mul-le-mul}
use native.Mathlib.Numerals.{add-one}
use native.Mathlib.Omega.{arith}
use lib.Pow.{pow_mono}
use lib.ListN.{length, take, drop, length-drop}
use lib.Seq.{take_at, drop_at, length-take-le}
use Rattle.field.specs.Power.{power}
use Rattle.field.specs.Field.{fermat, root_of}
use Rattle.field.specs.Words.{Words}
use Rattle.code.specs.Rows.{lifted}
use Rattle.code.specs.Transform.{mixed, mixed_halves, transform}
use Rattle.code.proofs.Shapes.{length_two, length_transform}
use Rattle.code.proofs.Blocks.{Level, level_at_lem, pow_down, words_each, each_rows}
use Rattle.code.proofs.Blocks.{rows_id, rows_one, both, rows_then, rows_double, mixing_block}

-- what holds after l levels: each block of 2 ^ l rows is transformed
pub record MixLoop (half₀ : List ℕ) (level width : ℕ) (half : List ℕ) (l : ℕ) : Type 0 where
  pub turns : l ≤ level
  pub few : level ≤ 11
  pub long : length half₀ ≡ 2 ^ level * width
  pub same : length half ≡ length half₀
  pub words : Words 65537 half
  pub now : half ≡ each_rows width (2 ^ (level - l)) (2 ^ l) (transform 65537 (root_of fermat level) level l) half₀

-- both halves of a column transformed, and mixed
mixed_both : (root k l : ℕ) (c : List ℕ) → length c ≡ 2 ^ l + 2 ^ l
    → (length (both (transform 65537 root k l) (2 ^ l) c) ≡ 2 ^ l + 2 ^ l)
    × (mixed_halves 65537 (power 65537 root (2 ^ k / 2 ^ l)) (2 ^ l) (both (transform 65537 root k l) (2 ^ l) c) ≡ transform 65537 root k (suc l) c)
unfolding transform
mixed_both root k l c e =
    let x = transform 65537 root k l (take (2 ^ l) c) in
    let y = transform 65537 root k l (drop (2 ^ l) c) in
    let ex : length x ≡ 2 ^ l = length_transform 65537 root k l (take (2 ^ l) c) (length-take-le (2 ^ l) c (omega arith)) in
    let ey : length y ≡ 2 ^ l = length_transform 65537 root k l (drop (2 ^ l) c) (length-drop (2 ^ l) c ∙ omega arith) in
    (length_two x y ex ey, ap₂ (mixed 65537 (power 65537 root (2 ^ k / 2 ^ l))) (take_at x y (2 ^ l) ex) (drop_at x y (2 ^ l) ex))

-- a level
mix_level : (width root k l b : ℕ) (rows : List ℕ) → b * ((2 ^ l + 2 ^ l) * width) ≤ length rows
    → each_rows width b (2 ^ l + 2 ^ l) (mixed_halves 65537 (power 65537 root (2 ^ k / 2 ^ l)) (2 ^ l))
    (each_rows width (b * 2) (2 ^ l) (transform 65537 root k l) rows)
    ≡ each_rows width b (2 ^ suc l) (transform 65537 root k (suc l)) rows
mix_level width root k l b rows h =
    let m = 2 ^ l in
    let t = transform 65537 root k l in
    let f = mixed_halves 65537 (power 65537 root (2 ^ k / m)) m in
    ap (each_rows width b (m + m) f) (rows_double width b m t rows h (length_transform 65537 root k l))
    ∙ rows_then width b (m + m) (both t m) f (transform 65537 root k (suc l)) rows h (λ c e. (mixed_both root k l c e).0) (λ c e. (mixed_both root k l c e).1)
    ∙ ap (λ (n : ℕ). each_rows width b n (transform 65537 root k (suc l)) rows) {x = m + m} {y = 2 ^ suc l} (omega arith)

pub mix_start : {half₀ : List ℕ} {level width : ℕ} → level ≤ 11 → length half₀ ≡ 2 ^ level * width → Words 65537 half₀ → MixLoop half₀ level width half₀ 0
unfolding transform
mix_start {half₀} {level} {width} b e w = record {
  turns = omega arith;
  few = b;
  long = e;
  same = refl;
  words = w;
  now = rw (sub-zero level) (sym (rows_id width (2 ^ level) half₀ e));
}

-- the level that a turn mixes or unmixes
pub level_here : {level width len blocks m l : ℕ} → l < level → level ≤ 11 → len ≡ 2 ^ level * width → blocks ≡ 2 ^ (level - l - 1) → m ≡ 2 ^ l
    → Level width level l len blocks m
level_here {level} {l = l} lt few e eb em =
    level_at_lem lt (omega arith) e (eb ∙ ap (λ (n : ℕ). 2 ^ n) {x = level - l - 1} {y = level - suc l} (omega arith)) em

module _ {half₀ : List ℕ} {level width : ℕ} {half : List ℕ} {l : ℕ} (h : MixLoop half₀ level width half l) where
  pub mix_turn : {half' : List ℕ} {blocks m v : ℕ} → l < level → Level width level l (length half) blocks m → length half' ≡ length half
      → v ≡ power 65537 (root_of fermat level) (2 ^ level / 2 ^ l)
      → half' ≡ each_rows width blocks (m + m) (mixed_halves 65537 v m) half
      → MixLoop half₀ level width half' (l + 1)
  mix_turn {half'} {blocks} {m} {v} lt s el u eh =
      let r : length half ≡ 2 ^ (level - suc l) * ((2 ^ l + 2 ^ l) * width) = rw (s.blocks_is, s.m_is) at s.rows in
      rw add-one (record {
        turns = omega arith;
        few = h.few;
        long = h.long;
        same = el ∙ h.same;
        words = rw eh (words_each 65537 blocks _ _ (omega arith) (mixing_block width m v).words h.words);
        now = eh ∙ rw (s.blocks_is, s.m_is, u, h.now, pow_down lt) (mix_level width (root_of fermat level) level l (2 ^ (level - suc l)) half₀ (omega arith));
      })

  pub mix_done : level ≤ l → half ≡ lifted width (2 ^ level) (2 ^ level) (transform 65537 (root_of fermat level) level level) half₀
  mix_done le =
      let d : l ≡ level = omega arith in
      let z : level - level ≡ 0 = omega arith in
      (rw (d, z) at h.now) ∙ rows_one width (2 ^ level) (transform 65537 (root_of fermat level) level level) half₀ h.long

-- rows of at most three words are few enough for the flat loops
pub small_few : {level width : ℕ} → level ≤ 10 → width < 4 → 2 ^ level * width ≤ 3072
small_few {level} {width} b h =
    mul-le-mul {n₁ = 2 ^ level} {m₁ = width} {n₂ = 1024} {m₂ = 3} (pow_mono {i = level} {j = 10} b) (omega arith)
