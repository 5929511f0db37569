-- THE LOOP OVER LEVELS of unmixing, however a level is unmixed: each turn unmixes all blocks of one level; what is left to be done to each block of 2 ^ left
-- rows gives the whole. Assumes nothing.
use mathlib.Core.Path.{◌≡◌, refl, sym, ap, ◌∙◌}
use mathlib.Core.List.{List}
use Prim.Native.Nat.{ℕ, suc, ◌+◌, ◌-◌, ◌*◌, ◌/◌, ◌^◌, ◌≤◌, ◌<◌}
use native.Mathlib.Nat.{sub-zero}
use native.Mathlib.Omega.{arith}
use lib.ListN.{length}
use Rattle.field.specs.Power.{power, inverse}
use Rattle.field.specs.Field.{fermat, root_of}
use Rattle.field.specs.Words.{Words}
use Rattle.code.specs.Rows.{lifted}
use Rattle.code.specs.Transform.{unmixed, untransform}
use Rattle.code.proofs.Shapes.{length_unmixed, length_untransform}
use Rattle.code.proofs.Blocks.{Level, pow_down, words_each, each_rows, rows_id, rows_one, both, rows_then, rows_double, unmixing_block}

pub record UnmixLoop (half₀ : List ℕ) (level width : ℕ) (half : List ℕ) (left : ℕ) : Type 0 where
  pub turns : left ≤ level
  pub few : level ≤ 11
  pub long : length half₀ ≡ 2 ^ level * width
  pub same : length half ≡ length half₀
  pub words : Words 65537 half
  pub rest : each_rows width (2 ^ (level - left)) (2 ^ left) (untransform 65537 (inverse 65537 (root_of fermat level)) level left) half
      ≡ lifted width (2 ^ level) (2 ^ level) (untransform 65537 (inverse 65537 (root_of fermat level)) level level) half₀

-- a level: unmixed, and then both halves of each column untransformed
unmix_level : (width root k l b : ℕ) (rows rows' : List ℕ) → b * ((2 ^ l + 2 ^ l) * width) ≤ length rows → length rows' ≡ length rows
    → rows' ≡ each_rows width b (2 ^ l + 2 ^ l) (unmixed 65537 (power 65537 root (2 ^ k / 2 ^ l)) (2 ^ l)) rows
    → each_rows width (b * 2) (2 ^ l) (untransform 65537 root k l) rows' ≡ each_rows width b (2 ^ suc l) (untransform 65537 root k (suc l)) rows
unfolding untransform
unmix_level width root k l b rows rows' h el e =
    let m = 2 ^ l in
    let t = untransform 65537 root k l in
    let v = power 65537 root (2 ^ k / m) in
    rows_double width b m t rows' (rw el h) (length_untransform 65537 root k l) ∙ ap (each_rows width b (m + m) (both t m)) e
    ∙ rows_then width b (m + m) (unmixed 65537 v m) (both t m) (untransform 65537 root k (suc l)) rows h (λ c _. length_unmixed 65537 v m c) (λ c _. refl)
    ∙ ap (λ (n : ℕ). each_rows width b n (untransform 65537 root k (suc l)) rows) {x = m + m} {y = 2 ^ suc l} (omega arith)

pub unmix_start : {half₀ : List ℕ} {level width : ℕ} → level ≤ 11 → length half₀ ≡ 2 ^ level * width → Words 65537 half₀
    → UnmixLoop half₀ level width half₀ level
unmix_start {half₀} {level} {width} b e w =
    let z : level - level ≡ 0 = omega arith in
    record {
      turns = omega arith;
      few = b;
      long = e;
      same = refl;
      words = w;
      rest = rw z (rows_one width (2 ^ level) (untransform 65537 (inverse 65537 (root_of fermat level)) level level) half₀ e);
    }

module _ {half₀ : List ℕ} {level width : ℕ} {half : List ℕ} {left : ℕ} (h : UnmixLoop half₀ level width half left) where
  pub unmix_turn : {half' : List ℕ} {blocks m v : ℕ} → 0 < left → Level width level (left - 1) (length half) blocks m → length half' ≡ length half
      → v ≡ power 65537 (inverse 65537 (root_of fermat level)) (2 ^ level / 2 ^ (left - 1))
      → half' ≡ each_rows width blocks (m + m) (unmixed 65537 v m) half
      → UnmixLoop half₀ level width half' (left - 1)
  unmix_turn {half'} {blocks} {m} {v} lt q el u eh =
      let s : suc (left - 1) ≡ left = omega arith in
      let r : length half ≡ blocks * ((2 ^ (left - 1) + 2 ^ (left - 1)) * width) = rw q.m_is at q.rows in
      let b : blocks ≡ 2 ^ (level - left) = rw s at q.blocks_is in
      let b2 : 2 ^ (level - (left - 1)) ≡ blocks * 2 = pow_down {n = level} {l = left - 1} (omega arith) ∙ ap (λ (n : ℕ). n * 2) (sym q.blocks_is) in
      record {
        turns = omega arith;
        few = h.few;
        long = h.long;
        same = el ∙ h.same;
        words = rw eh (words_each 65537 blocks _ _ (omega arith) (unmixing_block width m v).words h.words);
        rest = rw b2 (unmix_level width (inverse 65537 (root_of fermat level)) level (left - 1) blocks half half' (omega arith) el (eh ∙ rw (q.m_is, u) refl)
            ∙ rw (s, b) h.rest);
      }

  pub unmix_done : left ≤ 0 → half ≡ lifted width (2 ^ level) (2 ^ level) (untransform 65537 (inverse 65537 (root_of fermat level)) level level) half₀
  unfolding untransform
  unmix_done le =
      let z : left ≡ 0 = omega arith in
      sym (rows_id width (2 ^ level) half (h.same ∙ h.long)) ∙ (rw (z, sub-zero level) at h.rest)
