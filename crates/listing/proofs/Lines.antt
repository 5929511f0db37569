-- Laws of the text of specs/Listing: the next word of a row, the next position of a stripe, the next level. Assumes nothing.
use mathlib.Core.Path.{◌≡◌, refl, sym, ap, ◌∙◌}
use mathlib.Core.Bool.{true, false}
use mathlib.Core.List.{List, [], ◌∷◌, ◌++◌}
use Prim.Native.Nat.{ℕ, suc, ◌+◌, ◌*◌, ◌-◌, ◌^◌, ◌≤◌, ◌<◌}
use native.Mathlib.Nat.{add-mul, mul-le-mul_right}
use native.Mathlib.Numerals.{add-one}
use native.Mathlib.Omega.{arith}
use lib.ListN.{length, get_or, take, drop, drop_of_length-le}
use lib.Pow.{pow_mono}
use lib.Seq.{drop-cons}
use Rattle.layout.specs.declared.Header.{Header}
use Rattle.layout.specs.Header.{width, is_filled, level_at, stripe_size}
use Rattle.print_lines.specs.Text.{decimal}
use Rattle.listing.specs.Listing.{words, line, positions, level_text, levels_text}

pub words_next : (row : List ℕ) (i : ℕ) → i < length row → words (drop i row) ≡ (32 ∷ []) ++ (decimal (get_or row i 0) ++ words (drop (i + 1) row))
unfolding words
words_next row i b =
    ap words (drop-cons row i 0 b) ∙ ap (λ (j : ℕ). 32 ∷ (decimal (get_or row i 0) ++ words (drop j row))) (sym (add-one i))

pub words_done : (row : List ℕ) (i : ℕ) → length row ≤ i → words (drop i row) ≡ []
unfolding words
words_done row i b = ap words (drop_of_length-le row b)

pub positions_next : (name width : ℕ) (rows : List ℕ) (i n : ℕ) → i < n
    → positions name width rows i (n - i) ≡ line name i (take width rows) ++ positions name width (drop width rows) (i + 1) (n - (i + 1))
unfolding positions
positions_next name width rows i n b =
    let e : n - i ≡ suc (n - (i + 1)) = omega arith in
    ap (positions name width rows i) e
    ∙ ap (λ (j : ℕ). line name i (take width rows) ++ positions name width (drop width rows) j (n - (i + 1))) (sym (add-one i))

pub positions_done : (name width : ℕ) (rows : List ℕ) (i n : ℕ) → n ≤ i → positions name width rows i (n - i) ≡ []
unfolding positions
positions_done name width rows i n b = let e : n - i ≡ 0 = omega arith in ap (positions name width rows i) e

pub levels_next : (h : Header) (log : List ℕ) (l n : ℕ) → l < n
    → levels_text h log l (n - l) ≡ level_text h log l ++ levels_text h log (l + 1) (n - (l + 1))
unfolding levels_text
levels_next h log l n b =
    let e : n - l ≡ suc (n - (l + 1)) = omega arith in
    ap (levels_text h log l) e ∙ ap (λ (j : ℕ). level_text h log l ++ levels_text h log j (n - (l + 1))) (sym (add-one l))

pub levels_done : (h : Header) (log : List ℕ) (l n : ℕ) → n ≤ l → levels_text h log l (n - l) ≡ []
unfolding levels_text
levels_done h log l n b = let e : n - l ≡ 0 = omega arith in ap (levels_text h log l) e

-- where a level stands in the log
pub level_fits : (width l k : ℕ) → l < k → (2 ^ suc l - 2) * width + 2 ^ suc l * width ≤ (2 ^ suc k - 2) * width
level_fits w l k b =
    let p : 2 ^ suc (suc l) ≤ 2 ^ suc k = pow_mono {i = suc (suc l)} {j = suc k} (omega arith) in
    let low : 2 ≤ 2 ^ suc l = pow_mono {i = 1} {j = suc l} (omega arith) in
    let s : 2 ^ suc l - 2 + 2 ^ suc l ≤ 2 ^ suc k - 2 = omega arith in
    rw (← add-mul (2 ^ suc l - 2) (2 ^ suc l) w) (mul-le-mul_right w s)

module _ (h : Header) (log : List ℕ) (l : ℕ) where
  pub level_empty : is_filled h l ≡ false → level_text h log l ≡ []
  unfolding level_text
  level_empty t = rw (t, level_text)

  pub level_filled : is_filled h l ≡ true
      → level_text h log l ≡ positions (48 + l) (width h) (take (stripe_size h l) (drop (level_at h l) log)) 0 (2 ^ suc l)
  unfolding level_text
  level_filled t = rw (t, level_text)

  pub level_lines : {name w n start end : ℕ} → is_filled h l ≡ true → name ≡ 48 + l → w ≡ h.s + 1 → n ≡ 2 ^ (l + 1) → start ≡ (n - 2) * w
      → end ≡ start + n * w → level_text h log l ≡ positions name w (take (end - start) (drop start log)) 0 n
  level_lines {name} {w} {n} {start} {end} t en ew em es ee =
      let w' : w ≡ width h = ew ∙ add-one h.s in
      let n' : n ≡ 2 ^ suc l = em ∙ ap (λ (x : ℕ). 2 ^ x) (add-one l) in
      let size : end - start ≡ n * w = omega arith in
      level_filled t ∙ rw (en, size, es, w', n') refl
