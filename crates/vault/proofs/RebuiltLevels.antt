-- THE REBUILT LEVEL of a write that is taken, of any log, by natural numbers: with what it begins, and how it is mixed with the levels below. Of the room
-- Writing of specs/promises. Assumes nothing.
use mathlib.Core.Path.{◌≡◌, sym, ap, ◌∙◌}
use mathlib.Core.List.{List, ◌∷◌, ◌++◌}
use Prim.Native.Nat.{ℕ, zero, suc, ◌+◌, ◌*◌, ◌-◌, ◌/◌, ◌%◌, ◌^◌, ◌≤◌, ◌<◌}
use native.Mathlib.Omega.{arith}
use lib.Arith.{digits_lt}
use lib.ListN.{length, get_or, take, drop}
use lib.Seq.{get_or-take, get_or-drop}
use Rattle.std.proofs.lemmas.Nat.{mul-mod_first}
use Rattle.field.specs.Residue.{times}
use Rattle.field.specs.Power.{power}
use Rattle.code.specs.Rows.{column}
use Rattle.code.specs.Transform.{mixed_halves, reversed}
use Rattle.code.proofs.Lifting.{length_column, column_at, lifted_at, two_halves}
use Rattle.code.proofs.Shapes.{take_half, append_low, append_high, scaled_at}
use Rattle.layout.specs.declared.Header.{Header}
use Rattle.layout.specs.Header.{vault_root, width, level_at}
use Rattle.layout.proofs.Bounds.{fits}
use Rattle.store.specs.Writing.{half_at, new_row, rebuilt_half}
use Rattle.store.proofs.Stores.{length_copy, reduced_at}
use Rattle.store.proofs.StoredRecords.{length_reduced}
use Rattle.vault.specs.Event.{Event}
use Rattle.vault.specs.History.{Vault, step}
use Rattle.vault.specs.promises.Coding.{root}
use Rattle.vault.specs.promises.Writing.{WriteRebuilds}
use Rattle.vault.proofs.CodeGrowth.{root_power, level_power, Mixes, mixed_is, is_reversed}
use Rattle.vault.proofs.Coding.{root_is}
use Rattle.vault.proofs.Levels.{level_end}
use Rattle.vault.proofs.Writing.{stepped, Within, within, word_rebuilt}
use Rattle.vault.proofs.WrittenLog.{length_half, half_below}

-- where word j of row q of a half stands, which is behind y halves of m rows and n rows of the levels below
place : (n m y q w j : ℕ) → (n + y * m + q) * w + j ≡ n * w + y * (m * w) + (q * w + j)
place n m y q w j = omega arith

-- WHAT IS MIXED: rows of the older half, and then rows of the newer one
module _ (w l : ℕ) (older newer : List ℕ) (long : length older ≡ 2 ^ l * w) (j : ℕ) (c : j < w) where
  abbrev both : List ℕ
  both = column w (2 ^ suc l) j (older ++ newer)

  word_older : (q : ℕ) → q < 2 ^ l → get_or (take (2 ^ l) both) q 0 ≡ get_or older (q * w + j) 0
  word_older q b =
      get_or-take (2 ^ l) both q 0 b ∙ column_at w (2 ^ suc l) j (older ++ newer) q (omega arith)
      ∙ append_low older newer long (q * w + j) (digits_lt b c)

  word_newer : (q : ℕ) → q < 2 ^ l → get_or (drop (2 ^ l) both) q 0 ≡ get_or newer (q * w + j) 0
  word_newer q b =
      get_or-drop (2 ^ l) both q 0 ∙ column_at w (2 ^ suc l) j (older ++ newer) (2 ^ l + q) (omega arith)
      ∙ ap (λ (n : ℕ). get_or (older ++ newer) n 0) {x = (2 ^ l + q) * w + j} {y = 2 ^ l * w + (q * w + j)} (omega arith)
      ∙ append_high older newer long (q * w + j)

-- word q of column j of what is rebuilt from the levels below l'
abbrev words : Header → (log : List ℕ) → (half : ℕ) → (block : List ℕ) → (j l' q : ℕ) → ℕ
words h g y b j l' q = get_or (rebuilt_half h g y b l') (q * width h + j) 0

module _ (h : Header) (g : List ℕ) (l : ℕ) (below : level_at h l ≤ length g) (y : ℕ) (z : y < 2) (j : ℕ) (c : j < width h) where
  -- a word of a half of a level below
  word_below : (l' q : ℕ) → l' < l → q < 2 ^ l'
      → get_or (half_at h g l' y) (q * width h + j) 0 ≡ get_or g ((2 ^ suc l' - 2 + y * 2 ^ l' + q) * width h + j) 0 % 65537
  word_below l' q d b =
      let m = 2 ^ l' * width h in
      let n = level_at h l' + y * m in
      let o = q * width h + j in
      let inside : o < m = digits_lt b c in
      let part : length (take m (drop n g)) ≡ m =
      sym (length_reduced 65537 (take m (drop n g))) ∙ length_copy 65537 n m g (omega (arith, half_below h l' l y d z)) in
      reduced_at 65537 (take m (drop n g)) o (rw part inside)
      ∙ ap (λ (x : ℕ). x % 65537) (get_or-take m (drop n g) o 0 inside ∙ get_or-drop n g o 0
      ∙ ap (λ (x : ℕ). get_or g x 0) (sym (place (2 ^ suc l' - 2) (2 ^ l') y q (width h) j)))

  -- MIXED with that level
  mixes : (b : List ℕ) (l' q : ℕ) → l' < l → l' ≤ h.k → h.k ≤ 10 → q < 2 ^ l'
      → Mixes (3 ^ (32768 / 2 ^ l' * q)) (get_or (half_at h g l' y) (q * width h + j) 0) (words h g y b j l' q) (words h g y b j (suc l') q)
      (words h g y b j (suc l') (2 ^ l' + q))
  unfolding rebuilt_half
  mixes b l' q d f t lt =
      let w = width h in
      let v = power 65537 (vault_root h) (2 ^ h.k / 2 ^ l') in
      let older = half_at h g l' y in
      let newer = rebuilt_half h g y b l' in
      let long : length older ≡ 2 ^ l' * w = length_copy 65537 (level_at h l' + y * (2 ^ l' * w)) (2 ^ l' * w) g (omega (arith, half_below h l' l y d z)) in
      let x = column w (2 ^ suc l') j (older ++ newer) in
      let at : (i : ℕ) → i < 2 ^ suc l' → words h g y b j (suc l') i ≡ get_or (mixed_halves 65537 v (2 ^ l') x) i 0 =
      λ i s. lifted_at w (2 ^ suc l') (2 ^ suc l') (mixed_halves 65537 v (2 ^ l')) (older ++ newer) i j s c in
      let factor : power 65537 v q ≡ 3 ^ (32768 / 2 ^ l' * q) % 65537 =
      ap (λ (r : ℕ). power 65537 (power 65537 r (2 ^ h.k / 2 ^ l')) q) (root_is h.k) ∙ level_power h.k l' q f t in
      rw (
        at q (omega arith),
        at (2 ^ l' + q) (omega arith),
        ← word_older w l' older newer long j c q lt,
        ← word_newer w l' older newer long j c q lt,
      )
      (mixed_is v (2 ^ l') (3 ^ (32768 / 2 ^ l' * q)) q (take (2 ^ l') x) (drop (2 ^ l') x)
      (take_half l' x (length_column w (2 ^ suc l') j (older ++ newer))) lt factor)

-- as the statement says it, of a word of the log that is read modulo 65537
mixed_with : (g x a b s d : ℕ) → a ≡ x % 65537 → Mixes g a b s d
    → (s ≡ (x % 65537 + g * b) % 65537) × (d < 65537) × ((d + g * b) % 65537 ≡ x % 65537)
mixed_with g x a b s d e M = rw (← e) (M.sums, M.small, M.differs ∙ omega arith)

-- WHAT IT BEGINS WITH: the new block's row
module _ (h : Header) (block : List ℕ) (long : length block ≡ width h) (j : ℕ) (c : j < width h) where
  begins_x : (y : ℕ) → y ≡ 0 → get_or (new_row h y block) (0 * width h + j) 0 ≡ get_or block j 0
  begins_x zero e = ap (λ (n : ℕ). get_or block n 0) {x = 0 * width h + j} {y = j} (omega arith)
  begins_x (suc y) e = absurd (omega arith)

  begins_y : (y : ℕ) → y ≡ 1 → (r : ℕ) → r < 2 ^ h.k → ((bit : ℕ) → bit < h.k → r / 2 ^ bit % 2 ≡ h.c / 2 ^ (h.k - suc bit) % 2)
      → get_or (new_row h y block) (0 * width h + j) 0 ≡ 3 ^ (32768 / 2 ^ h.k * r) * get_or block j 0 % 65537
  unfolding times
  begins_y zero e r b f = absurd (omega arith)
  begins_y (suc y) e r b f =
      let w = power 65537 (vault_root h) (reversed h.k h.c) in
      let q : w ≡ 3 ^ (32768 / 2 ^ h.k * r) % 65537 =
      ap (λ (x : ℕ). power 65537 x (reversed h.k h.c)) (root_is h.k) ∙ ap (power 65537 (root h.k)) (sym (is_reversed h.k h.c r b f)) ∙ root_power h.k r in
      ap (λ (n : ℕ). get_or (new_row h 1 block) n 0) {x = 0 * width h + j} {y = j} (omega arith) ∙ scaled_at 65537 w block j (omega arith)
      ∙ ap (λ (x : ℕ). x * get_or block j 0 % 65537) q ∙ mul-mod_first (3 ^ (32768 / 2 ^ h.k * r)) (get_or block j 0) 65537

-- WHERE IT STANDS: word o of a half of the level
module _ (v : Vault) (next : Event) (i l : ℕ) (b : List ℕ) (w : Within v next i l b) where
  abbrev half_long : ℕ
  half_long = 2 ^ l * width v.header

  abbrev half_of : (y : ℕ) → List ℕ
  half_of y = rebuilt_half v.header v.held.log y (i ∷ b) l

  half_written : (y o : ℕ) → y < 2 → o < half_long
      → get_or (step v next).held.log (level_at v.header l + y * half_long + o) 0 ≡ get_or (half_of y) o 0
  half_written zero o z s =
      word_rebuilt v next i l b w (level_at v.header l + 0 * half_long + o) (omega arith) (omega (arith, level_end v.header l, two_halves l (width v.header)))
      ∙ ap (λ (n : ℕ). get_or (half_of 0 ++ half_of 1) n 0) {x = level_at v.header l + 0 * half_long + o - level_at v.header l} {y = o} (omega arith)
      ∙ append_low (half_of 0) (half_of 1) (length_half v.header v.held.log (i ∷ b) w.block_long 0 l) o s
  half_written (suc zero) o z s =
      word_rebuilt v next i l b w (level_at v.header l + 1 * half_long + o) (omega arith) (omega (arith, level_end v.header l, two_halves l (width v.header)))
      ∙ ap (λ (n : ℕ). get_or (half_of 0 ++ half_of 1) n 0)
      {x = level_at v.header l + 1 * half_long + o - level_at v.header l} {y = half_long + o} (omega arith)
      ∙ append_high (half_of 0) (half_of 1) (length_half v.header v.held.log (i ∷ b) w.block_long 0 l) o
  half_written (suc (suc y)) o z s = absurd (omega arith)

pub write_rebuilds : WriteRebuilds
unfolding rebuilt_half
write_rebuilds v next i l j half b p e n f c z =
    let h = v.header in
    let g = v.held.log in
    let d = i ∷ b in
    let t = stepped v next i b p e in
    let w = within v next i l b t n f in
    let below : level_at h l ≤ length g = omega (arith, w.fits) in
    let made = words h g half d j in (
      made,
      record {
        begins_x = begins_x h d w.block_long j c half;
        begins_y = begins_y h d w.block_long j c half;
        mixes = λ l' q lt s.
            mixed_with (3 ^ (32768 / 2 ^ l' * q)) (get_or g ((2 ^ suc l' - 2 + half * 2 ^ l' + q) * width h + j) 0)
            (get_or (half_at h g l' half) (q * width h + j) 0) (made l' q) (made (suc l') q) (made (suc l') (2 ^ l' + q))
            (word_below h g l below half z j c l' q lt s) (mixes h g l below half z j c d l' q lt (omega (arith, f.level)) (fits h t.fitting).k_high s);
      },
      λ q s. ap (λ (x : ℕ). get_or (step v next).held.log x 0) (place (2 ^ suc l - 2) (2 ^ l) half q (width h) j)
          ∙ half_written v next i l b w half (q * width h + j) z (digits_lt s c),
    )
