-- THE LOG THAT A WRITE LEAVES, of any log: which level is rebuilt, its length, the words before and after it, and that the rebuilt level is by the words of
-- the levels below modulo p alone. Assumes nothing.
use mathlib.Core.Path.{◌≡◌, refl, sym, ap, ap₂, ◌∙◌}
use mathlib.Core.List.{List, [], ◌∷◌, ◌++◌}
use Prim.Native.Nat.{ℕ, zero, suc, ◌+◌, ◌*◌, ◌-◌, ◌/◌, ◌%◌, ◌^◌, ◌≤◌, ◌<◌}
use native.Mathlib.Nat.{zero-add, one-mul, pow-succ', mul-le-mul_right, le_refl}
use native.Mathlib.Decide.{dec_lt}
use native.Mathlib.Omega.{arith}
use lib.ListN.{length, get_or, take, drop, replicate, length-append, length-drop, length-replicate, get_or-append, get_or-replicate}
use lib.Seq.{get_or-drop, get_or-append_right}
use lib.Pow.{pow_pos, high, ones_lt}
use Rattle.field.specs.Power.{power}
use Rattle.field.proofs.WordLists.{part_inside}
use Rattle.code.specs.Rows.{lifted}
use Rattle.code.specs.Transform.{mixed_halves, reversed}
use Rattle.code.proofs.Lifting.{length_lifted, two_halves}
use Rattle.code.proofs.Shapes.{length_scaled, length_two}
use Rattle.layout.specs.declared.Header.{Header}
use Rattle.layout.specs.Header.{prime_of, vault_root, record_count, width, level_at, stripe_size, level_for}
use Rattle.layout.proofs.Counting.{Carry, Carried, carried, filled_before}
use Rattle.store.specs.Buffers.{reduced}
use Rattle.store.specs.Writing.{half_at, new_row, rebuilt_half, rebuilt}
use Rattle.vault.specs.promises.Writing.{FirstEmpty}
use Rattle.vault.proofs.Levels.{level_in}

-- THE FIRST EMPTY LEVEL is where carrying ends
pub ended : {c l q : ℕ} → Carry c l q → c / 2 ^ l % 2 ≡ 0
ended {c} {l} {q} carry =
    let e : c ≡ q * 2 * 2 ^ l + (2 ^ l - 1) = omega (arith, pow_pos l, rw pow-succ' at carry.next) in
    let d : c / 2 ^ l ≡ q * 2 = ap (λ (x : ℕ). x / 2 ^ l) e ∙ high (q * 2) l (ones_lt l) in
    omega arith

pub level_is : (h : Header) (l : ℕ) → suc h.c < 2 ^ h.k → FirstEmpty h l → level_for h ≡ l
level_is h l b f = r.first ∙ zero-add r.level ∙ same (dec_lt r.level l) (dec_lt l r.level)
  where
    r : Carried h.k 0 h.c
    r = carried h.k 0 h.c b

    same : Dec (r.level < l) → Dec (l < r.level) → r.level ≡ l
    same (yes d) z = absurd (omega (arith, f.filled r.level d, ended r.carry))
    same (no n) (yes d) = absurd (omega (arith, f.empty, filled_before r.carry l d))
    same (no n) (no z) = omega arith

-- WORDS IN THREE PARTS: a words, s more, and what g has after that
module _ {a s : ℕ} (front r g : List ℕ) (ef : length front ≡ a) (er : length r ≡ s) (fits : a + s ≤ length g) where
  abbrev parts : List ℕ
  parts = front ++ (r ++ drop (a + s) g)

  pub parts_long : length parts ≡ length g
  parts_long = simp (length-append, length-drop) (omega (arith, ef, er, fits))

  later : (q : ℕ) → a ≤ q → get_or parts q 0 ≡ get_or (r ++ drop (a + s) g) (q - a) 0
  later q d =
      get_or-append_right front (r ++ drop (a + s) g) q 0 (omega (arith, ef, d)) ∙ ap (λ (n : ℕ). get_or (r ++ drop (a + s) g) (q - n) 0) ef

  pub middle : (q : ℕ) → a ≤ q → q < a + s → get_or parts q 0 ≡ get_or r (q - a) 0
  middle q d b = later q d ∙ get_or-append r (drop (a + s) g) 0 (q - a) (omega (arith, er))

  pub above : (q : ℕ) → a + s ≤ q → get_or parts q 0 ≡ get_or g q 0
  above q d =
      later q (omega arith) ∙ get_or-append_right r (drop (a + s) g) (q - a) 0 (omega (arith, er)) ∙ get_or-drop (a + s) g (q - a - length r) 0
      ∙ ap (λ (n : ℕ). get_or g n 0) {x = a + s + (q - a - length r)} {y = q} (omega (arith, er))

-- zeros in front
pub low : (a : ℕ) (rest : List ℕ) (q : ℕ) → q < a → get_or (replicate a 0 ++ rest) q 0 ≡ 0
low a rest q d = get_or-append (replicate a 0) rest 0 q (rw length-replicate d) ∙ get_or-replicate a q 0 0 d

-- the level is as long as its stripe
length_new : (h : Header) (y : ℕ) (b : List ℕ) → length (new_row h y b) ≡ length b
length_new h zero b = refl
length_new h (suc y) b = length_scaled (prime_of h) (power (prime_of h) (vault_root h) (reversed h.k h.c)) b

pub length_half : (h : Header) (g b : List ℕ) → length b ≡ width h → (y l : ℕ) → length (rebuilt_half h g y b l) ≡ 2 ^ l * width h
unfolding rebuilt_half
length_half h g b e y zero = length_new h y b ∙ e ∙ sym (one-mul (width h))
length_half h g b e y (suc l) =
    length_lifted (width h) (2 ^ suc l) (2 ^ suc l) (mixed_halves (prime_of h) (power (prime_of h) (vault_root h) (record_count h / 2 ^ l)) (2 ^ l))
    (half_at h g l y ++ rebuilt_half h g y b l)

pub length_rebuilt : (h : Header) (g b : List ℕ) → length b ≡ width h → (l : ℕ) → length (rebuilt h g b l) ≡ stripe_size h l
length_rebuilt h g b e l =
    length_two (rebuilt_half h g 0 b l) (rebuilt_half h g 1 b l) (length_half h g b e 0 l) (length_half h g b e 1 l) ∙ sym (two_halves l (width h))

-- WORDS MODULO p: parts of a log by the residues of its words
reduced_take : (p n : ℕ) (l : List ℕ) → reduced p (take n l) ≡ take n (reduced p l)
unfolding reduced
reduced_take p zero l = refl
reduced_take p (suc n) [] = refl
reduced_take p (suc n) (x ∷ l) = ap (λ (y : List ℕ). x % p ∷ y) (reduced_take p n l)

reduced_drop : (p n : ℕ) (l : List ℕ) → reduced p (drop n l) ≡ drop n (reduced p l)
unfolding reduced
reduced_drop p zero l = refl
reduced_drop p (suc n) [] = refl
reduced_drop p (suc n) (x ∷ l) = reduced_drop p n l

-- the first n words
pub reduced_by : (p n : ℕ) (a b : List ℕ) → length a ≡ length b → ((q : ℕ) → q < n → get_or a q 0 % p ≡ get_or b q 0 % p)
    → reduced p (take n a) ≡ reduced p (take n b)
unfolding reduced
reduced_by p zero a b e f = refl
reduced_by p (suc n) [] [] e f = refl
reduced_by p (suc n) [] (y ∷ b) e f = absurd (omega arith)
reduced_by p (suc n) (x ∷ a) [] e f = absurd (omega arith)
reduced_by p (suc n) (x ∷ a) (y ∷ b) e f = ap₂ ◌∷◌ (f 0 (omega arith)) (reduced_by p n a b (omega arith) (λ q d. f (suc q) (omega arith)))

-- both halves of a level stand below the next one
pub half_below : (h : Header) (i l y : ℕ) → i < l → y < 2 → level_at h i + y * (2 ^ i * width h) + 2 ^ i * width h ≤ level_at h l
half_below h i l y d z = omega (arith, level_in h i l d, two_halves i (width h), mul-le-mul_right {m = y} {n = 1} (2 ^ i * width h) (omega arith))

-- a half of a level below level l, by the first words of the log
half_by : (h : Header) (g : List ℕ) (i l y : ℕ) → i < l → y < 2
    → half_at h g i y ≡ take (2 ^ i * width h) (drop (level_at h i + y * (2 ^ i * width h)) (reduced (prime_of h) (take (level_at h l) g)))
half_by h g i l y d z =
    let m = 2 ^ i * width h in
    let n = level_at h i + y * m in
    let r = take (level_at h l) g in
    ap (reduced (prime_of h)) (sym (part_inside n m (level_at h l) g (half_below h i l y d z))) ∙ reduced_take (prime_of h) m (drop n r)
    ∙ ap (take m) (reduced_drop (prime_of h) n r)

module _ (h : Header) (g g' b : List ℕ) (l : ℕ) (same : reduced (prime_of h) (take (level_at h l) g) ≡ reduced (prime_of h) (take (level_at h l) g')) where
  half_same : (i y : ℕ) → i < l → y < 2 → half_at h g i y ≡ half_at h g' i y
  half_same i y d z =
      half_by h g i l y d z ∙ ap (λ (x : List ℕ). take (2 ^ i * width h) (drop (level_at h i + y * (2 ^ i * width h)) x)) same ∙ sym (half_by h g' i l y d z)

  rebuilt_half_same : (y : ℕ) → y < 2 → (i : ℕ) → i ≤ l → rebuilt_half h g y b i ≡ rebuilt_half h g' y b i
  unfolding rebuilt_half
  rebuilt_half_same y z zero d = refl
  rebuilt_half_same y z (suc i) d =
      ap₂ (λ (u v : List ℕ). lifted (width h) (2 ^ suc i) (2 ^ suc i)
      (mixed_halves (prime_of h) (power (prime_of h) (vault_root h) (record_count h / 2 ^ i)) (2 ^ i)) (u ++ v)) (half_same i y d z)
      (rebuilt_half_same y z i (omega arith))

  pub rebuilt_same : rebuilt h g b l ≡ rebuilt h g' b l
  rebuilt_same = ap₂ ◌++◌ (rebuilt_half_same 0 (omega arith) l (le_refl l)) (rebuilt_half_same 1 (omega arith) l (le_refl l))
