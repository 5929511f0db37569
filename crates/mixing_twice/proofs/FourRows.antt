-- Two levels at once along four rows: the words that are stored, and the loop over the rows' words. Assumes nothing.
use mathlib.Core.Path.{◌≡◌, refl, ap, ◌∙◌}
use mathlib.Core.Bool.{Bool, true, false}
use mathlib.Core.List.{List}
use Prim.Native.Nat.{ℕ, zero, suc, ◌+◌, ◌*◌, ◌%◌, ◌≤◌, ◌<◌}
use native.Mathlib.Numerals.{add-one}
use native.Mathlib.Omega.{arith}
use lib.ListN.{length, get_or, length-set}
use Rattle.field.specs.Residue.{plus, minus, times}
use Rattle.field.specs.Words.{Words}
use Rattle.field.proofs.Congruence.{Cong, of_eq, sym~, trans~, add~, cancel~, mod~}
use Rattle.field.proofs.Ring.{v, ◌⊕◌, ◌⊖◌, ◌⊗◌, ◌⊞◌, ◌⊠◌, none, fact, from}
use Rattle.field.proofs.Laws.{plus_lt, minus_lt, times_lt}
use Rattle.field.proofs.WordLists.{words_set}
use Rattle.mixing_twice.specs.steps.Quads.{Quad, mixing_four, unmixing_four, four_of, set_four, quad_at, quad_row}

-- all four words stored are words of the field
pub record StoresFour (p : ℕ) (q : Quad) : Type 0 where
  pub lt0 : (t1 t2 a b c d : ℕ) → q.out0 t1 t2 a b c d < p
  pub lt1 : (t1 t2 a b c d : ℕ) → q.out1 t1 t2 a b c d < p
  pub lt2 : (t1 t2 a b c d : ℕ) → q.out2 t1 t2 a b c d < p
  pub lt3 : (t1 t2 a b c d : ℕ) → q.out3 t1 t2 a b c d < p

pub mixing_four_stores : (s : ℕ) → StoresFour 65537 (mixing_four 65537 s)
mixing_four_stores s = record {
  lt0 = λ t1 t2 a b c d. plus_lt 65537 (omega arith) _ _;
  lt1 = λ t1 t2 a b c d. plus_lt 65537 (omega arith) _ _;
  lt2 = λ t1 t2 a b c d. minus_lt 65537 (omega arith) _ _;
  lt3 = λ t1 t2 a b c d. minus_lt 65537 (omega arith) _ _;
}

pub unmixing_four_stores : (s : ℕ) → StoresFour 65537 (unmixing_four 65537 s)
unmixing_four_stores s = record {
  lt0 = λ t1 t2 a b c d. plus_lt 65537 (omega arith) _ _;
  lt1 = λ t1 t2 a b c d. times_lt 65537 (omega arith) t1 _;
  lt2 = λ t1 t2 a b c d. plus_lt 65537 (omega arith) _ _;
  lt3 = λ t1 t2 a b c d. times_lt 65537 (omega arith) t1 _;
}

pub four_stores : (unmixing : Bool) → StoresFour 65537 (four_of unmixing)
four_stores false = mixing_four_stores 65281
four_stores true = unmixing_four_stores 256

-- what is a product modulo p is congruent to it
residue : {r x : ℕ} → r % 65537 ≡ x → Cong 65537 r x
residue {r} e = trans~ (sym~ (mod~ 65537 r)) (of_eq 65537 e)

-- MIXING: y, z, w are the products, but for multiples of p; i is 256 (z - w) + 1024
pub record Slacks (a b c d t1 t2 y z w i : ℕ) : Type 0 where
  pub first : Cong 65537 y (times 65537 t1 b)
  pub second : Cong 65537 z (times 65537 t2 c)
  pub third : Cong 65537 w (times 65537 (times 65537 t1 t2) d)
  pub shift : Cong 65537 (i + 256 * w) (256 * z + 1024)

pub slacks : {a b c d t1 t2 t3 y z w i : ℕ} → y % 65537 ≡ times 65537 t1 b → z % 65537 ≡ times 65537 t2 c → w % 65537 ≡ times 65537 t3 d
    → t3 ≡ times 65537 t1 t2 → (i + 256 * w) % 65537 ≡ (256 * z + 1024) % 65537 → Slacks a b c d t1 t2 y z w i
slacks {d = d} ey ez ew e3 k = record {
  first = residue ey;
  second = residue ez;
  third = residue (ew ∙ ap (λ (t : ℕ). times 65537 t d) e3);
  shift = record { eq = k };
}

-- 65281 is -256
minus_root : Cong 65537 (65281 + 256) 0
minus_root = record { eq = refl }

-- a sum and a difference of three, and what they are under the shifted word
shifted_sum : (a i r y z w : ℕ) → Cong 65537 (i + 256 * w) (256 * z + 1024) → Cong 65537 (r + y + 1024) (a + i) → Cong 65537 (r + y + 256 * w) (a + 256 * z)
shifted_sum a i r y z w k e =
    cancel~ (1024 + i)
    (trans~ (of_eq 65537 {y = r + y + 1024 + (i + 256 * w)} (omega arith)) (trans~ (add~ e k) (of_eq 65537 (omega arith))))

shifted_difference : (a i r y z w : ℕ) → Cong 65537 (i + 256 * w) (256 * z + 1024) → Cong 65537 (r + y + i) (a + 1024)
    → Cong 65537 (r + y + 256 * z) (a + 256 * w)
shifted_difference a i r y z w k e =
    cancel~ (1024 + i)
    (trans~ (of_eq 65537 {y = r + y + i + (256 * z + 1024)} (omega arith)) (trans~ (add~ e (sym~ k)) (of_eq 65537 (omega arith))))

module _ {a b c d t1 t2 y z w i : ℕ} (k : Slacks a b c d t1 t2 y z w i) where
  pub is_mixed0 : {r : ℕ} → (r < 65537) × (r % 65537 ≡ (a + y + (z + w)) % 65537) → r ≡ (mixing_four 65537 65281).out0 t1 t2 a b c d
  is_mixed0 {r} h =
      from 65537 (omega arith)
      (fact (v 1) (v r) (v a ⊞ v y ⊞ (v z ⊞ v w)) (record { eq = h.1 })
      (fact (v 1) (v y) (v t1 ⊗ v b) k.first (fact (v 1) (v z) (v t2 ⊗ v c) k.second (fact (v 1) (v w) (v t1 ⊗ v t2 ⊗ v d) k.third none))))
      (v r) (v a ⊕ v t1 ⊗ v b ⊕ v t2 ⊗ (v c ⊕ v t1 ⊗ v d)) h.0 (omega arith) (omega arith)

  pub is_mixed2 : {r : ℕ} → (r < 65537) × ((r + (z + w)) % 65537 ≡ (a + y) % 65537) → r ≡ (mixing_four 65537 65281).out2 t1 t2 a b c d
  is_mixed2 {r} h =
      from 65537 (omega arith)
      (fact (v 1) (v r ⊞ (v z ⊞ v w)) (v a ⊞ v y) (record { eq = h.1 })
      (fact (v 1) (v y) (v t1 ⊗ v b) k.first
      (fact (v 1) (v t2 ⊗ v c) (v z) (sym~ k.second) (fact (v 1) (v t1 ⊗ v t2 ⊗ v d) (v w) (sym~ k.third) none))))
      (v r) (v a ⊕ v t1 ⊗ v b ⊖ v t2 ⊗ (v c ⊕ v t1 ⊗ v d)) h.0 (omega arith) (omega arith)

  -- s + 256 is 0
  root : (s r : ℕ) → Cong 65537 (s + 256) 0 → r < 65537 → Cong 65537 (r + y + 256 * z) (a + 256 * w)
      → r ≡ plus 65537 (minus 65537 a (times 65537 t1 b)) (times 65537 (times 65537 t2 s) (minus 65537 c (times 65537 t1 d)))
  root s r es h e =
      from 65537 (omega arith)
      (fact (v 1) (v r ⊞ v y ⊞ v 256 ⊠ v z) (v a ⊞ v 256 ⊠ v w) e
      (fact (v 1) (v t1 ⊗ v b) (v y) (sym~ k.first)
      (fact (v 256) (v t2 ⊗ v c) (v z) (sym~ k.second)
      (fact (v 256) (v w) (v t1 ⊗ v t2 ⊗ v d) k.third
      (fact (v t2 ⊗ v c) (v 0) (v s ⊞ v 256) (sym~ es)
      (fact (v t2 ⊗ (v t1 ⊗ v d)) (v s ⊞ v 256) (v 0) es none))))))
      (v r) (v a ⊖ v t1 ⊗ v b ⊕ v t2 ⊗ v s ⊗ (v c ⊖ v t1 ⊗ v d)) h (omega arith) (omega arith)

  unroot : (s r : ℕ) → Cong 65537 (s + 256) 0 → r < 65537 → Cong 65537 (r + y + 256 * w) (a + 256 * z)
      → r ≡ minus 65537 (minus 65537 a (times 65537 t1 b)) (times 65537 (times 65537 t2 s) (minus 65537 c (times 65537 t1 d)))
  unroot s r es h e =
      from 65537 (omega arith)
      (fact (v 1) (v r ⊞ v y ⊞ v 256 ⊠ v w) (v a ⊞ v 256 ⊠ v z) e
      (fact (v 1) (v t1 ⊗ v b) (v y) (sym~ k.first)
      (fact (v 256) (v z) (v t2 ⊗ v c) k.second
      (fact (v 256) (v t1 ⊗ v t2 ⊗ v d) (v w) (sym~ k.third)
      (fact (v t2 ⊗ v c) (v s ⊞ v 256) (v 0) es
      (fact (v t2 ⊗ (v t1 ⊗ v d)) (v 0) (v s ⊞ v 256) (sym~ es) none))))))
      (v r) (v a ⊖ v t1 ⊗ v b ⊖ v t2 ⊗ v s ⊗ (v c ⊖ v t1 ⊗ v d)) h (omega arith) (omega arith)

  pub is_mixed1 : {r : ℕ} → (r < 65537) × ((r + y + i) % 65537 ≡ (a + 1024) % 65537) → r ≡ (mixing_four 65537 65281).out1 t1 t2 a b c d
  is_mixed1 {r} h = root 65281 r minus_root h.0 (shifted_difference a i r y z w k.shift (record { eq = h.1 }))

  pub is_mixed3 : {r : ℕ} → (r < 65537) × ((r + y + 1024) % 65537 ≡ (a + i) % 65537) → r ≡ (mixing_four 65537 65281).out3 t1 t2 a b c d
  is_mixed3 {r} h = unroot 65281 r minus_root h.0 (shifted_sum a i r y z w k.shift (record { eq = h.1 }))

-- UNMIXING: sums of the words, and then the products; i is 256 (b - d) + 1024
module _ (a b c d t1 t2 : ℕ) where
  pub is_unmixed0 : {r : ℕ} → (r < 65537) × (r % 65537 ≡ (a + c + (b + d)) % 65537) → r ≡ (unmixing_four 65537 256).out0 t1 t2 a b c d
  is_unmixed0 {r} h =
      from 65537 (omega arith) (fact (v 1) (v r) (v a ⊞ v c ⊞ (v b ⊞ v d)) (record { eq = h.1 }) none) (v r) (v a ⊕ v c ⊕ (v b ⊕ v d)) h.0 (omega arith)
      (omega arith)

  pub is_unmixed1 : {r s : ℕ} → (s < 65537) × ((s + (b + d)) % 65537 ≡ (a + c) % 65537) → r ≡ times 65537 t1 s
      → r ≡ (unmixing_four 65537 256).out1 t1 t2 a b c d
  is_unmixed1 {s = s} h m =
      m ∙ from 65537 (omega arith) (fact (v t1) (v s ⊞ (v b ⊞ v d)) (v a ⊞ v c) (record { eq = h.1 }) none) (v t1 ⊗ v s)
      (v t1 ⊗ (v a ⊕ v c ⊖ (v b ⊕ v d))) (omega arith) (omega arith)
      (omega arith)

  module _ (i : ℕ) (k : (i + 256 * d) % 65537 ≡ (256 * b + 1024) % 65537) where
    shift : Cong 65537 (i + 256 * d) (256 * b + 1024)
    shift = record { eq = k }

    pub is_unmixed2 : {r s : ℕ} → (s < 65537) × ((s + c + 1024) % 65537 ≡ (a + i) % 65537) → r ≡ times 65537 t2 s
        → r ≡ (unmixing_four 65537 256).out2 t1 t2 a b c d
    is_unmixed2 {s = s} h m =
        let e : Cong 65537 (s + c + 1024) (a + i) = record { eq = h.1 } in
        m ∙ from 65537 (omega arith) (fact (v t2) (v s ⊞ v c ⊞ v 256 ⊠ v d) (v a ⊞ v 256 ⊠ v b) (shifted_sum a i s c b d shift e) none) (v t2 ⊗ v s)
        (v t2 ⊗ (v a ⊖ v c) ⊕ v t2 ⊗ v 256 ⊗ (v b ⊖ v d)) (omega arith) (omega arith) (omega arith)

    pub is_unmixed3 : {r s t3 : ℕ} → (s < 65537) × ((s + c + i) % 65537 ≡ (a + 1024) % 65537) → r ≡ times 65537 t3 s → t3 ≡ times 65537 t1 t2
        → r ≡ (unmixing_four 65537 256).out3 t1 t2 a b c d
    is_unmixed3 {s = s} h m e3 =
        let e : Cong 65537 (s + c + i) (a + 1024) = record { eq = h.1 } in
        m ∙ ap (λ (t : ℕ). times 65537 t s) e3
        ∙ from 65537 (omega arith) (fact (v t1 ⊗ v t2) (v s ⊞ v c ⊞ v 256 ⊠ v b) (v a ⊞ v 256 ⊠ v d) (shifted_difference a i s c b d shift e) none)
        (v t1 ⊗ v t2 ⊗ v s)
        (v t1 ⊗ (v t2 ⊗ (v a ⊖ v c) ⊖ v t2 ⊗ v 256 ⊗ (v b ⊖ v d))) (omega arith) (omega arith) (omega arith)

-- one crossing more, and a row
module _ {q : Quad} (s : StoresFour 65537 q) (t1 t2 far : ℕ) where
  words_at : (x : ℕ) {l : List ℕ} → Words 65537 l → Words 65537 (quad_at q t1 t2 far x l)
  unfolding quad_at
  words_at x w =
      let p : 0 < 65537 = omega arith in
      words_set 65537 p _ (words_set 65537 p _ (words_set 65537 p _ (words_set 65537 p _ w (s.lt0 t1 t2 _ _ _ _)) (s.lt1 t1 t2 _ _ _ _))
      (s.lt2 t1 t2 _ _ _ _)) (s.lt3 t1 t2 _ _ _ _)

  pub words_row : (n at : ℕ) {l : List ℕ} → Words 65537 l → Words 65537 (quad_row q t1 t2 far n at l)
  unfolding quad_row
  words_row zero at w = w
  words_row (suc n) at w = words_at (at + n) (words_row n at w)

length_at : (q : Quad) (t1 t2 far x : ℕ) (l : List ℕ) → length (quad_at q t1 t2 far x l) ≡ length l
unfolding quad_at
length_at q t1 t2 far x l = simp length-set

pub length_row : (q : Quad) (t1 t2 far n at : ℕ) (l : List ℕ) → length (quad_row q t1 t2 far n at l) ≡ length l
unfolding quad_row
length_row q t1 t2 far zero at l = refl
length_row q t1 t2 far (suc n) at l = length_at q t1 t2 far (at + n) _ ∙ length_row q t1 t2 far n at l

-- one of four words that are stored at x, x + far, ..
abbrev four : ((t1 t2 a b c d : ℕ) → ℕ) → (t1 t2 : ℕ) → (part : List ℕ) → (x far : ℕ) → ℕ
four out t1 t2 part x far = out t1 t2 (get_or part x 0) (get_or part (x + far) 0) (get_or part (x + far + far) 0) (get_or part (x + far + far + far) 0)

-- THE LOOP OVER FOUR ROWS: their first j words are crossed
pub record FourLoop (q : Quad) (part₀ : List ℕ) (at far width t1 t2 : ℕ) (part : List ℕ) (j : ℕ) : Type 0 where
  pub turns : j ≤ width
  pub same : length part ≡ length part₀
  pub words : Words 65537 part
  pub now : part ≡ quad_row q t1 t2 far j at part₀

module _ {q : Quad} {part₀ : List ℕ} {at far width t1 t2 : ℕ} where
  pub four_start : Words 65537 part₀ → FourLoop q part₀ at far width t1 t2 part₀ 0
  unfolding quad_row
  four_start w = record { turns = omega arith; same = refl; words = w; now = refl }

  pub four_turn : {part : List ℕ} {j r0 r1 r2 r3 : ℕ} → StoresFour 65537 q → FourLoop q part₀ at far width t1 t2 part j → j < width
      → r0 ≡ four q.out0 t1 t2 part (at + j) far → r1 ≡ four q.out1 t1 t2 part (at + j) far → r2 ≡ four q.out2 t1 t2 part (at + j) far
      → r3 ≡ four q.out3 t1 t2 part (at + j) far → FourLoop q part₀ at far width t1 t2 (set_four far (at + j) r0 r1 r2 r3 part) (j + 1)
  unfolding quad_row quad_at
  four_turn {part} {j} {r0} {r1} {r2} {r3} s h lt e0 e1 e2 e3 =
      let e : set_four far (at + j) r0 r1 r2 r3 part ≡ quad_at q t1 t2 far (at + j) part = rw (e0, e1, e2, e3) refl in
      rw e (record {
        turns = omega arith;
        same = length_at q t1 t2 far (at + j) part ∙ h.same;
        words = words_at s t1 t2 far (at + j) h.words;
        now = rw add-one (ap (quad_at q t1 t2 far (at + j)) h.now);
      })
