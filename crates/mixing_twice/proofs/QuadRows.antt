-- Two levels at once on all rows of a block: what the loop over rows comes to, word by word, and that it is one function of each column. Assumes nothing.
use mathlib.Core.Path.{◌≡◌, refl, ap, ◌∙◌, subst}
use mathlib.Core.Logic.{⊎_elim, ◌≢◌}
use mathlib.Core.List.{List}
use Prim.Native.Nat.{ℕ, zero, suc, ◌+◌, ◌-◌, ◌*◌, ◌/◌, ◌%◌, ◌≤◌, ◌<◌}
use native.Mathlib.Nat.{eq-or-lt_of_le, add-zero, add-suc, zero-mul}
use native.Mathlib.Decide.{dec_lt}
use native.Mathlib.Omega.{arith}
use lib.Arith.{digits_div, digits_lt}
use lib.ListN.{length, get_or, set, length-set}
use lib.Seq.{get_or-set_same, get_or-set_other}
use Rattle.field.specs.Power.{power}
use Rattle.field.specs.Words.{Words}
use Rattle.code.specs.Rows.{column, lifted}
use Rattle.code.proofs.Lifting.{column_at, length_column, is_lifted}
use Rattle.mixing_twice.specs.steps.Quads.{Quad, quad_at, quad_row, QuadFactors}
use Rattle.mixing_twice.proofs.FourRows.{StoresFour, words_row, length_row}

-- FOUR WORDS CROSSED: each at its place, and the others as they were
module _ (q : Quad) (t1 t2 far x : ℕ) (l : List ℕ) (some : 0 < far) where
  abbrev out : ((t1 t2 a b c d : ℕ) → ℕ) → ℕ
  out f = f t1 t2 (get_or l x 0) (get_or l (x + far) 0) (get_or l (x + far + far) 0) (get_or l (x + far + far + far) 0)

  -- the list after the first, the second and the third
  abbrev one : List ℕ
  one = set l x (out q.out0)

  abbrev two : List ℕ
  two = set one (x + far) (out q.out1)

  abbrev three : List ℕ
  three = set two (x + far + far) (out q.out2)

  four0 : x < length l → get_or (quad_at q t1 t2 far x l) x 0 ≡ out q.out0
  unfolding quad_at
  four0 h =
      get_or-set_other three (x + far + far + far) x (out q.out3) 0 (omega arith) ∙ get_or-set_other two (x + far + far) x (out q.out2) 0 (omega arith)
      ∙ get_or-set_other one (x + far) x (out q.out1) 0 (omega arith) ∙ get_or-set_same l x (out q.out0) 0 h

  four1 : x + far < length l → get_or (quad_at q t1 t2 far x l) (x + far) 0 ≡ out q.out1
  unfolding quad_at
  four1 h =
      get_or-set_other three (x + far + far + far) (x + far) (out q.out3) 0 (omega arith)
      ∙ get_or-set_other two (x + far + far) (x + far) (out q.out2) 0 (omega arith)
      ∙ get_or-set_same one (x + far) (out q.out1) 0 (simp length-set h)

  four2 : x + far + far < length l → get_or (quad_at q t1 t2 far x l) (x + far + far) 0 ≡ out q.out2
  unfolding quad_at
  four2 h =
      get_or-set_other three (x + far + far + far) (x + far + far) (out q.out3) 0 (omega arith)
      ∙ get_or-set_same two (x + far + far) (out q.out2) 0 (simp length-set h)

  four3 : x + far + far + far < length l → get_or (quad_at q t1 t2 far x l) (x + far + far + far) 0 ≡ out q.out3
  unfolding quad_at
  four3 h = get_or-set_same three (x + far + far + far) (out q.out3) 0 (simp length-set h)

  four_off : (k : ℕ) → k ≢ x → k ≢ x + far → k ≢ x + far + far → k ≢ x + far + far + far → get_or (quad_at q t1 t2 far x l) k 0 ≡ get_or l k 0
  unfolding quad_at
  four_off k n0 n1 n2 n3 =
      get_or-set_other three (x + far + far + far) k (out q.out3) 0 n3 ∙ get_or-set_other two (x + far + far) k (out q.out2) 0 n2
      ∙ get_or-set_other one (x + far) k (out q.out1) 0 n1
      ∙ get_or-set_other l x k (out q.out0) 0 n0

-- the words k, far + k, .. crossed for k below n, each under the factors of its row: what the two loops come to
unfoldable pub quads_to : (q : Quad) → (v width far n : ℕ) → List ℕ → List ℕ
quads_to q v width far zero l = l
quads_to q v width far (suc n) l = quad_at q (power 65537 v (2 * (n / width))) (power 65537 v (n / width)) far n (quads_to q v width far n l)

-- a row is a stretch of them
pub row_quads : (q : Quad) (v width far i n : ℕ) (l : List ℕ) → n ≤ width
    → quad_row q (power 65537 v (2 * i)) (power 65537 v i) far n (i * width) (quads_to q v width far (i * width) l) ≡ quads_to q v width far (i * width + n) l
unfolding quad_row quads_to
row_quads q v width far i zero l h = rw add-zero
row_quads q v width far i (suc n) l h =
    let r = row_quads q v width far i n l (omega arith) in
    let e : (i * width + n) / width ≡ i = digits_div i (omega arith) in
    rw (add-suc, r, e) refl

module _ (q : Quad) (v width far : ℕ) (l : List ℕ) where
  pub length_quads : (n : ℕ) → length (quads_to q v width far n l) ≡ length l
  unfolding quads_to quad_at
  length_quads zero = refl
  length_quads (suc n) = simp length-set (length_quads n)

  -- words k, far + k, .. are a, b, c and d once those below n are crossed
  record At (n k a b c d : ℕ) : Type 0 where
    at0 : get_or (quads_to q v width far n l) k 0 ≡ a
    at1 : get_or (quads_to q v width far n l) (k + far) 0 ≡ b
    at2 : get_or (quads_to q v width far n l) (k + far + far) 0 ≡ c
    at3 : get_or (quads_to q v width far n l) (k + far + far + far) 0 ≡ d

  -- word n crossed after those below it
  module _ (n : ℕ) (some : 0 < far) where
    abbrev before : List ℕ
    before = quads_to q v width far n l

    abbrev t1 : ℕ
    t1 = power 65537 v (2 * (n / width))

    abbrev t2 : ℕ
    t2 = power 65537 v (n / width)

    next_off : (k : ℕ) → k ≢ n → k ≢ n + far → k ≢ n + far + far → k ≢ n + far + far + far
        → get_or (quads_to q v width far (suc n) l) k 0 ≡ get_or before k 0
    unfolding quads_to
    next_off = four_off q t1 t2 far n before some

  quads_off : {n k a b c d : ℕ} → n < far → k < far → k ≢ n → At n k a b c d → At (suc n) k a b c d
  quads_off {n} {k} u w ne h = record {
    at0 = next_off n (omega arith) k ne (omega arith) (omega arith) (omega arith) ∙ h.at0;
    at1 = next_off n (omega arith) (k + far) (omega arith) (omega arith) (omega arith) (omega arith) ∙ h.at1;
    at2 = next_off n (omega arith) (k + far + far) (omega arith) (omega arith) (omega arith) (omega arith) ∙ h.at2;
    at3 = next_off n (omega arith) (k + far + far + far) (omega arith) (omega arith) (omega arith) (omega arith) ∙ h.at3;
  }

  quads_rest : (n k : ℕ) → n ≤ k → k < far → At n k (get_or l k 0) (get_or l (k + far) 0) (get_or l (k + far + far) 0) (get_or l (k + far + far + far) 0)
  unfolding quads_to
  quads_rest zero k u w = record { at0 = refl; at1 = refl; at2 = refl; at3 = refl }
  quads_rest (suc n) k u w = quads_off (omega arith) w (omega arith) (quads_rest n k (omega arith) w)

  -- what is stored in place r of the words k
  abbrev stored : ((t1 t2 a b c d : ℕ) → ℕ) → ℕ → ℕ
  stored f k =
      f (power 65537 v (2 * (k / width))) (power 65537 v (k / width)) (get_or l k 0) (get_or l (k + far) 0) (get_or l (k + far + far) 0)
      (get_or l (k + far + far + far) 0)

  abbrev Done : ℕ → ℕ → Type 0
  Done n k = At n k (stored q.out0 k) (stored q.out1 k) (stored q.out2 k) (stored q.out3 k)

  quads_last : (n : ℕ) → length l ≡ far + far + (far + far) → n < far → Done (suc n) n
  unfolding quads_to
  quads_last n e u =
      let some : 0 < far = omega arith in
      let r : At n n (get_or l n 0) (get_or l (n + far) 0) (get_or l (n + far + far) 0) (get_or l (n + far + far + far) 0) = quads_rest n n (omega arith) u in
      let len : length (before n some) ≡ far + far + (far + far) = length_quads n ∙ e in
      record {
        at0 = four0 q (t1 n some) (t2 n some) far n (before n some) some (omega arith) ∙ rw (r.at0, r.at1, r.at2, r.at3) refl;
        at1 = four1 q (t1 n some) (t2 n some) far n (before n some) some (omega arith) ∙ rw (r.at0, r.at1, r.at2, r.at3) refl;
        at2 = four2 q (t1 n some) (t2 n some) far n (before n some) some (omega arith) ∙ rw (r.at0, r.at1, r.at2, r.at3) refl;
        at3 = four3 q (t1 n some) (t2 n some) far n (before n some) some (omega arith) ∙ rw (r.at0, r.at1, r.at2, r.at3) refl;
      }

  quads_done : (n k : ℕ) → length l ≡ far + far + (far + far) → n ≤ far → k < n → Done n k
  quads_done zero k e h lt = absurd (omega arith)
  quads_done (suc n) k e h lt =
      let b : k ≤ n = omega arith in
      ⊎_elim (λ z. rw z (quads_last n e h)) (λ u. quads_off h (omega arith) (omega arith) (quads_done n k e (omega arith) u)) (eq-or-lt_of_le b)

-- d, done to a column, crosses word i with words m + i, m + m + i and m + m + m + i
pub record CrossesFour (q : Quad) (v m : ℕ) (d : List ℕ → List ℕ) : Type 0 where
  pub at0 : (a : List ℕ) (i : ℕ) → length a ≡ m + m + (m + m) → i < m
      → get_or (d a) i 0 ≡
      q.out0 (power 65537 v (2 * i)) (power 65537 v i) (get_or a i 0) (get_or a (m + i) 0) (get_or a (m + m + i) 0) (get_or a (m + m + (m + i)) 0)
  pub at1 : (a : List ℕ) (i : ℕ) → length a ≡ m + m + (m + m) → i < m
      → get_or (d a) (m + i) 0 ≡
      q.out1 (power 65537 v (2 * i)) (power 65537 v i) (get_or a i 0) (get_or a (m + i) 0) (get_or a (m + m + i) 0) (get_or a (m + m + (m + i)) 0)
  pub at2 : (a : List ℕ) (i : ℕ) → length a ≡ m + m + (m + m) → i < m
      → get_or (d a) (m + m + i) 0 ≡
      q.out2 (power 65537 v (2 * i)) (power 65537 v i) (get_or a i 0) (get_or a (m + i) 0) (get_or a (m + m + i) 0) (get_or a (m + m + (m + i)) 0)
  pub at3 : (a : List ℕ) (i : ℕ) → length a ≡ m + m + (m + m) → i < m
      → get_or (d a) (m + m + (m + i)) 0 ≡
      q.out3 (power 65537 v (2 * i)) (power 65537 v i) (get_or a i 0) (get_or a (m + i) 0) (get_or a (m + m + i) 0) (get_or a (m + m + (m + i)) 0)

-- all rows crossed
module _ (q : Quad) (v m width : ℕ) (d : List ℕ → List ℕ) (t : CrossesFour q v m d) (l : List ℕ)
    (e : length l ≡ m * width + m * width + (m * width + m * width)) where
  abbrev whole : List ℕ
  whole = quads_to q v width (m * width) (m * width) l

  -- the words of row i are those of the columns
  module _ (i j : ℕ) (h : i < m) (b : j < width) where
    abbrev a : List ℕ
    a = column width (m + m + (m + m)) j l

    long : length a ≡ m + m + (m + m)
    long = length_column width (m + m + (m + m)) j l

    row_of : (i * width + j) / width ≡ i
    row_of = digits_div i b

    done : Done q v width (m * width) l (m * width) (i * width + j)
    done = quads_done q v width (m * width) l (m * width) (i * width + j) e (omega arith) (digits_lt h b)

    word0 : get_or a i 0 ≡ get_or l (i * width + j) 0
    word0 = column_at width (m + m + (m + m)) j l i (omega arith)

    place1 : i * width + j + m * width ≡ (m + i) * width + j
    place1 = omega arith

    word1 : get_or a (m + i) 0 ≡ get_or l ((m + i) * width + j) 0
    word1 = column_at width (m + m + (m + m)) j l (m + i) (omega arith)

    place2 : i * width + j + m * width + m * width ≡ (m + m + i) * width + j
    place2 = omega arith

    word2 : get_or a (m + m + i) 0 ≡ get_or l ((m + m + i) * width + j) 0
    word2 = column_at width (m + m + (m + m)) j l (m + m + i) (omega arith)

    place3 : i * width + j + m * width + m * width + m * width ≡ (m + m + (m + i)) * width + j
    place3 = omega arith

    word3 : get_or a (m + m + (m + i)) 0 ≡ get_or l ((m + m + (m + i)) * width + j) 0
    word3 = column_at width (m + m + (m + m)) j l (m + m + (m + i)) (omega arith)

    quad_at0 : get_or whole (i * width + j) 0 ≡ get_or (d a) i 0
    quad_at0 = cc (done.at0, row_of, place1, place2, place3, word0, word1, word2, word3, t.at0 a i long h)

    quad_at1 : get_or whole ((m + i) * width + j) 0 ≡ get_or (d a) (m + i) 0
    quad_at1 = cc (done.at1, row_of, place1, place2, place3, word0, word1, word2, word3, t.at1 a i long h)

    quad_at2 : get_or whole ((m + m + i) * width + j) 0 ≡ get_or (d a) (m + m + i) 0
    quad_at2 = cc (done.at2, row_of, place1, place2, place3, word0, word1, word2, word3, t.at2 a i long h)

    quad_at3 : get_or whole ((m + m + (m + i)) * width + j) 0 ≡ get_or (d a) (m + m + (m + i)) 0
    quad_at3 = cc (done.at3, row_of, place1, place2, place3, word0, word1, word2, word3, t.at3 a i long h)

  abbrev Same : (j k : ℕ) → Type 0
  Same j k = get_or whole (k * width + j) 0 ≡ get_or (d (column width (m + m + (m + m)) j l)) k 0

  pub all_quads : whole ≡ lifted width (m + m + (m + m)) (m + m + (m + m)) d l
  all_quads =
      is_lifted width (m + m + (m + m)) (m + m + (m + m)) d l whole (length_quads q v width (m * width) l (m * width) ∙ e ∙ omega arith)
      (λ i j h b. at i j h b (dec_lt i (m + m)) (dec_lt i m) (dec_lt i (m + m + m)))
    where
      at : (i j : ℕ) → i < m + m + (m + m) → j < width → Dec (i < m + m) → Dec (i < m) → Dec (i < m + m + m) → Same j i
      at i j h b (yes _) (yes u) _ = quad_at0 i j u b
      at i j h b (yes w) (no u) _ =
          let s : m + (i - m) ≡ i = omega arith in
          subst (Same j) s (quad_at1 (i - m) j (omega arith) b)
      at i j h b (no w) _ (yes u) =
          let s : m + m + (i - (m + m)) ≡ i = omega arith in
          subst (Same j) s (quad_at2 (i - (m + m)) j (omega arith) b)
      at i j h b (no w) _ (no u) =
          let s : m + m + (m + (i - (m + m + m))) ≡ i = omega arith in
          subst (Same j) s (quad_at3 (i - (m + m + m)) j (omega arith) b)

-- THE LOOP OVER ROWS: the first i rows of each of the four parts are crossed, under powers of entry `step` of a table
pub record QuadsLoop (q : Quad) (part₀ : List ℕ) (m width : ℕ) (powers : List ℕ) (step : ℕ) (part : List ℕ) (i : ℕ) : Type 0 where
  pub turns : i ≤ m
  pub same : length part ≡ length part₀
  pub long : length part₀ ≡ m * width + m * width + (m * width + m * width)
  pub words : Words 65537 part
  pub now : part ≡ quads_to q (get_or powers step 0) width (m * width) (i * width) part₀

module _ {q : Quad} {part₀ : List ℕ} {m width : ℕ} {powers : List ℕ} {step : ℕ} where
  pub quads_start : length part₀ ≡ (m + m + (m + m)) * width → Words 65537 part₀ → QuadsLoop q part₀ m width powers step part₀ 0
  unfolding quads_to
  quads_start e w = record {
    turns = omega arith;
    same = refl;
    long = e ∙ omega arith;
    words = w;
    now = rw zero-mul refl;
  }

  module _ {part : List ℕ} {i : ℕ} (h : QuadsLoop q part₀ m width powers step part i) where
    pub quads_turn : {part' : List ℕ} {s : ℕ} → StoresFour 65537 q → QuadFactors 65537 s m step powers → i < m
        → part' ≡ quad_row q (get_or powers (2 * (i * step) % 2048) 0) (get_or powers (i * step % 2048) 0) (m * width) width (i * width) part
        → QuadsLoop q part₀ m width powers step part' (i + 1)
    quads_turn {part'} s f lt ep =
        let v = get_or powers step 0 in
        let n : (i + 1) * width ≡ i * width + width = omega arith in
        record {
          turns = omega arith;
          same = ap length ep ∙ length_row q _ _ (m * width) width (i * width) part ∙ h.same;
          long = h.long;
          words = rw ep (words_row s _ _ (m * width) width (i * width) h.words);
          now = ep ∙ rw (f.first i, f.second i, h.now, n) (row_quads q v width (m * width) i width part₀ (omega arith));
        }

    pub quads_end : {d : List ℕ → List ℕ} → CrossesFour q (get_or powers step 0) m d → m ≤ i
        → part ≡ lifted width (m + m + (m + m)) (m + m + (m + m)) d part₀
    quads_end {d} t le =
        let k : i ≡ m = omega arith in
        (rw k at h.now) ∙ all_quads q (get_or powers step 0) m width d t part₀ h.long
