-- Laws of the crossings of code/specs/steps/Mixing, which mixing and unmixing share: a row, all rows, and that these are one function of each column. Assumes
-- nothing.
use mathlib.Core.Path.{◌≡◌, refl, sym, ap, ap₂, ◌∙◌, subst}
use mathlib.Core.Logic.{⊎_elim, ◌≢◌}
use mathlib.Core.Bool.{Bool, true, false}
use mathlib.Core.List.{List}
use Prim.Native.Nat.{ℕ, zero, suc, ◌+◌, ◌-◌, ◌*◌, ◌/◌, ◌%◌, ◌≤◌, ◌<◌}
use native.Mathlib.Nat.{eq-or-lt_of_le, add-zero, zero-add, add-suc, add-mul, zero-mul, one-mul}
use native.Mathlib.Numerals.{add-one}
use native.Mathlib.Decide.{dec_lt}
use native.Mathlib.Omega.{arith}
use lib.Arith.{digits_div, digits_lt}
use lib.ListN.{length, get_or, set, take, drop, length-set}
use lib.Seq.{get_or-set_same, get_or-set_other, get_or-take, get_or-drop, length-take-le}
use Rattle.field.specs.Residue.{plus, minus, times}
use Rattle.field.specs.Power.{power}
use Rattle.field.specs.Words.{Words}
use Rattle.field.proofs.Powers.{power_of_one}
use Rattle.field.proofs.Laws.{plus_lt, minus_lt, times_lt}
use Rattle.field.proofs.WordLists.{words_set}
use Rattle.code.specs.Rows.{column, lifted}
use Rattle.code.specs.Transform.{mixed_halves, unmixed}
use Rattle.code.specs.steps.Mixing.{Crossing, mixing, unmixing, summing, crossed, crossed_row, sum_row, RowFactors, factor_at}
use Rattle.mixing.specs.steps.Words.{crossing_of}
use Rattle.code.proofs.Shapes.{mixed_low, mixed_high, unmixed_low, unmixed_high}
use Rattle.code.proofs.Blocks.{OnBlock}
use Rattle.code.proofs.Lifting.{column_at, length_column, is_lifted}

-- what a product or a difference gives is a word of the field
pub product_word : (g y : ℕ) {r : ℕ} → r ≡ times 65537 g y → r < 65537
product_word g y e = rw e (times_lt 65537 (omega arith) g y)

pub difference_word : (x y : ℕ) {r : ℕ} → r ≡ minus 65537 x y → r < 65537
difference_word x y e = rw e (minus_lt 65537 (omega arith) x y)

-- both words stored are words of the field
pub record Stores (p : ℕ) (c : Crossing) : Type 0 where
  pub low_lt : (g a b : ℕ) → c.low g a b < p
  pub high_lt : (g a b : ℕ) → c.high g a b < p

pub crossing_stores : (unmixing : Bool) → Stores 65537 (crossing_of unmixing 65537)
crossing_stores false = record { low_lt = λ g a b. plus_lt 65537 (omega arith) a _; high_lt = λ g a b. minus_lt 65537 (omega arith) a _ }
crossing_stores true = record { low_lt = λ g a b. plus_lt 65537 (omega arith) a b; high_lt = λ g a b. times_lt 65537 (omega arith) g _ }

-- so are sums and differences with no product
pub summing_stores : Stores 65537 (summing 65537)
summing_stores = record { low_lt = λ g a b. plus_lt 65537 (omega arith) a b; high_lt = λ g a b. minus_lt 65537 (omega arith) a b }

-- one crossing, word by word
module _ (c : Crossing) (g x y : ℕ) (l : List ℕ) where
  length_crossed : length (crossed c g x y l) ≡ length l
  unfolding crossed
  length_crossed = simp length-set

  crossed_low : x < length l → x ≢ y → get_or (crossed c g x y l) x 0 ≡ c.low g (get_or l x 0) (get_or l y 0)
  unfolding crossed
  crossed_low hx ne = rw (get_or-set_other, get_or-set_same)

  crossed_high : y < length l → get_or (crossed c g x y l) y 0 ≡ c.high g (get_or l x 0) (get_or l y 0)
  unfolding crossed
  crossed_high hy =
      let h : y < length (set l x (c.low g (get_or l x 0) (get_or l y 0))) = rw length-set hy in
      rw get_or-set_same

  crossed_off : (k : ℕ) → k ≢ x → k ≢ y → get_or (crossed c g x y l) k 0 ≡ get_or l k 0
  unfolding crossed
  crossed_off k nx ny = rw (get_or-set_other, get_or-set_other)

module _ {p : ℕ} (h : 0 < p) {c : Crossing} (s : Stores p c) where
  words_crossed : (g x y : ℕ) {l : List ℕ} → Words p l → Words p (crossed c g x y l)
  unfolding crossed
  words_crossed g x y w = words_set p h y (words_set p h x w (s.low_lt g _ _)) (s.high_lt g _ _)

  pub words_row : (f : ℕ → ℕ) (n low high : ℕ) {l : List ℕ} → Words p l → Words p (crossed_row c f n low high l)
  unfolding crossed_row
  words_row f zero low high w = w
  words_row f (suc n) low high w = words_crossed (f n) (low + n) (high + n) (words_row f n low high w)

pub length_row : (c : Crossing) (f : ℕ → ℕ) (n low high : ℕ) (l : List ℕ) → length (crossed_row c f n low high l) ≡ length l
unfolding crossed_row
length_row c f zero low high l = refl
length_row c f (suc n) low high l = length_crossed c (f n) (low + n) (high + n) _ ∙ length_row c f n low high l

-- THE LOOP OVER A ROW: its first j words are crossed
pub record RowLoop (c : Crossing) (part₀ : List ℕ) (low high width : ℕ) (f : ℕ → ℕ) (part : List ℕ) (j : ℕ) : Type 0 where
  pub turns : j ≤ width
  pub same : length part ≡ length part₀
  pub words : Words 65537 part
  pub now : part ≡ crossed_row c f j low high part₀

module _ {c : Crossing} {part₀ : List ℕ} {low high width : ℕ} {f : ℕ → ℕ} where
  pub row_start : Words 65537 part₀ → RowLoop c part₀ low high width f part₀ 0
  unfolding crossed_row
  row_start w = record { turns = omega arith; same = refl; words = w; now = refl }

  pub row_turn : {part : List ℕ} {j r s : ℕ} → Stores 65537 c → RowLoop c part₀ low high width f part j → j < width
      → r ≡ c.low (f j) (get_or part (low + j) 0) (get_or part (high + j) 0) → s ≡ c.high (f j) (get_or part (low + j) 0) (get_or part (high + j) 0)
      → RowLoop c part₀ low high width f (set (set part (low + j) r) (high + j) s) (j + 1)
  unfolding crossed_row crossed
  row_turn {part} {j} {r} {s} k h lt er es =
      let e : set (set part (low + j) r) (high + j) s ≡ crossed c (f j) (low + j) (high + j) part = rw (er, es) refl in
      rw e (record {
        turns = omega arith;
        same = length_crossed c (f j) (low + j) (high + j) part ∙ h.same;
        words = words_crossed (omega arith) k (f j) (low + j) (high + j) h.words;
        now = rw add-one (ap (crossed c (f j) (low + j) (high + j)) h.now);
      })

-- the words k and half + k crossed for k below n, each under its factor: what the two loops come to
unfoldable pub pairs : (c : Crossing) → (f : ℕ → ℕ) → (half n : ℕ) → List ℕ → List ℕ
pairs c f half zero l = l
pairs c f half (suc n) l = crossed c (f n) n (half + n) (pairs c f half n l)

-- a row is a stretch of the pairs whose factor is one
row_pairs : (c : Crossing) (f : ℕ → ℕ) (half g n low : ℕ) (l : List ℕ) → ((j : ℕ) → j < n → f (low + j) ≡ g)
    → crossed_row c (λ _. g) n low (half + low) (pairs c f half low l) ≡ pairs c f half (low + n) l
unfolding crossed_row pairs
row_pairs c f half g zero low l h = rw add-zero
row_pairs c f half g (suc n) low l h =
    let r : crossed_row c (λ _. g) n low (half + low) (pairs c f half low l) ≡ pairs c f half (low + n) l =
    row_pairs c f half g n low l (λ j lt. h j (omega arith)) in
    let y : half + low + n ≡ half + (low + n) = omega arith in
    let e : f (low + n) ≡ g = h n (omega arith) in
    rw (add-suc, r, y, ← e)

-- and so are all words in one row
pairs_row : (c : Crossing) (f g : ℕ → ℕ) (half n : ℕ) (l : List ℕ) → ((j : ℕ) → j < n → f j ≡ g j) → crossed_row c f n 0 half l ≡ pairs c g half n l
unfolding crossed_row pairs
pairs_row c f g half zero l h = refl
pairs_row c f g half (suc n) l h =
    let r : crossed_row c f n 0 half l ≡ pairs c g half n l = pairs_row c f g half n l (λ j lt. h j (omega arith)) in
    let e : f n ≡ g n = h n (omega arith) in
    rw (zero-add, r, e)

module _ (c : Crossing) (f : ℕ → ℕ) (half : ℕ) (l : List ℕ) where
  length_pairs : (n : ℕ) → length (pairs c f half n l) ≡ length l
  unfolding pairs
  length_pairs zero = refl
  length_pairs (suc n) = length_crossed c (f n) n (half + n) _ ∙ length_pairs n

  -- words k and half + k are a and b once n pairs are crossed
  record At (n k a b : ℕ) : Type 0 where
    fst : get_or (pairs c f half n l) k 0 ≡ a
    snd : get_or (pairs c f half n l) (half + k) 0 ≡ b

  -- pair n leaves the others as they are
  pairs_off : {n k a b : ℕ} → n < half → k < half → k ≢ n → At n k a b → At (suc n) k a b
  unfolding pairs
  pairs_off {n} {k} u v ne h = record {
    fst = crossed_off c (f n) n (half + n) _ k ne (omega arith) ∙ h.fst;
    snd = crossed_off c (f n) n (half + n) _ (half + k) (omega arith) (omega arith) ∙ h.snd;
  }

  -- a pair that is still to be crossed is as it was
  pairs_rest : (n k : ℕ) → n ≤ k → k < half → At n k (get_or l k 0) (get_or l (half + k) 0)
  unfolding pairs
  pairs_rest zero k u v = record { fst = refl; snd = refl }
  pairs_rest (suc n) k u v = pairs_off (omega arith) v (omega arith) (pairs_rest n k (omega arith) v)

  abbrev Done : ℕ → ℕ → Type 0
  Done n k = At n k (c.low (f k) (get_or l k 0) (get_or l (half + k) 0)) (c.high (f k) (get_or l k 0) (get_or l (half + k) 0))

  pairs_last : (n : ℕ) → length l ≡ half + half → n < half → Done (suc n) n
  unfolding pairs
  pairs_last n e u =
      let r : At n n (get_or l n 0) (get_or l (half + n) 0) = pairs_rest n n (omega arith) u in
      let len : length (pairs c f half n l) ≡ length l = length_pairs n in
      record {
        fst = crossed_low c (f n) n (half + n) _ (omega arith) (omega arith) ∙ ap₂ (c.low (f n)) r.fst r.snd;
        snd = crossed_high c (f n) n (half + n) _ (omega arith) ∙ ap₂ (c.high (f n)) r.fst r.snd;
      }

  -- and one that is crossed is what it is to be
  pairs_done : (n k : ℕ) → length l ≡ half + half → n ≤ half → k < n → Done n k
  pairs_done zero k e h lt = absurd (omega arith)
  pairs_done (suc n) k e h lt =
      let b : k ≤ n = omega arith in
      ⊎_elim (λ z. rw z (pairs_last n e h)) (λ u. pairs_off h (omega arith) (omega arith) (pairs_done n k e (omega arith) u)) (eq-or-lt_of_le b)

-- d, done to a column, crosses word i with word m + i under v ^ i
pub record Crosses (c : Crossing) (v m : ℕ) (d : List ℕ → List ℕ) : Type 0 where
  pub low_at : (a : List ℕ) (i : ℕ) → length a ≡ m + m → i < m → get_or (d a) i 0 ≡ c.low (power 65537 v i) (get_or a i 0) (get_or a (m + i) 0)
  pub high_at : (a : List ℕ) (i : ℕ) → length a ≡ m + m → i < m → get_or (d a) (m + i) 0 ≡ c.high (power 65537 v i) (get_or a i 0) (get_or a (m + i) 0)

pub mixing_crosses : (v m : ℕ) → Crosses (mixing 65537) v m (mixed_halves 65537 v m)
mixing_crosses v m = record { low_at = low; high_at = high }
  where
    low : (a : List ℕ) (i : ℕ) → length a ≡ m + m → i < m
        → get_or (mixed_halves 65537 v m a) i 0 ≡ plus 65537 (get_or a i 0) (times 65537 (power 65537 v i) (get_or a (m + i) 0))
    low a i e h =
        let t : length (take m a) ≡ m = length-take-le m a (omega arith) in
        mixed_low 65537 v (take m a) (drop m a) i (omega arith) ∙ rw (get_or-take m a i 0 h, get_or-drop m a i 0)

    high : (a : List ℕ) (i : ℕ) → length a ≡ m + m → i < m
        → get_or (mixed_halves 65537 v m a) (m + i) 0 ≡ minus 65537 (get_or a i 0) (times 65537 (power 65537 v i) (get_or a (m + i) 0))
    high a i e h =
        let t : length (take m a) ≡ m = length-take-le m a (omega arith) in
        mixed_high 65537 v m (take m a) (drop m a) i t h ∙ rw (get_or-take m a i 0 h, get_or-drop m a i 0)

pub unmixing_crosses : (v m : ℕ) → Crosses (unmixing 65537) v m (unmixed 65537 v m)
unmixing_crosses v m = record { low_at = λ a i e h. unmixed_low 65537 v m a i h; high_at = λ a i e h. unmixed_high 65537 v m a i h }

-- the factor of word k, which is in row k / width
abbrev factor : (v width k : ℕ) → ℕ
factor v width k = power 65537 v (k / width)

-- all rows crossed
module _ (c : Crossing) (v m width : ℕ) (d : List ℕ → List ℕ) (t : Crosses c v m d) (l : List ℕ) (e : length l ≡ m * width + m * width) where
  abbrev whole : List ℕ
  whole = pairs c (factor v width) (m * width) (m * width) l

  pairs_at : (i j : ℕ) → i < m → j < width
      → (get_or whole (i * width + j) 0 ≡ get_or (d (column width (m + m) j l)) i 0) ×
      (get_or whole ((m + i) * width + j) 0 ≡ get_or (d (column width (m + m) j l)) (m + i) 0)
  pairs_at i j h b =
      let a : List ℕ = column width (m + m) j l in
      let r : Done c (factor v width) (m * width) l (m * width) (i * width + j) =
      pairs_done c (factor v width) (m * width) l (m * width) (i * width + j) e (omega arith) (digits_lt h b) in
      let q : m * width + (i * width + j) ≡ (m + i) * width + j = omega arith in
      let f : (i * width + j) / width ≡ i = digits_div i b in
      let x : get_or a i 0 ≡ get_or l (i * width + j) 0 = column_at width (m + m) j l i (omega arith) in
      let y : get_or a (m + i) 0 ≡ get_or l ((m + i) * width + j) 0 = column_at width (m + m) j l (m + i) (omega arith) in
      let n : length a ≡ m + m = length_column width (m + m) j l in
      (cc (r.fst, q, f, x, y, t.low_at a i n h), cc (r.snd, q, f, x, y, t.high_at a i n h))

  all_pairs : whole ≡ lifted width (m + m) (m + m) d l
  all_pairs =
      is_lifted width (m + m) (m + m) d l whole (length_pairs c (factor v width) (m * width) l (m * width) ∙ e ∙ sym (add-mul m m width))
      (λ i j h b. at i j h b (dec_lt i m))
    where
      at : (i j : ℕ) → i < m + m → j < width → Dec (i < m) → get_or whole (i * width + j) 0 ≡ get_or (d (column width (m + m) j l)) i 0
      at i j h b (yes u) = (pairs_at i j u b).0
      at i j h b (no u) =
          let s : m + (i - m) ≡ i = omega arith in
          subst (λ (k : ℕ). get_or whole (k * width + j) 0 ≡ get_or (d (column width (m + m) j l)) k 0) s (pairs_at (i - m) j (omega arith) b).1

-- and all words, each under the power of its row
pub words_lifted : {c : Crossing} {x m : ℕ} {d : List ℕ → List ℕ} (width : ℕ) (fs l : List ℕ) → Crosses c x m d → length l ≡ m * width + m * width
    → ((k : ℕ) → k < m * width → get_or fs k 0 ≡ power 65537 x (k / width))
    → crossed_row c (factor_at fs) (m * width) 0 (m * width) l ≡ lifted width (m + m) (m + m) d l
unfolding factor_at
words_lifted {c} {x} {m} {d} width fs l t e h =
    pairs_row c (factor_at fs) (factor x width) (m * width) (m * width) l h ∙ all_pairs c x m width d t l e

-- rows alone, under the factor 1
pub sums_lifted : (width : ℕ) (d : List ℕ → List ℕ) (l : List ℕ) → Crosses (summing 65537) 1 1 d → length l ≡ width + width
    → sum_row 65537 width 0 width l ≡ lifted width 2 2 d l
sums_lifted width d l t e =
    let o : 1 * width ≡ width = one-mul width in
    pairs_row (summing 65537) (λ _. 1) (factor 1 width) width width l (λ j _. sym (power_of_one 65537 (omega arith) (j / width)))
    ∙ (rw o at (all_pairs (summing 65537) 1 1 width d t l (rw o e)))

-- what is done to a block of two rows
pub row_block : {c : Crossing} → Stores 65537 c → (f : ℕ → ℕ) (n : ℕ) → OnBlock 65537 (n + n) (crossed_row c f n 0 n)
row_block {c} s f n = record { long = λ a e. length_row c f n 0 n a ∙ e; words = λ a w. words_row (omega arith) s f n 0 n w }

-- THE LOOP OVER ROWS: the first i rows are crossed, under powers of entry `step` of a table
pub record RowsLoop (c : Crossing) (part₀ : List ℕ) (m width : ℕ) (powers : List ℕ) (step : ℕ) (part : List ℕ) (i : ℕ) : Type 0 where
  pub turns : i ≤ m
  pub same : length part ≡ length part₀
  pub long : length part₀ ≡ m * width + m * width
  pub words : Words 65537 part
  pub now : part ≡ pairs c (factor (get_or powers step 0) width) (m * width) (i * width) part₀

module _ {c : Crossing} {part₀ : List ℕ} {m width : ℕ} {powers : List ℕ} {step : ℕ} where
  pub rows_start : length part₀ ≡ (m + m) * width → Words 65537 part₀ → RowsLoop c part₀ m width powers step part₀ 0
  unfolding pairs
  rows_start e w = record {
    turns = omega arith;
    same = refl;
    long = e ∙ add-mul m m width;
    words = w;
    now = rw zero-mul refl;
  }

  pub rows_turn : {part part' : List ℕ} {i : ℕ} → Stores 65537 c → RowFactors 65537 m step powers → RowsLoop c part₀ m width powers step part i → i < m
      → part' ≡ crossed_row c (λ _. get_or powers (i * step % 2048) 0) width (i * width) (m * width + i * width) part
      → RowsLoop c part₀ m width powers step part' (i + 1)
  rows_turn {part} {part'} {i} s f h lt ep =
      let v = get_or powers step 0 in
      let g = get_or powers (i * step % 2048) 0 in
      let n : (i + 1) * width ≡ i * width + width = omega arith in
      let r : crossed_row c (λ _. power 65537 v i) width (i * width) (m * width + i * width) (pairs c (factor v width) (m * width) (i * width) part₀) ≡ pairs c
      (factor v width) (m * width) (i * width + width) part₀ =
      row_pairs c (factor v width) (m * width) (power 65537 v i) width (i * width) part₀ (λ j b. ap (power 65537 v) (digits_div i b)) in
      record {
        turns = omega arith;
        same = ap length ep ∙ length_row c (λ _. g) width (i * width) (m * width + i * width) part ∙ h.same;
        long = h.long;
        words = rw ep (words_row (omega arith) s (λ _. g) width (i * width) (m * width + i * width) h.words);
        now = ep ∙ ap (λ (x : ℕ). crossed_row c (λ _. x) width (i * width) (m * width + i * width) part) (f.entry i lt) ∙ rw (h.now, n) r;
      }

  pub rows_end : {d : List ℕ → List ℕ} {part : List ℕ} {i : ℕ} → Crosses c (get_or powers step 0) m d → RowsLoop c part₀ m width powers step part i → m ≤ i
      → part ≡ lifted width (m + m) (m + m) d part₀
  rows_end {d} {part} {i} t h le =
      let q : i ≡ m = omega arith in
      (rw q at h.now) ∙ all_pairs c (get_or powers step 0) m width d t part₀ h.long
