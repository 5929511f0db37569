-- The marks of a stripe's positions: which positions an erasure touches, and the loops that mark them. Assumes nothing.
use mathlib.Core.Path.{◌≡◌, refl, sym, ap, ◌∙◌}
use mathlib.Core.Bool.{Bool, true, false, ◌&&◌, ◌||◌, and-false, or-true, or-false, or_assoc}
use mathlib.Core.List.{List, [], ◌∷◌, ◌++◌}
use Prim.Native.Nat.{ℕ, zero, suc, min, ◌+◌, ◌*◌, ◌-◌, ◌/◌, ◌%◌, ◌^◌, ◌≤◌, ◌<◌}
use native.Mathlib.Nat.{le-div_iff_mul-le, div-lt_iff_lt-mul, mul-le-mul_right, suc-mul}
use native.Mathlib.Decide.{dec_lt}
use native.Mathlib.Numerals.{add-one}
use native.Mathlib.Omega.{arith}
use lib.Dec.{ltb, leb}
use borrow.Author.Tests.{lt-ltb, le-ltb, le-leb, lt-leb}
use borrow.Rule.Slice.PartMut.{put_mid}
use Rattle.std.proofs.lemmas.List.{get_or-append_right}
use Rattle.std.proofs.lemmas.Grind.{div_ceil_times}
use lib.ListN.{length, get_or, take, drop, replicate, length-replicate, get_or-replicate, length-append, get_or-append, length-drop}
use lib.Seq.{ext_get_or, length-take-le, get_or-take, get_or-drop}
use Rattle.field.proofs.WordLists.{get_or_same}
use Rattle.layout.specs.declared.Header.{Header}
use Rattle.layout.specs.Header.{width, stripe_at}
use Rattle.image.specs.Image.{number_at}
use Rattle.image.specs.Erasures.{Erasure, erasure_at, erasures_from, erasures_in, touched, flags_from, position_at, mark_at, marks_of}
use Rattle.image.specs.steps.Marking.{erasure, mark_for, marks_for, is_between, Marked}
use Rattle.image.proofs.Pairs.{IsPair}

-- FROM low UP TO high
module _ (low high i : ℕ) where
  between_in : low ≤ i → i < high → is_between low high i ≡ true
  unfolding is_between
  between_in a b = rw (le-leb low i a, lt-ltb i high b)

  between_low : i < low → is_between low high i ≡ false
  unfolding is_between
  between_low a = rw (lt-leb low i a)

  between_high : high ≤ i → is_between low high i ≡ false
  unfolding is_between
  between_high a = rw (le-ltb i high a) (and-false (leb low i))

  -- a test is `is_between` if it is true there and false before and behind
  is_between_lem : (t : Bool) → (low ≤ i → i < high → t ≡ true) → (i < low → t ≡ false) → (high ≤ i → t ≡ false) → is_between low high i ≡ t
  is_between_lem t a b c = at (dec_lt i low) (dec_lt i high)
    where
      at : Dec (i < low) → Dec (i < high) → is_between low high i ≡ t
      at (yes x) y = between_low x ∙ sym (b x)
      at (no x) (yes y) = between_in (omega arith) y ∙ sym (a (omega arith) y)
      at (no x) (no y) = between_high (omega arith) ∙ sym (c (omega arith))

pub marked_same : {f g : ℕ → Bool} {a b : List Bool} → ((i : ℕ) → f i ≡ g i) → Marked f a b → Marked g a b
marked_same {f} {g} {a} {b} e m = record { same = m.same; each = λ i. m.each i ∙ ap (λ (t : Bool). get_or a i false || t) (e i) }

-- nothing marked
pub marked_none : {f : ℕ → Bool} (a : List Bool) → ((i : ℕ) → f i ≡ false) → Marked f a a
marked_none a e = record { same = refl; each = λ i. rw (e i) (sym (or-false (get_or a i false))) }

-- THE MARKS from low up to high written over: those before and behind stay
module _ {low high : ℕ} (marks : List Bool) {x : List Bool} (h : low ≤ high) (fit : high ≤ length marks)
    (e : x ≡ replicate (length (take (high - low) (drop low marks))) true) where
  long : length x ≡ high - low
  long = ap length e ∙ length-replicate (length (take (high - low) (drop low marks))) true
      ∙ length-take-le (high - low) (drop low marks) (omega (arith, length-drop low marks))

  front : length (take low marks) ≡ low
  front = length-take-le low marks (omega arith)

  behind : (i : ℕ) → low ≤ i → get_or (put_mid low (high - low) marks x) i false ≡ get_or (x ++ drop (high - low) (drop low marks)) (i - low) false
  behind i b = get_or-append_right (take low marks) (x ++ drop (high - low) (drop low marks)) low i false front b

  written : (i : ℕ) → get_or (put_mid low (high - low) marks x) i false ≡ (get_or marks i false || is_between low high i)
  written i = at (dec_lt i low) (dec_lt i high)
    where
      at : Dec (i < low) → Dec (i < high) → get_or (put_mid low (high - low) marks x) i false ≡ (get_or marks i false || is_between low high i)
      at (yes a) b =
          get_or-append (take low marks) (x ++ drop (high - low) (drop low marks)) false i (omega (arith, front)) ∙ get_or-take low marks i false a
          ∙ rw (between_low low high i a) (sym (or-false (get_or marks i false)))
      at (no a) (yes b) =
          let n = length (take (high - low) (drop low marks)) in
          behind i (omega arith) ∙ get_or-append x (drop (high - low) (drop low marks)) false (i - low) (omega (arith, long))
          ∙ ap (λ (y : List Bool). get_or y (i - low) false) e
          ∙ get_or-replicate n (i - low) true false (omega (arith, long, ap length e, length-replicate n true))
          ∙ rw (between_in low high i (omega arith) b) (sym (or-true (get_or marks i false)))
      at (no a) (no b) =
          behind i (omega arith) ∙ get_or-append_right x (drop (high - low) (drop low marks)) (high - low) (i - low) false long (omega arith)
          ∙ get_or-drop (high - low) (drop low marks) (i - low - (high - low)) false
          ∙ get_or-drop low marks (high - low + (i - low - (high - low))) false
          ∙ ap (λ (k : ℕ). get_or marks k false) {x = low + (high - low + (i - low - (high - low)))} {y = i} (omega arith)
          ∙ rw (between_high low high i (omega arith)) (sym (or-false (get_or marks i false)))

  pub fill_marked : Marked (is_between low high) marks (put_mid low (high - low) marks x)
  fill_marked = record {
    same =
        length-append (take low marks) (x ++ drop (high - low) (drop low marks))
        ∙ omega (arith, front, long, length-append x (drop (high - low) (drop low marks)), length-drop (high - low) (drop low marks), length-drop low marks);
    each = written;
  }

-- THE POSITIONS THAT ONE ERASURE TOUCHES
touched_cons : (a b : ℕ) (g : Erasure) (gs : List Erasure) → touched a b (g ∷ gs) ≡ (touched a b (g ∷ []) || touched a b gs)
unfolding touched
touched_cons a b g gs = rw (or-false (ltb g.offset b && ltb a (g.offset + g.size)))

touched_one : (a b o s : ℕ) → touched a b (erasure o s ∷ []) ≡ (ltb o b && ltb a (o + s))
unfolding touched
touched_one a b o s = or-false (ltb o b && ltb a (o + s))

module _ (base step n : ℕ) where
  mark_within : (gs : List Erasure) (i : ℕ) → i < n → mark_for base step n gs i ≡ touched (base + i * step) (base + i * step + step) gs
  unfolding mark_for
  mark_within gs i h = rw (mark_for, lt-ltb i n h)

  mark_out : (gs : List Erasure) (i : ℕ) → n ≤ i → mark_for base step n gs i ≡ false
  unfolding mark_for
  mark_out gs i h = rw (mark_for, le-ltb i n h)

  mark_cons : (g : Erasure) (gs : List Erasure) (i : ℕ) → mark_for base step n (g ∷ gs) i ≡ (mark_for base step n (g ∷ []) i || mark_for base step n gs i)
  mark_cons g gs i = at (dec_lt i n)
    where
      at : Dec (i < n) → mark_for base step n (g ∷ gs) i ≡ (mark_for base step n (g ∷ []) i || mark_for base step n gs i)
      at (yes h) = rw (mark_within (g ∷ gs) i h, mark_within (g ∷ []) i h, mark_within gs i h) (touched_cons (base + i * step) (base + i * step + step) g gs)
      at (no h) = rw (mark_out (g ∷ gs) i (omega arith), mark_out (g ∷ []) i (omega arith), mark_out gs i (omega arith))

  module _ (o s i : ℕ) where
    mark_one : i < n → mark_for base step n (erasure o s ∷ []) i ≡ (ltb o (base + i * step + step) && ltb (base + i * step) (o + s))
    mark_one h = mark_within (erasure o s ∷ []) i h ∙ touched_one (base + i * step) (base + i * step + step) o s

    mark_in : i < n → o < base + i * step + step → base + i * step < o + s → mark_for base step n (erasure o s ∷ []) i ≡ true
    mark_in a b c = mark_one a ∙ rw (lt-ltb o (base + i * step + step) b, lt-ltb (base + i * step) (o + s) c)

    mark_before : (i < n → base + i * step + step ≤ o) → mark_for base step n (erasure o s ∷ []) i ≡ false
    mark_before a = at (dec_lt i n)
      where
        at : Dec (i < n) → mark_for base step n (erasure o s ∷ []) i ≡ false
        at (yes h) = mark_one h ∙ rw (le-ltb o (base + i * step + step) (a h))
        at (no h) = mark_out (erasure o s ∷ []) i (omega arith)

    mark_behind : (i < n → o + s ≤ base + i * step) → mark_for base step n (erasure o s ∷ []) i ≡ false
    mark_behind a = at (dec_lt i n)
      where
        at : Dec (i < n) → mark_for base step n (erasure o s ∷ []) i ≡ false
        at (yes h) = mark_one h ∙ rw (le-ltb (base + i * step) (o + s) (a h)) (and-false (ltb o (base + i * step + step)))
        at (no h) = mark_out (erasure o s ∷ []) i (omega arith)

-- the first position that a byte from `offset` on is before the end of, and the number of positions that begin before `end`
pub record Lowest (base step offset low : ℕ) : Type 0 where
  pub first : (i : ℕ) → low ≤ i → offset < base + i * step + step
  pub before : (i : ℕ) → i < low → base + i * step + step ≤ offset

pub record Highest (base step n end high : ℕ) : Type 0 where
  pub within : high ≤ n
  pub inside : (i : ℕ) → i < high → base + i * step < end
  pub behind : (i : ℕ) → high ≤ i → i < n → end ≤ base + i * step

pub touched_between : {base step n o : ℕ} (s : ℕ) {low high : ℕ} → Lowest base step o low → Highest base step n (o + s) high → (i : ℕ)
    → is_between low high i ≡ mark_for base step n (erasure o s ∷ []) i
touched_between {base} {step} {n} {o} s {low} {high} l h i =
    is_between_lem low high i (mark_for base step n (erasure o s ∷ []) i)
    (λ a b. mark_in base step n o s i (omega (arith, h.within)) (l.first i a) (h.inside i b))
    (λ a. mark_before base step n o s i (λ b. l.before i a)) (λ a. mark_behind base step n o s i (h.behind i a))

module _ (base step : ℕ) (pos : 0 < step) where
  pub lowest_at : (o : ℕ) → Lowest base step o ((o - base) / step)
  lowest_at o =
      record {
        first = λ i a. let e : o - base < suc i * step = (div-lt_iff_lt-mul {k = step} {x = o - base} {y = suc i} pos).0 (omega arith) in
            omega (arith, suc-mul i step);
        before = λ i a. let e : suc i * step ≤ o - base = (le-div_iff_mul-le {k = step} {x = suc i} {y = o - base} pos).0 (omega arith) in
            omega (arith, suc-mul i step);
      }

  -- position i ends where position i + 1 begins, at the end of the stripe at the latest
  position_end : {i n : ℕ} → i < n → i * step + step ≤ n * step
  position_end {i} {n} h = omega (arith, suc-mul i step, mul-le-mul_right {m = suc i} {n = n} step (omega arith))

  -- by the bytes up to `end` over those of a position, rounded up
  module _ (n end : ℕ) {count high : ℕ} (ec : count ≡ (end - base) / step + min 1 ((end - base) % step)) (eh : high ≡ min count n) where
    bounds : (end - base ≤ count * step) × (count * step < end - base + step)
    bounds = rw (← ec) at (div_ceil_times (end - base) step pos)

    pub highest_at : base ≤ end → Highest base step n end high
    highest_at a =
        record {
          within = omega arith;
          inside = λ i t. omega (arith, bounds.1, suc-mul i step, mul-le-mul_right {m = suc i} {n = count} step (omega arith));
          behind = λ i t l. omega (arith, bounds.0, mul-le-mul_right {m = count} {n = i} step (omega arith));
        }

    -- the first position that is touched is not behind the last one
    pub lowest_below : {o : ℕ} → o ≤ end → o < base + n * step → (o - base) / step ≤ high
    lowest_below {o} b c =
        let below : (m : ℕ) → o - base < suc m * step → (o - base) / step < suc m =
        λ m. (div-lt_iff_lt-mul {k = step} {x = o - base} {y = suc m} pos).1 in
        omega (arith, below count (omega (arith, bounds.0, suc-mul count step)), below n (omega (arith, suc-mul n step)))

  -- an erasure before the stripe, and one behind it
  pub erased_before : (n o s : ℕ) (marks : List Bool) → o + s ≤ base → Marked (mark_for base step n (erasure o s ∷ [])) marks marks
  erased_before n o s marks h = marked_none marks (λ i. mark_behind base step n o s i (λ b. omega arith))

  pub erased_behind : (n o s : ℕ) (marks : List Bool) → base + n * step ≤ o → Marked (mark_for base step n (erasure o s ∷ [])) marks marks
  erased_behind n o s marks h = marked_none marks (λ i. mark_before base step n o s i (λ b. omega (arith, position_end b)))

-- FLAGS
flag_at_lem : (i n : ℕ) (f : ℕ → Bool) (k : ℕ) → k < n → get_or (flags_from i n f) k false ≡ f (i + k)
unfolding flags_from
flag_at_lem i zero f k h = absurd (omega arith)
flag_at_lem i (suc n) f zero h = ap f {x = i} {y = i + 0} (omega arith)
flag_at_lem i (suc n) f (suc k) h = flag_at_lem (suc i) n f k (omega arith) ∙ ap f {x = suc i + k} {y = i + suc k} (omega arith)

pub length_flags : (i n : ℕ) (f : ℕ → Bool) → length (flags_from i n f) ≡ n
unfolding flags_from
length_flags i zero f = refl
length_flags i (suc n) f = ap suc (length_flags (suc i) n f)

pub get_or_flags : (n : ℕ) (f : ℕ → Bool) (k : ℕ) → k < n → get_or (flags_from 0 n f) k false ≡ f k
get_or_flags n f k h = flag_at_lem 0 n f k h ∙ ap f {x = 0 + k} {y = k} (omega arith)

-- a list is the flags of f if it is so flag by flag
pub is_flags : (l : List Bool) (n : ℕ) (f : ℕ → Bool) → length l ≡ n → ((k : ℕ) → k < n → get_or l k false ≡ f k) → l ≡ flags_from 0 n f
is_flags l n f e g =
    ext_get_or false l (flags_from 0 n f) (e ∙ sym (length_flags 0 n f)) (λ k b. let b' : k < n = omega arith in g k b' ∙ sym (get_or_flags n f k b'))

pub same_flags : (n : ℕ) (f g : ℕ → Bool) → ((k : ℕ) → k < n → f k ≡ g k) → flags_from 0 n f ≡ flags_from 0 n g
same_flags n f g e = is_flags (flags_from 0 n f) n g (length_flags 0 n f) (λ k b. get_or_flags n f k b ∙ e k b)

pub length_none : {marks : List Bool} (n : ℕ) → marks ≡ replicate n false → length marks ≡ n
length_none n e = ap length e ∙ length-replicate n false

-- THE LOOP over an erasure list: before pair i, what is marked and what the rest touch are what all touch
pub record MarkLoop (base step n : ℕ) (bytes : List ℕ) (size : ℕ) (marks : List Bool) (i : ℕ) : Type 0 where
  pub within : i ≤ length bytes / 8
  pub long : length marks ≡ size
  pub each : (k : ℕ)
      → (get_or marks k false || mark_for base step n (erasures_from bytes i (length bytes / 8 - i)) k) ≡ mark_for base step n (erasures_in bytes) k

mark_nil : (base step n : ℕ) (bytes : List ℕ) (i k : ℕ) → mark_for base step n (erasures_from bytes i 0) k ≡ false
unfolding erasures_from touched
mark_nil base step n bytes i k = at (dec_lt k n)
  where
    at : Dec (k < n) → mark_for base step n [] k ≡ false
    at (yes h) = mark_within base step n [] k h
    at (no h) = mark_out base step n [] k (omega arith)

module _ {base step n : ℕ} {bytes : List ℕ} {size : ℕ} {marks : List Bool} where
  pub mark_start : marks ≡ replicate size false → MarkLoop base step n bytes size marks 0
  mark_start e =
      record {
        within = omega arith;
        long = length_none size e;
        each = λ k. rw (e, get_or_same size false k)
            (ap (λ (m : ℕ). mark_for base step n (erasures_from bytes 0 m) k) {x = length bytes / 8 - 0} {y = length bytes / 8}
            (omega arith));
      }

  pub mark_end : {i : ℕ} → MarkLoop base step n bytes size marks i → length bytes / 8 ≤ i → marks ≡ flags_from 0 size (mark_for base step n (erasures_in bytes))
  mark_end {i} r h =
      is_flags marks size (mark_for base step n (erasures_in bytes)) r.long (λ k b. sym (or-false (get_or marks k false)) ∙ rest k ∙ r.each k)
    where
      rest : (k : ℕ) → (get_or marks k false || false) ≡ (get_or marks k false || mark_for base step n (erasures_from bytes i (length bytes / 8 - i)) k)
      rest k =
          let d : length bytes / 8 - i ≡ 0 = omega arith in
          rw (d, mark_nil base step n bytes i k)

mark_next : (base step n : ℕ) (bytes : List ℕ) (i d k : ℕ) → mark_for base step n (erasures_from bytes i (suc d)) k
    ≡ (mark_for base step n (erasure (number_at bytes (8 * i)) (number_at bytes (8 * i + 4)) ∷ []) k || mark_for base step n (erasures_from bytes (suc i) d) k)
unfolding erasures_from
mark_next base step n bytes i d k = mark_cons base step n (erasure_at bytes i) (erasures_from bytes (suc i) d) k

pub mark_turn : {base step n : ℕ} {bytes : List ℕ} {size : ℕ} {marks after : List Bool} {i o s : ℕ} → MarkLoop base step n bytes size marks i
    → IsPair bytes i o s → Marked (mark_for base step n (erasure o s ∷ [])) marks after → MarkLoop base step n bytes size after (i + 1)
mark_turn {base} {step} {n} {bytes} {size} {marks} {after} {i} {o} {s} r p m =
    record { within = omega arith; long = m.same ∙ r.long; each = at }
  where
    at : (k : ℕ) → (get_or after k false || mark_for base step n (erasures_from bytes (i + 1) (length bytes / 8 - (i + 1))) k) ≡ mark_for base step n
        (erasures_in bytes) k
    at k =
        let d : length bytes / 8 - i ≡ suc (length bytes / 8 - suc i) = omega arith in
        rw (add-one i, m.each k, or_assoc, p.offset, p.size, ← mark_next, ← d) (r.each k)

-- THE MARKS OF A STRIPE are those of its bytes
mark_is : (h : Header) (gs : List Erasure) (l i : ℕ) → mark_for (4 * stripe_at h l) (4 * width h) (2 ^ suc l) gs i ≡ mark_at h gs l i
unfolding mark_for mark_at
mark_is h gs l i =
    ap (λ (a : ℕ). elim (ltb i (2 ^ suc l)) [ true ↦ touched a (a + 4 * width h) gs | false ↦ false ]) {x = 4 * stripe_at h l + i * (4 * width h)} {y =
    position_at h l i} (scaled (stripe_at h l) i (width h))
  where
    scaled : (a i w : ℕ) → 4 * a + i * (4 * w) ≡ 4 * (a + i * w)
    scaled a i w = omega arith

pub marks_for_is : (h : Header) (gs : List Erasure) (l : ℕ) → marks_for (4 * stripe_at h l) (4 * width h) (2 ^ suc l) gs ≡ marks_of h gs l
marks_for_is h gs l = same_flags 2048 (mark_for (4 * stripe_at h l) (4 * width h) (2 ^ suc l) gs) (mark_at h gs l) (λ i b. mark_is h gs l i)
