-- Laws of specs/Records: data words, blank and struck blocks, records replaced, and records that fit. Assumes nothing.
use mathlib.Core.Path.{◌≡◌, refl, sym, ap, ap₂, ◌∙◌}
use mathlib.Core.Bool.{Bool, true, false}
use mathlib.Core.Logic.{⊎_elim}
use mathlib.Core.List.{List, [], ◌∷◌, ◌++◌, append_assoc}
use Prim.Native.Nat.{ℕ, zero, suc, ◌+◌, ◌*◌, ◌≤◌, ◌<◌}
use native.Mathlib.Nat.{eq-or-lt_of_le, le_refl, mul-le-mul_right, zero-add, zero-mul}
use native.Mathlib.Decide.{dec_lt}
use native.Mathlib.Omega.{arith}
use lib.Dec.{lit<, eqb}
use lib.ListN.{length, get_or, take, drop, replicate, length-drop}
use lib.Seq.{sets, sets-eq, length-take-le, get_or-take, get_or-drop, take_all, take_at, drop_at, take-add}
use borrow.Author.Tests.{eqb-true, eqb-false, leb-true, le-leb}
use Rattle.std.specs.Bool.{MatchBool}
use Rattle.std.proofs.lemmas.Bool.{false≢true, or_left, or_right, or_cases}
use Rattle.std.specs.List.{AllWithin, HoldsAt, range_with_len}
use Rattle.std.proofs.lemmas.List.FromFn.{length-range_with_len, get_or-range_with_len}
use Rattle.field.specs.Words.{Words, every}
use Rattle.field.proofs.WordLists.{words_nil, words_append, words_take, words_drop, part_inside, take_sets, drop_sets}
use Rattle.layout.specs.Records.{is_data, are_data, is_struck_word, is_struck, struck_data, record_fits, is_zero, is_blank, record_in, replaced, records_fit}
use Rattle.field.proofs.EveryWord.{every_same, every_words, words_every}
use Rattle.field.proofs.Booleans.{is_false, both_true, first_true, second_true}

-- data words are words below 65536, and so words of the field
pub data_words : (l : List ℕ) → are_data l ≡ true → Words 65536 l
data_words l e = every_words is_data (lit< tt) (λ x t. omega (arith, leb-true x 65535 t)) l e

pub are_data_lem : (l : List ℕ) → Words 65536 l → are_data l ≡ true
are_data_lem l u = words_every is_data (λ x b. le-leb x 65535 (omega arith)) l u

pub field_words : {l : List ℕ} → Words 65536 l → Words 65537 l
field_words u = record { word = λ i. omega (arith, u.word i) }

-- blocks of one word again and again: those of zeros are blank, and data; those of 65536 are struck, and so words of the field
same_words : (f : ℕ → Bool) (n : ℕ) → ((x : ℕ) → f x ≡ true → x ≡ n) → (b : List ℕ) → every f b ≡ true → b ≡ replicate (length b) n
unfolding every
same_words f n is [] e = refl
same_words f n is (x ∷ b) e = ap₂ ◌∷◌ (is x (first_true (f x) (every f b) e)) (same_words f n is b (second_true (f x) (every f b) e))

pub zeros_blank : (n : ℕ) → is_blank (replicate n 0) ≡ true
zeros_blank n = every_same is_zero n 0 refl

pub blank_zeros : (b : List ℕ) → is_blank b ≡ true → b ≡ replicate (length b) 0
blank_zeros b e = same_words is_zero 0 (λ x t. eqb-true x 0 t) b e

pub zeros_data : (n : ℕ) → are_data (replicate n 0) ≡ true
zeros_data n = every_same is_data n 0 refl

pub struck_is_struck : (s : ℕ) → is_struck (struck_data s) ≡ true
struck_is_struck s = every_same is_struck_word s 65536 refl

pub struck_is_data : (b : List ℕ) → is_struck b ≡ true → b ≡ struck_data (length b)
struck_is_data b e = same_words is_struck_word 65536 (λ x t. eqb-true x 65536 t) b e

pub struck_words : (l : List ℕ) → is_struck l ≡ true → Words 65537 l
struck_words l e = every_words is_struck_word (lit< tt) (λ x t. omega (arith, eqb-true x 65536 t)) l e

-- THE DATA OF ONE RECORD: data words, or struck
pub data_fits : (b : List ℕ) → are_data b ≡ true → record_fits b ≡ true
data_fits b e = or_left (are_data b) (is_struck b) e

pub struck_fits : (s : ℕ) → record_fits (struck_data s) ≡ true
struck_fits s = or_right (are_data (struck_data s)) (is_struck (struck_data s)) (struck_is_struck s)

pub record_words : (b : List ℕ) → record_fits b ≡ true → Words 65537 b
record_words b e = ⊎_elim (λ t. field_words (data_words b t)) (λ t. struck_words b t) (or_cases (are_data b) (is_struck b) e)

-- record i of n stands inside
pub record_end : (n s i : ℕ) → i < n → i * s + s ≤ n * s
record_end n s i h = omega (arith, mul-le-mul_right s h)

pub length_record : (n s : ℕ) (r : List ℕ) (i : ℕ) → length r ≡ n * s → i < n → length (record_in s r i) ≡ s
length_record n s r i e h = length-take-le s (drop (i * s) r) (rw length-drop (omega (arith, record_end n s i h)))

pub word_of_record : (s : ℕ) (r : List ℕ) (i q : ℕ) → q < s → get_or (record_in s r i) q 0 ≡ get_or r (i * s + q) 0
word_of_record s r i q h = get_or-take s (drop (i * s) r) q 0 h ∙ get_or-drop (i * s) r q 0

pub replaced_is : (s : ℕ) (r : List ℕ) (i : ℕ) (b : List ℕ) → length b ≡ s → suc i * s ≤ length r
    → replaced s r i b ≡ take (i * s) r ++ (b ++ drop (suc i * s) r)
replaced_is s r i b e h =
    sets-eq b r (i * s) (omega arith) ∙ append_assoc (take (i * s) r) b (drop (i * s + length b) r)
    ∙ ap (λ (n : ℕ). take (i * s) r ++ (b ++ drop n r)) {x = i * s + length b} {y = suc i * s} (omega arith)

-- the record that is replaced, and any other
module _ (s : ℕ) (r : List ℕ) (j : ℕ) (b : List ℕ) (long : length b ≡ s) where
  pub record_same : j * s + s ≤ length r → record_in s (replaced s r j b) j ≡ b
  record_same h =
      rw (
        sets-eq b r (j * s) (omega arith),
        append_assoc (take (j * s) r) b (drop (j * s + length b) r),
        drop_at (take (j * s) r) _ (j * s) (length-take-le (j * s) r (omega arith)),
      )
      (take_at b (drop (j * s + length b) r) s long)

  pub record_other : (i : ℕ) → (j ≡ i → ⊥) → record_in s (replaced s r j b) i ≡ record_in s r i
  record_other i d = at (dec_lt i j)
    where
      at : Dec (i < j) → record_in s (replaced s r j b) i ≡ record_in s r i
      at (yes h) =
          let e = record_end j s i h in
          sym (part_inside (i * s) s (j * s) (sets r (j * s) b) e)
          ∙ ap (λ (x : List ℕ). take s (drop (i * s) x)) (take_sets (j * s) r (j * s) b (le_refl (j * s))) ∙ part_inside (i * s) s (j * s) r e
      at (no h) = ap (take s) (drop_sets (i * s) r (j * s) b (omega (arith, record_end i s j (omega arith))))

-- RECORDS FIT: where each does
pub fit_each : (s : ℕ) (r : List ℕ) (n : ℕ) → ((i : ℕ) → i < n → record_fits (record_in s r i) ≡ true) → records_fit s r n ≡ true
unfolding records_fit
fit_each s r zero e = refl
fit_each s r (suc n) e = both_true (fit_each s r n (λ i h. e i (omega arith))) (e n (omega arith))

-- and each does then
pub fit_one : (s : ℕ) (r : List ℕ) (n i : ℕ) → records_fit s r n ≡ true → i < n → record_fits (record_in s r i) ≡ true
unfolding records_fit
fit_one s r zero i e h = absurd (omega arith)
fit_one s r (suc n) i e h =
    let last = record_fits (record_in s r n) in
    ⊎_elim (λ q. ap (λ (j : ℕ). record_fits (record_in s r j)) q ∙ second_true (records_fit s r n) last e)
    (λ b. fit_one s r n i (first_true (records_fit s r n) last e) b) (eq-or-lt_of_le (omega arith))

-- not with one that does not
pub unfit_one : (s : ℕ) (r : List ℕ) (n i : ℕ) → i < n → record_fits (record_in s r i) ≡ false → records_fit s r n ≡ false
unfit_one s r n i h e = is_false (records_fit s r n) (λ t. false≢true (sym e ∙ fit_one s r n i t h))

-- as the library tells it of a chain over the records' numbers, f the test of one
pub fit_told : {f : ℕ → Bool} {b : Bool} (s : ℕ) (r : List ℕ) (n : ℕ) → ((i : ℕ) → f i ≡ record_fits (record_in s r i))
    → MatchBool b (AllWithin (λ i. f i ≡ true) (range_with_len 0 n) 0 (length (range_with_len 0 n)))
    ((k : ℕ) × (k < length (range_with_len 0 n)) × HoldsAt (λ i. f i ≡ false) (range_with_len 0 n) k)
    → b ≡ records_fit s r n
fit_told {f} {b = true} s r n e h =
    sym (fit_each s r n (λ i t. sym (e i) ∙ rw (get_or-range_with_len 0 n i 0 t, zero-add i) at (h i 0 (omega arith) (rw length-range_with_len t))))
fit_told {f} {b = false} s r n e h =
    let t : h.0 < n = rw length-range_with_len at h.1 in
    sym (unfit_one s r n h.0 t (sym (e h.0) ∙ rw (get_or-range_with_len 0 n h.0 0 t, zero-add h.0) at (h.2 0)))

-- they fit if all words are data
pub fit_all : (s : ℕ) (r : List ℕ) (n : ℕ) → are_data r ≡ true → records_fit s r n ≡ true
fit_all s r n e =
    fit_each s r n (λ i h. data_fits (record_in s r i) (are_data_lem (record_in s r i)
    (words_take 65536 (lit< tt) s (words_drop 65536 (lit< tt) (i * s) (data_words r e)))))

-- and still with another in the place of one
pub fit_replaced : (s : ℕ) (r : List ℕ) (n j : ℕ) (b : List ℕ) → length r ≡ n * s → length b ≡ s → j < n → record_fits b ≡ true → records_fit s r n ≡ true
    → records_fit s (replaced s r j b) n ≡ true
fit_replaced s r n j b long size within f e = fit_each s (replaced s r j b) n (λ i h. at i h (eqb i j) refl)
  where
    at : (i : ℕ) → i < n → (c : Bool) → eqb i j ≡ c → record_fits (record_in s (replaced s r j b) i) ≡ true
    at i h true q =
        ap (λ (x : ℕ). record_fits (record_in s (replaced s r j b) x)) (eqb-true i j q)
        ∙ ap record_fits (record_same s r j b size (rw long (record_end n s j within))) ∙ f
    at i h false q = ap record_fits (record_other s r j b size i (λ t. eqb-false i j q (sym t))) ∙ fit_one s r n i e h

-- THEIR WORDS are words of the field
front_words : (s : ℕ) (r : List ℕ) (n : ℕ) → records_fit s r n ≡ true → Words 65537 (take (n * s) r)
unfolding records_fit
front_words s r zero e = rw zero-mul (words_nil 65537 (lit< tt))
front_words s r (suc n) e =
    let size : suc n * s ≡ n * s + s = omega arith in
    let last = record_fits (record_in s r n) in
    rw (size, take-add (n * s) s r)
    (words_append 65537 (lit< tt) {a = take (n * s) r} (front_words s r n (first_true (records_fit s r n) last e))
    (record_words (record_in s r n) (second_true (records_fit s r n) last e)))

pub records_words : (s : ℕ) (r : List ℕ) (n : ℕ) → length r ≡ n * s → records_fit s r n ≡ true → Words 65537 r
records_words s r n long e = rw (take_all (n * s) r (omega arith)) at (front_words s r n e)
