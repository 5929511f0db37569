-- GOOD ROUNDS: what every history keeps of a round. Laws of the entries written since, of their rows, and of putting them into the records.
-- Assumes nothing.
use mathlib.Core.Path.{◌≡◌, refl, sym, ap, ◌∙◌}
use mathlib.Core.Bool.{true}
use mathlib.Core.Logic.{⊎_elim}
use mathlib.Core.List.{List, [], ◌∷◌, ◌++◌, append_assoc}
use Prim.Native.Nat.{ℕ, zero, suc, ◌*◌, ◌^◌, ◌≤◌, ◌<◌, ◌-◌, ◌+◌}
use native.Mathlib.Nat.{zero-mul, eq-or-lt_of_le, suc-le-suc_iff}
use native.Mathlib.Omega.{arith}
use lib.Dec.{lit<}
use lib.ListN.{length, take, drop, length-append, length-drop, get_or, get_or-append}
use lib.Seq.{length-take-le, get_or-append-add, length-sets}
use lib.Pow.{pow_mono}
use borrow.Author.Tests.{le-leb, lt-ltb}
use Rattle.field.specs.Words.{Words}
use Rattle.field.proofs.WordLists.{words_nil, words_cons, words_append}
use Rattle.code.specs.Rows.{Column}
use Rattle.field.proofs.Booleans.{both_true}
use Rattle.layout.specs.Header.{header_of, is_in, header_fits, raw_size, full_size, log_size, is_filled, first_of}
use Rattle.layout.specs.Records.{record_fits, replaced, records_fit}
use Rattle.store.specs.Buffers.{blocks_of}
use Rattle.store.specs.StoreCalls.{buffers_fit}
use Rattle.vault.specs.Event.{Entry}
use Rattle.vault.specs.Round.{Round, put_all, before_each, rows_of, records_in, round_header, level_entries, represent}
use Rattle.layout.proofs.Bounds.{fits}
use Rattle.layout.proofs.RecordWords.{record_words, fit_replaced}
use Rattle.layout.proofs.Refusals.{equal_three}
use Rattle.store.proofs.StoredRecords.{length_blocks, words_blocks, length_full}
use Rattle.vault.proofs.Levels.{filled_in, length_log}

-- k from 1 to 10 and s from 1 to 128
pub record Sizes (k s : ℕ) : Type 0 where
  pub k_low : 1 ≤ k
  pub k_high : k ≤ 10
  pub s_low : 1 ≤ s
  pub s_high : s ≤ 128

pub sizes_fit : (k s c : ℕ) → Sizes k s → c < 2 ^ k → header_fits (header_of k s c) ≡ true
sizes_fit k s c z b =
    both_true (is_in_true 1 10 k z.k_low z.k_high) (both_true (is_in_true 1 128 s z.s_low z.s_high) (lt-ltb c (2 ^ k) b))
  where
    is_in_true : (a b x : ℕ) → a ≤ x → x ≤ b → is_in a b x ≡ true
    is_in_true a b x l h = both_true (le-leb a x l) (le-leb x b h)

pub fit_sizes : (k s c : ℕ) → header_fits (header_of k s c) ≡ true → Sizes k s
fit_sizes k s c e =
    let f = fits (header_of k s c) e in
    record { k_low = f.k_low; k_high = f.k_high; s_low = f.s_low; s_high = f.s_high }

-- a write or a strike that was taken: a record's number, and s words that may be the data of a record
pub record Taken (k s : ℕ) (x : Entry) : Type 0 where
  pub within : x.number < 2 ^ k
  pub long : length x.block ≡ s
  pub fits : record_fits x.block ≡ true

pub data AllTaken (k s : ℕ) : List Entry → Type 0 where
  none : AllTaken k s []
  more : {x : Entry} {xs : List Entry} → Taken k s x → AllTaken k s xs → AllTaken k s (x ∷ xs)

-- THE INVARIANT of rounds: n records of s words, each of which may be the data of one, and since then fewer than n writes, each taken
pub record Good (a : Round) : Type 0 where
  pub sizes : Sizes a.k a.s
  pub base_long : length a.base ≡ 2 ^ a.k * a.s
  pub base_fits : records_fit a.s a.base (2 ^ a.k) ≡ true
  pub taken : AllTaken a.k a.s a.since
  pub few : length a.since < 2 ^ a.k

-- parts of what was taken
pub taken_append : {k s : ℕ} {xs ys : List Entry} → AllTaken k s xs → AllTaken k s ys → AllTaken k s (xs ++ ys)
taken_append none u = u
taken_append (more h t) u = more h (taken_append t u)

pub taken_take : {k s : ℕ} {xs : List Entry} (n : ℕ) → AllTaken k s xs → AllTaken k s (take n xs)
taken_take zero t = none
taken_take (suc n) none = none
taken_take (suc n) (more h t) = more h (taken_take n t)

pub taken_drop : {k s : ℕ} {xs : List Entry} (n : ℕ) → AllTaken k s xs → AllTaken k s (drop n xs)
taken_drop zero t = t
taken_drop (suc n) none = none
taken_drop (suc n) (more h t) = taken_drop n t

-- THE ROWS of entries
pub rows_append : (xs ys : List Entry) → rows_of (xs ++ ys) ≡ rows_of xs ++ rows_of ys
unfolding rows_of
rows_append [] ys = refl
rows_append (x ∷ xs) ys = rw (rows_append xs ys) (sym (append_assoc (x.number ∷ x.block) (rows_of xs) (rows_of ys)))

pub length_rows : {k s : ℕ} {xs : List Entry} → AllTaken k s xs → length (rows_of xs) ≡ length xs * suc s
unfolding rows_of
length_rows {s} none = sym (zero-mul (suc s))
length_rows (more {x = x} {xs = xs} h t) = ap suc (length-append x.block (rows_of xs)) ∙ omega (arith, h.long, length_rows t)

pub words_rows : {k s : ℕ} {xs : List Entry} → k ≤ 10 → AllTaken k s xs → Words 65537 (rows_of xs)
unfolding rows_of
words_rows b none = words_nil 65537 (lit< tt)
words_rows b (more {x = x} h t) =
    words_cons 65537 (lit< tt) (omega (arith, h.within, pow_mono b)) (words_append 65537 (lit< tt) {a = x.block} (record_words x.block h.fits) (words_rows b t))

pub rows_column : {k s : ℕ} {xs : List Entry} (n : ℕ) → k ≤ 10 → AllTaken k s xs → length xs ≡ n → Column 65537 (n * suc s) (rows_of xs)
rows_column {s} n b t e = record { long = length_rows t ∙ ap (λ (m : ℕ). m * suc s) e; words = words_rows b t }

-- WRITES into the records
pub put_append : (s : ℕ) (r : List ℕ) (xs ys : List Entry) → put_all s r (xs ++ ys) ≡ put_all s (put_all s r xs) ys
unfolding put_all
put_append s r [] ys = refl
put_append s r (x ∷ xs) ys = put_append s (replaced s r x.number x.block) xs ys

pub length_put : {k s : ℕ} {xs : List Entry} (r : List ℕ) → length r ≡ 2 ^ k * s → AllTaken k s xs → length (put_all s r xs) ≡ 2 ^ k * s
unfolding put_all
length_put r e none = e
length_put {k} {s} r e (more {x = x} h t) =
    length_put (replaced s r x.number x.block) (length-sets r (x.number * s) x.block ∙ e) t

pub fit_put : {k s : ℕ} {xs : List Entry} (r : List ℕ) → length r ≡ 2 ^ k * s → records_fit s r (2 ^ k) ≡ true → AllTaken k s xs
    → records_fit s (put_all s r xs) (2 ^ k) ≡ true
unfolding put_all
fit_put r e f none = f
fit_put {k} {s} r e f (more {x = x} h t) =
    fit_put (replaced s r x.number x.block) (length-sets r (x.number * s) x.block ∙ e)
    (fit_replaced s r (2 ^ k) x.number x.block e h.long h.within h.fits f) t

-- what is remembered before each: one more write remembers the records that it finds
pub before_append : (s : ℕ) (r : List ℕ) (xs : List Entry) (x : Entry) → before_each s r (xs ++ (x ∷ [])) ≡ put_all s r xs ∷ before_each s r xs
unfolding put_all before_each
before_append s r [] x = refl
before_append s r (y ∷ xs) x = ap (λ (l : List (List ℕ)). l ++ (r ∷ [])) (before_append s (replaced s r y.number y.block) xs x)

pub length_before : (s : ℕ) (r : List ℕ) (xs : List Entry) → length (before_each s r xs) ≡ length xs
unfolding before_each
length_before s r [] = refl
length_before s r (x ∷ xs) =
    let r' = replaced s r x.number x.block in
    length-append (before_each s r' xs) (r ∷ []) ∙ omega (arith, length_before s r' xs)

pub before_at : (s : ℕ) (r : List ℕ) (xs : List Entry) (i : ℕ) → i < length xs → get_or (before_each s r xs) i [] ≡ put_all s r (take (length xs - suc i) xs)
unfolding put_all before_each
before_at s r [] i b = absurd (omega arith)
before_at s r (x ∷ xs) i b = ⊎_elim oldest (λ d. newer d (before_at s (replaced s r x.number x.block) xs i d)) (eq-or-lt_of_le (suc-le-suc_iff.0 b))
  where
    r' : List ℕ
    r' = replaced s r x.number x.block

    oldest : i ≡ length xs → get_or (before_each s r' xs ++ (r ∷ [])) i [] ≡ put_all s r (take (suc (length xs) - suc i) (x ∷ xs))
    oldest e =
        let z : suc (length xs) - suc i ≡ 0 = omega arith in
        let d : i ≡ length (before_each s r' xs) + 0 = omega (arith, length_before s r' xs) in
        rw z (ap (λ (j : ℕ). get_or (before_each s r' xs ++ (r ∷ [])) j []) d ∙ get_or-append-add (before_each s r' xs) (r ∷ []) 0 [])

    newer : i < length xs → get_or (before_each s r' xs) i [] ≡ put_all s r' (take (length xs - suc i) xs)
        → get_or (before_each s r' xs ++ (r ∷ [])) i [] ≡ put_all s r (take (suc (length xs) - suc i) (x ∷ xs))
    newer d rest =
        let z : suc (length xs) - suc i ≡ suc (length xs - suc i) = omega arith in
        rw z (get_or-append (before_each s r' xs) (r ∷ []) [] i (rw length_before d) ∙ rest)

-- OF A GOOD ROUND: the records now, the header, the rows of a filled level, and the blocks of the full stripe
module _ {a : Round} (good : Good a) where
  pub records_long : length (records_in a) ≡ 2 ^ a.k * a.s
  records_long = length_put a.base good.base_long good.taken

  pub header_fits_lem : header_fits (round_header a) ≡ true
  header_fits_lem = sizes_fit a.k a.s (length a.since) good.sizes good.few

  -- the buffers that it represents have their lengths
  pub buffers_fit_lem : buffers_fit (round_header a) (represent a) ≡ true
  buffers_fit_lem =
      let h = round_header a in
      let u = represent a in
      equal_three (length u.raw) (raw_size h) (length u.full) (full_size h) (length u.log) (log_size h) records_long (length_full h a.base)
      (length_log h a.since a.k)

  pub length_entries : (l : ℕ) → l < a.k → is_filled (round_header a) l ≡ true → length (level_entries (round_header a) a.since l) ≡ 2 ^ l
  length_entries l b e =
      let h = round_header a in
      length-take-le (2 ^ l) (drop (first_of h l) a.since) (rw length-drop (omega (arith, filled_in h l b e)))

  pub level_column : (l : ℕ) → l < a.k → is_filled (round_header a) l ≡ true
      → Column 65537 (2 ^ l * suc a.s) (rows_of (level_entries (round_header a) a.since l))
  level_column l b e =
      rows_column (2 ^ l) good.sizes.k_high (taken_take (2 ^ l) (taken_drop (first_of (round_header a) l) good.taken)) (length_entries l b e)

  pub base_column : (c : ℕ) → Column 65537 (2 ^ a.k * suc a.s) (blocks_of (header_of a.k a.s c) a.base)
  base_column c = record {
    long = length_blocks 65537 (2 ^ a.k) a.s a.base 0 (2 ^ a.k) good.base_long (omega arith);
    words = words_blocks 65537 a.s (lit< tt) a.base 0 (2 ^ a.k) (omega (arith, pow_mono good.sizes.k_high));
  }
