-- Rows laid over records: `laid` of the rows of some entries is `put_all`, and all records of a list put over any other are the list. Assumes nothing.
use mathlib.Core.Path.{◌≡◌, refl, sym, ap, ap₂, ◌∙◌}
use mathlib.Core.Bool.{true}
use mathlib.Core.List.{List, [], ◌∷◌, ◌++◌, append_assoc, append-nil}
use Prim.Native.Nat.{ℕ, zero, suc, ◌+◌, ◌*◌, ◌^◌, ◌≤◌, ◌<◌}
use native.Mathlib.Nat.{zero-mul, suc-mul, add-zero}
use native.Mathlib.Omega.{arith}
use lib.ListN.{length, get_or, take, drop, drop_of_length-le, length-append, length-drop}
use lib.Seq.{take_all, drop-nil, take-suc, drop-cons, take_at, drop_at, drop-append-add, get_or-drop, drop-drop, take-add, length-take-le}
use Rattle.field.specs.Words.{Words}
use Rattle.field.proofs.WordLists.{words_part}
use Rattle.layout.specs.Records.{record_in, replaced, records_fit}
use Rattle.store.specs.Buffers.{blocks_from}
use Rattle.judging.specs.Decoding.{block_number, block_data}
use Rattle.range_laying.specs.Laid.{laid}
use Rattle.vault.specs.Event.{Entry}
use Rattle.vault.specs.Round.{put_all, rows_of}
use Rattle.vault.proofs.Rounds.{Taken, AllTaken, none, more, put_append}
use Rattle.store.proofs.StoredRecords.{reduced_same}
use Rattle.layout.proofs.RecordWords.{length_record, record_end, replaced_is, fit_one}

-- entry j
abbrev pub no_entry : Entry
no_entry = record { number = 0; block = [] }

module _ {k s : ℕ} where
  pub entry_at : {xs : List Entry} → AllTaken k s xs → (j : ℕ) → j < length xs → Taken k s (get_or xs j no_entry)
  entry_at none j h = absurd (omega arith)
  entry_at (more f E) zero h = f
  entry_at (more f E) (suc j) h = entry_at E j (omega arith)

  -- rows j, j + 1, ..
  rows_drop : {xs : List Entry} → AllTaken k s xs → (j : ℕ) → drop (j * suc s) (rows_of xs) ≡ rows_of (drop j xs)
  unfolding rows_of
  rows_drop none j = drop-nil (j * suc s) ∙ ap rows_of (sym (drop-nil j))
  rows_drop (more {x} {xs} f E) zero = ap (λ (n : ℕ). drop n (rows_of (x ∷ xs))) (zero-mul (suc s))
  rows_drop (more {x} {xs} f E) (suc j) =
      let row = x.number ∷ x.block in
      ap (λ (n : ℕ). drop n (row ++ rows_of xs)) {x = suc j * suc s} {y = length row + j * suc s} (omega (arith, f.long))
      ∙ drop-append-add row (rows_of xs) (j * suc s) ∙ rows_drop E j

  row_at : {xs : List Entry} → AllTaken k s xs → (j : ℕ) → j < length xs
      → drop (j * suc s) (rows_of xs) ≡ ((get_or xs j no_entry).number ∷ (get_or xs j no_entry).block) ++ rows_of (drop (suc j) xs)
  unfolding rows_of
  row_at {xs} E j h = rows_drop E j ∙ ap rows_of (drop-cons xs j no_entry h)

module _ {k s : ℕ} {xs : List Entry} (E : AllTaken k s xs) where
  -- block j
  module _ (j : ℕ) (lt : j < length xs) where
    pub number_at : block_number (suc s) (rows_of xs) j ≡ (get_or xs j no_entry).number
    number_at =
        ap (λ (n : ℕ). get_or (rows_of xs) n 0) (sym (add-zero (j * suc s))) ∙ sym (get_or-drop (j * suc s) (rows_of xs) 0 0)
        ∙ ap (λ (l : List ℕ). get_or l 0 0) (row_at E j lt)

    pub data_at : block_data (suc s) (rows_of xs) j ≡ (get_or xs j no_entry).block
    data_at =
        ap (λ (n : ℕ). take s (drop n (rows_of xs))) {x = suc (j * suc s)} {y = j * suc s + 1} (omega arith)
        ∙ ap (take s) (sym (drop-drop 1 (j * suc s) (rows_of xs)) ∙ ap (drop 1) (row_at E j lt))
        ∙ take_at (get_or xs j no_entry).block (rows_of (drop (suc j) xs)) s (entry_at E j lt).long

  -- rows laid over records put their entries
  laid_take : (r : List ℕ) (j : ℕ) → j ≤ length xs → laid s (rows_of xs) j r ≡ put_all s r (take j xs)
  unfolding laid put_all
  laid_take r zero b = refl
  laid_take r (suc j) b =
      let lt : j < length xs = omega arith in
      rw (laid_take r j (omega arith), number_at j lt, data_at j lt, take-suc xs j no_entry lt, put_append s r (take j xs) (get_or xs j no_entry ∷ []))

  pub laid_put : (r : List ℕ) (n : ℕ) → length xs ≡ n → laid s (rows_of xs) n r ≡ put_all s r xs
  laid_put r n e = laid_take r n (omega arith) ∙ ap (put_all s r) (take_all n xs (omega arith))

-- RECORDS AS ENTRIES: n records of a list, from record i on
unfoldable pub numbered : (s : ℕ) → (raw : List ℕ) → (i n : ℕ) → List Entry
numbered s r i zero = []
numbered s r i (suc n) = record { number = i; block = record_in s r i } ∷ numbered s r (suc i) n

pub length_numbered : (s : ℕ) (r : List ℕ) (i n : ℕ) → length (numbered s r i n) ≡ n
unfolding numbered
length_numbered s r i zero = refl
length_numbered s r i (suc n) = ap suc (length_numbered s r (suc i) n)

pub number_numbered : (s : ℕ) (r : List ℕ) (i n j : ℕ) → j < n → (get_or (numbered s r i n) j no_entry).number ≡ i + j
unfolding numbered
number_numbered s r i zero j h = absurd (omega arith)
number_numbered s r i (suc n) zero h = sym (add-zero i)
number_numbered s r i (suc n) (suc j) h = number_numbered s r (suc i) n j (omega arith) ∙ omega arith

pub block_numbered : (s : ℕ) (r : List ℕ) (i n j : ℕ) → j < n → (get_or (numbered s r i n) j no_entry).block ≡ record_in s r (i + j)
unfolding numbered
block_numbered s r i zero j h = absurd (omega arith)
block_numbered s r i (suc n) zero h = ap (record_in s r) (sym (add-zero i))
block_numbered s r i (suc n) (suc j) h = block_numbered s r (suc i) n j (omega arith) ∙ ap (record_in s r) {x = suc i + j} {y = i + suc j} (omega arith)

module _ (k s : ℕ) (r : List ℕ) (long : length r ≡ 2 ^ k * s) where
  pub numbered_fit : records_fit s r (2 ^ k) ≡ true → (i n : ℕ) → i + n ≤ 2 ^ k → AllTaken k s (numbered s r i n)
  unfolding numbered
  numbered_fit u i zero h = none
  numbered_fit u i (suc n) h =
      more {x = record { number = i; block = record_in s r i }} (record {
        within = omega arith;
        long = length_record (2 ^ k) s r i long (omega arith);
        fits = fit_one s r (2 ^ k) i u (omega arith);
      })
      (numbered_fit u (suc i) n (omega arith))

  -- put over as many words, they are the list
  module _ (z : List ℕ) (e : length z ≡ 2 ^ k * s) where
    -- when i are put
    abbrev up_to : ℕ → List ℕ
    up_to i = take (i * s) r ++ drop (i * s) z

    put_next : (i : ℕ) → i < 2 ^ k → replaced s (up_to i) i (record_in s r i) ≡ up_to (suc i)
    put_next i b =
        let front : length (take (i * s) r) ≡ i * s = length-take-le (i * s) r (omega (arith, record_end (2 ^ k) s i b)) in
        let whole : length (up_to i) ≡ 2 ^ k * s =
        length-append (take (i * s) r) (drop (i * s) z) ∙ omega (arith, front, length-drop (i * s) z, record_end (2 ^ k) s i b) in
        replaced_is s (up_to i) i (record_in s r i) (length_record (2 ^ k) s r i long b) (omega (arith, whole, record_end (2 ^ k) s i b))
        ∙ rw (
          suc-mul i s,
          take_at (take (i * s) r) (drop (i * s) z) (i * s) front,
          ← drop-drop s (i * s) (up_to i),
          drop_at (take (i * s) r) (drop (i * s) z) (i * s) front,
          drop-drop s (i * s) z,
          take-add (i * s) s r,
          append_assoc (take (i * s) r) (record_in s r i) (drop (i * s + s) z),
        )

    put_from : (i n : ℕ) → i + n ≡ 2 ^ k → put_all s (up_to i) (numbered s r i n) ≡ r
    unfolding numbered put_all
    put_from i zero h =
        let all : i * s ≡ 2 ^ k * s = ap (λ (j : ℕ). j * s) (omega arith) in
        ap₂ ◌++◌ (take_all (i * s) r (omega arith)) (drop_of_length-le z {i = i * s} (omega arith)) ∙ append-nil r
    put_from i (suc n) h = ap (λ (y : List ℕ). put_all s y (numbered s r (suc i) n)) (put_next i (omega arith)) ∙ put_from (suc i) n (omega arith)

    pub put_all_lem : put_all s z (numbered s r 0 (2 ^ k)) ≡ r
    put_all_lem =
        let none : up_to 0 ≡ z = ap (λ (q : ℕ). take q r ++ drop q z) (zero-mul s) in
        ap (λ (y : List ℕ). put_all s y (numbered s r 0 (2 ^ k))) (sym none) ∙ put_from 0 (2 ^ k) (omega arith)

-- blocks of records whose words are below p are these entries' rows
pub blocks_rows : (p s : ℕ) (r : List ℕ) → 0 < p → Words p r → (i n : ℕ) → blocks_from p s r i n ≡ rows_of (numbered s r i n)
unfolding blocks_from rows_of numbered
blocks_rows p s r z u i zero = refl
blocks_rows p s r z u i (suc n) =
    ap₂ (λ (a c : List ℕ). (i ∷ a) ++ c) (reduced_same p (record_in s r i) (words_part p z s (i * s) u)) (blocks_rows p s r z u (suc i) n)
