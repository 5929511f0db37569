-- What an image of a round's words decodes to: the full stripe to the records of the round's start, a filled level to the writes that it holds. Each stripe may
-- be taken from another image. Assumes nothing.
use mathlib.Core.Path.{◌≡◌, refl, sym, ap, ap₂, ◌∙◌}
use mathlib.Core.Bool.{Bool, true, false}
use mathlib.Core.Logic.{inl, inr}
use mathlib.Core.List.{List, ◌++◌}
use Prim.Native.Nat.{ℕ, zero, suc, ◌+◌, ◌*◌, ◌^◌, ◌≤◌, ◌<◌}
use native.Mathlib.Nat.{add_assoc, zero-add, le_refl}
use native.Mathlib.Omega.{arith}
use lib.Arith.{digits_lt}
use lib.Dec.{lit<}
use lib.ListN.{length, get_or, drop, get_or-append}
use lib.Seq.{get_or-take, get_or-drop, get_or-append-add}
use borrow.Author.Tests.{lt-ltb, eq-eqb, ne_eqb}
use Rattle.field.specs.Words.{Words}
use Rattle.field.proofs.WordLists.{words_nil, words_append, words_replicate}
use Rattle.code.specs.Stripe.{coded_rows, coded_stripe}
use Rattle.field.proofs.Booleans.{both_true}
use Rattle.decoder.specs.Decoding.{survivors}
use Rattle.layout.specs.declared.Header.{Header}
use Rattle.layout.specs.Header.{vault_root, width, full_size, is_full, is_filled, first_of, level_at, stripe_size, stripe_at, stripe_of}
use Rattle.layout.specs.Records.{record_fits}
use Rattle.store.specs.Buffers.{full_stripe, blocks_of}
use Rattle.image.specs.Image.{image_of, word_at}
use Rattle.image.specs.Erasures.{erasures_in}
use Rattle.judging.specs.Decoding.{Decoded, decoded, number_fits, block_number, block_data, is_record, are_records}
use Rattle.stripe_decoding.specs.Decoding.{decode_stripe}
use Rattle.vault.specs.Event.{Entry}
use Rattle.vault.specs.Round.{Round, rows_of, round_header, level_entries, level_words, log_words}
use Rattle.vault.specs.promises.Decoding.{marks, Half}
use Rattle.vault.specs.promises.Losses.{Needed, KeepsHalf, SameStripe, SameWords}
use Rattle.layout.proofs.RecordWords.{records_words}
use Rattle.store.proofs.StoredRecords.{length_full}
use Rattle.vault.proofs.Levels.{level_filled, level_empty, level_place}
use Rattle.layout.proofs.StripePlaces.{first_full}
use Rattle.image.proofs.ImageWords.{word_back}
use Rattle.code.proofs.CodedRows.{words_coded_rows}
use Rattle.vault.proofs.Loading.{decodes_kept}
use Rattle.vault.proofs.Rounds.{AllTaken, Good, taken_take, taken_drop, words_rows, rows_column, header_fits_lem, length_entries, base_column}
use Rattle.vault.proofs.Laying.{no_entry, entry_at, number_at, data_at, numbered, length_numbered, number_numbered, numbered_fit, blocks_rows}

-- rows of entries are records where their numbers fit
module _ {k : ℕ} (h : Header) {xs : List Entry} (E : AllTaken k h.s xs) (l : ℕ)
    (fit : (j : ℕ) → j < length xs → number_fits (stripe_of h l) j (get_or xs j no_entry).number ≡ true) where
  is_record_lem : (j : ℕ) → j < length xs → is_record (stripe_of h l) (rows_of xs) j ≡ true
  is_record_lem j lt =
      both_true {a = number_fits (stripe_of h l) j (block_number (width h) (rows_of xs) j)} {b = record_fits (block_data (width h) (rows_of xs) j)}
      (rw (number_at E j lt) (fit j lt)) (rw (data_at E j lt) (entry_at E j lt).fits)

  pub are_records_lem : (n : ℕ) → n ≤ length xs → are_records (stripe_of h l) (rows_of xs) n ≡ true
  unfolding are_records
  are_records_lem zero b = refl
  are_records_lem (suc j) b = both_true (is_record_lem j (omega arith)) (are_records_lem j (omega arith))

-- a level's entries were taken
pub level_taken : {a : Round} → Good a → (l : ℕ) → AllTaken a.k a.s (level_entries (round_header a) a.since l)
level_taken {a} good l = taken_take (2 ^ l) (taken_drop (first_of (round_header a) l) good.taken)

module _ {a : Round} (good : Good a) where
  abbrev h : Header
  h = round_header a

  abbrev full : List ℕ
  full = full_stripe h a.base

  abbrev log : List ℕ
  log = log_words h a.since a.k

  -- the records of the round's start as entries, which the full stripe codes
  abbrev pub start : List Entry
  start = numbered a.s a.base 0 (2 ^ a.k)

  pub start_taken : AllTaken a.k a.s start
  start_taken = numbered_fit a.k a.s a.base good.base_long good.base_fits 0 (2 ^ a.k) (omega arith)

  pub length_start : length start ≡ 2 ^ a.k
  length_start = length_numbered a.s a.base 0 (2 ^ a.k)

  pub start_rows : blocks_of h a.base ≡ rows_of start
  start_rows = blocks_rows 65537 a.s a.base (lit< tt) (records_words a.s a.base (2 ^ a.k) good.base_long good.base_fits) 0 (2 ^ a.k)

  -- the numbers of a level's entries are records', and those of the full stripe's are their places
  pub level_numbers : (l : ℕ) → l < a.k → (j : ℕ) → j < length (level_entries h a.since l)
      → number_fits (stripe_of h l) j (get_or (level_entries h a.since l) j no_entry).number ≡ true
  level_numbers l lt j b =
      rw (
        ne_eqb l a.k (λ t. omega arith),
        number_fits,
      ) (lt-ltb (get_or (level_entries h a.since l) j no_entry).number (2 ^ a.k) (entry_at (level_taken good l) j b).within)

  pub full_numbers : (j : ℕ) → j < length start → number_fits (stripe_of h a.k) j (get_or start j no_entry).number ≡ true
  full_numbers j b =
      let is_k : is_full h a.k ≡ true = eq-eqb a.k a.k refl in
      rw (is_k, number_fits)
      (eq-eqb (get_or start j no_entry).number j (number_numbered a.s a.base 0 (2 ^ a.k) j (omega (arith, length_start)) ∙ zero-add j))

  -- words of the field
  words_full : Words 65537 full
  words_full = words_coded_rows 65537 (vault_root h) a.k a.k 0 (width h) (lit< tt) (base_column good h.c).words

  words_level : (l : ℕ) → Words 65537 (level_words h a.since l)
  words_level l = go (is_filled h l) refl
    where
      go : (b : Bool) → is_filled h l ≡ b → Words 65537 (level_words h a.since l)
      go true e =
          rw (level_filled h a.since l e)
          (words_coded_rows 65537 (vault_root h) a.k l (first_of h l) (width h) (lit< tt) (words_rows good.sizes.k_high (level_taken good l)))
      go false e = rw (level_empty h a.since l e) (words_replicate 65537 (lit< tt) (stripe_size h l) 0 (lit< tt))

  words_log : (n : ℕ) → Words 65537 (log_words h a.since n)
  unfolding log_words
  words_log zero = words_nil 65537 (lit< tt)
  words_log (suc l) = words_append 65537 (lit< tt) {a = log_words h a.since l} (words_log l) (words_level l)

  words_all : Words 65537 (full ++ log)
  words_all = words_append 65537 (lit< tt) {a = full} words_full (words_log a.k)

  -- where the stripes stand
  full_at : (q : ℕ) → q < full_size h → get_or (full ++ log) (stripe_at h a.k + q) 0 ≡ get_or full q 0
  full_at q b =
      rw (eq-eqb a.k a.k refl, stripe_at, zero-add q) (get_or-append full log 0 q (rw (length_full h a.base) b))

  level_at_lem : (l : ℕ) → l < a.k → (q : ℕ) → q < stripe_size h l → get_or (full ++ log) (stripe_at h l + q) 0 ≡ get_or (level_words h a.since l) q 0
  level_at_lem l lt q b =
      rw (ne_eqb l a.k (λ t. omega arith), stripe_at, add_assoc (full_size h) (level_at h l) q, ← length_full h a.base)
      (get_or-append-add full log (level_at h l + q) 0 ∙ sym (get_or-drop (level_at h l) log q 0)
      ∙ sym (get_or-take (stripe_size h l) (drop (level_at h l) log) q 0 b) ∙ ap (λ (x : List ℕ). get_or x q 0) (level_place h a.since l a.k lt))

  -- an image with the words that survive
  module _ (e m : List ℕ) where
    abbrev Kept : ℕ → Type 0
    Kept l = SameStripe h e (image_of full log) m l

    kept_word : (l i j : ℕ) → Kept l → i < 2 ^ suc l → j < width h → get_or (marks h e l) i false ≡ false
        → word_at m (stripe_at h l + (i * width h + j)) ≡ get_or (full ++ log) (stripe_at h l + (i * width h + j)) 0
    kept_word l i j same b c free = sym (same i j b c free) ∙ word_back 65537 (lit< tt) (full ++ log) words_all (stripe_at h l + (i * width h + j))

    -- a stripe that codes the rows of some entries, and keeps half, decodes to them, whatever is left of the others
    rows_decode : (l : ℕ) → l ≤ a.k → Kept l → 2 ^ l ≤ length (survivors l (marks h e l))
        → (xs : List Entry) → AllTaken a.k a.s xs → length xs ≡ 2 ^ l
        → ((j : ℕ) → j < length xs → number_fits (stripe_of h l) j (get_or xs j no_entry).number ≡ true)
        → ((q : ℕ) → q < 2 ^ suc l * width h → get_or (full ++ log) (stripe_at h l + q) 0 ≡ get_or (coded_stripe (stripe_of h l) (rows_of xs)) q 0)
        → decode_stripe h m (erasures_in e) l ≡ decoded (rows_of xs)
    rows_decode l within same half xs E n fit at =
        decodes_kept h m e l (rows_of xs) (header_fits_lem good) within (rows_column (2 ^ l) good.sizes.k_high E n)
        (λ i j b c free. kept_word l i j same b c free ∙ at (i * width h + j) (digits_lt b c)) half (are_records_lem h E l fit (2 ^ l) (omega arith))

    pub level_decodes : (l : ℕ) → l < a.k → is_filled h l ≡ true → Kept l → 2 ^ l ≤ length (survivors l (marks h e l))
        → decode_stripe h m (erasures_in e) l ≡ decoded (rows_of (level_entries h a.since l))
    level_decodes l lt filled same half =
        let E = level_taken good l in
        rows_decode l (omega arith) same half (level_entries h a.since l) E (length_entries good l lt filled) (level_numbers l lt)
        (λ q b. level_at_lem l lt q b ∙ ap (λ (x : List ℕ). get_or x q 0) (level_filled h a.since l filled))

    pub full_decodes : Kept a.k → 2 ^ a.k ≤ length (survivors a.k (marks h e a.k)) → decode_stripe h m (erasures_in e) a.k ≡ decoded (blocks_of h a.base)
    full_decodes same half =
        rows_decode a.k (le_refl a.k) same half start start_taken length_start full_numbers
        (λ q b. full_at q b ∙ ap₂ (λ (t : ℕ) (x : List ℕ). get_or (coded_rows 65537 (vault_root h) a.k a.k t (width h) x) q 0)
        (sym (first_full h a.k refl)) start_rows)
        ∙ ap decoded (sym start_rows)

-- A STRIPE TAKEN from an image with the words of another that survive, under a list that leaves half of it; and a decoding that takes each needed one so
pub record TakenFrom (h : Header) (original : List ℕ) (l : ℕ) (x : Decoded) : Type 0 where
  pub image : List ℕ
  pub erasures : List ℕ
  pub is : x ≡ decode_stripe h image (erasures_in erasures) l
  pub half : Half h erasures l
  pub same : SameStripe h erasures original image l

abbrev pub TakesAll : Header → (original : List ℕ) → (decoding : ℕ → Decoded) → Type 0
TakesAll h original d = (l : ℕ) → Needed h l → TakenFrom h original l (d l)

-- one image and its list are such a decoding
pub takes_one : {h : Header} {e original m : List ℕ} → KeepsHalf h e → SameWords h e original m → TakesAll h original (decode_stripe h m (erasures_in e))
takes_one {e} {m} K S l need = record { image = m; erasures = e; is = refl; half = K.half l need; same = S.same l need }

-- of a round's image it gives what the round's stripes code
pub record DecodesTo (h : Header) (a : Round) (d : ℕ → Decoded) : Type 0 where
  pub full : d h.k ≡ decoded (blocks_of h a.base)
  pub levels : (l : ℕ) → l < h.k → is_filled h l ≡ true → d l ≡ decoded (rows_of (level_entries h a.since l))

pub round_decodes : {a : Round} → Good a → (d : ℕ → Decoded)
    → TakesAll (round_header a) (image_of (full_stripe (round_header a) a.base) (log_words (round_header a) a.since a.k)) d
    → DecodesTo (round_header a) a d
round_decodes {a} good d T =
    let f = T a.k (inl (eq-eqb a.k a.k refl)) in
    record {
      full = f.is ∙ full_decodes good f.erasures f.image f.same f.half;
      levels = λ l b filled.
          let t = T l (inr (b, filled)) in
          t.is ∙ level_decodes good t.erasures t.image l b filled t.same t.half;
    }
