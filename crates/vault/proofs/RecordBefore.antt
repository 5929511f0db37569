-- THE RECORD BEFORE THE LAST WRITE, as the stripes of a good round have it: what is found of a record in entries, in the filled levels from one on, and at last
-- on the full stripe, is the record as the writes before that level left it. Assumes nothing.
use mathlib.Core.Path.{◌≡◌, refl, sym, ap, ◌∙◌}
use mathlib.Core.Bool.{Bool, true, false}
use mathlib.Core.List.{List, [], ◌∷◌}
use Prim.Native.Nat.{ℕ, zero, suc, ◌+◌, ◌*◌, ◌/◌, ◌^◌, ◌≤◌, ◌<◌}
use native.Mathlib.Nat.{zero-add}
use native.Mathlib.Omega.{arith}
use lib.Dec.{eqb}
use lib.ListN.{length, get_or, take, drop}
use lib.Seq.{take-suc, take-add, take-take}
use borrow.Author.Tests.{eqb-true, eqb-false}
use Rattle.layout.specs.declared.Header.{Header}
use Rattle.layout.specs.Header.{is_filled, first_of}
use Rattle.layout.specs.Records.{record_in, replaced}
use Rattle.layout.proofs.RecordWords.{record_end, record_same, record_other}
use Rattle.layout.proofs.StripePlaces.{first_level}
use Rattle.judging.specs.Decoding.{Decoded, block_number, block_data}
use Rattle.store.specs.Buffers.{blocks_of}
use Rattle.taking_back.specs.TakingBack.{decode_held, last_of, Before, found, found_at, find_from}
use Rattle.taking_back.proofs.FindingBack.{level_skip, level_looked, full_looked}
use Rattle.vault.specs.Event.{Entry}
use Rattle.vault.specs.Round.{Round, put_all, rows_of, round_header, level_entries, represent}
use Rattle.vault.proofs.Laying.{no_entry, entry_at, number_at, data_at, block_numbered}
use Rattle.vault.proofs.Rounds.{AllTaken, Good, taken_take, put_append, length_put, length_entries}
use Rattle.vault.proofs.RoundDecoding.{level_taken, start_taken, length_start, start_rows}
use Rattle.vault.proofs.RoundRecovery.{multiple_filled, multiple_empty, multiple_none}
use Rattle.vault.proofs.RoundStripes.{level_held, full_held}

-- IN ENTRIES: the last of the first n that is record i's is what they leave of it; or it is as it was
module _ {k s : ℕ} {es : List Entry} (E : AllTaken k s es) (r : List ℕ) (long : length r ≡ 2 ^ k * s) (i : ℕ) where
  abbrev rows : List ℕ
  rows = rows_of es

  abbrev left : ℕ → List ℕ
  left n = record_in s (put_all s r (take n es)) i

  abbrev Left : ℕ → Type 0
  Left n = found_at (suc s) rows (last_of (suc s) rows i n) (found (record_in s r i)) ≡ found (left n)

  pub found_in : (n : ℕ) → n ≤ length es → Left n
  unfolding last_of put_all
  found_in zero b = refl
  found_in (suc n) b = go (eqb (block_number (suc s) rows n) i) refl (found_in n (omega arith))
    where
      lt : n < length es
      lt = omega arith

      x : Entry
      x = get_or es n no_entry

      before : List ℕ
      before = put_all s r (take n es)

      one : left (suc n) ≡ record_in s (replaced s before x.number x.block) i
      one =
          ap (λ (xs : List Entry). record_in s (put_all s r xs) i) (take-suc es n no_entry lt)
          ∙ ap (λ (q : List ℕ). record_in s q i) (put_append s r (take n es) (x ∷ []))

      here : x.number ≡ i → record_in s (replaced s before x.number x.block) i ≡ x.block
      here e =
          ap (record_in s (replaced s before x.number x.block)) (sym e)
          ∙ record_same s before x.number x.block (entry_at E n lt).long
          (omega (arith, length_put r long (taken_take n E), record_end (2 ^ k) s x.number (entry_at E n lt).within))

      go : (t : Bool) → eqb (block_number (suc s) rows n) i ≡ t → Left n → Left (suc n)
      go true e _ =
          rw (e, last_of)
          (ap found (data_at E n lt ∙ sym (here (sym (number_at E n lt) ∙ eqb-true (block_number (suc s) rows n) i e)) ∙ sym one))
      go false e rest =
          rw (e, last_of)
          (rest ∙ ap found (sym (one ∙ record_other s before x.number x.block (entry_at E n lt).long i
          (λ q. eqb-false (block_number (suc s) rows n) i e (number_at E n lt ∙ q)))))

-- IN THE STRIPES of a good round
module _ {a : Round} (good : Good a) (i : ℕ) (inside : i < 2 ^ a.k) where
  abbrev h : Header
  h = round_header a

  abbrev d : ℕ → Decoded
  d = decode_held h (represent a).full (represent a).log

  abbrev c : ℕ
  c = length a.since

  abbrev after_first : ℕ → List ℕ
  after_first n = put_all a.s a.base (take n a.since)

  -- the record as the first n writes left it
  abbrev record_after : ℕ → Before
  record_after n = found (record_in a.s (after_first n) i)

  full_record : block_data (suc a.s) (blocks_of h a.base) i ≡ record_in a.s a.base i
  full_record =
      ap (λ (bs : List ℕ). block_data (suc a.s) bs i) (start_rows good) ∙ data_at (start_taken good) i (omega (arith, length_start good))
      ∙ block_numbered a.s a.base 0 (2 ^ a.k) i inside ∙ ap (record_in a.s a.base) (zero-add i)

  -- the first n of a filled level's entries, and else what the writes before them left
  pub level_found : (l : ℕ) → l < a.k → is_filled h l ≡ true → (n : ℕ) → n ≤ 2 ^ l → {b : Before} → b ≡ record_after (first_of h l)
      → let bs = rows_of (level_entries h a.since l) in
      found_at (suc a.s) bs (last_of (suc a.s) bs i n) b ≡ record_after (first_of h l + n)
  level_found l lt filled n z e =
      let t = first_of h l in
      let bs = rows_of (level_entries h a.since l) in
      ap (found_at (suc a.s) bs (last_of (suc a.s) bs i n)) e
      ∙ found_in (level_taken good l) (after_first t) (length_put a.base good.base_long (taken_take t good.taken)) i n
      (omega (arith, length_entries good l lt filled))
      ∙ ap (λ (r : List ℕ). found (record_in a.s r i))
      (ap (put_all a.s (after_first t)) (take-take n (2 ^ l) (drop t a.since) z) ∙ sym (put_append a.s a.base (take t a.since) (take n (drop t a.since)))
      ∙ ap (put_all a.s a.base) (sym (take-add t n a.since)))

  -- FROM LEVEL l ON
  pub found_from : (n l : ℕ) → n + l ≡ a.k → find_from n h d i l ≡ record_after (c / 2 ^ l * 2 ^ l)
  unfolding put_all
  found_from zero l e =
      let same : l ≡ a.k = omega arith in
      rw (full_looked h d i l, full_held good) (ap found full_record ∙ ap record_after (sym (multiple_none c l (rw same good.few))))
  found_from (suc n) l e = go (is_filled h l) refl (found_from n (suc l) (omega arith))
    where
      lt : l < a.k
      lt = omega arith

      first : c / 2 ^ suc l * 2 ^ suc l ≡ first_of h l
      first = sym (first_level h l (λ q. omega arith))

      go : (t : Bool) → is_filled h l ≡ t → find_from n h d i (suc l) ≡ record_after (c / 2 ^ suc l * 2 ^ suc l)
          → find_from (suc n) h d i l ≡ record_after (c / 2 ^ l * 2 ^ l)
      go true q rest =
          rw (level_looked h d i n l q, level_held good l lt q)
          (level_found l lt q (2 ^ l) (omega arith) (rest ∙ ap record_after first)
          ∙ ap record_after (ap (λ (t : ℕ). t + 2 ^ l) (sym first) ∙ multiple_filled c l q))
      go false q rest = level_skip h d i n l q ∙ rest ∙ ap record_after (multiple_empty c l q)
