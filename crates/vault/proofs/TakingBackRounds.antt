-- TAKING BACK ON A GOOD ROUND: the call's number is the table's, and where the round has a write, it leaves header, buffers and model of the round without its
-- last one. Assumes nothing.
use mathlib.Core.Path.{◌≡◌, refl, sym, ap, ap₂, ◌∙◌, subst}
use mathlib.Core.Bool.{Bool, true, false, ◌&&◌}
use mathlib.Core.List.{List, [], ◌∷◌, ◌++◌}
use Prim.Native.Nat.{ℕ, zero, suc, ◌+◌, ◌*◌, ◌-◌, ◌^◌, ◌≤◌, ◌<◌}
use native.Mathlib.Nat.{le_refl}
use native.Mathlib.Decide.{ℕ_discrete}
use native.Mathlib.Omega.{arith}
use borrow.Author.Tests.{ne_eqb, lt-ltb}
use lib.Dec.{eqb, ltb}
use lib.ListN.{length, get_or, take, drop, take-append-drop}
use lib.Pow.{pow_pos}
use lib.Seq.{take_all, take-suc, length-take-le, length-sets, drop-drop, get_or-take, get_or-drop}
use Rattle.field.proofs.Booleans.{if_else}
use Rattle.field.proofs.WordLists.{take_sets, drop_sets}
use Rattle.layout.specs.declared.Header.{Header}
use Rattle.layout.specs.Header.{header_of, scratch_size, is_filled, first_of}
use Rattle.layout.specs.Records.{record_in, replaced}
use Rattle.layout.specs.Refusals.{done, test, refusal, if_taken}
use Rattle.layout.proofs.Counting.{Carry}
use Rattle.layout.proofs.RecordWords.{record_end, length_record, replaced_is}
use Rattle.layout.proofs.Refusals.{if_taken_lem, if_refused}
use Rattle.layout.proofs.StripePlaces.{first_level}
use Rattle.judging.specs.Decoding.{block_number}
use Rattle.splitting.specs.Splitting.{lowest_of, header_before, log_before}
use Rattle.splitting.proofs.Lowest.{Lowest, lowest, first_lowest, bit_lowest}
use Rattle.taking_back.specs.TakingBack.{found, goes, with_words, number_back, buffers_back}
use Rattle.taking_back.specs.TakeBackCall.{take_back_early, take_back_comes, take_back_number}
use Rattle.vault.specs.Event.{Entry}
use Rattle.vault.specs.Model.{Model, back_judged, cancelled}
use Rattle.vault.specs.Round.{Round, put_all, before_each, rows_of, records_in, model_in, cut, round_header, level_entries, log_words, represent}
use Rattle.vault.proofs.Judged.{some_write}
use Rattle.vault.proofs.Laying.{no_entry, entry_at, number_at}
use Rattle.vault.proofs.Rounds.{Taken, Good, taken_take, put_append, length_put, before_append, header_fits_lem, buffers_fit_lem, length_entries}
use Rattle.vault.proofs.RoundDecoding.{level_taken}
use Rattle.vault.proofs.RoundStripes.{level_held}
use Rattle.vault.proofs.RecordBefore.{level_found, found_from}
use Rattle.vault.proofs.LogBefore.{log_back}

-- A RECORD PUT BACK over another block in its place
put_back : (n s : ℕ) (r : List ℕ) (i : ℕ) (b : List ℕ) → length r ≡ n * s → i < n → length b ≡ s → replaced s (replaced s r i b) i (record_in s r i) ≡ r
put_back n s r i b long z e =
    let end : i * s + s ≤ length r = omega (arith, record_end n s i z) in
    let y = replaced s r i b in
    let next : suc i * s ≡ i * s + s = omega arith in
    replaced_is s y i (record_in s r i) (length_record n s r i long z) (omega (arith, length-sets r (i * s) b))
    ∙ rw (take_sets (i * s) r (i * s) b (le_refl (i * s)), drop_sets (suc i * s) r (i * s) b (omega arith))
    (rw (next, ← drop-drop s (i * s) r, take-append-drop s (drop (i * s) r), take-append-drop (i * s) r) refl)

-- A ROUND WITHOUT ITS LAST WRITE is good, and taking back gives it
pub record CutBack (a : Round) : Type 0 where
  pub good : Good (cut a)
  pub header_is : header_before (round_header a) ≡ round_header (cut a)
  pub taken : number_back (take_back_comes (round_header a) (represent a)) ≡ 0
  pub buffers_are : buffers_back (round_header a) (represent a) (take_back_comes (round_header a) (represent a)) ≡ represent (cut a)
  pub model_is : cancelled (model_in a) ≡ model_in (cut a)

module _ {a : Round} (good : Good a) (some : 0 < length a.since) where
  abbrev h : Header
  h = round_header a

  abbrev n : ℕ
  n = length a.since - 1

  abbrev x : Entry
  x = get_or a.since n no_entry

  last : Taken a.k a.s x
  last = entry_at good.taken n (omega arith)

  whole : take n a.since ++ (x ∷ []) ≡ a.since
  whole = sym (take-suc a.since n no_entry (omega arith)) ∙ take_all (suc n) a.since (omega arith)

  length_cut : length (take n a.since) ≡ n
  length_cut = length-take-le n a.since (omega arith)

  count : suc (length (take n a.since)) ≡ length a.since
  count = omega (arith, length_cut)

  good_cut : Good (cut a)
  good_cut = record {
    sizes = good.sizes;
    base_long = good.base_long;
    base_fits = good.base_fits;
    taken = taken_take n good.taken;
    few = omega (arith, length_cut, good.few);
  }

  -- the lowest filled level ends with the last write
  abbrev l : ℕ
  l = lowest_of h

  low : Lowest h l
  low = lowest h some good.few refl

  filled : is_filled h l ≡ true
  filled = ap (λ (v : ℕ). eqb v 1) (bit_lowest low)

  first : first_of h l + 2 ^ l ≡ length a.since
  first = first_lowest low

  abbrev entries : List Entry
  entries = level_entries h a.since l

  last_entry : get_or entries (2 ^ l - 1) no_entry ≡ x
  last_entry =
      get_or-take (2 ^ l) (drop (first_of h l) a.since) (2 ^ l - 1) no_entry (omega (arith, pow_pos l))
      ∙ get_or-drop (first_of h l) a.since (2 ^ l - 1) no_entry
      ∙ ap (λ (j : ℕ). get_or a.since j no_entry) {x = first_of h l + (2 ^ l - 1)} {y = n} (omega (arith, pow_pos l, first))

  record_is : block_number (suc a.s) (rows_of entries) (2 ^ l - 1) ≡ x.number
  record_is =
      number_at (level_taken good l) (2 ^ l - 1) (omega (arith, pow_pos l, length_entries good l low.within filled))
      ∙ ap (λ (y : Entry). y.number) last_entry

  abbrev words : List ℕ
  words = record_in a.s (records_in (cut a)) x.number

  comes : take_back_comes h (represent a) ≡ goes (rows_of entries) words
  comes =
      let after = λ (t : ℕ). found (record_in a.s (put_all a.s a.base (take t a.since)) x.number) in
      rw (level_held good l low.within filled, record_is)
      (ap (with_words (rows_of entries)) (level_found good x.number last.within l low.within filled (2 ^ l - 1) (omega arith)
      (found_from good x.number last.within (a.k - suc l) (suc l) (omega (arith, low.within))
      ∙ ap after (sym (first_level h l (λ e. omega (arith, low.within)))))
      ∙ ap after {x = first_of h l + (2 ^ l - 1)} {y = n} (omega (arith, pow_pos l, first))))

  raw_back : replaced a.s (records_in a) x.number words ≡ records_in (cut a)
  unfolding put_all
  raw_back =
      let r = records_in (cut a) in
      ap (λ (q : List ℕ). replaced a.s q x.number words) (ap (put_all a.s a.base) (sym whole) ∙ put_append a.s a.base (take n a.since) (x ∷ []))
      ∙ put_back (2 ^ a.k) a.s r x.number x.block (length_put a.base good.base_long good_cut.taken) last.within last.long

  log_cut : log_before h (log_words h a.since a.k) l (rows_of entries) ≡ log_words (round_header (cut a)) (cut a).since a.k
  log_cut =
      let logged = λ (c : ℕ) (xs : List Entry). let y = header_of a.k a.s c in log_before y (log_words y xs a.k) l (rows_of (level_entries y xs l)) in
      sym (ap₂ logged count whole) ∙ log_back good_cut last low.within (subst (λ (c : ℕ). Carry c l low.multiple) (sym length_cut) low.carry)

  buffers_cut : buffers_back h (represent a) (goes (rows_of entries) words) ≡ represent (cut a)
  buffers_cut = rw (record_is, raw_back, log_cut) refl

  model_cut : cancelled (model_in a) ≡ model_in (cut a)
  model_cut =
      let model : List (List ℕ) → Model =
      λ bs. record { k = a.k; s = a.s; records = get_or bs 0 (records_in a); written = take n a.since; before = drop 1 bs } in
      ap model (ap (before_each a.s a.base) (sym whole) ∙ before_append a.s a.base (take n a.since) x)

  pub cut_back : CutBack a
  cut_back = record {
    good = good_cut;
    header_is = ap (header_of a.k a.s) (sym length_cut);
    taken = ap number_back comes;
    buffers_are = ap (buffers_back h (represent a)) comes ∙ buffers_cut;
    model_is = model_cut;
  }

-- ITS NUMBER is the table's
module _ {a : Round} (good : Good a) (scratch : List ℕ) where
  pub back_early : take_back_early (round_header a) (represent a) scratch ≡ back_judged (model_in a) scratch
  unfolding refusal
  back_early =
      let h = round_header a in
      ap₂ (λ (p q : Bool). refusal (test p 1 (test (q && eqb (length scratch) (2 * scratch_size h)) 2 (test (ltb 0 h.c) 12 done)))) (header_fits_lem good)
      (buffers_fit_lem good)
      ∙ go (eqb (length scratch) (2 * scratch_size h)) (length a.since)
    where
      go : (z : Bool) (c : ℕ) → refusal (test z 2 (test (ltb 0 c) 12 done)) ≡ if_else z (if_else (eqb c 0) 12 0) 2
      go true zero = refl
      go true (suc c) = rw (ne_eqb (suc c) 0 (λ e. omega arith), lt-ltb 0 (suc c) (omega arith), refusal)
      go false c = refl

  -- its number is the table's
  pub back_number : take_back_number (round_header a) (represent a) scratch ≡ back_judged (model_in a) scratch
  back_number = go (ℕ_discrete early 0)
    where
      early : ℕ
      early = take_back_early (round_header a) (represent a) scratch

      n : ℕ
      n = number_back (take_back_comes (round_header a) (represent a))

      go : Dec (early ≡ 0) → if_taken early n early ≡ back_judged (model_in a) scratch
      go (yes e) =
          if_taken_lem n early e ∙ (cut_back good (some_write (model_in a) scratch (sym back_early ∙ e))).taken ∙ sym e ∙ back_early
      go (no d) = if_refused n early d ∙ back_early
