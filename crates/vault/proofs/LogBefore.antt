-- THE LOG OF ONE WRITE LESS: what taking apart the lowest filled level of a good round's log leaves is the log of the round without its last write.
-- Assumes nothing.
use mathlib.Core.Path.{◌≡◌, refl, sym, ap, ap₂, ◌∙◌}
use mathlib.Core.Bool.{false}
use mathlib.Core.List.{List, [], ◌∷◌, ◌++◌, append_assoc}
use Prim.Native.Nat.{ℕ, zero, suc, ◌+◌, ◌*◌, ◌-◌, ◌^◌, ◌≤◌, ◌<◌}
use native.Mathlib.Omega.{arith}
use lib.Dec.{eqb}
use lib.ListN.{length, take, drop, length-append, length-drop, take-append-drop}
use lib.Seq.{take_at, drop_at, drop-drop, length-take-le}
use lib.Pow.{pow_pos, pow_mono}
use Rattle.code.specs.Stripe.{coded_stripe}
use Rattle.layout.specs.declared.Header.{Header}
use Rattle.layout.specs.Header.{header_of, width, is_filled, first_of, level_at, stripe_of}
use Rattle.layout.proofs.Counting.{Carry, first_now, filled_before, first_before}
use Rattle.layout.proofs.StripePlaces.{first_level}
use Rattle.splitting.specs.Splitting.{header_before, blocks_before, levels_before, log_before}
use Rattle.vault.specs.Event.{Entry}
use Rattle.vault.specs.Round.{Round, rows_of, level_entries, level_words, log_words}
use Rattle.vault.proofs.Levels.{level_filled, level_empty, level_end, length_log, log_front}
use Rattle.vault.proofs.Rounds.{Taken, AllTaken, Good, none, more, taken_append, taken_take, taken_drop, rows_append, length_rows}
use Rattle.vault.proofs.Rebuilding.{part, middle, log_above}
use Rattle.vault.proofs.WrittenLog.{ended}

-- ROWS of some of the entries
rows_part : {k s : ℕ} {xs : List Entry} (t n : ℕ) → AllTaken k s xs → t + n ≤ length xs
    → take (n * suc s) (drop (t * suc s) (rows_of xs)) ≡ rows_of (take n (drop t xs))
rows_part {s} {xs} t n E b =
    let rest = drop t xs in
    let front : length (rows_of (take t xs)) ≡ t * suc s =
    length_rows (taken_take t E) ∙ ap (λ (i : ℕ). i * suc s) (length-take-le t xs (omega arith)) in
    let some : length (rows_of (take n rest)) ≡ n * suc s =
    length_rows (taken_take n (taken_drop t E)) ∙ ap (λ (i : ℕ). i * suc s) (length-take-le n rest (rw length-drop (omega arith))) in
    ap (λ (ys : List ℕ). take (n * suc s) (drop (t * suc s) ys)) (ap rows_of (sym (take-append-drop t xs)) ∙ rows_append (take t xs) rest)
    ∙ ap (take (n * suc s)) (drop_at (rows_of (take t xs)) (rows_of rest) (t * suc s) front)
    ∙ ap (take (n * suc s)) (ap rows_of (sym (take-append-drop n rest)) ∙ rows_append (take n rest) (drop n rest))
    ∙ take_at (rows_of (take n rest)) (rows_of (drop n rest)) (n * suc s) some

-- A WRITE x on a good round a, where carrying ends at level l: that level then has the last 2^l writes
module _ {a : Round} {x : Entry} (good : Good a) (last : Taken a.k a.s x) {l q : ℕ} (b : l < a.k) (carry : Carry (length a.since) l q) where
  abbrev c : ℕ
  c = length a.since

  abbrev h : Header
  h = header_of a.k a.s (length a.since)

  abbrev h' : Header
  h' = header_of a.k a.s (suc (length a.since))

  abbrev now : List Entry
  now = a.since ++ (x ∷ [])

  abbrev entries : List Entry
  entries = level_entries h' now l

  first_after : first_of h' l + 2 ^ l ≡ suc c
  first_after = ap (λ (t : ℕ). t + 2 ^ l) (first_level h' l (λ e. omega arith)) ∙ first_now carry

  length_now : length now ≡ suc c
  length_now = length-append a.since (x ∷ []) ∙ omega arith

  taken_now : AllTaken a.k a.s entries
  taken_now = taken_take (2 ^ l) (taken_drop (first_of h' l) (taken_append good.taken (more last none)))

  length_entries : length entries ≡ 2 ^ l
  length_entries = length-take-le (2 ^ l) (drop (first_of h' l) now) (rw length-drop (omega (arith, length_now, first_after)))

  same_before : header_before h' ≡ h
  same_before = ap (header_of a.k a.s) {x = suc c - 1} {y = c} (omega arith)

  -- a level below it then gets the writes that it had
  blocks_back : (j : ℕ) → j < l → blocks_before h' l (rows_of entries) j ≡ rows_of (level_entries h a.since j)
  blocks_back j d =
      let f : first_of h j + 2 ^ suc j ≡ suc c = ap (λ (t : ℕ). t + 2 ^ suc j) (first_level h j (λ e. omega arith)) ∙ first_before carry j d in
      let t : ℕ = first_of h j - first_of h' l in
      let inside : t + 2 ^ j ≤ 2 ^ l = omega (arith, first_after, pow_mono {i = suc j} {j = l} d) in
      let place : first_of h' l + t ≡ first_of h j = omega (arith, first_after, pow_mono {i = suc j} {j = l} d) in
      ap (λ (y : Header). take (2 ^ j * width h) (drop ((first_of y j - first_of h' l) * width h) (rows_of entries))) same_before
      ∙ rows_part t (2 ^ j) taken_now (omega (arith, length_entries))
      ∙ ap rows_of
      (part (2 ^ j) t (2 ^ l) (drop (first_of h' l) now) inside
      ∙ ap (take (2 ^ j)) (drop-drop t (first_of h' l) now ∙ ap (λ (i : ℕ). drop i now) place)
      ∙ middle (first_of h j) (2 ^ j) a.since (x ∷ []) (omega (arith, pow_pos j)))

  levels_back : (n : ℕ) → n ≤ l → levels_before h' l (rows_of entries) n ≡ log_words h a.since n
  unfolding levels_before log_words
  levels_back zero d = refl
  levels_back (suc j) d =
      ap₂ ◌++◌ (levels_back j (omega arith))
      (ap₂ (λ (y : Header) (bs : List ℕ). coded_stripe (stripe_of y j) bs) same_before (blocks_back j d)
      ∙ sym (level_filled h a.since j (ap (λ (n : ℕ). eqb n 1) (filled_before carry j d))))

  -- the level itself was empty
  was_empty : is_filled h l ≡ false
  was_empty = ap (λ (v : ℕ). eqb v 1) (ended carry)

  pub log_back : log_before h' (log_words h' now a.k) l (rows_of entries) ≡ log_words h a.since a.k
  unfolding log_words
  log_back =
      let g = log_words h a.since a.k in
      let n = level_at h (suc l) in
      let rest : drop n (log_words h' now a.k) ≡ drop n g =
      ap (drop n) (log_above good last b carry a.k (omega arith) (omega arith)) ∙ drop_at (log_words h' now (suc l)) (drop n g) n (length_log h' now (suc l)) in
      ap₂ ◌++◌ (levels_back l (omega arith))
      (ap₂ ◌++◌ (sym (level_empty h a.since l was_empty)) (ap (λ (i : ℕ). drop i (log_words h' now a.k)) (sym (level_end h l)) ∙ rest))
      ∙ sym (append_assoc (log_words h a.since l) (level_words h a.since l) (drop n g))
      ∙ ap (λ (f : List ℕ). f ++ drop n g) (sym (log_front h a.since (suc l) a.k b)) ∙ take-append-drop n g
