-- A WRITE'S COMMUTING SQUARE: the log that a write leaves of a good round's is the log of the round with that write. Assumes nothing.
use mathlib.Core.Path.{◌≡◌, refl, sym, ap, ap₂, ◌∙◌, subst}
use mathlib.Core.Bool.{Bool, true, false}
use mathlib.Core.Logic.{⊎_elim}
use mathlib.Core.List.{List, [], ◌∷◌, ◌++◌, append_assoc, append-nil}
use Prim.Native.Nat.{ℕ, zero, suc, ◌+◌, ◌*◌, ◌-◌, ◌/◌, ◌%◌, ◌^◌, ◌≤◌, ◌<◌}
use native.Mathlib.Nat.{zero-add, zero-mul, one-mul, pow-succ', mul-le-mul_right, eq-or-lt_of_le, suc-le-suc_iff}
use native.Mathlib.Omega.{arith}
use lib.Dec.{lit<, eqb}
use lib.ListN.{length, take, drop, replicate, length-append, length-drop, take-append-drop, drop_of_length-le}
use lib.Seq.{take_all, take-take, drop-drop, take-append-le, drop-append-le, take_at, drop_at, length-take-le}
use lib.Pow.{pow_pos}
use Rattle.field.specs.Power.{power}
use Rattle.field.specs.Words.{Words}
use Rattle.code.specs.Rows.{lifted}
use Rattle.code.specs.Transform.{mixed_halves}
use Rattle.code.specs.Stripe.{coded_rows}
use Rattle.layout.specs.declared.Header.{Header}
use Rattle.layout.specs.Header.{header_of, prime_of, vault_root, width, is_filled, first_of, level_at, stripe_size, level_for}
use Rattle.store.specs.Buffers.{reduced}
use Rattle.store.specs.Writing.{half_at, new_row, rebuilt_half, rebuilt, log_with}
use Rattle.vault.specs.Event.{Entry}
use Rattle.vault.specs.Round.{Round, rows_of, round_header, level_entries, level_words, log_words}
use Rattle.store.proofs.StoredRecords.{reduced_same}
use Rattle.layout.proofs.StripePlaces.{first_level}
use Rattle.vault.proofs.Levels.{filled_in, level_filled, level_empty, level_end, length_log, level_in, level_place, log_empty}
use Rattle.vault.proofs.Rounds.{Taken, Good, taken_take, taken_drop, rows_append, length_rows, level_column}
use Rattle.layout.proofs.Counting.{Carry, Carried, carried, filled_now, first_now, same_above, filled_before, first_before, empty_below}
use Rattle.code.proofs.CodedRows.{half_rows, length_half, words_half, coded_halves, mixed_half, half_block, half_scaled}

-- a part of a list's first words
pub part : {A : Type 0} (m n size : ℕ) (d : List A) → n + m ≤ size → take m (drop n (take size d)) ≡ take m (drop n d)
part m zero size d h = take-take m size d (omega arith)
part m (suc n) zero d h = absurd (omega arith)
part m (suc n) (suc size) [] h = refl
part m (suc n) (suc size) (x ∷ d) h = part m n size d (omega arith)

-- X or Y of blocks in a vault
abbrev half_in : Header → (half level t : ℕ) → (blocks : List ℕ) → List ℕ
half_in h y l t bs = half_rows (prime_of h) (vault_root h) h.k (width h) y l t bs

-- the halves of a filled level as the log has them
module _ (h : Header) (xs : List Entry) (l : ℕ) (b : l < h.k) (e : is_filled h l ≡ true) where
  m : ℕ
  m = 2 ^ l * width h

  log : List ℕ
  log = log_words h xs h.k

  half_of : ℕ → List ℕ
  half_of y = half_in h y l (first_of h l) (rows_of (level_entries h xs l))

  halves : take (stripe_size h l) (drop (level_at h l) log) ≡ half_of 0 ++ half_of 1
  unfolding log half_of
  halves = level_place h xs l h.k b ∙ level_filled h xs l e
      ∙ coded_halves (prime_of h) (vault_root h) h.k (width h) l (first_of h l) (rows_of (level_entries h xs l))

  half_place : (y : ℕ) → y < 2 → take m (drop (level_at h l + y * m) log) ≡ half_of y
  unfolding m half_of
  half_place y z =
      ap (take m) (sym (drop-drop (y * m) (level_at h l) log)) ∙ sym (part m (y * m) (stripe_size h l) (drop (level_at h l) log) (fits y z))
      ∙ ap (λ (d : List ℕ). take m (drop (y * m) d)) halves ∙ pick y z
    where
      fits : (y : ℕ) → y < 2 → y * m + m ≤ stripe_size h l
      fits y z = rw pow-succ' (omega (arith, mul-le-mul_right m z))

      long : (y : ℕ) → length (half_of y) ≡ m
      long y = length_half (prime_of h) (vault_root h) h.k (width h) y l (first_of h l) (rows_of (level_entries h xs l))

      pick : (y : ℕ) → y < 2 → take m (drop (y * m) (half_of 0 ++ half_of 1)) ≡ half_of y
      pick zero z = rw zero-mul (take_at (half_of 0) (half_of 1) m (long 0))
      pick (suc zero) z = rw (one-mul, drop_at (half_of 0) (half_of 1) m (long 0)) (take_all m (half_of 1) (omega (arith, long 1)))
      pick (suc (suc y)) z = absurd (omega arith)

  half_is : (y : ℕ) → y < 2 → Words (prime_of h) (rows_of (level_entries h xs l))
      → half_at h (log_words h xs h.k) l y ≡ half_in h y l (first_of h l) (rows_of (level_entries h xs l))
  unfolding m log half_of
  half_is y z u =
      ap (reduced (prime_of h)) (half_place y z)
      ∙ reduced_same (prime_of h) (half_of y) (words_half (prime_of h) (vault_root h) h.k (width h) y l (first_of h l) (lit< tt) u)

-- parts of entries that end before the last ones
module _ (t m : ℕ) (xs ys : List Entry) (h : t + m ≤ length xs) where
  pub middle : take m (drop t (xs ++ ys)) ≡ take m (drop t xs)
  middle =
      ap (take m) (drop-append-le t xs ys (omega arith)) ∙ take-append-le m (drop t xs) ys (rw length-drop (omega arith))

  seam : take m (drop t xs) ++ drop (t + m) (xs ++ ys) ≡ drop t (xs ++ ys)
  seam = ap₂ ◌++◌ (sym middle) (sym (drop-drop m t (xs ++ ys))) ∙ take-append-drop m (drop t (xs ++ ys))

-- A WRITE x on a good round a: the header before it, and the entries after it
module _ {a : Round} {x : Entry} (good : Good a) (last : Taken a.k a.s x) where
  abbrev c : ℕ
  c = length a.since

  abbrev h : Header
  h = header_of a.k a.s (length a.since)

  abbrev now : List Entry
  now = a.since ++ (x ∷ [])

  -- the half rebuilt at level l codes the last 2^l entries, if the log's levels below hold those before the new one
  rebuilt_half_lem : (g : List ℕ) (y l : ℕ) → 2 ^ l ≤ suc c
      → ((i : ℕ) → i < l → half_at h g i y ≡ half_in h y i (suc c - 2 ^ suc i) (rows_of (take (2 ^ i) (drop (suc c - 2 ^ suc i) a.since))))
      → rebuilt_half h g y (x.number ∷ x.block) l ≡ half_in h y l (suc c - 2 ^ l) (rows_of (drop (suc c - 2 ^ l) now))
  unfolding rebuilt_half rows_of
  rebuilt_half_lem g y zero b e =
      sym (rw (one, drop_at a.since (x ∷ []) c refl, append-nil x.block) (new y))
    where
      one : suc c - 1 ≡ c
      one = omega arith

      new : (y : ℕ) → half_in h y 0 c (x.number ∷ x.block) ≡ new_row h y (x.number ∷ x.block)
      new zero = half_block (prime_of h) (vault_root h) a.k (suc a.s) c (x.number ∷ x.block) (ap suc last.long)
      new (suc y) = half_scaled (prime_of h) (vault_root h) a.k (suc a.s) y c (x.number ∷ x.block) (ap suc last.long)
  rebuilt_half_lem g y (suc l) b e =
      let n : suc c - 2 ^ suc l + 2 ^ l ≡ suc c - 2 ^ l = omega arith in
      ap₂ (λ (u v : List ℕ). lifted (suc a.s) (2 ^ suc l) (2 ^ suc l) (mixed_halves (prime_of h) (power (prime_of h) (vault_root h) (2 ^ a.k / 2 ^ l)) (2 ^ l))
      (u ++ v))
      (e l (omega arith)) (rebuilt_half_lem g y l (omega arith) (λ i d. e i (omega arith)))
      ∙ rw (← n) (mixed (suc c - 2 ^ suc l) (omega (arith, pow_pos l)))
    where
      mixed : (t : ℕ) → t + 2 ^ l ≤ c
          → lifted (suc a.s) (2 ^ suc l) (2 ^ suc l) (mixed_halves (prime_of h) (power (prime_of h) (vault_root h) (2 ^ a.k / 2 ^ l)) (2 ^ l))
          (half_in h y l t (rows_of (take (2 ^ l) (drop t a.since))) ++ half_in h y l (t + 2 ^ l) (rows_of (drop (t + 2 ^ l) now)))
          ≡ half_in h y (suc l) t (rows_of (drop t now))
      mixed t f =
          let old = take (2 ^ l) (drop t a.since) in
          let new = drop (t + 2 ^ l) now in
          let long : length old ≡ 2 ^ l = length-take-le (2 ^ l) (drop t a.since) (rw length-drop (omega arith)) in
          mixed_half (prime_of h) (vault_root h) a.k (suc a.s) y l t (rows_of old) (rows_of new)
          (length_rows (taken_take (2 ^ l) (taken_drop t good.taken)) ∙ ap (λ (i : ℕ). i * suc a.s) long)
          ∙ ap (half_in h y (suc l) t) (sym (rows_append old new) ∙ ap rows_of (seam t (2 ^ l) a.since (x ∷ []) f))

  -- THE LEVELS with one write more, where carrying ends at level l
  abbrev h' : Header
  h' = header_of a.k a.s (suc (length a.since))

  module _ {l q : ℕ} (b : l < a.k) (carry : Carry (length a.since) l q) where
    -- those below l are empty
    level_below : (i : ℕ) → i < l → is_filled h' i ≡ false
    level_below i d = ap (λ (n : ℕ). eqb n 1) (empty_below carry i d)

    -- level l holds the last 2^l entries
    level_rebuilt : level_words h' now l ≡ rebuilt h (log_words h a.since a.k) (x.number ∷ x.block) l
    level_rebuilt =
        level_filled h' now l (ap (λ (n : ℕ). eqb n 1) (filled_now carry))
        ∙ coded_halves (prime_of h) (vault_root h) a.k (suc a.s) l (first_of h' l) (rows_of (level_entries h' now l))
        ∙ ap₂ ◌++◌ (sym (side 0 (omega arith))) (sym (side 1 (omega arith)))
      where
        before : (y : ℕ) → y < 2 → (i : ℕ) → i < l
            → half_at h (log_words h a.since a.k) i y ≡ half_in h y i (suc c - 2 ^ suc i) (rows_of (take (2 ^ i) (drop (suc c - 2 ^ suc i) a.since)))
        before y z i d =
            let e : is_filled h i ≡ true = ap (λ (n : ℕ). eqb n 1) (filled_before carry i d) in
            let f : i < a.k = omega arith in
            half_is h a.since i f e y z (level_column good i f e).words
            ∙ ap (λ (t : ℕ). half_in h y i t (rows_of (take (2 ^ i) (drop t a.since)))) {x = first_of h i} {y = suc c - 2 ^ suc i}
            (first_level h i (λ e. omega arith) ∙ omega (arith, first_before carry i d))

        first : suc c - 2 ^ l ≡ first_of h' l
        first = omega (arith, first_now carry) ∙ sym (first_level h' l (λ e. omega arith))

        entries : drop (suc c - 2 ^ l) now ≡ level_entries h' now l
        entries =
            ap (λ (t : ℕ). drop t now) first
            ∙ sym (take_all (2 ^ l) (drop (first_of h' l) now) (rw (length-drop, ← first) (omega (arith, length-append a.since (x ∷ []), first_now carry))))

        side : (y : ℕ) → y < 2
            → rebuilt_half h (log_words h a.since a.k) y (x.number ∷ x.block) l ≡ half_in h y l (first_of h' l) (rows_of (level_entries h' now l))
        side y z =
            rebuilt_half_lem (log_words h a.since a.k) y l (omega (arith, first_now carry)) (before y z)
            ∙ ap₂ (λ (t : ℕ) (es : List Entry). half_in h y l t (rows_of es)) first entries

    -- those above l stay
    level_above : (i : ℕ) → l < i → i < a.k → level_words h' now i ≡ level_words h a.since i
    level_above i d f = go (is_filled h i) refl
      where
        same : is_filled h' i ≡ is_filled h i
        same = ap (λ (n : ℕ). eqb (n % 2) 1) (same_above carry i d)

        first : first_of h' i ≡ first_of h i
        first = first_level h' i (λ e. omega arith) ∙ ap (λ (n : ℕ). n * 2 ^ suc i) (same_above carry (suc i) (omega arith))
            ∙ sym (first_level h i (λ e. omega arith))

        go : (v : Bool) → is_filled h i ≡ v → level_words h' now i ≡ level_words h a.since i
        go true e =
            level_filled h' now i (same ∙ e)
            ∙ ap₂ (λ (t : ℕ) (es : List Entry). coded_rows (prime_of h) (vault_root h) a.k i t (suc a.s) (rows_of es)) first
            (ap (λ (t : ℕ). take (2 ^ i) (drop t now)) first ∙ middle (first_of h i) (2 ^ i) a.since (x ∷ []) (filled_in h i f e))
            ∙ sym (level_filled h a.since i e)
        go false e = level_empty h' now i (same ∙ e) ∙ sym (level_empty h a.since i e)

    pub log_above : (n : ℕ) → l < n → n ≤ a.k → log_words h' now n ≡ log_words h' now (suc l) ++ drop (level_at h (suc l)) (log_words h a.since n)
    unfolding log_words
    log_above zero d f = absurd (omega arith)
    log_above (suc n) d f =
        ⊎_elim end (λ (g : l < n). next g (log_above n g (omega arith))) (eq-or-lt_of_le (suc-le-suc_iff.0 d))
      where
        next : l < n → log_words h' now n ≡ log_words h' now (suc l) ++ drop (level_at h (suc l)) (log_words h a.since n)
            → log_words h' now (suc n) ≡ log_words h' now (suc l) ++ drop (level_at h (suc l)) (log_words h a.since (suc n))
        next g e =
            ap₂ ◌++◌ e (level_above n g f)
            ∙ append_assoc (log_words h' now (suc l)) (drop (level_at h (suc l)) (log_words h a.since n)) (level_words h a.since n)
            ∙ ap (λ (r : List ℕ). log_words h' now (suc l) ++ r)
            (sym (drop-append-le (level_at h (suc l)) (log_words h a.since n) (level_words h a.since n) (rw (length_log, level_end) (level_in h l n g))))

        end : l ≡ n → log_words h' now (suc n) ≡ log_words h' now (suc l) ++ drop (level_at h (suc l)) (log_words h a.since (suc n))
        end e =
            subst (λ (i : ℕ). log_words h' now (suc i) ≡ log_words h' now (suc l) ++ drop (level_at h (suc l)) (log_words h a.since (suc i))) e
            (sym (rw (drop_of_length-le (log_words h a.since (suc l)) {i = level_at h (suc l)} (omega (arith, length_log h a.since (suc l))))
            (append-nil (log_words h' now (suc l)))))

    log_square : log_with h (log_words h a.since a.k) (x.number ∷ x.block) l ≡ log_words h' now a.k
    unfolding log_words
    log_square =
        let g = log_words h a.since a.k in
        let r = rebuilt h g (x.number ∷ x.block) l in
        let z : List ℕ = replicate (level_at h l) 0 in
        sym
        (log_above a.k b (omega arith) ∙ ap₂ (λ (u v : List ℕ). u ++ v ++ drop (level_at h (suc l)) g) (log_empty h' now l level_below) level_rebuilt
        ∙ append_assoc z r (drop (level_at h (suc l)) g) ∙ ap (λ (n : ℕ). z ++ (r ++ drop n g)) (level_end h l))

  -- THE SQUARE of the log, for a write that is not the last of its round
  pub log_written : suc (length a.since) < 2 ^ a.k
      → log_with (round_header a) (log_words (round_header a) a.since a.k) (x.number ∷ x.block) (level_for (round_header a)) ≡ log_words
      (header_of a.k a.s (length now)) now a.k
  log_written f =
      let r : Carried a.k 0 c = carried a.k 0 c f in
      ap (log_with h (log_words h a.since a.k) (x.number ∷ x.block)) {x = level_for h} {y = r.level} (r.first ∙ zero-add r.level)
      ∙ log_square r.within r.carry
      ∙ ap (λ (n : ℕ). log_words (header_of a.k a.s n) now a.k) {x = suc c} {y = length now} (omega (arith, length-append a.since (x ∷ [])))
