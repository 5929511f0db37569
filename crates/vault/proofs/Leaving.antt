-- WHAT OPENING, READING, THE IMAGE AND THE POWERS LEAVE, by the call's number: of the room Leaving of specs/promises. LeavingStripes has decoding,
-- LeavingLayers recovery and explaining, TwoLeaving and TwoShelves the calls on two readings. Assumes nothing.
use mathlib.Core.Path.{◌≡◌, refl, sym, ap, ◌∙◌, subst}
use mathlib.Core.Bool.{◌&&◌, not}
use mathlib.Core.List.{List, [], ◌∷◌, ◌++◌}
use Prim.Native.Nat.{ℕ, zero, suc, ◌+◌, ◌*◌, ◌-◌, ◌/◌, ◌%◌, ◌^◌, ◌<◌}
use native.Mathlib.Nat.{zero-div, div-one, div-div-eq-div-mul, mod-eq_of_lt, pow-zero, pow-succ'}
use native.Mathlib.Omega.{arith}
use lib.ListN.{length, get_or, replicate, get_or-append}
use lib.Seq.{get_or-append-add}
use borrow.Author.Tests.{eqb-true, eq-eqb, ltb-true, lt-ltb}
use Rattle.std.proofs.lemmas.Nat.{mul-mod_second}
use Rattle.std.specs.Prelude.{◌↔◌}
use lib.Dec.{eqb, ltb}
use Rattle.field.proofs.Booleans.{if_else, if_else_true, if_else_false}
use Rattle.field.specs.Residue.{times}
use Rattle.field.specs.Power.{power}
use Rattle.field.proofs.Powers.{power_zero, power_suc, power_mul}
use Rattle.field.proofs.PowerTables.{length_table_of_powers, powers_at}
use Rattle.field.specs.Field.{power_table}
use Rattle.layout.specs.declared.Header.{Header}
use Rattle.layout.specs.Header.{header_of, record_count, header_fits, raw_size, full_size, log_size, image_size}
use Rattle.layout.specs.Records.{is_struck, record_in}
use Rattle.layout.specs.Refusals.{Tests, done, test}
use Rattle.layout.proofs.Refusals.{alone_not, equal_three, three_equal, test_holds, none_fails, passes, if_taken_lem, if_refused}
use Rattle.layout.proofs.RecordWords.{length_record, word_of_record}
use Rattle.store.specs.Buffers.{buffers, opened, full_stripe}
use Rattle.store.specs.StoreCalls.{read_number, read_gives}
use Rattle.store.proofs.StoredRecords.{length_full}
use Rattle.image.specs.Image.{little, bytes_of, image_of}
use Rattle.image.proofs.WordBytes.{length_little}
use Rattle.vault.specs.History.{vault_after, header_after, image_after}
use Rattle.vault.specs.Round.{Round, records_in, round_of, round_header, log_words}
use Rattle.vault.specs.promises.Leaving.{OpenRefused, OpenTaken, ReadRefused, ReadTaken, ReadsModel, byte_of, ImageOf, ImageRefused, ImageTaken, ImagesHistory}
use Rattle.vault.specs.promises.Leaving.{PowersRefused, PowersTaken}
use Rattle.vault.specs.promises.Table.{ImageLength, IsStruck}
use Rattle.image.specs.ImageCall.{image_number, image_leaves}
use Rattle.power_table.specs.PowersCall.{powers_leaves}
use Rattle.vault.proofs.Levels.{length_log}
use Rattle.vault.proofs.Table.{Says, fails_unless, sure, struck_says}
use Rattle.vault.proofs.Rounds.{Good, records_long, header_fits_lem}
use Rattle.vault.proofs.Histories.{histories}
use Rattle.vault.proofs.Demand3.{length_image}

-- OPENING
pub open_refused : OpenRefused
open_refused k s raw full log d = (if_refused (header_of k s 0) (header_of 0 0 0) d, if_refused (opened (header_of k s 0) raw) (buffers raw full log) d)

pub open_taken : OpenTaken
open_taken k s raw full log t =
    let h = header_of k s 0 in (
      if_taken_lem h (header_of 0 0 0) t,
      if_taken_lem (opened h raw) (buffers raw full log) t
          ∙ ap (λ (n : ℕ). buffers raw (full_stripe h raw) (replicate ((n - 2) * suc s) 0)) {x = 2 ^ suc k} {y = 2 * 2 ^ k} (omega arith),
    )

-- READING
pub read_refused : ReadRefused
read_refused h raw i d = if_refused (record_in h.s raw i) [] d

pub read_taken : ReadTaken
read_taken h raw i t =
    let more : Tests = test (not (is_struck (record_in h.s raw i))) 14 done in
    let last : Tests = test (ltb i (record_count h)) 4 more in
    let long = eqb (length raw) (raw_size h) in
    let one = passes (header_fits h) 1 (test long 2 last) t (omega arith) in
    let two = passes long 2 last one.1 (omega arith) in
    let b = ltb-true i (record_count h) (passes (ltb i (record_count h)) 4 more two.1 (omega arith)).0 in
    let e : read_gives h raw i ≡ record_in h.s raw i = if_taken_lem (record_in h.s raw i) [] t in (
      ap length e ∙ length_record (record_count h) h.s raw i (eqb-true (length raw) (raw_size h) two.0) b,
      λ j lt. ap (λ (x : List ℕ). get_or x j 0) e ∙ word_of_record h.s raw i j lt,
    )

-- after any history the header and the buffers are those of a good round
module _ (a : Round) (good : Good a) (i : ℕ) (b : i < 2 ^ a.k) where
  abbrev kept : List ℕ
  kept = record_in a.s (records_in a) i

  abbrev Struck : Type 0
  Struck = IsStruck a.s (λ q. get_or kept q 0)

  read_is : read_number (round_header a) (records_in a) i ≡ if_else (is_struck kept) 14 0
  read_is =
      let h = round_header a in
      let more : Tests = test (not (is_struck kept)) 14 done in
      let last : Tests = test (ltb i (record_count h)) 4 more in
      test_holds 1 _ (header_fits_lem good) ∙ test_holds 2 last (eq-eqb (length (records_in a)) (raw_size h) (records_long good))
      ∙ test_holds 4 more (lt-ltb i (record_count h) b) ∙ alone_not (is_struck kept) 14

  kept_struck : Says (is_struck kept) Struck
  kept_struck = struck_says kept (λ q. get_or kept q 0) (length_record (2 ^ a.k) a.s (records_in a) i (records_long good) b) (λ q t. refl)

  else_taken : (Struck → ⊥) → read_number (round_header a) (records_in a) i ≡ 0
  else_taken d = read_is ∙ if_else_false (is_struck kept) 14 0 ((fails_unless kept_struck).1 d)

  read_struck : (read_number (round_header a) (records_in a) i ≡ 14) ↔ Struck
  read_struck = (
    λ e. sure kept_struck (λ d. let z = else_taken d in omega arith),
    λ t. read_is ∙ if_else_true (is_struck kept) 14 0 (kept_struck.1 t),
  )

  read_round :
      let h = round_header a in
      ((read_number h (records_in a) i ≡ 14) ↔ Struck) × ((Struck → ⊥) → (read_number h (records_in a) i ≡ 0) × (read_gives h (records_in a) i ≡ kept))
  read_round = (read_struck, λ d. let z = else_taken d in (z, if_taken_lem kept [] z))

pub reads_model : ReadsModel
reads_model o es i O = let t = histories o es O in rw (header_after, vault_after, t.vault_is, t.model_is) (read_round (round_of o es) t.good i)

-- THE IMAGE. Byte b of a number, low byte first, and byte b of word q of some words; those that are not there count as 0
little_at : (n x b : ℕ) → b < n → get_or (little n x) b 0 ≡ byte_of x b
unfolding little
little_at zero x b lt = absurd (omega arith)
little_at (suc n) x zero lt = ap (λ (y : ℕ). y % 256) (sym (div-one x))
little_at (suc n) x (suc b) lt =
    little_at n (x / 256) b (omega arith)
    ∙ ap (λ (y : ℕ). y % 256) (div-div-eq-div-mul x 256 (256 ^ b) ∙ ap (λ (y : ℕ). x / y) {x = 256 * 256 ^ b} {y = 256 ^ suc b} (omega arith))

byte_at : (ws : List ℕ) (q b : ℕ) → b < 4 → get_or (bytes_of ws) (4 * q + b) 0 ≡ byte_of (get_or ws q 0) b
unfolding bytes_of
byte_at [] q b lt = ap (λ (y : ℕ). y % 256) (sym (zero-div (256 ^ b)))
byte_at (x ∷ xs) zero b lt =
    let first : 4 * 0 + b ≡ b = omega arith in
    ap (λ (j : ℕ). get_or (little 4 x ++ bytes_of xs) j 0) first ∙ get_or-append (little 4 x) (bytes_of xs) 0 b (omega (arith, length_little 4 x))
    ∙ little_at 4 x b lt
byte_at (x ∷ xs) (suc q) b lt =
    ap (λ (j : ℕ). get_or (little 4 x ++ bytes_of xs) j 0) {x = 4 * suc q + b} {y = length (little 4 x) + (4 * q + b)} (omega (arith, length_little 4 x))
    ∙ get_or-append-add (little 4 x) (bytes_of xs) (4 * q + b) 0 ∙ byte_at xs q b lt

pub image_refused : ImageRefused
image_refused h full log m d = if_refused (image_of full log) m d

-- the image of buffers that have their lengths
module _ (h : Header) (full log : List ℕ) (full_long : length full ≡ full_size h) (log_long : length log ≡ log_size h) where
  full_words : length full ≡ 2 * 2 ^ h.k * suc h.s
  full_words = full_long ∙ ap (λ (n : ℕ). n * suc h.s) {x = 2 ^ suc h.k} {y = 2 * 2 ^ h.k} (omega arith)

  image_is : ImageOf h full log (image_of full log)
  image_is = record {
    long = length_image h full log full_long log_long;
    full_first = λ q b lt low.
        byte_at (full ++ log) q b low ∙ ap (λ (x : ℕ). byte_of x b) (get_or-append full log 0 q (omega (arith, full_words)));
    then_log = λ q b lt low.
        let at : 2 * 2 ^ h.k * suc h.s + q ≡ length full + q = omega (arith, full_words) in
        byte_at (full ++ log) (2 * 2 ^ h.k * suc h.s + q) b low
        ∙ ap (λ (x : ℕ). byte_of x b) (ap (λ (j : ℕ). get_or (full ++ log) j 0) at ∙ get_or-append-add full log q 0);
  }

pub image_taken : ImageTaken
image_taken h full log m t =
    let sizes = eqb (length full) (full_size h) && (eqb (length log) (log_size h) && eqb (length m) (image_size h)) in
    let one = passes (header_fits h) 1 (test sizes 2 done) t (omega arith) in
    let e = three_equal (length full) (full_size h) (length log) (log_size h) (length m) (image_size h) (passes sizes 2 done one.1 (omega arith)).0 in
    subst (λ (x : List ℕ). ImageOf h full log x) (sym (if_taken_lem (image_of full log) m t)) (image_is h full log e.0 e.1)

image_round : (a : Round) → Good a → (m : List ℕ) →
    let h = round_header a in
    let full = full_stripe h a.base in
    let log = log_words h a.since a.k in
    ImageLength h m → (image_number h full log m ≡ 0) × (image_leaves h full log m ≡ image_of full log)
image_round a good m long =
    let h = round_header a in
    let full = full_stripe h a.base in
    let log = log_words h a.since a.k in
    let taken : image_number h full log m ≡ 0 =
    test_holds 1 _ (header_fits_lem good) ∙ test_holds 2 done
    (equal_three (length full) (full_size h) (length log) (log_size h) (length m) (image_size h) (length_full h a.base) (length_log h a.since a.k) long)
    ∙ none_fails in
    (taken, if_taken_lem (image_of full log) m taken)

pub images_history : ImagesHistory
images_history o es m O = let t = histories o es O in rw (header_after, image_after, vault_after, t.vault_is) (image_round (round_of o es) t.good m)

-- POWERS, however they are computed
pub power_is : (p x n : ℕ) → 1 < p → power p x n ≡ x ^ n % p
unfolding times
power_is p x zero h = power_zero p h x ∙ sym (mod-eq_of_lt h) ∙ ap (λ (y : ℕ). y % p) (sym (pow-zero x))
power_is p x (suc n) h =
    power_suc p h x n ∙ ap (λ (y : ℕ). x * y % p) (power_is p x n h) ∙ mul-mod_second x (x ^ n) p
    ∙ ap (λ (y : ℕ). y % p) (sym (pow-succ' x n))

pub powers_refused : PowersRefused
powers_refused out d = if_refused power_table out d

pub powers_taken : PowersTaken
powers_taken out t =
    let e : powers_leaves out ≡ power_table = if_taken_lem power_table out t in (
      ap length e ∙ length_table_of_powers,
      λ i b. ap (λ (x : List ℕ). get_or x i 0) e ∙ powers_at 65537 (power 65537 3 32) 2048 i b ∙ sym (power_mul 65537 (omega arith) 3 32 i)
          ∙ power_is 65537 3 (32 * i) (omega arith),
    )
