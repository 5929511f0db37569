-- A STRIPE OF THE BUFFERS, none of whose positions is erased: its words, and what it decodes to, both ways round, by the promises of the crate judging. The
-- room TakingBack of specs/promises. Assumes nothing.
use mathlib.Core.Path.{◌≡◌, refl, sym, ap, ◌∙◌, subst}
use mathlib.Core.Bool.{Bool, true, false, not}
use mathlib.Core.Logic.{⊎_elim}
use mathlib.Core.List.{List}
use Prim.Native.Nat.{ℕ, suc, ◌+◌, ◌*◌, ◌/◌, ◌%◌, ◌^◌, ◌≤◌, ◌<◌}
use native.Mathlib.Nat.{eq-or-lt_of_le, mod-lt, div-add-mod', div-lt_iff_lt-mul}
use native.Mathlib.Decide.{dec_lt}
use native.Mathlib.Omega.{arith}
use borrow.Author.Tests.{eqb-true, eqb-false, eq-eqb}
use lib.Dec.{eqb}
use lib.ListN.{length, get_or, drop}
use lib.Seq.{get_or-take, get_or-drop}
use Rattle.std.specs.Prelude.{◌↔◌}
use Rattle.std.proofs.lemmas.List.{get_or_past}
use Rattle.field.proofs.Booleans.{either}
use Rattle.code.specs.declared.Stripe.{Stripe}
use Rattle.code.specs.Stripe.{coded_rows, coded_stripe}
use Rattle.code.proofs.CodedRows.{length_coded_rows}
use Rattle.code.proofs.Lifting.{rows_ext}
use Rattle.layout.specs.Header.{prime_of, vault_root, width, first_of, level_at, stripe_size, stripe_of}
use Rattle.layout.specs.Refusals.{Tests, done, test, refusal}
use Rattle.layout.proofs.StripePlaces.{first_full, first_level}
use Rattle.judging.specs.Decoding.{decoded_number}
use Rattle.judging.specs.Promises as Rows
use Rattle.judging.specs.Promises.{OutOfField}
use Rattle.judging.proofs.Proved as Judging
use Rattle.judging.proofs.StripeNumbers.{failed_is, stripe_fits}
use Rattle.taking_back.specs.TakingBack.{stripe_held, none_erased, decode_held}
use Rattle.taking_back.proofs.HeldStripes.{full_held, level_held, stripe_long}
use Rattle.taking_back.proofs.WholeStripes.{none_set, all_survive, never_seven}
use Rattle.vault.specs.History.{Vault}
use Rattle.vault.specs.promises.Decoding.{HoldRecords}
use Rattle.vault.specs.promises.Table.{FullLength, LogLength, InRange, NoRecord, EachNumber}
use Rattle.vault.specs.promises.TakingBack.{HeldIs, HeldDecodes, HeldFails, CodesHeld, HeldRows, HeldNumbers, HeldFailsIff, HeldBlocksIff}
use Rattle.vault.proofs.ImageNumbers.{OfStripe, rows_number}
use Rattle.vault.proofs.NoRecords.{blocks_no}
use Rattle.vault.proofs.StripeCall.{failed_number}
use Rattle.vault.proofs.Table.{ended, beside, each_number, then_iff, not_false, fits_iff, full_is, log_is}

-- ITS WORDS
pub held_is : HeldIs
held_is v l q ef e w b =
    let h = v.header in
    let g = v.held.log in (
      stripe_long h v.held.full g l (ef ∙ sym (full_is h), e ∙ sym (log_is h)) w,
      λ e. full_held h v.held.full g l e,
      λ d. ap (λ (x : List ℕ). get_or x q 0) (level_held h v.held.full g l (λ e. omega (arith, d, e)))
          ∙ get_or-take (stripe_size h l) (drop (level_at h l) g) q 0 b
          ∙ get_or-drop (level_at h l) g q 0,
    )

-- OF A STRIPE of a header in range, and buffers that have their lengths
module _ (v : Vault) (l : ℕ) where
  abbrev words : List ℕ
  words = stripe_held v.header v.held.full v.held.log l

  abbrev stripe : Stripe
  stripe = stripe_of v.header l

  abbrev number : ℕ
  number = decoded_number (decode_held v.header v.held.full v.held.log l)

  abbrev RowCodes : List ℕ → Type 0
  RowCodes bs = Rows.Codes stripe none_erased words bs

  not_seven : HeldFails v l 7 → ⊥
  not_seven f = never_seven stripe words f

  module _ (range : InRange v.header) (full : FullLength v.header v.held.full) (log : LogLength v.header v.held.log) (w : l ≤ v.header.k) where
    words_long : length words ≡ stripe_size v.header l
    words_long = let h = v.header in stripe_long h v.held.full v.held.log l (full ∙ sym (full_is h), log ∙ sym (log_is h)) w

    -- t0, as the code has it
    first_is : (t : ℕ) → (l ≡ v.header.k → t ≡ 0) → (l < v.header.k → t ≡ v.header.c / 2 ^ suc l * 2 ^ suc l) → t ≡ first_of v.header l
    first_is t f g =
        ⊎_elim (λ e. f e ∙ sym (first_full v.header l e)) (λ b. g b ∙ sym (first_level v.header l (λ e. omega arith))) (eq-or-lt_of_le w)

    codes_iff : (bs : List ℕ) → RowCodes bs ↔ CodesHeld v l bs
    codes_iff bs =
        let h = v.header in (
          λ C. record {
            long = C.blocks.long;
            in_field = λ q. omega (arith, C.blocks.words.word q);
            codes = λ t f g. ap (λ (x : ℕ). coded_rows (prime_of h) (vault_root h) h.k l x (width h) bs) (first_is t f g)
                ∙ rows_ext (width h) (2 ^ suc l) (coded_stripe stripe bs) words
                (length_coded_rows (prime_of h) (vault_root h) h.k l (first_of h l) (width h) bs) words_long
                (λ i j a b. C.agrees.same i j a b (none_set i));
          },
          λ C. let same : coded_stripe stripe bs ≡ words =
              C.codes (first_of h l) (λ e. first_full h l e) (λ b. first_level h l (λ e. omega arith)) in
              record {
                blocks = record { long = C.long; words = record { word = λ q. omega (arith, C.in_field q) } };
                agrees = record { same = λ i j a b z. ap (λ (x : List ℕ). get_or x (i * width h + j) 0) same };
              },
        )

    -- 8
    abbrev Stray : Type 0
    Stray = (q : ℕ) × (65536 < get_or words q 0)

    stray_at : (q : ℕ) → 65536 < get_or words q 0 → Dec (q < length words) → OutOfField stripe none_erased words
    stray_at q o (no d) = absurd (omega (arith, get_or_past words q 0 (omega arith)))
    stray_at q o (yes b) =
        let n = width v.header in
        let s : q / n * n + q % n ≡ q = div-add-mod' q n in
        record {
          position = q / n;
          column = q % n;
          among = (div-lt_iff_lt-mul (omega arith)).1 (omega (arith, words_long));
          inside = mod-lt q (omega arith);
          survives = none_set (q / n);
          over = rw s (omega arith);
        }

    stray_iff : OutOfField stripe none_erased words ↔ Stray
    stray_iff = (λ O. (O.position * width v.header + O.column, omega (arith, O.over)), λ s. stray_at s.0 s.1 (dec_lt s.0 (length words)))

    eight : HeldFails v l 8 ↔ Stray
    eight =
        let r = (Judging.proved).eight_iff stripe none_erased words in
        (λ f. stray_iff.0 (r.0 f).1, λ s. r.1 (all_survive l, stray_iff.1 s))

    -- 9 and 10
    module _ (no_stray : Stray → ⊥) where
      readable : Rows.Readable stripe none_erased words
      readable =
          (Judging.proved).else_readable stripe none_erased words (stripe_fits v.header l ((fits_iff v.header).1 range) w) not_seven (λ f. no_stray (eight.0 f))

      abbrev NoCode : Type 0
      NoCode = (bs : List ℕ) → CodesHeld v l bs → ⊥

      nine : HeldFails v l 9 ↔ NoCode
      nine =
          let r = (Judging.proved).nine_iff stripe none_erased words readable in
          (λ f bs C. r.0 f bs ((codes_iff bs).1 C), λ d. r.1 (λ bs C. d bs ((codes_iff bs).0 C)))

      abbrev SomeNoRecord : Type 0
      SomeNoRecord = (bs : List ℕ) × (j : ℕ) × CodesHeld v l bs × (j < 2 ^ l) × NoRecord v.header l bs j

      none_records : (bs : List ℕ) → RowCodes bs → HoldRecords v.header l bs false ↔ ((j : ℕ) × (j < 2 ^ l) × NoRecord v.header l bs j)
      none_records bs C = blocks_no v.header l bs C.blocks.long

      ten : HeldFails v l 10 ↔ SomeNoRecord
      ten =
          let r = (Judging.proved).ten_iff stripe none_erased words readable in (
            λ f. let b = r.0 f in
                let n = (none_records b.0 b.1).0 b.2 in
                (b.0, n.0, (codes_iff b.0).0 b.1, n.1, n.2),
            λ n. let C = (codes_iff n.0).1 n.2 in r.1 (n.0, C, (none_records n.0 C).1 (n.1, n.3, n.4)),
          )

      blocks : (bs : List ℕ) → (SomeNoRecord → ⊥) → CodesHeld v l bs → HeldDecodes v l bs
      blocks bs d H =
          let C = (codes_iff bs).1 H in
          let r = (Judging.proved).decodes_iff stripe none_erased words bs readable in
          ⊎_elim (λ t. r.1 (C, t)) (λ f. let n = (none_records bs C).0 f in absurd (d (bs, n.0, H, n.1, n.2))) (either _)

      blocks_code : (bs : List ℕ) → HeldDecodes v l bs → CodesHeld v l bs
      blocks_code bs e = (codes_iff bs).0 (((Judging.proved).decodes_iff stripe none_erased words bs readable).0 e).0

-- THE TESTS 8 TO 10, by the number of what decoding comes to
abbrev number_tests : ℕ → Tests
number_tests n = test (not (eqb n 8)) 8 (test (not (eqb n 9)) 9 (test (not (eqb n 10)) 10 done))

number_is : (n : ℕ) → OfStripe n → (n ≡ 7 → ⊥) → refusal (number_tests n) ≡ n
unfolding refusal
number_is n o d = go (eqb n 8) refl (eqb n 9) refl (eqb n 10) refl
  where
    go : (a : Bool) → eqb n 8 ≡ a → (b : Bool) → eqb n 9 ≡ b → (c : Bool) → eqb n 10 ≡ c
        → refusal (test (not a) 8 (test (not b) 9 (test (not c) 10 done))) ≡ n
    go true p b q c r = sym (eqb-true n 8 p)
    go false p true q c r = sym (eqb-true n 9 q)
    go false p false q true r = sym (eqb-true n 10 r)
    go false p false q false r =
        ⊎_elim (λ z. sym z) (λ t. absurd (omega (arith, t.0, t.1, d, eqb-false n 8 p, eqb-false n 9 q, eqb-false n 10 r))) o

pub held_fails_iff : HeldFailsIff
held_fails_iff v l n z = (λ f. failed_number f, λ q. failed_is _ (sym q) (λ e. omega arith))

fails_with : (v : Vault) (l n : ℕ) → 0 < n → (not (eqb (number v l) n) ≡ false) ↔ HeldFails v l n
fails_with v l n z =
    let f = held_fails_iff v l n z in
    (λ t. f.1 (eqb-true (number v l) n (not_false (eqb (number v l) n) t)), λ p. ap not (eq-eqb (number v l) n (f.0 p)))

pub held_numbers : HeldNumbers
held_numbers v l range full log w =
    let tested = number_is (number v l) (rows_number (stripe v l) none_erased (words v l)) (λ e. not_seven v l (failed_is _ (sym e) (λ q. omega arith))) in
    subst (λ (n : ℕ). EachNumber n (HeldRows v l)) tested
    (each_number (HeldRows v l)
    (beside (omega arith) (λ o. then_iff (fails_with v l 8 (omega arith)) (eight v l range full log w))
    (beside (omega arith) (λ o. then_iff (fails_with v l 9 (omega arith)) (nine v l range full log w o.1))
    (beside (omega arith) (λ o. then_iff (fails_with v l 10 (omega arith)) (ten v l range full log w o.0.1)) ended))))

pub held_blocks_iff : HeldBlocksIff
held_blocks_iff v l bs range full log w = (
  λ e. let n = (held_numbers v l range full log w).1.0 (ap decoded_number e) in (n, blocks_code v l range full log w n.0.0.1 bs e),
  λ p. let n = p.0 in blocks v l range full log w n.0.0.1 bs n.1 p.1,
)
