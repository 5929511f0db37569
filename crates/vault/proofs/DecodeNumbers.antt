-- The number that a stripe decodes to, and that of the call `decode`, both ways round: 7 to 10 by the promises of the crate judging, said by bytes and by
-- words, and for the call 1 to 3 and 6 before them, as of other calls (ImageNumbers). The room Numbers of specs/promises. Assumes nothing.
use mathlib.Core.Path.{◌≡◌, refl, sym, ap, ◌∙◌, subst}
use mathlib.Core.Bool.{Bool, true, false, ◌&&◌, not}
use mathlib.Core.Logic.{⊎_elim}
use mathlib.Core.List.{List}
use Prim.Native.Nat.{ℕ, suc, ◌^◌, ◌≤◌, ◌<◌}
use native.Mathlib.Omega.{arith}
use borrow.Author.Tests.{eqb-true, eqb-false, eq-eqb}
use lib.Dec.{eqb}
use lib.ListN.{length, get_or}
use Rattle.std.specs.Prelude.{◌↔◌}
use Rattle.layout.specs.declared.Header.{Header}
use Rattle.layout.specs.Header.{header_fits, out_size, scratch_size, image_size, has_stripe, stripe_of}
use Rattle.layout.specs.Refusals.{Tests, done, test, refusal, if_taken}
use Rattle.image.specs.Erasures.{erasures_in, erasures_fit}
use Rattle.image.specs.ImageTests.{image_tests}
use Rattle.judging.specs.Decoding.{decoded_number}
use Rattle.judging.specs.Promises.{OutOfField}
use Rattle.judging.proofs.Proved as Decoding
use Rattle.judging.proofs.StripeNumbers.{failed_is, stripe_fits}
use Rattle.stripe_decoding.specs.Decoding.{decode_stripe}
use Rattle.stripe_decoding.specs.StripeCall.{decode_early, decode_number}
use Rattle.vault.specs.promises.Decoding.{marks, words_in, Readable, Fails}
use Rattle.vault.specs.promises.Erasures.{WellFormed, Untouched}
use Rattle.vault.specs.promises.Table.{InRange, OutLength, ScratchLength, IsStripe, NoStripe, TooFew, Stray, Inconsistent, NotRecords}
use Rattle.vault.specs.promises.Table.{Rows, none, row, EachNumber}
use Rattle.vault.specs.promises.Numbers.{ImageRows, StripeRows, StripeNumbers, FailsIff, DecodeNumbers, AskedIff}
use Rattle.vault.proofs.StripeDecoding.{nine_iff, ten_iff}
use Rattle.vault.proofs.StripeCall.{failed_number, needed_within}
use Rattle.vault.proofs.Erasures.{stripe_word, well_formed_iff, marked_iff}
use Rattle.vault.proofs.Table.{Beside, ended, beside, each_number, then_iff, Says, not_false, fails_unless, sure, both_say, equal_says}
use Rattle.vault.proofs.Table.{fits_iff, needed_iff, stripe_says}
use Rattle.vault.proofs.NoRecords.{records_no}
use Rattle.vault.proofs.ImageNumbers.{Passed, image_beside, OfStripe, rows_number, scratch_says}

-- a header that fits, one of its stripes, and a well-formed list
record Tested (h : Header) (e : List ℕ) (l : ℕ) : Type 0 where
  fits : header_fits h ≡ true
  within : l ≤ h.k
  formed : WellFormed h e

tested : {h : Header} {e : List ℕ} {l : ℕ} → InRange h → WellFormed h e → IsStripe h l → Tested h e l
tested {h} {e} {l} range formed stripe =
    record { fits = (fits_iff h).1 range; within = needed_within h l ((needed_iff h l).1 stripe); formed = formed }

-- OF A STRIPE
module _ (h : Header) (m e : List ℕ) (l : ℕ) where
  seven : Fails h m e l 7 ↔ TooFew h e l
  seven = (Decoding.proved).seven_iff (stripe_of h l) (marks h e l) (words_in h m l)

  module _ (t : Tested h e l) where
    not_marked : (i : ℕ) → i < 2 ^ suc l → (get_or (marks h e l) i false ≡ false) ↔ Untouched h e l i
    not_marked i a = marked_iff h e l i ((fits_iff h).0 t.fits).k_to t.within t.formed a

    stray_iff : OutOfField (stripe_of h l) (marks h e l) (words_in h m l) ↔ Stray h m e l
    stray_iff = (
      λ O. record {
        position = O.position;
        column = O.column;
        among = O.among;
        inside = O.inside;
        untouched = (not_marked O.position O.among).0 O.survives;
        over = omega (arith, stripe_word h m l O.position O.column O.among O.inside, O.over);
      },
      λ S. record {
        position = S.position;
        column = S.column;
        among = S.among;
        inside = S.inside;
        survives = (not_marked S.position S.among).1 S.untouched;
        over = omega (arith, stripe_word h m l S.position S.column S.among S.inside, S.over);
      },
    )

    module _ (enough : TooFew h e l → ⊥) where
      eight : Fails h m e l 8 ↔ Stray h m e l
      eight =
          let r = (Decoding.proved).eight_iff (stripe_of h l) (marks h e l) (words_in h m l) in
          (λ f. stray_iff.0 (r.0 f).1, λ s. r.1 (omega arith, stray_iff.1 s))

      module _ (no_stray : Stray h m e l → ⊥) where
        readable : Readable h m e l
        readable =
            let R = (Decoding.proved).else_readable (stripe_of h l) (marks h e l) (words_in h m l) (stripe_fits h l t.fits t.within) (λ f. enough (seven.0 f))
            (λ f. no_stray (eight.0 f)) in
            record { fits = t.fits; within = t.within; enough = R.enough; in_field = R.in_field }

        nine : Fails h m e l 9 ↔ Inconsistent h m e l
        nine = nine_iff h m e l readable

        ten : Fails h m e l 10 ↔ NotRecords h m e l
        ten =
            let r = ten_iff h m e l readable in (
              λ f. let b = r.0 f in
                  let n = (records_no h m e l b.0 b.1).0 b.2 in
                  record { blocks = b.0; codes = b.1; block = n.0; among = n.1; no_record = n.2 },
              λ n. r.1 (n.blocks, n.codes, (records_no h m e l n.blocks n.codes).1 (n.block, n.among, n.no_record)),
            )

-- THE TESTS 7 TO 10, by the number of what decoding comes to
abbrev number_tests : ℕ → Tests
number_tests v = test (not (eqb v 7)) 7 (test (not (eqb v 8)) 8 (test (not (eqb v 9)) 9 (test (not (eqb v 10)) 10 done)))

number_is : (v : ℕ) → OfStripe v → refusal (number_tests v) ≡ v
unfolding refusal
number_is v o = go (eqb v 7) refl (eqb v 8) refl (eqb v 9) refl (eqb v 10) refl
  where
    go : (a : Bool) → eqb v 7 ≡ a → (b : Bool) → eqb v 8 ≡ b → (c : Bool) → eqb v 9 ≡ c → (d : Bool) → eqb v 10 ≡ d
        → refusal (test (not a) 7 (test (not b) 8 (test (not c) 9 (test (not d) 10 done)))) ≡ v
    go true p b q c r d s = sym (eqb-true v 7 p)
    go false p true q c r d s = sym (eqb-true v 8 q)
    go false p false q true r d s = sym (eqb-true v 9 r)
    go false p false q false r true s = sym (eqb-true v 10 s)
    go false p false q false r false s =
        ⊎_elim (λ z. sym z) (λ t. absurd (omega (arith, t.0, t.1, eqb-false v 7 p, eqb-false v 8 q, eqb-false v 9 r, eqb-false v 10 s))) o

-- A STRIPE FAILS with a number if that is its number, and each of the four tests fails if its row applies
pub fails_iff : FailsIff
fails_iff h m e l n z = (λ f. failed_number f, λ q. failed_is _ (sym q) (λ e. omega arith))

module _ (h : Header) (m e : List ℕ) (l : ℕ) where
  abbrev number : ℕ
  number = decoded_number (decode_stripe h m (erasures_in e) l)

  fails_with : (n : ℕ) → 0 < n → (not (eqb number n) ≡ false) ↔ Fails h m e l n
  fails_with n z =
      let f = fails_iff h m e l n z in
      (λ t. f.1 (eqb-true number n (not_false (eqb number n) t)), λ p. ap not (eq-eqb number n (f.0 p)))

  number_tested : refusal (number_tests number) ≡ number
  number_tested = number_is number (rows_number _ _ _)

  -- where the rows before let it be tested
  stripe_beside : {least : ℕ} {others : Type 0} → least < 7 → (others → Tested h e l) → Beside least others (number_tests number) (StripeRows h m e l)
  stripe_beside b t =
      beside b (λ o. then_iff (fails_with 7 (omega arith)) (seven h m e l))
      (beside (omega arith) (λ o. then_iff (fails_with 8 (omega arith)) (eight h m e l (t o.0) o.1))
      (beside (omega arith) (λ o. then_iff (fails_with 9 (omega arith)) (nine h m e l (t o.0.0) o.0.1 o.1))
      (beside (omega arith) (λ o. then_iff (fails_with 10 (omega arith)) (ten h m e l (t o.0.0.0) o.0.0.1 o.0.1)) ended)))

pub stripe_numbers : StripeNumbers
stripe_numbers h m e l range formed stripe =
    let rows = StripeRows h m e l in
    subst (λ (n : ℕ). EachNumber n rows) (number_tested h m e l)
    (each_number rows (stripe_beside h m e l (omega arith) (λ _. tested range formed stripe)))

-- THE NUMBER of a call that goes on where its early tests hold
early_then : (a b c d : Bool) (rest : Tests)
    → let early = refusal (test a 1 (test b 2 (test c 3 (test d 6 done)))) in
    if_taken early (refusal rest) early ≡ refusal (test a 1 (test b 2 (test c 3 (test d 6 rest))))
unfolding refusal
early_then false b c d rest = refl
early_then true false c d rest = refl
early_then true true false d rest = refl
early_then true true true false rest = refl
early_then true true true true rest = refl

-- THE CALL
module _ (h : Header) (m e : List ℕ) (l : ℕ) (out scratch : List ℕ) where
  abbrev Lengths : Type 0
  Lengths = OutLength h out × ScratchLength h scratch

  abbrev sizes : Bool
  sizes = eqb (length out) (out_size h) && eqb (length scratch) (scratch_size h)

  -- 6 after 1 to 3, and then the tests and the rows that stand behind it
  with_six : {ts : Tests} {rows : Rows} → Beside 6 (Passed h m e Lengths × (NoStripe h l → ⊥)) ts rows
      → Beside 0 (Unit {0}) (image_tests h m e sizes (test (has_stripe h l) 6 ts)) (ImageRows h m e Lengths (row 6 (NoStripe h l) rows))
  with_six more =
      let say : Says sizes Lengths = both_say (equal_says {a = length out} {b = out_size h} refl) (scratch_says h scratch) in
      image_beside h m e say (beside (omega arith) (λ _. fails_unless (stripe_says h l)) more)

  -- where none of these applies
  passed : Passed h m e Lengths × (NoStripe h l → ⊥) → Tested h e l
  passed o = tested (sure (fits_iff h) o.0.0.0.1) (sure (well_formed_iff h e) o.0.1) (sure (stripe_says h l) o.1)

  decode_refusal : decode_number h m e l out scratch ≡ refusal (image_tests h m e sizes (test (has_stripe h l) 6 (number_tests (number h m e l))))
  decode_refusal =
      let early = decode_early h m e l out scratch in
      ap (λ (n : ℕ). if_taken early n early) (sym (number_tested h m e l))
      ∙ early_then (header_fits h) (eqb (length m) (image_size h) && sizes) (erasures_fit h e) (has_stripe h l) (number_tests (number h m e l))

pub decode_numbers : DecodeNumbers
decode_numbers h m e l out scratch =
    let rows = ImageRows h m e (OutLength h out × ScratchLength h scratch) (row 6 (NoStripe h l) (StripeRows h m e l)) in
    subst (λ (n : ℕ). EachNumber n rows) (sym (decode_refusal h m e l out scratch))
    (each_number rows (with_six h m e l out scratch (stripe_beside h m e l (omega arith) (passed h m e l out scratch))))

pub asked_iff : AskedIff
asked_iff h m e l out scratch =
    (each_number (ImageRows h m e (OutLength h out × ScratchLength h scratch) (row 6 (NoStripe h l) none)) (with_six h m e l out scratch ended)).1
