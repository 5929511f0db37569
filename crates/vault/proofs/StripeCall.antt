-- The call `decode`, both ways round: what it gives where no number from 1 to 6 applies, and what it leaves. The room Decoding of specs/promises. Assumes
-- nothing.
use mathlib.Core.Path.{◌≡◌, refl, sym, ap, ◌∙◌}
use mathlib.Core.Bool.{Bool, true, false, ◌&&◌, ◌||◌}
use mathlib.Core.Logic.{inl, inr}
use mathlib.Core.List.{List}
use Prim.Native.Nat.{ℕ, ◌≤◌, ◌<◌}
use native.Mathlib.Omega.{arith}
use lib.Dec.{ltb}
use lib.ListN.{length, replicate}
use borrow.Author.Tests.{eqb-true, lt-ltb, ltb-true}
use Rattle.std.proofs.lemmas.Bool.{or_right}
use Rattle.layout.specs.declared.Header.{Header}
use Rattle.layout.specs.Header.{header_fits, out_size, scratch_size, image_size, is_full, is_filled, has_stripe, stripe_of}
use Rattle.layout.specs.Refusals.{done}
use Rattle.image.specs.Erasures.{erasures_in, erasures_fit}
use Rattle.code.specs.declared.Stripe.{Stripe}
use Rattle.code.specs.Stripe.{block_count}
use Rattle.judging.specs.Decoding.{Decoded, failed, decoded, decoded_number, decoded_words, are_records}
use Rattle.judging.specs.Promises as Rows
use Rattle.judging.proofs.Proved as Decoding
use Rattle.judging.proofs.RowDecoding.{Outcome, gives, nine, ten, outcome}
use Rattle.judging.proofs.StripeNumbers.{failed_is, stripe_fits}
use Rattle.stripe_decoding.specs.Decoding.{decode_stripe}
use Rattle.stripe_decoding.specs.StripeCall.{decode_early, decode_number, decode_leaves}
use Rattle.vault.specs.promises.Decoding.{marks, words_in, Readable, Asked, GivesSeven, GivesEight}
use Rattle.vault.specs.promises.Decoding.{GivesNine, GivesTen, GivesZero, LeavesBlocks, LeavesZeros, Gives}
use Rattle.vault.specs.promises.Losses.{Needed}
use Rattle.field.proofs.Booleans.{both_true, first_true, second_true}
use Rattle.layout.proofs.Refusals.{passes, test_holds, none_fails, equal_three, if_taken_lem}
use Rattle.layout.proofs.StripePlaces.{stripe_within}
use Rattle.vault.proofs.StripeDecoding.{readable_rows, decodes_iff, nine_iff, ten_iff}

-- the number of what decoding comes to
pub failed_number : {d : Decoded} {n : ℕ} → d ≡ failed n → decoded_number d ≡ n
failed_number p = ap decoded_number p

-- a readable stripe with number 0 has blocks, and they are records
zero_only : {st : Stripe} {ms : List Bool} {r : List ℕ} {d : Decoded} → Outcome st ms r d → decoded_number d ≡ 0
    → (bs : List ℕ) × Rows.Codes st ms r bs × (are_records st bs (block_count st) ≡ true)
zero_only (gives bs p C t) q = (bs, C, t)
zero_only (nine p none) q = absurd (omega (arith, failed_number p))
zero_only (ten bs p C t) q = absurd (omega (arith, failed_number p))

-- test 6 passes for the needed stripes, and for no other
pub needed_passes : (h : Header) (l : ℕ) → Needed h l → has_stripe h l ≡ true
needed_passes h l (inl full) = rw (full, has_stripe)
needed_passes h l (inr (lt, filled)) = or_right (is_full h l) _ (both_true (lt-ltb l h.k lt) filled)

pub passes_needed : (h : Header) (l : ℕ) → has_stripe h l ≡ true → Needed h l
passes_needed h l t = go (is_full h l) refl t
  where
    go : (b : Bool) → is_full h l ≡ b → (b || (ltb l h.k && is_filled h l)) ≡ true → Needed h l
    go true eb q = inl eb
    go false eb q = inr (ltb-true l h.k (first_true (ltb l h.k) (is_filled h l) q), second_true (ltb l h.k) (is_filled h l) q)

-- they are those of the header
pub needed_within : (h : Header) (l : ℕ) → Needed h l → l ≤ h.k
needed_within h l (inl full) = omega (arith, eqb-true l h.k full)
needed_within h l (inr (lt, filled)) = omega arith

-- WHERE NO NUMBER FROM 1 TO 6 APPLIES the header fits, the stripe is one of it, and the call does what decoding comes to
module _ (h : Header) (m e : List ℕ) (l : ℕ) (out scratch : List ℕ) (asked : Asked h m e l out scratch) where
  asked_fits : header_fits h ≡ true
  asked_fits = (passes (header_fits h) 1 _ asked (omega arith)).0

  pub asked_within : l ≤ h.k
  asked_within =
      let t₁ = (passes (header_fits h) 1 _ asked (omega arith)).1 in
      let t₂ = (passes _ 2 _ t₁ (omega arith)).1 in
      let t₃ = (passes (erasures_fit h e) 3 _ t₂ (omega arith)).1 in
      stripe_within h l (passes (has_stripe h l) 6 done t₃ (omega arith)).0

  abbrev found : Decoded
  found = decode_stripe h m (erasures_in e) l

  number_of : decode_number h m e l out scratch ≡ decoded_number found
  number_of = if_taken_lem (decoded_number found) (decode_early h m e l out scratch) asked

  words_of : decode_leaves h m e l out scratch ≡ decoded_words found (out_size h)
  words_of = if_taken_lem (decoded_words found (out_size h)) out asked

  fails : (n : ℕ) → 0 < n → decode_number h m e l out scratch ≡ n → found ≡ failed n
  fails n z q = failed_is found (sym q ∙ number_of) (λ e. omega arith)

  -- with a number other than 7 and 8 the stripe is readable
  is_read : (n : ℕ) → (n ≡ 7 → ⊥) → (n ≡ 8 → ⊥) → decode_number h m e l out scratch ≡ n → Readable h m e l
  is_read n x y q =
      let not : (i : ℕ) → (n ≡ i → ⊥) → found ≡ failed i → ⊥ = λ i d t. d (sym q ∙ number_of ∙ failed_number t) in
      let R = (Decoding.proved).else_readable (stripe_of h l) (marks h e l) (words_in h m l) (stripe_fits h l asked_fits asked_within) (not 7 x) (not 8 y) in
      record { fits = asked_fits; within = asked_within; enough = R.enough; in_field = R.in_field }

pub gives_seven : GivesSeven
gives_seven h m e l out scratch A =
    let t = (Decoding.proved).seven_iff (stripe_of h l) (marks h e l) (words_in h m l) in
    (λ q. t.0 (fails h m e l out scratch A 7 (omega arith) q), λ b. number_of h m e l out scratch A ∙ ap decoded_number (t.1 b))

pub gives_eight : GivesEight
gives_eight h m e l out scratch A =
    let t = (Decoding.proved).eight_iff (stripe_of h l) (marks h e l) (words_in h m l) in
    (λ q. t.0 (fails h m e l out scratch A 8 (omega arith) q), λ b. number_of h m e l out scratch A ∙ ap decoded_number (t.1 b))

pub gives_nine : GivesNine
gives_nine h m e l out scratch A = (
  λ q. let R = is_read h m e l out scratch A 9 (λ t. omega arith) (λ t. omega arith) q in
      (R, (nine_iff h m e l R).0 (fails h m e l out scratch A 9 (omega arith) q)),
  λ t. number_of h m e l out scratch A ∙ ap decoded_number ((nine_iff h m e l t.0).1 t.1),
)

pub gives_ten : GivesTen
gives_ten h m e l out scratch A = (
  λ q. let R = is_read h m e l out scratch A 10 (λ t. omega arith) (λ t. omega arith) q in
      (R, (ten_iff h m e l R).0 (fails h m e l out scratch A 10 (omega arith) q)),
  λ t. number_of h m e l out scratch A ∙ ap decoded_number ((ten_iff h m e l t.0).1 t.1),
)

pub gives_zero : GivesZero
gives_zero h m e l out scratch A =
    let N = number_of h m e l out scratch A in (
      λ q. let R = is_read h m e l out scratch A 0 (λ t. omega arith) (λ t. omega arith) q in
          (R, zero_only (outcome (stripe_of h l) (marks h e l) (words_in h m l) (readable_rows R)) (sym N ∙ q)),
      λ t. N ∙ ap decoded_number ((decodes_iff h m e l t.1.0 t.0).1 (t.1.1, t.1.2)),
    )

-- WHAT IT LEAVES
pub leaves_blocks : LeavesBlocks
leaves_blocks h m e l bs out scratch A R C r =
    words_of h m e l out scratch A ∙ ap (λ (d : Decoded). decoded_words d (out_size h)) ((decodes_iff h m e l bs R).1 (C, r))

zeros_of : (d : Decoded) (n : ℕ) → (decoded_number d ≡ 0 → ⊥) → decoded_words d n ≡ replicate n 0
zeros_of (failed x) n f = refl
zeros_of (decoded bs) n f = absurd (f refl)

pub leaves_zeros : LeavesZeros
leaves_zeros h m e l out scratch A = (
  λ f. words_of h m e l out scratch A ∙ zeros_of (decode_stripe h m (erasures_in e) l) (out_size h) (λ q. f (number_of h m e l out scratch A ∙ q)),
  if_taken_lem (replicate (scratch_size h) 0) scratch A,
)

-- BLOCKS that a stripe decodes to are given by the call, where the header fits, the erasure list is well formed and the
-- stripe is needed
pub call_gives : (h : Header) (m e : List ℕ) (l : ℕ) (bs : List ℕ) → header_fits h ≡ true → erasures_fit h e ≡ true → Needed h l
    → decode_stripe h m (erasures_in e) l ≡ decoded bs → Gives h m e l bs
call_gives h m e l bs fits formed needed is = record {
  decodes = is;
  call = λ out scratch image out_long scratch_long.
      let A : Asked h m e l out scratch =
      test_holds 1 _ fits ∙ test_holds 2 _
      (equal_three (length m) (image_size h) (length out) (out_size h) (length scratch) (scratch_size h) image out_long scratch_long)
      ∙ test_holds 3 _ formed ∙ test_holds 6 done (needed_passes h l needed) ∙ none_fails in (
        number_of h m e l out scratch A ∙ ap decoded_number is,
        words_of h m e l out scratch A ∙ ap (λ (d : Decoded). decoded_words d (out_size h)) is,
        if_taken_lem (replicate (scratch_size h) 0) scratch A,
      );
}
