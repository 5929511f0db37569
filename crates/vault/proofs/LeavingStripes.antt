-- WHAT DECODING LEAVES, by the call's number: of the room Leaving of specs/promises. A call that is lent images gives 7 to 10 by what a stripe decodes to, and
-- any other number by a test before decoding. Assumes nothing.
use mathlib.Core.Path.{◌≡◌, sym, ap, ◌∙◌, subst}
use mathlib.Core.Bool.{Bool, true, false}
use mathlib.Core.Logic.{inl, inr, ⊎_elim}
use mathlib.Core.List.{List}
use Prim.Native.Nat.{ℕ, ◌-◌, ◌≤◌, ◌<◌}
use native.Mathlib.Decide.{dec_lt}
use native.Mathlib.Omega.{arith}
use lib.ListN.{length, replicate, length-replicate, length-append}
use Rattle.layout.specs.declared.Header.{Header}
use Rattle.layout.specs.Header.{header_fits, out_size, scratch_size, image_size, has_stripe, stripe_of}
use Rattle.layout.specs.Refusals.{Tests, done, test, refusal}
use Rattle.layout.proofs.Refusals.{three_equal, passes, if_taken_lem, if_refused}
use Rattle.image.specs.Erasures.{erasures_in, erasures_fit}
use Rattle.judging.specs.Decoding.{Decoded, decoded_number, decoded_words}
use Rattle.stripe_decoding.specs.Decoding.{decode_stripe}
use Rattle.stripe_decoding.specs.StripeCall.{decode_early, decode_number}
use Rattle.stripe_decoding.proofs.DecodedWords.{Comes, fails, gives, comes, blocks_inside}
use Rattle.vault.specs.promises.Leaving.{DecodeRefused, DecodeFailed, DecodeTaken}
use Rattle.vault.proofs.ImageNumbers.{Fault, OfStripe, rows_number}
use Rattle.vault.proofs.StripeCall.{asked_within, leaves_zeros}

-- THE NUMBERS OF TESTS before decoding are others than those of a fault
abbrev pub OfTests : ℕ → Type 0
OfTests n = Fault n → ⊥

pub low_other : {n : ℕ} → n ≤ 6 → OfTests n
low_other low f = omega arith

-- what holds of 0 and of the number of each test holds of what they give
pub of_none : (P : ℕ → Type 0) → P 0 → P (refusal done)
unfolding refusal
of_none P p = p

pub of_test : (P : ℕ → Type 0) (b : Bool) (n : ℕ) (ts : Tests) → P n → P (refusal ts) → P (refusal (test b n ts))
unfolding refusal
of_test P true n ts p q = q
of_test P false n ts p q = p

-- the tests of one image give none above 6, if those that follow do not
abbrev Low : ℕ → Type 0
Low n = n ≤ 6

pub low_done : refusal done ≤ 6
low_done = of_none Low (omega arith)

pub low_image : (h : Header) (sizes : Bool) (e : List ℕ) (rest : Tests) → refusal rest ≤ 6
    → refusal (test (header_fits h) 1 (test sizes 2 (test (erasures_fit h e) 3 rest))) ≤ 6
low_image h sizes e rest low =
    of_test Low (header_fits h) 1 _ (omega arith) (of_test Low sizes 2 _ (omega arith) (of_test Low (erasures_fit h e) 3 rest (omega arith) low))

-- A CALL'S NUMBER is that of the tests, or where they give 0 what comes of decoding
pub record Numbered (early given n : ℕ) : Type 0 where
  pub tested : OfTests early
  pub late : OfStripe given
  pub asked : early ≡ 0 → n ≡ given
  pub refused : (early ≡ 0 → ⊥) → n ≡ early

module _ {early given n : ℕ} (N : Numbered early given n) where
  pub is_refused : 1 ≤ n → OfTests n → early ≡ 0 → ⊥
  is_refused a other z = let e = N.asked z in ⊎_elim (λ t. omega arith) (λ f. other (subst Fault (sym e) f)) N.late

  pub is_asked : OfStripe n → early ≡ 0
  is_asked q = by (dec_lt 0 early) q
    where
      by : Dec (0 < early) → OfStripe n → early ≡ 0
      by (no y) q = omega arith
      by (yes y) (inl z) = let e = N.refused (λ t. omega arith) in omega arith
      by (yes y) (inr f) = absurd (N.tested (subst Fault (N.refused (λ t. omega arith)) f))

  -- of a call on one image it is not above 10
  pub at_most_ten : early ≤ 6 → n ≤ 10
  at_most_ten low = by (dec_lt 0 early)
    where
      by : Dec (0 < early) → n ≤ 10
      by (yes y) = omega (arith, N.refused (λ t. omega arith))
      by (no y) = let e = N.asked (omega arith) in ⊎_elim (λ z. omega arith) (λ f. omega (arith, f.1)) N.late

-- THE CALL `decode`
words_long : {n : ℕ} (d : Decoded) (size : ℕ) → Comes n d → n ≤ size → length (decoded_words d size) ≡ size
words_long d size (fails x u q) b = ap (λ (y : Decoded). length (decoded_words y size)) q ∙ length-replicate size 0
words_long d size (gives bs q long) b =
    ap (λ (y : Decoded). length (decoded_words y size)) q ∙ length-append bs (replicate (size - length bs) 0)
    ∙ omega (arith, length-replicate {A = ℕ} (size - length bs) 0)

module _ (h : Header) (m e : List ℕ) (l : ℕ) (out scratch : List ℕ) where
  abbrev early : ℕ
  early = decode_early h m e l out scratch

  abbrev found : Decoded
  found = decode_stripe h m (erasures_in e) l

  early_low : early ≤ 6
  early_low = low_image h _ e (test (has_stripe h l) 6 done) (of_test Low (has_stripe h l) 6 done (omega arith) low_done)

  numbered : Numbered early (decoded_number found) (decode_number h m e l out scratch)
  numbered = record {
    tested = low_other early_low;
    late = rows_number _ _ _;
    asked = λ z. if_taken_lem (decoded_number found) early z;
    refused = λ d. if_refused (decoded_number found) early d;
  }

  -- the lengths, where the tests give 0
  lengths : early ≡ 0 → (length out ≡ out_size h) × (length scratch ≡ scratch_size h)
  lengths z =
      let one = passes (header_fits h) 1 _ z (omega arith) in
      let two = passes _ 2 _ one.1 (omega arith) in
      let t = three_equal (length m) (image_size h) (length out) (out_size h) (length scratch) (scratch_size h) two.0 in
      (t.1, t.2)

pub decode_refused : DecodeRefused
decode_refused h m e l out scratch a b =
    let d = is_refused (numbered h m e l out scratch) a (low_other b) in
    (if_refused (decoded_words (found h m e l out scratch) (out_size h)) out d, if_refused (replicate (scratch_size h) 0) scratch d)

pub decode_failed : DecodeFailed
decode_failed h m e l out scratch b =
    let N = numbered h m e l out scratch in
    let z = is_asked N (inr (b, at_most_ten N (early_low h m e l out scratch))) in
    let long = lengths h m e l out scratch z in
    let left = leaves_zeros h m e l out scratch z in
    (left.0 (λ q. omega arith) ∙ ap (λ (n : ℕ). replicate n 0) (sym long.0), left.1 ∙ ap (λ (n : ℕ). replicate n 0) (sym long.1))

pub decode_taken : DecodeTaken
decode_taken h m e l out scratch t =
    let z = is_asked (numbered h m e l out scratch) (inl t) in
    let long = lengths h m e l out scratch z in
    let d = found h m e l out scratch in
    let inside = blocks_inside h l (asked_within h m e l out scratch z) in (
      ap length (if_taken_lem (decoded_words d (out_size h)) out z) ∙ words_long d (out_size h) (comes (stripe_of h l) _ _) inside ∙ sym long.0,
      (leaves_zeros h m e l out scratch z).1 ∙ ap (λ (n : ℕ). replicate n 0) (sym long.1),
    )
