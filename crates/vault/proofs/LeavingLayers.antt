-- WHAT RECOVERY AND EXPLAINING LEAVE, by the call's number: of the room Leaving of specs/promises. One proof for any layer, and whatever each stripe decodes
-- to. Assumes nothing.
use mathlib.Core.Path.{◌≡◌, sym, ap, ◌∙◌, subst}
use mathlib.Core.Bool.{Bool}
use mathlib.Core.Logic.{inl, inr}
use mathlib.Core.List.{List}
use Prim.Native.Nat.{ℕ, ◌^◌, ◌≤◌}
use native.Mathlib.Omega.{arith}
use lib.ListN.{length, replicate, length-replicate}
use Rattle.layout.specs.declared.Header.{Header}
use Rattle.layout.specs.Header.{record_count, width, first_of, raw_size, scratch_size}
use Rattle.layout.specs.Refusals.{done, refusal, if_taken}
use Rattle.layout.proofs.Refusals.{if_taken_lem, if_refused}
use Rattle.image.specs.Erasures.{erasures_in}
use Rattle.image.specs.ImageTests.{image_tests}
use Rattle.judging.specs.Decoding.{Decoded}
use Rattle.range_laying.proofs.LaidRanges.{length_laid, length_origins}
use Rattle.range_laying.proofs.PairLoops.{length_pairs}
use Rattle.stripe_decoding.specs.Decoding.{decode_stripe}
use Rattle.recovery.specs.Verdicts.{Verdict}
use Rattle.recovery.specs.Recovery.{Layer, Recovered, stopped, recovered, stripes_over, records}
use Rattle.recovery.specs.Origins.{origins_size, origins}
use Rattle.recovery.specs.RecoveryCall.{recover_early, unnamed, at_fault, answer_of, recovered_words}
use Rattle.recovery.proofs.RecoverCall.{stopped_words}
use Rattle.explanation.specs.Counts.{counts_of}
use Rattle.explanation.specs.ExplainCall.{explain_early}
use Rattle.explanation.proofs.ExplainCall as Explain
use Rattle.image.proofs.ImageRefusals as Lent
use Rattle.vault.specs.promises.Leaving.{Zeros, RecoverRefused, RecoverFailed, RecoverTaken, ExplainRefused, ExplainFailed, ExplainTaken}
use Rattle.vault.specs.promises.Losses.{Needed}
use Rattle.vault.proofs.ImageNumbers.{Fault, FailsSo, rows_fail, ends_with}
use Rattle.vault.proofs.StripesEnd.{Ends, stops, passes as all_pass, stripes_end, Sized, stripes_sized}
use Rattle.vault.proofs.LeavingStripes.{OfTests, low_other, low_done, low_image, Numbered, is_refused, is_asked, at_most_ten}

-- A CALL THAT NAMES A STRIPE: an answer other than 0 names one
at_its : (x : Recovered) {a : Verdict} → a ≡ answer_of x → 1 ≤ a.number → a ≡ at_fault a.number a.stripe
at_its (stopped n l) e b = e ∙ ap (λ (a : Verdict). at_fault a.number a.stripe) (sym e)
at_its (recovered r) e b = let z = ap (λ (a : Verdict). a.number) e in absurd (omega arith)

-- what holds of such a call with what each stripe decodes to, a layer, the number that its tests give, and its output of a size
pub record Called (h : Header) (d : ℕ → Decoded) (y : Layer) (early size : ℕ) (out scratch : List ℕ) : Type 0 where
  pub tested : OfTests early
  pub fails_so : (l : ℕ) → FailsSo (d l)
  pub long : early ≡ 0 → (length out ≡ size) × (length scratch ≡ scratch_size h)
  pub sized : Sized size (stripes_over h d y)

module _ {h : Header} {d : ℕ → Decoded} {y : Layer} {early size : ℕ} {out scratch : List ℕ} (C : Called h d y early size out scratch) where
  abbrev x : Recovered
  x = stripes_over h d y

  abbrev answer : Verdict
  answer = if_taken early (answer_of x) (unnamed early)

  abbrev words : List ℕ
  words = if_taken early (recovered_words x size) out

  abbrev room : List ℕ
  room = if_taken early (replicate (scratch_size h) 0) scratch

  pub answered : Numbered early (answer_of x).number answer.number
  answered = record {
    tested = C.tested;
    late = ends_with h d y C.fails_so;
    asked = λ z. ap (λ (a : Verdict). a.number) (if_taken_lem (answer_of x) (unnamed early) z);
    refused = λ d. ap (λ (a : Verdict). a.number) (if_refused (answer_of x) (unnamed early) d);
  }

  pub call_refused : 1 ≤ answer.number → OfTests answer.number → (answer ≡ unnamed answer.number) × (words ≡ out) × (room ≡ scratch)
  call_refused a b =
      let r = is_refused answered a b in (
        if_refused (answer_of x) (unnamed early) r ∙ ap unnamed (sym (answered.refused r)),
        if_refused (recovered_words x size) out r,
        if_refused (replicate (scratch_size h) 0) scratch r,
      )

  -- where the tests give 0
  module _ (z : early ≡ 0) where
    answer_is : answer ≡ answer_of x
    answer_is = if_taken_lem (answer_of x) (unnamed early) z

    words_are : words ≡ recovered_words x size
    words_are = if_taken_lem (recovered_words x size) out z

    room_zeros : Zeros (length scratch) room
    room_zeros = if_taken_lem (replicate (scratch_size h) 0) scratch z ∙ ap (λ (n : ℕ). replicate n 0) (sym (C.long z).1)

  pub call_failed : Fault answer.number → (answer ≡ at_fault answer.number answer.stripe) × Zeros (length out) words × Zeros (length scratch) room
  call_failed b =
      let z = is_asked answered (inr b) in (
        at_its x (answer_is z) (omega arith),
        words_are z ∙ stopped_words x size (answer_is z) (λ q. omega arith) ∙ ap (λ (n : ℕ). replicate n 0) (sym (C.long z).0),
        room_zeros z,
      )

  -- and 0 names none
  none_its : {a : Verdict} → a ≡ answer_of x → a.number ≡ 0 → a ≡ unnamed 0
  none_its {a} e t = by (stripes_end h d y)
    where
      by : Ends d (Needed h) x → a ≡ unnamed 0
      by (stops n l q f) =
          let z = ap (λ (v : Verdict). v.number) (e ∙ ap answer_of q) in absurd (omega (arith, (subst FailsSo f.1 (C.fails_so l)).0))
      by (all_pass r q all) = e ∙ ap answer_of q

  pub call_taken : answer.number ≡ 0 → (answer ≡ unnamed 0) × (length words ≡ length out) × Zeros (length scratch) room
  call_taken t =
      let z = is_asked answered (inl t) in (
        none_its (answer_is z) t,
        ap length (words_are z) ∙ C.sized ∙ sym (C.long z).0,
        room_zeros z,
      )

-- of one image the tests give no number above 6
early_low : (h : Header) (m e : List ℕ) (sizes : Bool) → refusal (image_tests h m e sizes done) ≤ 6
early_low h m e sizes = low_image h _ e done low_done

-- THE CALL `recover`: records laid are no more and no fewer words
pub records_sized : (h : Header) (d : ℕ → Decoded) → Sized (raw_size h) (stripes_over h d (records h))
records_sized h d =
    stripes_sized (raw_size h) h d (records h) (λ l bs r. length_laid h.s bs (2 ^ l) r)
    (λ bs. length_laid h.s bs (record_count h) (replicate (raw_size h) 0) ∙ length-replicate (raw_size h) 0)

recover_called : (h : Header) (m e out scratch : List ℕ)
    → Called h (decode_stripe h m (erasures_in e)) (records h) (recover_early h m e out scratch) (raw_size h) out scratch
recover_called h m e out scratch = record {
  tested = low_other (early_low h m e _);
  fails_so = λ l. rows_fail _ _ _;
  long = λ z. let t = Lent.lent h m e h.s (length out) (length scratch) z in (t.output, t.room);
  sized = records_sized h (decode_stripe h m (erasures_in e));
}

pub recover_refused : RecoverRefused
recover_refused h m e out scratch a b = call_refused (recover_called h m e out scratch) a (low_other b)

pub recover_failed : RecoverFailed
recover_failed h m e out scratch b = let C = recover_called h m e out scratch in call_failed C (b, at_most_ten (answered C) (early_low h m e _))

pub recover_taken : RecoverTaken
recover_taken h m e out scratch t = call_taken (recover_called h m e out scratch) t

-- THE CALL `explain`: nor are origins
explain_called : (h : Header) (m e n o s : List ℕ)
    → Called h (decode_stripe h m (erasures_in e)) (origins h) (explain_early h m e n o s) (origins_size h) o s
explain_called h m e n o s = record {
  tested = low_other (early_low h m e _);
  fails_so = λ l. rows_fail _ _ _;
  long = λ z. let t = Explain.lent h m e n o s z in (t.named, t.room);
  sized = stripes_sized (origins_size h) h (decode_stripe h m (erasures_in e)) (origins h)
      (λ l bs r. length_origins (width h) l (first_of h l) bs (2 ^ l) r) (λ bs. length_pairs (λ i. h.k) (λ i. 0) (record_count h));
}

pub explain_refused : ExplainRefused
explain_refused h m e n o s a b =
    let C = explain_called h m e n o s in
    let t = call_refused C a (low_other b) in
    (t.0, if_refused (counts_of h (erasures_in e)) n (is_refused (answered C) a (low_other b)), t.1, t.2)

pub explain_failed : ExplainFailed
explain_failed h m e n o s b = let C = explain_called h m e n o s in call_failed C (b, at_most_ten (answered C) (early_low h m e _))

pub explain_taken : ExplainTaken
explain_taken h m e n o s t = call_taken (explain_called h m e n o s) t
