-- The promises of specs/Boundary: the index and the length that reading hands out are those of the record, and the number that says "no stripe" is no stripe's.
-- Assumes nothing.
use mathlib.Core.Path.{◌≡◌, refl, sym, ap, ◌∙◌}
use mathlib.Core.Bool.{Bool, true, false}
use mathlib.Core.List.{List, []}
use Prim.Native.Nat.{ℕ, ◌*◌, ◌≤◌}
use native.Mathlib.Omega.{arith}
use borrow.Author.Tests.{eqb-true}
use lib.Dec.{eqb}
use lib.ListN.{take, drop}
use Rattle.layout.specs.declared.Header.{Header}
use Rattle.recovery.specs.Verdicts.{Verdict}
use Rattle.layout.specs.Header.{header_fits}
use Rattle.layout.specs.Refusals.{Tests, test, refusal, if_taken}
use Rattle.image.specs.Erasures.{erasures_in}
use Rattle.judging.specs.Decoding.{Decoded}
use Rattle.stripe_decoding.specs.Decoding.{decode_stripe}
use Rattle.recovery.specs.Recovery.{Layer, Recovered, stripes_over, records}
use Rattle.recovery.specs.Origins.{origins}
use Rattle.recovery.specs.RecoveryCall.{recover_answer, unnamed, answer_of}
use Rattle.explanation.specs.ExplainCall.{explain_answer}
use Rattle.two_readings.specs.Choosing.{decoding_of_two}
use Rattle.two_readings.specs.RecoverTwoCall.{recover_two_answer}
use Rattle.store.specs.StoreCalls.{read_number}
use Rattle.vault.specs.promises.Boundary.{PartIs, PartAt, ShelfIs, NoneNamed, NoneExplained, NoneNamedOfTwo}
use Rattle.vault.specs.Boundary.{no_shelf, shelf_of}
use Rattle.layout.proofs.Bounds.{fits}
use Rattle.field.proofs.Booleans.{is_false, if_else, if_else_true, if_else_false}
use Rattle.layout.proofs.Refusals.{passes, if_taken_lem, if_refused}
use Rattle.vault.specs.promises.Losses.{Needed}
use Rattle.vault.proofs.StripeCall.{needed_within}
use Rattle.vault.proofs.StripesEnd.{Ends, stops, passes as ended, stripes_end}

-- READING
chosen_part : (b : Bool) (i n : ℕ) (l : List ℕ) → take (if_else b n 0) (drop (if_else b i 0) l) ≡ if_else b (take n (drop i l)) []
chosen_part true i n l = refl
chosen_part false i n l = refl

pub part_is : PartIs
part_is h r i = chosen_part (eqb (read_number h r i) 0) (i * h.s) h.s r

pub part_at : PartAt
part_at h r i = (λ e. (if_taken_lem (i * h.s) 0 e, if_taken_lem h.s 0 e), λ d. (if_refused (i * h.s) 0 d, if_refused h.s 0 d))

-- THE STRIPE THAT IS NAMED
pub shelf_is : ShelfIs
shelf_is a = (λ t. if_else_true a.named a.stripe no_shelf t, λ f. if_else_false a.named a.stripe no_shelf f)

-- RECOVERY, AND EXPLAINING, name a level or k, so no number above 10: what is laid does not matter
abbrev Low : ℕ → Recovered → Type 0
Low b x = (answer_of x).stripe ≤ b

module _ (h : Header) (d : ℕ → Decoded) (y : Layer) where
  low_stripes : Low h.k (stripes_over h d y)
  low_stripes = by (stripes_end h d y)
    where
      by : {x : Recovered} → Ends d (Needed h) x → Low h.k x
      by (stops n l q f) = omega (arith, needed_within h l f.0, ap (λ (x : Recovered). (answer_of x).stripe) q)
      by (ended r q all) = omega (arith, ap (λ (x : Recovered). (answer_of x).stripe) q)

  -- the answer of a call that tests the header first
  low_answer : (ts : Tests) → let x = refusal (test (header_fits h) 1 ts) in (if_taken x (answer_of (stripes_over h d y)) (unnamed x)).stripe ≤ 10
  low_answer ts =
      let x = refusal (test (header_fits h) 1 ts) in
      of_early (eqb x 0) x (λ t. omega (arith, low_stripes, (fits h (passes (header_fits h) 1 ts (eqb-true x 0 t) (omega arith)).0).k_high))
    where
      of_early : (b : Bool) (x : ℕ) → (b ≡ true → Low 10 (stripes_over h d y)) → (if_else b (answer_of (stripes_over h d y)) (unnamed x)).stripe ≤ 10
      of_early true x p = p refl
      of_early false x p = omega arith

named_none : (a : Verdict) → a.stripe ≤ 10 → shelf_of a ≡ no_shelf → a.named ≡ false
named_none a l e = is_false a.named (λ t. let z : a.stripe ≡ no_shelf = sym (if_else_true a.named a.stripe no_shelf t) ∙ e in omega arith)

pub none_named : NoneNamed
none_named h m e o s = named_none (recover_answer h m e o s) (low_answer h (decode_stripe h m (erasures_in e)) (records h) _)

pub none_explained : NoneExplained
none_explained h m e n o s = named_none (explain_answer h m e n o s) (low_answer h (decode_stripe h m (erasures_in e)) (origins h) _)

pub none_named_of_two : NoneNamedOfTwo
none_named_of_two h m e m' e' o s = named_none (recover_two_answer h m e m' e' o s) (low_answer h (decoding_of_two h m e m' e') (records h) _)
