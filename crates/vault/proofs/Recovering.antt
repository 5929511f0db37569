-- RECOVERY OF ANY IMAGE, both ways round, said once for any call whose stripes decode to d: the room Recovering of specs/promises, but what is recovered
-- (LastBlocks, SomeLast). Assumes nothing.
use mathlib.Core.Path.{◌≡◌, sym, ap, ◌∙◌, refl}
use Prim.Native.Nat.{ℕ}
use native.Mathlib.Decide.{ℕ_discrete}
use Rattle.std.specs.Prelude.{◌↔◌}
use Rattle.layout.specs.declared.Header.{Header}
use Rattle.layout.specs.Refusals.{if_taken}
use Rattle.layout.proofs.Refusals.{if_taken_lem, if_refused}
use Rattle.judging.specs.Decoding.{Decoded}
use Rattle.recovery.specs.Verdicts.{Verdict}
use Rattle.recovery.specs.Recovery.{Layer, stripes_over, records}
use Rattle.recovery.specs.Origins.{origins}
use Rattle.recovery.specs.RecoveryCall.{recover_early, unnamed, at_fault, answer_of}
use Rattle.explanation.specs.ExplainCall.{explain_early}
use Rattle.vault.specs.promises.Recovering.{in_image, AnswersSay, FirstFails, AllDecode, StopsIff, TakenIff, ExplainStopsIff, ExplainTakenIff}
use Rattle.vault.proofs.ImageNumbers.{recover_asked, explain_asked}
use Rattle.vault.proofs.StripesEnd.{first_if, if_first, all_if, if_all, stripes_end}

-- A CALL gives the number of its tests if one applies, and else what the stripes come to, whatever they lay
module _ (h : Header) (d : ℕ → Decoded) (y : Layer) (early : ℕ) where
  abbrev pub call_answer : Verdict
  call_answer = if_taken early (answer_of (stripes_over h d y)) (unnamed early)

  told : early ≡ 0 → call_answer ≡ answer_of (stripes_over h d y)
  told z = if_taken_lem (answer_of (stripes_over h d y)) (unnamed early) z

  pub stops_when : early ≡ 0 → (n l : ℕ) → (call_answer ≡ at_fault n l) ↔ FirstFails h d n l
  stops_when z n l = (
    λ q. let f = first_if d (stripes_end h d y) (sym (told z) ∙ q) in record { needed = f.0; fails = f.1; before = f.2 },
    λ f. told z ∙ if_first d (stripes_end h d y) (f.needed, f.fails, f.before),
  )

  pub taken_when : early ≡ 0 → (call_answer ≡ unnamed 0) ↔ AllDecode h d
  taken_when z = (λ q. all_if d (stripes_end h d y) (sym (told z) ∙ q), λ all. told z ∙ if_all d (stripes_end h d y) all)

  -- where it gives 0, no test applied, and all stripes decode
  pub when_taken : call_answer ≡ unnamed 0 → (early ≡ 0) × AllDecode h d
  when_taken taken = let z = go (ℕ_discrete early 0) in (z, (taken_when z).0 taken)
    where
      go : Dec (early ≡ 0) → early ≡ 0
      go (yes q) = q
      go (no f) = ap (λ (a : Verdict). a.number) (sym (if_refused (answer_of (stripes_over h d y)) (unnamed early) f) ∙ taken)

-- THE CALLS `recover` and `explain`: no test applies where none of its rows does
pub stops_iff : StopsIff
stops_iff h m e out scratch n l none = stops_when h (in_image h m e) (records h) (recover_early h m e out scratch) (recover_asked h m e out scratch none) n l

pub taken_iff : TakenIff
taken_iff h m e out scratch none = taken_when h (in_image h m e) (records h) (recover_early h m e out scratch) (recover_asked h m e out scratch none)

pub explain_stops_iff : ExplainStopsIff
explain_stops_iff h m e counts o s n l none =
    stops_when h (in_image h m e) (origins h) (explain_early h m e counts o s) (explain_asked h m e counts o s none) n l

pub explain_taken_iff : ExplainTakenIff
explain_taken_iff h m e counts o s none =
    taken_when h (in_image h m e) (origins h) (explain_early h m e counts o s) (explain_asked h m e counts o s none)

pub answers_say : AnswersSay
answers_say n l = (refl, refl, refl, refl, refl)
