-- RECOVERY FROM ANY TWO READINGS, both ways round, and what is recovered: of the room TwoReadings of specs/promises, what recovery of one image has too. Each
-- is what any call has whose stripes decode to what they do in the reading that they are taken from. Assumes nothing.
use mathlib.Core.Path.{◌≡◌, sym, ◌∙◌}
use mathlib.Core.List.{List}
use Prim.Native.Nat.{ℕ, ◌^◌, ◌<◌}
use native.Mathlib.Decide.{dec_lt}
use native.Mathlib.Omega.{arith}
use Rattle.layout.specs.declared.Header.{Header}
use lib.ListN.{length}
use Rattle.decoder.specs.Decoding.{survivors}
use Rattle.layout.specs.Header.{header_fits, stripe_of}
use Rattle.judging.proofs.Proved as Judging
use Rattle.layout.proofs.Refusals.{passes}
use Rattle.recovery.specs.Recovery.{records}
use Rattle.two_readings.specs.Choosing.{chosen, decoding_of_two}
use Rattle.two_readings.specs.RecoverTwoCall.{recover_two_early}
use Rattle.vault.specs.promises.Decoding.{marks, words_in, Half}
use Rattle.vault.specs.promises.TwoReadings.{SecondHasMore, TwoStopsIff, TwoTakenIff, SevenOfTwo, TwoHasLast, TwoHolds}
use Rattle.vault.proofs.LastBlocks.{AreBlocks, decoded_blocks, data_holds}
use Rattle.vault.proofs.Recovering.{stops_when, taken_when}
use Rattle.vault.proofs.SomeLast.{has_last}
use Rattle.vault.proofs.TwoExchanged.{choice_is}
use Rattle.vault.proofs.TwoNumbers.{two_asked_iff}

pub two_stops_iff : TwoStopsIff
two_stops_iff h m e m' e' out scratch n l none =
    stops_when h (decoding_of_two h m e m' e') (records h) (recover_two_early h m e m' e' out scratch) ((two_asked_iff h m e m' e' out scratch).1 none) n l

pub two_taken_iff : TwoTakenIff
two_taken_iff h m e m' e' out scratch none =
    taken_when h (decoding_of_two h m e m' e') (records h) (recover_two_early h m e m' e' out scratch) ((two_asked_iff h m e m' e' out scratch).1 none)

-- 7 is by the reading with more positions left, so that the other has too few as well
pub seven_of_two : SevenOfTwo
seven_of_two h m e m' e' out scratch l none q =
    let F = ((two_stops_iff h m e m' e' out scratch 7 l none).0 q).fails in
    let C = choice_is h m e m' e' l in
    let seven = λ (x y : List ℕ). ((Judging.proved).seven_iff (stripe_of h l) (marks h y l) (words_in h x l)).0 in
    by (λ t. seven m' e' (sym (C.0 t) ∙ F)) (λ f. seven m e (sym (C.1 f) ∙ F)) (dec_lt _ _)
  where
    by : (SecondHasMore h e e' l → length (survivors l (marks h e' l)) < 2 ^ l)
        → ((SecondHasMore h e e' l → ⊥) → length (survivors l (marks h e l)) < 2 ^ l)
        → Dec (SecondHasMore h e e' l) → (Half h e l → ⊥) × (Half h e' l → ⊥)
    by one two (yes t) = (λ p. absurd (omega (arith, one t)), λ p. absurd (omega (arith, one t)))
    by one two (no f) = (λ p. absurd (omega (arith, two f)), λ p. absurd (omega (arith, two f)))

-- WHAT A STRIPE DECODES TO is what it does in one image, so that it is blocks
two_blocks : (h : Header) (m e m' e' out scratch : List ℕ) → recover_two_early h m e m' e' out scratch ≡ 0 → AreBlocks h (decoding_of_two h m e m' e')
two_blocks h m e m' e' out scratch z l =
    decoded_blocks h (chosen h e e' l m m') (chosen h e e' l e e') (passes (header_fits h) 1 _ z (omega arith)).0 l

pub two_has_last : TwoHasLast
two_has_last h m e m' e' out scratch i =
    has_last h (decoding_of_two h m e m' e') (records h) (recover_two_early h m e m' e' out scratch) (two_blocks h m e m' e' out scratch)

pub two_holds : TwoHolds
two_holds h m e m' e' out scratch i l j q bs =
    data_holds h (decoding_of_two h m e m' e') (recover_two_early h m e m' e' out scratch) out q (two_blocks h m e m' e' out scratch)
