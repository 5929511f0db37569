-- The number of each call that is lent two readings, both ways round: 1, 2, 3 and 13, and of `shelf_of_two` 6 after them. The room Numbers of specs/promises.
-- Assumes nothing.
use mathlib.Core.Path.{◌≡◌, refl}
use mathlib.Core.Bool.{Bool, true, false}
use mathlib.Core.Logic.{◌⊎◌, inl, inr}
use mathlib.Core.List.{List}
use Prim.Native.Nat.{ℕ, ◌<◌}
use native.Mathlib.Omega.{arith}
use lib.ListN.{length}
use Rattle.std.specs.Prelude.{◌↔◌}
use Rattle.layout.specs.declared.Header.{Header}
use Rattle.layout.specs.Header.{image_size}
use Rattle.layout.specs.Refusals.{Tests, done}
use Rattle.image.specs.Erasures.{erasures_fit}
use Rattle.recovery.specs.Recovery.{records, recover}
use Rattle.recovery.specs.RecoveryCall.{answer_of}
use Rattle.two_readings.specs.Agreeing.{readings_agree}
use Rattle.two_readings.specs.Choosing.{decoding_of_two}
use Rattle.two_readings.specs.RecoverTwoCall.{recover_two_early}
use Rattle.two_readings.specs.TwoTests.{two_tests}
use Rattle.vault.specs.promises.Table.{ImageLength, OutOfRange, IllFormed, NoStripe, Differ, Rows, none, row, EachNumber}
use Rattle.vault.specs.promises.Numbers.{TwoRows, RecoverTwoRows, RecoverTwoNumbers, TwoAskedIff, ShelfOfTwoNumbers}
use Rattle.vault.proofs.Erasures.{well_formed_iff}
use Rattle.vault.proofs.ImageNumbers.{OfStripe, rows_fail, ends_with, verdict_given, below_seven, above_ten, recover_says}
use Rattle.vault.proofs.Table.{Apart, ended, apart, Beside, beside, each_number, then_iff, Says, fails_unless, sure, three_say, either_fails, equal_says}
use Rattle.vault.proofs.Table.{header_fails, stripe_says}
use Rattle.vault.proofs.TwoAgreeing.{agree_iff}

-- THE TESTS 1, 2, 3 AND 13, and what is known where their rows do not apply
module _ (h : Header) (m e m' e' : List ℕ) {sizes : Bool} {lengths : Type 0} (s : Says sizes lengths) where
  abbrev Asked : Type 0
  Asked = ((Unit {0} × (OutOfRange h → ⊥)) × ((ImageLength h m × ImageLength h m' × lengths → ⊥) → ⊥)) × ((IllFormed h e ⊎ IllFormed h e') → ⊥)

  differ_fails : ((IllFormed h e ⊎ IllFormed h e') → ⊥) → (readings_agree h m e m' e' ≡ false) ↔ Differ h m e m' e'
  differ_fails d = agree_iff h m e m' e' (formed e (λ x. d (inl x))) (formed e' (λ x. d (inr x)))
    where
      formed : (g : List ℕ) → (IllFormed h g → ⊥) → erasures_fit h g ≡ true
      formed g d = (well_formed_iff h g).1 (sure (well_formed_iff h g) d)

  two_beside : {rest : Tests} {more : Rows} → Apart (λ (x : ℕ). (3 < x) × (x ≡ 13 → ⊥)) (Asked × (Differ h m e m' e' → ⊥)) rest more
      → Beside 0 (Unit {0}) (two_tests h m e m' e' sizes rest) (TwoRows h m e m' e' lengths more)
  two_beside more =
      let long = λ (g : List ℕ). equal_says {a = length g} {b = image_size h} {c = image_size h} refl in
      beside (omega arith) (λ _. header_fails h)
      (beside (omega arith) (λ _. fails_unless (three_say (long m) (long m') s))
      (beside (omega arith) (λ _. either_fails (well_formed_iff h e) (well_formed_iff h e'))
      (apart (omega arith) (omega arith) (λ x l. l) (λ o. differ_fails o.1) more)))

-- RECOVERY
early_number : (h : Header) (m e m' e' out scratch : List ℕ) → EachNumber (recover_two_early h m e m' e' out scratch) (RecoverTwoRows h m e m' e' out scratch)
early_number h m e m' e' out scratch =
    each_number (RecoverTwoRows h m e m' e' out scratch) (two_beside h m e m' e' (recover_says h out scratch) {rest = done} ended)

pub two_asked_iff : TwoAskedIff
two_asked_iff h m e m' e' out scratch = (early_number h m e m' e' out scratch).1

pub recover_two_numbers : RecoverTwoNumbers
recover_two_numbers h m e m' e' out scratch =
    let rows = (early_number h m e m' e' out scratch).0 in
    let d = decoding_of_two h m e m' e' in
    let of_stripe = ends_with h d (records h) (λ l. rows_fail _ _ _) in
    let given = λ (n : ℕ) (no : OfStripe n → ⊥). verdict_given (recover_two_early h m e m' e' out scratch) n (answer_of (recover h d)) of_stripe no in
    let one = given 1 (below_seven (omega arith) (omega arith)) in
    let two = given 2 (below_seven (omega arith) (omega arith)) in
    let three = given 3 (below_seven (omega arith) (omega arith)) in
    let thirteen = given 13 (above_ten (omega arith)) in
    (then_iff one rows.0, (then_iff two rows.1.0, (then_iff three rows.1.1.0, (then_iff thirteen rows.1.1.1.0, tt))))

-- ONE STRIPE: 6 comes last
pub shelf_of_two_numbers : ShelfOfTwoNumbers
shelf_of_two_numbers h m e m' e' l =
    let six = apart {left = λ (x : ℕ). ⊥} (omega arith) (omega arith, λ q. omega arith) (λ x z. absurd z) (λ _. fails_unless (stripe_says h l)) ended in
    each_number (TwoRows h m e m' e' (Unit {0}) (row 6 (NoStripe h l) none))
    (two_beside h m e m' e' {sizes = true} (λ _. tt, λ _. refl) six)
