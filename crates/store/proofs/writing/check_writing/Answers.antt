-- `store::writing::check_writing` meets its contract: each test that holds or fails, in turn. Assumes nothing.
use mathlib.Core.Path.{◌≡◌, refl, sym, ap, ap₂, ◌∙◌}
use mathlib.Core.Bool.{Bool, true, false, not}
use mathlib.Core.List.{List}
use Prim.Native.Nat.{ℕ, ◌≤◌, ◌<◌}
use borrow.Author.Rules.{rules}
use borrow.Author.Tests.{lt-ltb, le-ltb, eq-eqb, ne_eqb}
use lib.Dec.{ltb, eqb}
use lib.ListN.{length}
use Rattle.field.proofs.Booleans.{both_true, first_false}
use Rattle.layout.specs.declared.Header.{Header}
use Rattle.layout.specs.declared.refusal.Refusal.{Refusal}
use Rattle.layout.specs.Header.{record_count}
use Rattle.layout.specs.Records.{are_data, is_blank}
use Rattle.layout.specs.Refusals.{Tests, done, test, refusal, number_of}
use Rattle.layout.proofs.Refusals.{passed_on}
use Rattle.store.specs.Buffers.{Buffers, buffers}
use Rattle.store.specs.StoreCalls.{buffers_number, write_number}
use Rattle.store.proofs.BufferRefusals.{Held, held, passed_refused, held_passed}
use Rattle.store.proofs.writing.check_writing.Goals as goal

module _ (h : Header) (r f g : List ℕ) (i : ℕ) (b : List ℕ) where
  abbrev lent : Buffers
  lent = buffers r f g

  -- the tests that follow those of the buffers
  abbrev rest : Tests
  rest = test (ltb i (record_count h)) 4 (test (are_data b) 5 (test (not (is_blank b)) 11 done))

  refused : (x : Refusal) → number_of x ≡ buffers_number h lent → number_of x ≡ write_number h lent i b
  refused x e = passed_refused h lent rest (λ z. first_false (eqb (length b) h.s) z) x e

  module _ (z : 0 ≡ buffers_number h lent) where
    holds : Held h lent
    holds = held h lent (sym z)

    unequal : (length b ≡ h.s → ⊥) → 2 ≡ write_number h lent i b
    unfolding refusal
    unequal d = rw (holds.fitting, holds.sized, ne_eqb (length b) h.s d)

    -- and these go by what the code found: whether the record number is within, the words are data, and the block is blank
    module _ (l : length b ≡ h.s) {v : Header} (same : v ≡ h) {m : ℕ} (em : m ≡ record_count v) where
      tested : {x y : Bool} → x ≡ are_data b → y ≡ is_blank b → (within fit blank : Bool) → ltb i m ≡ within → x ≡ fit → y ≡ blank
          → refusal (test within 4 (test fit 5 (test (not blank) 11 done))) ≡ write_number h lent i b
      tested ex ey within fit blank ew ef eb =
          sym (held_passed h lent rest holds (both_true holds.sized (eq-eqb (length b) h.s l))
          ∙ ap (λ (t : Bool). refusal (test t 4 (test (are_data b) 5 (test (not (is_blank b)) 11 done))))
          (ap (ltb i) (sym (em ∙ ap record_count same)) ∙ ew)
          ∙ ap₂ (λ (t u : Bool). refusal (test within 4 (test t 5 (test (not u) 11 done)))) (sym ex ∙ ef) (sym ey ∙ eb))

      not_within : m ≤ i → 4 ≡ write_number h lent i b
      unfolding refusal
      not_within o = tested refl refl false _ _ (le-ltb i m o) refl refl

      module _ (w : i < m) {x : Bool} (ex : x ≡ are_data b) where
        no_data : x ≡ false → 5 ≡ write_number h lent i b
        unfolding refusal
        no_data d = tested ex refl true false _ (lt-ltb i m w) d refl

        module _ (d : x ≡ true) {y : Bool} (ey : y ≡ is_blank b) where
          blank_block : y ≡ true → 11 ≡ write_number h lent i b
          unfolding refusal
          blank_block k = tested ex ey true true true (lt-ltb i m w) d k

          all_hold : y ≡ false → 0 ≡ write_number h lent i b
          unfolding refusal
          all_hold k = tested ex ey true true false (lt-ltb i m w) d k

-- what the last tests follow from, whatever their order
ruleset write_rules = (not_within, no_data, blank_block, all_hold, rules)

pub returns-in_err-valid-clause-number : goal.returns-in_err-valid-clause-number
returns-in_err-valid-clause-number c =
    let a = c.args in
    passed_on _ c.from_residual.result c.from_residual.ensures.1
    ∙ refused a.header a.raw.now a.full.now a.log.now a.number a.block.now _ c.in_err-valid.ensures.number

pub returns-then-block-header-clause-number : goal.returns-then-block-header-clause-number
returns-then-block-header-clause-number c =
    let a = c.args in
    unequal a.header a.raw.now a.full.now a.log.now a.number a.block.now c.in_ok-valid.ensures.number c.if-block-header.true

pub returns-then-outside-clause-number : goal.returns-then-outside-clause-number
returns-then-outside-clause-number c = search write_rules

pub returns-then-not-fit-clause-number : goal.returns-then-not-fit-clause-number
returns-then-not-fit-clause-number c = search write_rules

pub returns-then-blank-clause-number : goal.returns-then-blank-clause-number
returns-then-blank-clause-number c = search write_rules

pub returns-clause-number : goal.returns-clause-number
returns-clause-number c = search write_rules
