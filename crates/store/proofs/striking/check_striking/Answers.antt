-- `store::striking::check_striking` meets its contract: each test that holds or fails, in turn. Assumes nothing.
use mathlib.Core.Path.{◌≡◌, sym, ap, ◌∙◌}
use mathlib.Core.Bool.{Bool, true, false}
use mathlib.Core.List.{List}
use Prim.Native.Nat.{ℕ}
use borrow.Author.Tests.{lt-ltb, le-ltb}
use lib.Dec.{ltb}
use Rattle.layout.specs.declared.Header.{Header}
use Rattle.layout.specs.declared.refusal.Refusal.{Refusal}
use Rattle.layout.specs.Header.{record_count}
use Rattle.layout.specs.Refusals.{Tests, done, test, refusal, number_of}
use Rattle.layout.proofs.Refusals.{passed_on}
use Rattle.store.specs.Buffers.{Buffers, buffers}
use Rattle.store.specs.StoreCalls.{buffers_number, strike_number}
use Rattle.store.proofs.BufferRefusals.{Held, held, passed_refused, held_passed}
use Rattle.store.proofs.striking.check_striking.Goals as goal

module _ (h : Header) (r f g : List ℕ) (i : ℕ) where
  abbrev lent : Buffers
  lent = buffers r f g

  abbrev rest : Tests
  rest = test (ltb i (record_count h)) 4 done

  refused : (x : Refusal) → number_of x ≡ buffers_number h lent → number_of x ≡ strike_number h lent i
  refused x e = passed_refused h lent rest (λ z. z) x e

  -- test 4 decides where the others hold
  last : 0 ≡ buffers_number h lent → {v : Header} → v ≡ h → {m : ℕ} → m ≡ record_count v → (within : Bool) → ltb i m ≡ within
      → elim within [ true ↦ 0 | false ↦ 4 ] ≡ strike_number h lent i
  unfolding refusal
  last z same em within w =
      let holds : Held h lent = held h lent (sym z) in
      sym (held_passed h lent rest holds holds.sized
      ∙ ap (λ (t : Bool). refusal (test t 4 done)) (ap (ltb i) (sym (em ∙ ap record_count same)) ∙ w))

pub returns-in_err-valid-clause-number : goal.returns-in_err-valid-clause-number
returns-in_err-valid-clause-number c =
    let a = c.args in
    passed_on _ c.from_residual.result c.from_residual.ensures.1
    ∙ refused a.header a.raw.now a.full.now a.log.now a.number _ c.in_err-valid.ensures.number

pub returns-then-record_count-number-clause-number : goal.returns-then-record_count-number-clause-number
returns-then-record_count-number-clause-number c =
    let a = c.args in
    let e = c.in_ok-valid.ensures in
    last a.header a.raw.now a.full.now a.log.now a.number e.number e.same c.record_count.ensures false
    (le-ltb a.number _ c.if-record_count-number.true)

pub returns-clause-number : goal.returns-clause-number
returns-clause-number c =
    let a = c.args in
    let e = c.in_ok-valid.ensures in
    last a.header a.raw.now a.full.now a.log.now a.number e.number e.same c.record_count.ensures true
    (lt-ltb a.number _ c.if-record_count-number.false)
