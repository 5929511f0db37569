-- `store::opening::check_opening` meets its contract: each test that holds or fails, in turn. Assumes nothing.
use mathlib.Core.Path.{◌≡◌, sym, ap, ◌∙◌}
use mathlib.Core.Bool.{Bool, true, false}
use mathlib.Core.List.{List}
use Prim.Native.Nat.{ℕ, ◌*◌, ◌≤◌}
use native.Mathlib.Omega.{arith}
use lib.ListN.{length}
use Rattle.layout.specs.declared.Header.{Header}
use Rattle.layout.specs.Header.{header_of, record_count}
use Rattle.layout.specs.Records.{records_fit}
use Rattle.layout.specs.Refusals.{Tests, done, test, refusal, number_of}
use Rattle.layout.specs.declared.refusal.Refusal.{Refusal}
use Rattle.layout.proofs.Refusals.{passed_on}
use Rattle.store.specs.Buffers.{Buffers, buffers}
use Rattle.store.specs.StoreCalls.{buffers_number, open_number}
use Rattle.store.proofs.BufferRefusals.{Held, held, lengths, passed_refused, held_passed}
use Rattle.store.proofs.opening.check_opening.Goals as goal

module _ (k s : ℕ) (r f g : List ℕ) where
  abbrev header : Header
  header = header_of k s 0

  abbrev lent : Buffers
  lent = buffers r f g

  abbrev rest : Tests
  rest = test (records_fit s r (record_count header)) 5 done

  refused : (x : Refusal) → number_of x ≡ buffers_number header lent → number_of x ≡ open_number k s r f g
  refused x e = passed_refused header lent rest (λ b. b) x e

  module _ (z : 0 ≡ buffers_number header lent) {v : Header} (same : v ≡ header) {n : ℕ} (en : n ≡ record_count v) where
    holds : Held header lent
    holds = held header lent (sym z)

    count : n ≡ record_count header
    count = en ∙ ap record_count same

    long : n * s ≤ length r
    long = rw count (omega (arith, (lengths header lent holds.sized).0))

    -- test 5 decides where the others hold
    last : {x : Bool} (b : Bool) → x ≡ records_fit s r n → x ≡ b → elim b [ true ↦ 0 | false ↦ 5 ] ≡ open_number k s r f g
    unfolding refusal
    last b ex eb =
        sym (held_passed header lent rest holds holds.sized
        ∙ ap (λ (x : Bool). refusal (test x 5 done)) (sym (ap (records_fit s r) count) ∙ sym ex ∙ eb))

pub returns-in_err-valid-clause-number : goal.returns-in_err-valid-clause-number
returns-in_err-valid-clause-number c =
    passed_on _ c.from_residual.result c.from_residual.ensures.1
    ∙ refused c.args.k c.args.s c.args.raw.now c.args.full.now c.args.log.now _ c.in_err-valid.ensures.number

pub records_fit-requires : goal.records_fit-requires
records_fit-requires c =
    let e = c.in_ok-valid.ensures in
    long c.args.k c.args.s c.args.raw.now c.args.full.now c.args.log.now e.number e.same c.record_count.ensures

pub returns-then-not-records_fit-clause-number : goal.returns-then-not-records_fit-clause-number
returns-then-not-records_fit-clause-number c =
    let e = c.in_ok-valid.ensures in
    last c.args.k c.args.s c.args.raw.now c.args.full.now c.args.log.now e.number e.same c.record_count.ensures false c.records_fit.ensures
    c.if-not-records_fit.true

pub returns-clause-number : goal.returns-clause-number
returns-clause-number c =
    let e = c.in_ok-valid.ensures in
    last c.args.k c.args.s c.args.raw.now c.args.full.now c.args.log.now e.number e.same c.record_count.ensures true c.records_fit.ensures
    c.if-not-records_fit.false
