-- `store::reading::try_read` meets its contract: each test that holds or fails, in turn, and the part that is given. Assumes nothing.
use mathlib.Core.Path.{◌≡◌, refl, sym, ap, ◌∙◌}
use mathlib.Core.Bool.{Bool, true, false, not}
use mathlib.Core.List.{List, []}
use Prim.Native.Nat.{ℕ, ◌+◌, ◌*◌, ◌-◌, ◌≤◌, ◌<◌}
use native.Mathlib.Omega.{arith}
use borrow.Author.Tests.{lt-ltb, le-ltb, eq-eqb, ne_eqb}
use lib.ListN.{length, take, drop}
use Rattle.std.specs.Prelude.{Result}
use Rattle.std.specs.Borrow.{Bor}
use Rattle.std.specs.Result.{IsErrAnd}
use Rattle.std.proofs.lemmas.Result.{err_from_is_err_and}
use Rattle.layout.specs.declared.Header.{Header}
use Rattle.layout.specs.declared.refusal.Refusal.{Refusal}
use Rattle.layout.specs.Header.{header_fits, record_count, raw_size}
use Rattle.layout.specs.Records.{is_struck, record_in}
use Rattle.layout.specs.Refusals.{refusal, answer_number, read_part}
use Rattle.layout.proofs.Refusals.{header_passed_on, header_taken, some_refused, if_taken_lem, if_refused}
use Rattle.store.specs.StoreCalls.{read_number, read_gives}
use Rattle.store.proofs.reading.try_read.Goals as goal

module _ (h : Header) (r : List ℕ) (i : ℕ) where
  part_is : take (i * h.s + h.s - i * h.s) (drop (i * h.s) r) ≡ record_in h.s r i
  part_is = let s : i * h.s + h.s - i * h.s ≡ h.s = omega arith in ap (λ (w : ℕ). take w (drop (i * h.s) r)) s

  gives_none : {n : ℕ} → 0 < n → n ≡ read_number h r i → [] ≡ read_gives h r i
  gives_none l e = sym (if_refused {n = read_number h r i} (record_in h.s r i) [] (λ z. omega (arith, e, z)))

  gives_part : 0 ≡ read_number h r i → take (i * h.s + h.s - i * h.s) (drop (i * h.s) r) ≡ read_gives h r i
  gives_part z = part_is ∙ sym (if_taken_lem (record_in h.s r i) [] (sym z))

  -- a refusal that is passed on
  passed_part : (x : Refusal) (y : Result (Bor (List ℕ)) Refusal) → IsErrAnd y (λ z. z ≡ x) → answer_number y ≡ read_number h r i
      → read_part y ≡ read_gives h r i
  passed_part x y p e = let q = err_from_is_err_and y p in rw q.1 (gives_none (some_refused x y p) e)

  module _ (ok : true ≡ header_fits h) {n : ℕ} (en : n ≡ raw_size h) where
    unequal : (length r ≡ n → ⊥) → 2 ≡ read_number h r i
    unfolding refusal
    unequal d = rw (sym ok, ← en, ne_eqb (length r) n d)

    module _ (l : length r ≡ n) {m : ℕ} (em : m ≡ record_count h) where
      outside : m ≤ i → 4 ≡ read_number h r i
      unfolding refusal
      outside o = rw (sym ok, eq-eqb (length r) (raw_size h) (l ∙ en), ← em, le-ltb i m o)

      -- test 14 decides where the others hold
      last : i < m → {x : Bool} → x ≡ is_struck (take (i * h.s + h.s - i * h.s) (drop (i * h.s) r)) → (struck : Bool) → x ≡ struck
          → elim (not struck) [ true ↦ 0 | false ↦ 14 ] ≡ read_number h r i
      unfolding refusal
      last b ex struck es =
          let found : is_struck (record_in h.s r i) ≡ struck = ap is_struck (sym part_is) ∙ sym ex ∙ es in
          rw (sym ok, eq-eqb (length r) (raw_size h) (l ∙ en), ← em, lt-ltb i m b, found) refl

pub returns-in_err-valid-clause-value : goal.returns-in_err-valid-clause-value
returns-in_err-valid-clause-value c = header_passed_on c.args.header _ c.from_residual.result _ c.from_residual.ensures.1 c.in_err-valid.ensures

pub returns-in_err-valid-clause-part : goal.returns-in_err-valid-clause-part
returns-in_err-valid-clause-part c =
    passed_part c.args.header c.args.raw.now c.args.number _ c.from_residual.result c.from_residual.ensures.1
    (header_passed_on c.args.header _ c.from_residual.result _ c.from_residual.ensures.1 c.in_err-valid.ensures)

pub returns-then-raw-raw_size-clause-value : goal.returns-then-raw-raw_size-clause-value
returns-then-raw-raw_size-clause-value c =
    let same = c.in_ok-valid.ensures in
    unequal c.args.header c.args.raw.now c.args.number (header_taken _ _ same c.in_ok-valid.valid.fits) (c.raw_size.ensures ∙ ap raw_size same)
    c.if-raw-raw_size.true

pub returns-then-raw-raw_size-clause-part : goal.returns-then-raw-raw_size-clause-part
returns-then-raw-raw_size-clause-part c =
    let same = c.in_ok-valid.ensures in
    gives_none c.args.header c.args.raw.now c.args.number (omega arith)
    (unequal c.args.header c.args.raw.now c.args.number (header_taken _ _ same c.in_ok-valid.valid.fits) (c.raw_size.ensures ∙ ap raw_size same)
    c.if-raw-raw_size.true)

pub returns-then-record_count-number-clause-value : goal.returns-then-record_count-number-clause-value
returns-then-record_count-number-clause-value c =
    let same = c.in_ok-valid.ensures in
    outside c.args.header c.args.raw.now c.args.number (header_taken _ _ same c.in_ok-valid.valid.fits) (c.raw_size.ensures ∙ ap raw_size same)
    c.if-raw-raw_size.false (c.record_count.ensures ∙ ap record_count same) c.if-record_count-number.true

pub returns-then-is_struck-clause-value : goal.returns-then-is_struck-clause-value
returns-then-is_struck-clause-value c =
    let same = c.in_ok-valid.ensures in
    last c.args.header c.args.raw.now c.args.number (header_taken _ _ same c.in_ok-valid.valid.fits) (c.raw_size.ensures ∙ ap raw_size same)
    c.if-raw-raw_size.false (c.record_count.ensures ∙ ap record_count same) c.if-record_count-number.false c.is_struck.ensures true c.if-is_struck.true

pub returns-then-is_struck-clause-part : goal.returns-then-is_struck-clause-part
returns-then-is_struck-clause-part c =
    let same = c.in_ok-valid.ensures in
    gives_none c.args.header c.args.raw.now c.args.number (omega arith)
    (last c.args.header c.args.raw.now c.args.number (header_taken _ _ same c.in_ok-valid.valid.fits) (c.raw_size.ensures ∙ ap raw_size same)
    c.if-raw-raw_size.false (c.record_count.ensures ∙ ap record_count same) c.if-record_count-number.false c.is_struck.ensures true c.if-is_struck.true)

pub returns-clause-value : goal.returns-clause-value
returns-clause-value c =
    let same = c.in_ok-valid.ensures in
    last c.args.header c.args.raw.now c.args.number (header_taken _ _ same c.in_ok-valid.valid.fits) (c.raw_size.ensures ∙ ap raw_size same)
    c.if-raw-raw_size.false (c.record_count.ensures ∙ ap record_count same) c.if-record_count-number.false c.is_struck.ensures false c.if-is_struck.false

pub returns-clause-part : goal.returns-clause-part
returns-clause-part c =
    let same = c.in_ok-valid.ensures in
    gives_part c.args.header c.args.raw.now c.args.number
    (last c.args.header c.args.raw.now c.args.number (header_taken _ _ same c.in_ok-valid.valid.fits) (c.raw_size.ensures ∙ ap raw_size same)
    c.if-raw-raw_size.false (c.record_count.ensures ∙ ap record_count same) c.if-record_count-number.false c.is_struck.ensures false c.if-is_struck.false)
