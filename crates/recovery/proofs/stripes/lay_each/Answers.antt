-- `recovery::stripes::lay_each` meets its contract. The invariant: what is left to lay comes to all there was to lay. Assumes nothing.
use mathlib.Core.Path.{◌≡◌, refl, sym, ap, ◌∙◌}
use Rattle.std.proofs.Common.{rules, ℕ, List, suc, ◌-◌, arith}
use Rattle.code.specs.Stripe.{block_words}
use Rattle.layout.specs.declared.Header.{Header}
use Rattle.layout.specs.declared.refusal.Refusal.{Refusal}
use Rattle.layout.specs.Header.{stripe_of}
use Rattle.layout.specs.Refusals.{answer_number}
use Rattle.layout.proofs.Refusals.{not_zero, ok_number}
use Rattle.std.proofs.lemmas.Result.{err_from_is_err_and}
use Rattle.std.specs.Prelude.{Result, Ok, Err, Some}
use Rattle.std.specs.Result.{is_ok, IsErrAnd, MatchResult}
use Rattle.recovery.specs.Verdicts.{verdict_of}
use Rattle.recovery.specs.declared.fault.Fault.{Fault}
use Rattle.recovery.specs.Recovery.{stopped}
use Rattle.image.specs.Erasures.{erasures_in, marks_of}
use Rattle.image.specs.Image.{words_of}
use Rattle.image.specs.Loading.{stripe_in}
use Rattle.stripe_decoding.specs.steps.Laying.{laid_size}
use Rattle.stripe_decoding.proofs.DecodedWords.{Comes, comes}
use Rattle.recovery.specs.Recovery.{Recovered}
use Rattle.recovery.specs.RecoveryCall.{answer_of, recovered_words}
use Rattle.recovery.specs.steps.Laying.{decoding}
use Rattle.recovery.proofs.StripesLaid.{left_all, left_skip, left_lay, left_stop, left_none}
use Rattle.recovery.proofs.stripes.lay_each.Goals as goal

-- what comes of each stripe
found : (h : Header) (m e : ℕ → List ℕ) (l : ℕ) → Comes (block_words (stripe_of h l)) (decoding h m e l)
found h m e l = comes (stripe_of h l) (marks_of h (erasures_in (e l)) l) (words_of (stripe_in h (m l) l))

err_same : {A : Type 0} {a b : Fault} {x y : Result A Fault} → x ≡ Err a → y ≡ Err b → x ≡ y → a ≡ b
err_same p q e = cc

-- a refusal that is passed on with its stripe
stopped_by : (made : Refusal → Fault → Type 0) (r : Result (Unit {0}) Refusal) (q p : Result (Unit {0}) Fault) (f : Fault) (l : ℕ)
    → ((e : Refusal) (g : Fault) → made e g → g ≡ record { refusal = e; stripe = Some l }) → MatchResult r (λ x. q ≡ Ok x) (λ e. IsErrAnd q (made e))
    → q ≡ Err f → IsErrAnd p (λ g. g ≡ f) → (answer_number r ≡ 0 → ⊥) × (verdict_of p ≡ answer_of (stopped (answer_number r) l))
stopped_by made (Ok x) q p f l k m e i = absurd (apart (sym m ∙ e))
  where
    apart : Ok x ≡ Err f → ⊥
    apart z = cc
stopped_by made (Err y) q p f l k m e i =
    let u = err_from_is_err_and q m in
    let v = err_from_is_err_and p i in
    let g : u.0 ≡ record { refusal = y; stripe = Some l } = k y u.0 u.2 in
    let same : f ≡ u.0 = err_same e u.1 refl in
    (not_zero y, rw (v.1, v.2, same, g) refl)

pub loop-level-init : goal.loop-level-init
loop-level-init g c =
    let r = c.args.readings in
    let h = g.R.Readings.its_header r in
    let m = g.R.Readings.image r in
    let e = g.R.Readings.erasures r in
    left_all h c.args.content (decoding h m e) (rw c.header-header.ensures (omega arith)) c.requires.output (found h m e h.k)

pub lay_stripe-requires-clause-there : goal.lay_stripe-requires-clause-there
lay_stripe-requires-clause-there g c = rw c.header-header.ensures at (sym c.has_stripe.ensures ∙ c.if-has_stripe.true)

pub returns-in_err-map_err-clause-value : goal.returns-in_err-map_err-clause-value
returns-in_err-map_err-clause-value g c =
    let w : c.loop-level.level-counter ≡ suc (c.loop-level.level-counter - 1) = omega arith in
    let there = rw c.header-header.ensures at (sym c.has_stripe.ensures ∙ c.if-has_stripe.true) in
    let t = stopped_by _ c.lay_stripe.result c.map_err.result c.from_residual.result c.in_err-map_err.field-0.0 (c.loop-level.level-counter - 1)
    (λ e g k. search rules) c.map_err.ensures.cases c.in_err-map_err.was c.from_residual.ensures.1 in
    t.1 ∙ sym (ap answer_of (left_stop c.loop-level.invariant w there c.lay_stripe.ensures.value t.0))

pub loop-level-preserved-in-Continue-1 : goal.loop-level-preserved-in-Continue-1
loop-level-preserved-in-Continue-1 g c =
    let r = c.args.readings in
    let w : c.loop-level.level-counter ≡ suc (c.loop-level.level-counter - 1) = omega arith in
    let there = rw c.header-header.ensures at (sym c.has_stripe.ensures ∙ c.if-has_stripe.true) in
    let e = c.lay_stripe.ensures in
    let z = ok_number c.lay_stripe.result (sym c.map_err.ensures.variant ∙ ap is_ok c.in_ok-map_err.was) in
    left_lay c.loop-level.invariant w there e.value
    (found (g.R.Readings.its_header r) (g.R.Readings.image r) (g.R.Readings.erasures r) (c.loop-level.level-counter - 1)) z (e.out_after z)

pub loop-level-preserved : goal.loop-level-preserved
loop-level-preserved g c =
    let w : c.loop-level.level-counter ≡ suc (c.loop-level.level-counter - 1) = omega arith in
    left_skip c.loop-level.invariant w (rw c.header-header.ensures at (sym c.has_stripe.ensures ∙ c.if-has_stripe.false))

pub returns-clause-value : goal.returns-clause-value
returns-clause-value g c = sym (ap answer_of (left_none c.loop-level.invariant c.loop-level-test.false))

pub returns-clause-out_after : goal.returns-clause-out_after
returns-clause-out_after g c =
    λ _. sym (ap (λ (x : Recovered). recovered_words x (laid_size (g.R.Readings.its_header c.args.readings) c.args.content))
    (left_none c.loop-level.invariant c.loop-level-test.false))
