-- `explanation::explaining::count_stripe` meets its contract. Assumes nothing.
use mathlib.Core.Path.{◌≡◌, refl, sym, ap, ap₂, ◌∙◌}
use Rattle.std.proofs.Common.{ℕ, List, Bool, length, [], ◌∷◌, suc, ◌-◌, ◌^◌, arith}
use lib.Pow.{pow_mono}
use Rattle.decoder.specs.Decoding.{survivors}
use Rattle.decoder.proofs.Survivors.{no_more}
use Rattle.layout.specs.Header.{stripe_of}
use Rattle.layout.specs.Records.{replaced}
use Rattle.layout.proofs.Bounds.{fits}
use Rattle.image.specs.Erasures.{erasures_in}
use Rattle.stripe_decoding.specs.Decoding.{positions_left}
use Rattle.stripe_decoding.proofs.StripeAnswers.{marks_fit}
use Rattle.explanation.proofs.ExplainCall.{left_needed, left_none, short_needed, short_none}
use Rattle.explanation.proofs.explaining.count_stripe.Goals as goal

pub returns-then-not-has_stripe : goal.returns-then-not-has_stripe
returns-then-not-has_stripe c =
    let a = c.args in
    let h = a.reading.header.header in
    let gs = erasures_in a.reading.erasures.now in
    let e = sym c.has_stripe.ensures ∙ c.if-not-has_stripe.true in
    c.put_pair.ensures ∙ ap₂ (λ (x y : ℕ). replaced 2 a.counts.now a.level (x ∷ y ∷ [])) (sym (left_none h gs a.level e))
    (sym (short_none h gs a.level e))

pub positions_left-left-requires-clause-level_in_bounds : goal.positions_left-left-requires-clause-level_in_bounds
positions_left-left-requires-clause-level_in_bounds c =
    let a = c.args in
    let h = a.reading.header in
    marks_fit h.header a.level {st = stripe_of h.header a.level} refl (erasures_in a.reading.erasures.now) h.fits c.requires.within c.mark.ensures

-- what is left is small
pub overflow_cast-left : goal.overflow_cast-left
overflow_cast-left c =
    let a = c.args in
    let h = a.reading.header.header in
    let b = (fits h a.reading.header.fits).k_high in
    let w = c.requires.within in
    record {
      fits = omega (
        arith,
        c.positions_left-left.ensures,
        no_more c.mark.new.marks a.level,
        pow_mono {i = suc a.level} {j = 11} (omega (arith, b, w)),
      );
    }

-- what is left, and what it needs beyond that
pub returns : goal.returns
returns c =
    let a = c.args in
    let h = a.reading.header.header in
    let gs = erasures_in a.reading.erasures.now in
    let e = sym c.has_stripe.ensures ∙ c.if-not-has_stripe.false in
    let left : c.positions_left-left.result ≡ positions_left h gs a.level =
    c.positions_left-left.ensures ∙ ap (λ (ms : List Bool). length (survivors a.level ms)) c.mark.ensures in
    let needed = c.two_to-needed.ensures in
    let lacks : c.saturating_sub-short.result ≡ 2 ^ a.level - positions_left h gs a.level = omega (arith, c.saturating_sub-short.ensures, left, needed) in
    c.put_pair-2.ensures ∙ ap₂ (λ (x y : ℕ). replaced 2 a.counts.now a.level (x ∷ y ∷ []))
    (left ∙ sym (left_needed h gs a.level e)) (lacks ∙ sym (short_needed h gs a.level e))
