-- `two_readings::choosing::place_of_two` meets its contract. Assumes nothing.
use Rattle.std.proofs.Common.{◌≡◌, sym, ap, ◌∙◌, ◌*◌, suc, ℕ, false, arith, get_or}
use lib.Pow.{pow_mono}
use Rattle.code.proofs.Shapes.{positions}
use Rattle.layout.specs.declared.Header.{Header}
use Rattle.layout.specs.Header.{stripe_at, width}
use Rattle.two_readings.specs.Choosing.{second_has_more}
use Rattle.two_readings.proofs.Chosen.{number_is}
use Rattle.two_readings.proofs.Placing.{Placed, placed, place_is, size_is}
use Rattle.two_readings.proofs.choosing.place_of_two.Goals.{In_ok-readings}
use Rattle.two_readings.proofs.choosing.place_of_two.Goals as goal

-- where no test applies
here : (c : In_ok-readings) → let a = c.args in Placed a.header a.image1.now a.erasures1.now a.image2.now a.erasures2.now a.stripe
here c =
    let a = c.args in
    placed a.header a.image1.now a.erasures1.now a.image2.now a.erasures2.now a.stripe (sym c.in_ok-readings.ensures.number)

pub bounds-readings-level : goal.bounds-readings-level
bounds-readings-level c = let p = here (goal.at.bounds-readings-level c).In_ok-readings in omega (arith, p.below, p.k_high)

pub stripe_at-requires : goal.stripe_at-requires
stripe_at-requires c = rw c.in_ok-readings.ensures.same.0.header (here (goal.at.stripe_at-requires c).In_ok-readings).below

pub overflow_mul-result : goal.overflow_mul-result
overflow_mul-result c =
    let p = here (goal.at.overflow_mul-result c).In_ok-readings in
    let e = c.stripe_at.ensures ∙ ap (λ (h : Header). stripe_at h c.args.stripe) c.in_ok-readings.ensures.same.0.header in
    record { fits = omega (arith, e, p.ends, p.small) }

pub two_to-requires : goal.two_to-requires
two_to-requires c = let p = here (goal.at.two_to-requires c).In_ok-readings in omega (arith, p.below, p.k_high)

pub overflow_mul-result-2 : goal.overflow_mul-result-2
overflow_mul-result-2 c =
    let p = here (goal.at.overflow_mul-result-2 c).In_ok-readings in
    let l = c.args.stripe in
    record { fits = omega (arith, positions l c.two_to.ensures, pow_mono {i = suc l} {j = 11} (omega (arith, p.below, p.k_high))) }

pub overflow_mul-result-3 : goal.overflow_mul-result-3
overflow_mul-result-3 c =
    let p = here (goal.at.overflow_mul-result-3 c).In_ok-readings in
    let w = c.width.ensures ∙ ap width c.in_ok-readings.ensures.same.0.header in
    let a = c.args in
    record {
      fits = omega (arith, size_is a.header a.image1.now a.erasures1.now a.image2.now a.erasures2.now a.stripe c.two_to.ensures w, p.ends, p.small);
    }

pub returns-clause-place : goal.returns-clause-place
returns-clause-place c =
    let p = here (goal.at.returns-clause-place c).In_ok-readings in
    let a = c.args in
    let r = c.in_ok-readings.readings in
    let s = c.in_ok-readings.ensures.same in
    let m = a.image1.now in
    let e = a.erasures1.now in
    let m' = a.image2.now in
    let e' = a.erasures2.now in
    let w = c.width.ensures ∙ ap width s.0.header in
    let more : get_or r.takes_second a.stripe false ≡ second_has_more a.header e e' a.stripe =
    rw (s.0.header, s.0.erasures, s.1.erasures) at (r.choice a.stripe (rw s.0.header p.there)) in
    place_is a.header m e m' e' a.stripe (sym c.in_ok-readings.ensures.number)
    (c.from.ensures ∙ number_is a.header e e' a.stripe more)
    (ap (λ (x : ℕ). 4 * x) (c.stripe_at.ensures ∙ ap (λ (h : Header). stripe_at h a.stripe) s.0.header))
    (size_is a.header m e m' e' a.stripe c.two_to.ensures w)
