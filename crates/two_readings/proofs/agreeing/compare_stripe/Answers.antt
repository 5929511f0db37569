-- `two_readings::agreeing::compare_stripe` meets its contract. Assumes nothing.
use Rattle.std.proofs.Common.{◌≡◌, refl, sym, ap, ap₂, ◌∙◌, ℕ, ◌≤◌, suc, Bool, true, List, length, arith}
use lib.Dec.{ltb}
use lib.Pow.{pow_mono}
use Rattle.decoder.specs.Decoding.{survivors}
use Rattle.decoder.proofs.Survivors.{no_more}
use Rattle.code.proofs.Shapes.{positions}
use Rattle.layout.specs.declared.Header.{Header}
use Rattle.layout.specs.Header.{header_fits, stripe_of}
use Rattle.layout.proofs.Bounds.{fits}
use Rattle.layout.proofs.Refusals.{test_fails, alone_holds}
use Rattle.stripe_decoding.proofs.StripeAnswers.{marks_fit}
use Rattle.image.specs.Erasures.{Erasure, erasures_in, marks_of}
use Rattle.two_readings.specs.Agreeing.{stripe_agrees}
use Rattle.two_readings.proofs.agreeing.compare_stripe.Goals.{After-positions_left-second_left, Joined-first_left-second_left}
use Rattle.two_readings.proofs.agreeing.compare_stripe.Goals.{then-first_left-second_left, else-first_left-second_left}
use Rattle.two_readings.proofs.agreeing.compare_stripe.Goals as goal

-- the marks of the second list under the first reading's header
under : {g h : Header} (l : ℕ) (gs : List Erasure) {ms : List Bool} → g ≡ h → ms ≡ marks_of g gs l → ms ≡ marks_of h gs l
under l gs e q = q ∙ ap (λ (x : Header). marks_of x gs l) e

pub stripe_agrees-agree-requires : goal.stripe_agrees-agree-requires
stripe_agrees-agree-requires c = record {
  within = c.requires.within;
  one_header = c.requires.one_header;
  marks_of_first = c.mark.ensures;
  marks_of_second = under _ _ c.requires.one_header c.mark-2.ensures;
}

pub positions_left-first_left-requires-clause-level_in_bounds : goal.positions_left-first_left-requires-clause-level_in_bounds
positions_left-first_left-requires-clause-level_in_bounds c =
    let a = c.args in
    let h = a.first.header in
    marks_fit h.header a.level {st = stripe_of h.header a.level} refl (erasures_in a.first.erasures.now) h.fits c.requires.within c.mark.ensures

pub positions_left-second_left-requires-clause-level_in_bounds : goal.positions_left-second_left-requires-clause-level_in_bounds
positions_left-second_left-requires-clause-level_in_bounds c =
    let a = c.args in
    let h = a.first.header in
    marks_fit h.header a.level {st = stripe_of h.header a.level} refl (erasures_in a.second.erasures.now) h.fits c.requires.within
    (under _ _ c.requires.one_header c.mark-2.ensures)

-- the positions left of the stripe in each of the two
left_in : (l : ℕ) {ms ns : List Bool} {n : ℕ} → n ≡ length (survivors l ms) → ms ≡ ns → n ≡ length (survivors l ns)
left_in l e q = e ∙ ap (λ (ms : List Bool). length (survivors l ms)) q

few : (h : Header) → header_fits h ≡ true → (l : ℕ) (ms : List Bool) {n : ℕ} → l ≤ h.k → n ≡ length (survivors l ms) → n ≤ 2048
few h f l ms b e = omega (arith, e, no_more ms l, pow_mono {i = suc l} {j = 11} (omega (arith, b, (fits h f).k_high)))

pub overflow_add-first_left : goal.overflow_add-first_left
overflow_add-first_left c =
    let a = c.args in
    let h = a.first.header in
    record {
      fits = omega (
        arith,
        few h.header h.fits a.level c.mark.new.marks c.requires.within c.positions_left-first_left.ensures,
        few h.header h.fits a.level c.mark-2.new.marks c.requires.within c.positions_left-second_left.ensures,
      );
    }

pub whole_stripe_agrees-agree-requires : goal.whole_stripe_agrees-agree-requires
whole_stripe_agrees-agree-requires c =
    let a = c.args in
    let one = left_in a.level c.positions_left-first_left.ensures c.mark.ensures in
    let two = left_in a.level c.positions_left-second_left.ensures (under _ _ c.requires.one_header c.mark-2.ensures) in
    let h = a.first.header.header in
    let all = positions a.level c.two_to-all.ensures in
    let most = no_more (marks_of h (erasures_in a.first.erasures.now) a.level) a.level in
    let most' = no_more (marks_of h (erasures_in a.second.erasures.now) a.level) a.level in
    record {
      within = c.requires.within;
      one_header = c.requires.one_header;
      first_whole = omega (arith, c.if-first_left-second_left.true, one, two, all, most, most');
      second_whole = omega (arith, c.if-first_left-second_left.true, one, two, all, most, most');
    }

-- in one run, or position by position
agreed : (c : Joined-first_left-second_left) → let a = c.args in
    c.if-first_left-second_left.agree
    ≡ stripe_agrees a.first.header.header a.first.image.now a.first.erasures.now a.second.image.now a.second.erasures.now a.level
agreed c =
    elim c.if-first_left-second_left.branch [
      | then-first_left-second_left w ↦ w.agree-is ∙ w.whole_stripe_agrees-agree.ensures
      | else-first_left-second_left w ↦ w.agree-is ∙ w.stripe_agrees-agree.ensures
    ]

pub returns-then-not-agree-clause-number : goal.returns-then-not-agree-clause-number
returns-then-not-agree-clause-number c =
    test_fails 13 _ (sym (agreed (goal.at.returns-then-not-agree-clause-number c).Joined-first_left-second_left) ∙ c.if-not-agree.true)

pub returns-clause-number : goal.returns-clause-number
returns-clause-number c = alone_holds 13 (sym (agreed (goal.at.returns-clause-number c).Joined-first_left-second_left) ∙ c.if-not-agree.false)

pub returns-clause-more : goal.returns-clause-more
returns-clause-more c =
    let l = c.args.level in
    ap₂ (λ (m n : ℕ). ltb m n) (left_in l c.positions_left-first_left.ensures c.mark.ensures)
    (left_in l c.positions_left-second_left.ensures (under _ _ c.requires.one_header c.mark-2.ensures))
