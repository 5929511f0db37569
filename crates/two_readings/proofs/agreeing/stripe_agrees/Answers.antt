-- `two_readings::agreeing::stripe_agrees` meets its contract. Assumes nothing.
use Rattle.std.proofs.Common.{◌≡◌, refl, sym, ap, ◌∙◌, ◌+◌, ◌*◌, ◌<◌, ◌^◌, suc, false, ◌||◌, ℕ, get_or, arith}
use Rattle.code.proofs.Shapes.{positions}
use Rattle.layout.proofs.Bounds.{fits}
use Rattle.stripe_decoding.proofs.StripeAnswers.{marks_fit}
use Rattle.layout.specs.Header.{stripe_of, image_size, width, stripe_at}
use Rattle.image.specs.Erasures.{erasures_in}
use Rattle.two_readings.specs.Agreeing.{position_agrees, same_words}
use Rattle.two_readings.proofs.AllBelow.{all_start, all_holds, one_fails, all_end}
use Rattle.two_readings.proofs.Comparing.{words_inside, position_is}
use Rattle.two_readings.proofs.agreeing.stripe_agrees.Goals.{Joined-first_marks-i}
use Rattle.two_readings.proofs.agreeing.stripe_agrees.Goals.{then-first_marks-i, else-first_marks-i}
use Rattle.two_readings.proofs.agreeing.stripe_agrees.Goals.{else-not-erased-via-then-not-erased+else-not-same_words, else-not-erased-via-else-not-erased}
use Rattle.two_readings.proofs.agreeing.stripe_agrees.Goals as goal

below : (l : ℕ) {i n : ℕ} → n ≡ 2 ^ (l + 1) → i < n → i < 2 ^ suc l
below l e h = omega (arith, positions l e)

pub loop-i-init : goal.loop-i-init
loop-i-init c = all_start _

pub bounds-first_marks-i : goal.bounds-first_marks-i
bounds-first_marks-i c =
    let a = c.args in
    let h = a.first.header in
    omega (
      arith,
      c.loop-i-test.true,
      positions a.level c.two_to-positions.ensures,
      marks_fit h.header a.level {st = stripe_of h.header a.level} refl (erasures_in a.first.erasures.now) h.fits c.requires.within c.requires.marks_of_first,
    )

pub bounds-second_marks-i : goal.bounds-second_marks-i
bounds-second_marks-i c =
    let a = c.args in
    let h = a.first.header in
    omega (
      arith,
      c.loop-i-test.true,
      positions a.level c.two_to-positions.ensures,
      marks_fit h.header a.level {st = stripe_of h.header a.level} refl (erasures_in a.second.erasures.now) h.fits c.requires.within c.requires.marks_of_second,
    )

pub same_words-requires : goal.same_words-requires
same_words-requires c =
    let a = c.args in
    let h = a.first.header in
    let b = below a.level c.two_to-positions.ensures c.loop-i-test.true in
    let n = words_inside h.header (fits h.header h.fits) a.level c.loop-i.i c.requires.within b in
    let long = a.second.sized ∙ ap image_size c.requires.one_header in
    rw (c.width-width.ensures, c.stripe_at-start.ensures) (record { inside = (omega (arith, n, a.first.sized), omega (arith, n, long)) })

-- what a position comes to by the marks that were looked at
looked_at : (c : Joined-first_marks-i) → let a = c.args in let h = a.first.header.header in
    position_agrees h a.first.image.now a.first.erasures.now a.second.image.now a.second.erasures.now a.level c.loop-i.i
    ≡ (c.if-first_marks-i.erased || same_words a.first.image.now a.second.image.now (stripe_at h a.level + c.loop-i.i * width h) (width h))
looked_at c =
    let a = c.args in
    let h = a.first.header in
    let i = c.loop-i.i in
    let b = below a.level c.two_to-positions.ensures c.loop-i-test.true in
    let e : c.if-first_marks-i.erased ≡ (get_or a.first_marks.now i false || get_or a.second_marks.now i false) =
    elim c.if-first_marks-i.branch [
      | then-first_marks-i w ↦ rw (w.erased-is, w.if-first_marks-i.true) refl
      | else-first_marks-i w ↦ rw (w.erased-is, w.if-first_marks-i.false) refl
    ] in
    position_is h.header (fits h.header h.fits) a.level i c.requires.within b a.first.image.now a.first.erasures.now a.second.image.now a.second.erasures.now
    c.requires.marks_of_first c.requires.marks_of_second e

pub returns-then-not-same_words : goal.returns-then-not-same_words
returns-then-not-same_words c =
    let b = below c.args.level c.two_to-positions.ensures c.loop-i-test.true in
    let s = rw (c.width-width.ensures, c.stripe_at-start.ensures) at (sym c.same_words.ensures ∙ c.if-not-same_words.true) in
    sym (one_fails _ c.loop-i.i _ b (looked_at (goal.at.returns-then-not-same_words c).Joined-first_marks-i ∙ rw (c.if-not-erased.true, s) refl))

pub loop-i-preserved : goal.loop-i-preserved
loop-i-preserved c =
    let t = looked_at (goal.at.loop-i-preserved c).Joined-first_marks-i in
    all_holds _ c.loop-i.i c.loop-i.invariant (elim c.else-not-erased.branch [
      | else-not-erased-via-then-not-erased+else-not-same_words w ↦
          t ∙ rw (w.if-not-erased.true, rw (c.width-width.ensures, c.stripe_at-start.ensures) at (sym w.same_words.ensures ∙ w.if-not-same_words.false)) refl
      | else-not-erased-via-else-not-erased w ↦ t ∙ rw (w.if-not-erased.false) refl
    ])

pub returns : goal.returns
returns c = all_end _ c.loop-i.i _ c.loop-i.invariant (omega (arith, positions c.args.level c.two_to-positions.ensures))
