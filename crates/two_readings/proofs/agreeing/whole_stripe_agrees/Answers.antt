-- `two_readings::agreeing::whole_stripe_agrees` meets its contract: the stripe's words, in one run, are inside both images. Assumes nothing.
use Rattle.std.proofs.Common.{◌≡◌, refl, sym, ap, ap₂, ◌∙◌, ◌*◌, arith}
use Rattle.code.proofs.Shapes.{positions}
use Rattle.layout.specs.Header.{image_size, stripe_size}
use Rattle.layout.proofs.Bounds.{fits}
use Rattle.layout.proofs.StripePlaces.{inside}
use Rattle.two_readings.specs.Agreeing.{same_words}
use Rattle.two_readings.proofs.WholeStripes.{whole_agrees}
use Rattle.two_readings.proofs.agreeing.whole_stripe_agrees.Goals as goal

pub same_words-requires : goal.same_words-requires
same_words-requires c =
    let a = c.args in
    let h = a.first.header in
    let n = inside h.header a.level (fits h.header h.fits) c.requires.within in
    let size : c.two_to.result * c.width.result ≡ stripe_size h.header a.level = rw (c.width.ensures, positions a.level c.two_to.ensures) refl in
    let long = a.second.sized ∙ ap image_size c.requires.one_header in
    record { inside = (omega (arith, n, size, c.stripe_at-start.ensures, a.first.sized), omega (arith, n, size, c.stripe_at-start.ensures, long)) }

pub returns : goal.returns
returns c =
    let a = c.args in
    let h = a.first.header in
    let m = a.first.image.now in
    let m' = a.second.image.now in
    let size : c.two_to.result * c.width.result ≡ stripe_size h.header a.level = rw (c.width.ensures, positions a.level c.two_to.ensures) refl in
    c.same_words.ensures ∙ ap₂ (same_words m m') c.stripe_at-start.ensures size
    ∙ sym (whole_agrees h.header (fits h.header h.fits) a.level c.requires.within m a.first.erasures.now m' a.second.erasures.now
    c.requires.first_whole c.requires.second_whole)
