-- `image::erasures::mark_stripe` meets its contract. Assumes nothing.
use Rattle.std.proofs.Common.{◌≡◌, ap, ◌∙◌, ℕ, suc, ◌^◌, pow_mono, add-one, arith}
use Rattle.layout.proofs.Bounds.{fits}
use Rattle.layout.proofs.StripePlaces.{inside}
use Rattle.image.specs.Erasures.{erasures_in}
use Rattle.image.proofs.Marking.{marks_for_is}
use Rattle.image.proofs.erasures.mark_stripe.Goals as goal

pub mark-requires : goal.mark-requires
mark-requires c =
    let v = c.args.header in
    let f = fits v.header v.fits in
    (c.requires.marks_value, rw (c.two_to-positions.ensures, add-one) (pow_mono {i = suc c.args.level} {j = 11} (omega (arith, c.requires.level, f.k_high))))

pub invariant_of-places : goal.invariant_of-places
invariant_of-places c =
    let h = c.args.header.header in
    let l = c.args.level in
    let f = fits h c.args.header.fits in
    let e : c.two_to-positions.result ≡ 2 ^ suc l = c.two_to-positions.ensures ∙ ap (λ (n : ℕ). 2 ^ n) (add-one l) in
    record {
      some = rw c.width-step.ensures (omega arith);
      inside = rw (e, c.stripe_at-base.ensures, c.width-step.ensures) (omega (arith, inside h l f c.requires.level, f.image_low));
    }

pub returns : goal.returns
returns c =
    let h = c.args.header.header in
    let l = c.args.level in
    c.mark.ensures ∙ rw (c.two_to-positions.ensures, add-one l, c.stripe_at-base.ensures, c.width-step.ensures)
    (marks_for_is h (erasures_in c.args.erasures.now) l)
