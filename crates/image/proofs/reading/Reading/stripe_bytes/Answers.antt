-- `image::reading::Reading::stripe_bytes` meets its contract: the stripe ends inside the image. Assumes nothing.
use Rattle.std.proofs.Common.{arith, ◌≡◌, ◌*◌, ◌+◌, ◌≤◌, refl}
use Rattle.layout.specs.Header.{stripe_size, image_size}
use Rattle.code.proofs.Shapes.{positions}
use Rattle.layout.proofs.Bounds.{fits}
use Rattle.layout.proofs.StripePlaces.{inside}
use Rattle.image.proofs.reading.Reading.stripe_bytes.Goals as goal

pub slice_bounds-result-end : goal.slice_bounds-result-end
slice_bounds-result-end c =
    let a = c.args in
    let h = a.self.header.header in
    let size : c.two_to.result * c.width.result ≡ stripe_size h a.level = rw (c.width.ensures, positions a.level c.two_to.ensures) refl in
    let ends : 4 * c.stripe_at-start.result + 4 * stripe_size h a.level ≤ image_size h =
    rw c.stripe_at-start.ensures (inside h a.level (fits h a.self.header.fits) c.requires) in
    omega (arith, a.self.sized)
