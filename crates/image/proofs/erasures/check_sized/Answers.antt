-- `image::erasures::check_sized` meets its contract: each size that holds or fails, in turn, and then test 3. Assumes nothing.
use Rattle.std.proofs.Common.{refl, sym}
use Rattle.layout.proofs.Refusals.{header_taken, first_refused, second_refused, third_refused, sizes_hold}
use Rattle.image.proofs.erasures.check_sized.Goals as goal
use Rattle.image.proofs.erasures.check_sized.Goals.{then-image-image_size-via-then-image-image_size}
use Rattle.image.proofs.erasures.check_sized.Goals.{then-image-image_size-via-else-image-image_size+then-out-rows_size}
use Rattle.image.proofs.erasures.check_sized.Goals.{then-image-image_size-via-else-image-image_size+else-out-rows_size+then-scratch-scratch_size}

pub returns-then-image-image_size-clause-number : goal.returns-then-image-image_size-clause-number
returns-then-image-image_size-clause-number c =
    let h = header_taken c.args.header.header c.args.header.header refl c.args.header.fits in
    let size = c.image_size.ensures in
    elim c.then-image-image_size.branch [
      | then-image-image_size-via-then-image-image_size w ↦ first_refused h _ refl size _ w.if-image-image_size.true
      | then-image-image_size-via-else-image-image_size+then-out-rows_size w ↦
          second_refused h _ refl size w.if-image-image_size.false w.rows_size.ensures _ w.if-out-rows_size.true
      | then-image-image_size-via-else-image-image_size+else-out-rows_size+then-scratch-scratch_size w ↦
          third_refused h _ refl size w.if-image-image_size.false w.rows_size.ensures w.if-out-rows_size.false
          w.scratch_size.ensures w.if-scratch-scratch_size.true
    ]

pub returns-clause-number : goal.returns-clause-number
returns-clause-number c =
    let h = header_taken c.args.header.header c.args.header.header refl c.args.header.fits in
    sizes_hold h _ refl c.image_size.ensures c.if-image-image_size.false c.rows_size.ensures c.if-out-rows_size.false
    c.scratch_size.ensures c.if-scratch-scratch_size.false (sym c.reading.ensures.number)
