-- `image::erasures::reading` meets its contract: test 3 that holds or fails. Assumes nothing.
use Rattle.std.proofs.Common.{◌≡◌, sym, ◌∙◌, Bool, ◌&&◌, ℕ, List, ◌%◌, eqb, length, arith}
use Rattle.layout.specs.declared.Header.{Header}
use Rattle.layout.specs.Header.{image_size}
use Rattle.layout.specs.Refusals.{done}
use Rattle.layout.proofs.Bounds.{fits}
use Rattle.layout.proofs.Refusals.{test_fails, alone_holds}
use Rattle.image.specs.Erasures.{erasures_in, erasures_rise, erasures_fit}
use Rattle.image.proofs.erasures.reading.Goals as goal

-- b is whether the erasures lie within the image's size
module _ (h : Header) {size : ℕ} (e : size ≡ image_size h) (bs : List ℕ) {b : Bool}
    (eb : b ≡ (eqb (length bs % 8) 0 && erasures_rise 0 size (erasures_in bs))) where
  list_test : erasures_fit h bs ≡ b
  list_test = rw (← e) (sym eb)

pub erasures_fit-requires : goal.erasures_fit-requires
erasures_fit-requires c = omega (arith, c.requires, (fits c.args.header.header c.args.header.fits).image_low)

pub returns-then-not-erasures_fit-clause-number : goal.returns-then-not-erasures_fit-clause-number
returns-then-not-erasures_fit-clause-number c =
    test_fails 3 done (list_test c.args.header.header c.requires c.args.erasures.now c.erasures_fit.ensures ∙ c.if-not-erasures_fit.true)

pub returns-clause-number : goal.returns-clause-number
returns-clause-number c =
    alone_holds 3 (list_test c.args.header.header c.requires c.args.erasures.now c.erasures_fit.ensures ∙ c.if-not-erasures_fit.false)
