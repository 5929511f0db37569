-- `two_readings::choosing::shelf_of_two` meets its contract. Assumes nothing.
use Rattle.std.proofs.Common.{◌≡◌, sym, ◌≤◌, ◌+◌, length, arith}
use Rattle.layout.specs.Header.{image_size}
use Rattle.two_readings.proofs.Placing.{Placed, placed, start_is, count_is, in_first, in_second, part_is}
use Rattle.two_readings.proofs.choosing.shelf_of_two.Goals.{then-place-eq1, else-place-eq1}
use Rattle.two_readings.proofs.choosing.shelf_of_two.Goals.{In_ok-place}
use Rattle.two_readings.proofs.choosing.shelf_of_two.Goals as goal

-- where no test applies
here : (c : In_ok-place) → let a = c.args in Placed a.header a.image1.now a.erasures1.now a.image2.now a.erasures2.now a.stripe
here c =
    let a = c.args in
    placed a.header a.image1.now a.erasures1.now a.image2.now a.erasures2.now a.stripe (sym c.in_ok-place.ensures.value)

-- it ends inside either image
ends : (c : In_ok-place) → let a = c.args in let p = c.in_ok-place.place in
    (p.start + p.count ≤ image_size a.header) × (image_size a.header ≤ 2113536) × (length a.image1.now ≡ image_size a.header)
    × (length a.image2.now ≡ image_size a.header)
ends c =
    let a = c.args in
    let h = here c in
    let z = sym c.in_ok-place.ensures.value in
    let q = c.in_ok-place.ensures.place in
    let s = start_is a.header a.image1.now a.erasures1.now a.image2.now a.erasures2.now a.stripe z q in
    let n = count_is a.header a.image1.now a.erasures1.now a.image2.now a.erasures2.now a.stripe z q in
    (rw (s, n) h.ends, h.small, h.first_long, h.second_long)

pub overflow_add-result : goal.overflow_add-result
overflow_add-result c = let t = ends (goal.at.overflow_add-result c).In_ok-place in record { fits = omega (arith, t.0, t.1) }

pub slice_bounds-result-end : goal.slice_bounds-result-end
slice_bounds-result-end c =
    let t = ends (goal.at.slice_bounds-result-end c).In_ok-place in
    elim c.if-place-eq1.branch [
      | then-place-eq1 w ↦ rw w.image-is (omega (arith, t.0, t.2, t.3))
      | else-place-eq1 w ↦ rw w.image-is (omega (arith, t.0, t.2, t.3))
    ]

pub returns-clause-part : goal.returns-clause-part
returns-clause-part c =
    let a = c.args in
    let h = a.header in
    let m = a.image1.now in
    let e = a.erasures1.now in
    let m' = a.image2.now in
    let e' = a.erasures2.now in
    let z = sym c.in_ok-place.ensures.value in
    let q = c.in_ok-place.ensures.place in
    elim c.if-place-eq1.branch [
      | then-place-eq1 w ↦ rw w.image-is (part_is h m e m' e' a.stripe z q (in_second h m e m' e' a.stripe z q w.if-place-eq1.true))
      | else-place-eq1 w ↦ rw w.image-is (part_is h m e m' e' a.stripe z q (in_first h m e m' e' a.stripe z q w.if-place-eq1.false))
    ]
