-- Where a stripe stands of two readings, where none of the tests applies. Assumes nothing.
use Rattle.std.proofs.Common.{◌≡◌, sym, ap, ◌∙◌, ℕ, ◌+◌, ◌*◌, ◌^◌, ◌≤◌, ◌-◌, true, List, [], length, take, drop, arith}
use Rattle.code.proofs.Shapes.{positions}
use Rattle.layout.specs.declared.Header.{Header}
use Rattle.layout.specs.Header.{width, image_size, has_stripe, stripe_at, stripe_size}
use Rattle.layout.specs.Refusals.{done, test}
use Rattle.layout.proofs.Bounds.{fits}
use Rattle.layout.proofs.Refusals.{passes, if_taken_lem}
use Rattle.layout.proofs.StripePlaces.{inside, stripe_within}
use Rattle.image.specs.Loading.{stripe_in}
use Rattle.two_readings.specs.declared.choosing.Place.{Place}
use Rattle.two_readings.specs.Choosing.{chosen}
use Rattle.two_readings.specs.ShelfOfTwoCall.{shelf_of_two_number, shelf_of_two_part, place, place_of_two}
use Rattle.two_readings.proofs.Chosen.{number_more, chosen_first, chosen_second}
use Rattle.two_readings.proofs.TwoRefusals.{passed}

module _ (h : Header) (m e m' e' : List ℕ) (l : ℕ) where
  pub record Placed : Type 0 where
    pub there : has_stripe h l ≡ true
    pub below : l ≤ h.k
    pub k_high : h.k ≤ 10
    pub small : image_size h ≤ 2113536
    pub ends : 4 * stripe_at h l + 4 * stripe_size h l ≤ image_size h
    pub first_long : length m ≡ image_size h
    pub second_long : length m' ≡ image_size h

  pub placed : shelf_of_two_number h m e m' e' l ≡ 0 → Placed
  placed z =
      let p = passed h m e m' e' true (test (has_stripe h l) 6 done) z in
      let t = (passes (has_stripe h l) 6 done p.1 (omega arith)).0 in
      let f = fits h p.0.fits in
      let b = stripe_within h l t in
      record {
        there = t;
        below = b;
        k_high = f.k_high;
        small = f.image_low;
        ends = inside h l f b;
        first_long = p.0.first_long;
        second_long = p.0.second_long;
      }

  -- as the code writes them
  pub size_is : {n w : ℕ} → n ≡ 2 ^ (l + 1) → w ≡ width h → 4 * n * w ≡ 4 * stripe_size h l
  size_is e q = rw (positions l e, q) (omega arith)

  pub place_is : {reading start count : ℕ} → shelf_of_two_number h m e m' e' l ≡ 0 → reading ≡ chosen h e e' l 0 1 → start ≡ 4 * stripe_at h l
      → count ≡ 4 * stripe_size h l → place reading start count ≡ place_of_two h m e m' e' l
  place_is z p q r = rw (p, q, r) (sym (if_taken_lem (place (chosen h e e' l 0 1) (4 * stripe_at h l) (4 * stripe_size h l)) (place 0 0 0) z))

  -- the parts of a place that is given, and the image that it is in
  module _ (z : shelf_of_two_number h m e m' e' l ≡ 0) {p : Place} (q : p ≡ place_of_two h m e m' e' l) where
    all_is : p ≡ place (chosen h e e' l 0 1) (4 * stripe_at h l) (4 * stripe_size h l)
    all_is = q ∙ if_taken_lem (place (chosen h e e' l 0 1) (4 * stripe_at h l) (4 * stripe_size h l)) (place 0 0 0) z

    pub start_is : p.start ≡ 4 * stripe_at h l
    start_is = ap (λ (x : Place). x.start) all_is

    pub count_is : p.count ≡ 4 * stripe_size h l
    count_is = ap (λ (x : Place). x.count) all_is

    pub in_second : p.reading ≡ 1 → chosen h e e' l m m' ≡ m'
    in_second r = chosen_second h e e' l m m' (number_more h e e' l (sym (ap (λ (x : Place). x.reading) all_is) ∙ r))

    pub in_first : (p.reading ≡ 1 → ⊥) → chosen h e e' l m m' ≡ m
    in_first d = chosen_first h e e' l m m' (λ q. d (ap (λ (x : Place). x.reading) all_is ∙ chosen_second h e e' l 0 1 q))

    pub part_is : {x : List ℕ} → chosen h e e' l m m' ≡ x → take (p.start + p.count - p.start) (drop p.start x) ≡ shelf_of_two_part h m e m' e' l
    part_is r =
        let n : p.start + p.count - p.start ≡ 4 * stripe_size h l = omega (arith, count_is) in
        rw (n, start_is, ← r) (sym (if_taken_lem (stripe_in h (chosen h e e' l m m') l) [] z))
