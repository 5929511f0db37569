-- What the calls `shelf_of_two` and `place_of_two` answer, for every input. Assumes nothing: these are definitions.
use Rattle.std.specs.Prelude.{true, List, [], ℕ, ◌*◌, Result, Ok, Err}
use Rattle.layout.specs.declared.Header.{Header}
use Rattle.layout.specs.declared.refusal.Refusal.{Refusal}
use Rattle.layout.specs.Header.{has_stripe, stripe_at, stripe_size}
use Rattle.layout.specs.Refusals.{done, test, refusal, if_taken}
use Rattle.image.specs.Loading.{stripe_in}
use Rattle.two_readings.specs.declared.choosing.Place.{Place}
use Rattle.two_readings.specs.Choosing.{chosen}
use Rattle.two_readings.specs.TwoTests.{two_tests}

-- 6 comes after 13
abbrev pub shelf_of_two_number : Header → (image erasures image' erasures' : List ℕ) → (stripe : ℕ) → ℕ
shelf_of_two_number h m e m' e' l = refusal (two_tests h m e m' e' true (test (has_stripe h l) 6 done))

-- THE STRIPE'S BYTES, a part of the image of the reading that the stripe is taken from; an empty part where it is refused
abbrev pub shelf_of_two_part : Header → (image erasures image' erasures' : List ℕ) → (stripe : ℕ) → List ℕ
shelf_of_two_part h m e m' e' l = if_taken (shelf_of_two_number h m e m' e' l) (stripe_in h (chosen h e e' l m m') l) []

-- WHERE THEY STAND: which reading, 0 or 1, and the first byte and how many in its image; zeros where it is refused. First what an answer of the code says
abbrev pub place : (reading start count : ℕ) → Place
place reading start count = record { reading = reading; start = start; count = count }

abbrev pub place_given : Result Place Refusal → Place
place_given (Ok p) = p
place_given (Err e) = place 0 0 0

abbrev pub place_of_two : Header → (image erasures image' erasures' : List ℕ) → (stripe : ℕ) → Place
place_of_two h m e m' e' l =
    if_taken (shelf_of_two_number h m e m' e' l) (place (chosen h e e' l 0 1) (4 * stripe_at h l) (4 * stripe_size h l)) (place 0 0 0)
