-- Which of two readings a stripe is taken from (docs/FORMAT.md, section 8): the one with more positions left, the first on a tie. Assumes nothing: these are
-- definitions.
use Rattle.std.specs.Prelude.{Bool, true, false, List, ℕ, ltb}
use Rattle.layout.specs.declared.Header.{Header}
use Rattle.image.specs.Erasures.{erasures_in}
use Rattle.judging.specs.Decoding.{Decoded}
use Rattle.stripe_decoding.specs.Decoding.{positions_left, decode_stripe}

abbrev pub second_has_more : Header → (erasures erasures' : List ℕ) → (stripe : ℕ) → Bool
second_has_more h e e' l = ltb (positions_left h (erasures_in e) l) (positions_left h (erasures_in e') l)

-- of two things, one of each reading, the one of the reading that the stripe is taken from
abbrev pub chosen : {A : Type 0} → Header → (erasures erasures' : List ℕ) → (stripe : ℕ) → (first second : A) → A
chosen h e e' l x y = elim (second_has_more h e e' l) [ true ↦ y | false ↦ x ]

-- WHAT A STRIPE DECODES TO in that reading
abbrev pub decoding_of_two : Header → (image erasures image' erasures' : List ℕ) → (stripe : ℕ) → Decoded
decoding_of_two h m e m' e' l = decode_stripe h (chosen h e e' l m m') (erasures_in (chosen h e e' l e e')) l
