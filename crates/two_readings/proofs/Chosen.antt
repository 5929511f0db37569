-- Which of two readings a stripe is taken from, and which number 0 or 1 says so. Assumes nothing.
use Rattle.std.proofs.Common.{◌≡◌, refl, ap, ◌∙◌, ℕ, ◌<◌, Bool, true, false, List}
use borrow.Author.Tests.{lt-ltb, ltb-true}
use mir.Val.{bool_byte}
use Rattle.field.proofs.Booleans.{is_false, if_else, if_else_true, if_else_false}
use Rattle.layout.specs.declared.Header.{Header}
use Rattle.image.specs.Erasures.{erasures_in}
use Rattle.stripe_decoding.specs.Decoding.{positions_left}
use Rattle.two_readings.specs.Choosing.{second_has_more, chosen}

module _ (h : Header) (e e' : List ℕ) (l : ℕ) where
  abbrev More : Type 0
  More = positions_left h (erasures_in e) l < positions_left h (erasures_in e') l

  -- by its number
  pub number_is : {b : Bool} → b ≡ second_has_more h e e' l → bool_byte b ≡ chosen h e e' l 0 1
  number_is q = ap bool_byte q ∙ by (second_has_more h e e' l)
    where
      by : (x : Bool) → bool_byte x ≡ if_else x 1 0
      by true = refl
      by false = refl

  pub number_more : chosen {A = ℕ} h e e' l 0 1 ≡ 1 → More
  number_more q = ltb-true _ _ (by (second_has_more h e e' l) q)
    where
      by : (x : Bool) → if_else {A = ℕ} x 1 0 ≡ 1 → x ≡ true
      by true q = refl
      by false q = absurd cc

  -- what is taken
  module _ {A : Type 0} (x y : A) where
    pub chosen_second : More → chosen h e e' l x y ≡ y
    chosen_second q = if_else_true (second_has_more h e e' l) y x (lt-ltb _ _ q)

    pub chosen_first : (More → ⊥) → chosen h e e' l x y ≡ x
    chosen_first d = if_else_false (second_has_more h e e' l) y x (is_false (second_has_more h e e' l) (λ t. d (ltb-true _ _ t)))
