-- ONE STRIPE OF TWO READINGS: the part that the call gives, where it stands, and what it decodes to. Of the rooms TwoReadings, Leaving and Boundary of
-- specs/promises. Assumes nothing.
use mathlib.Core.Path.{◌≡◌, refl, sym, ap, ◌∙◌}
use mathlib.Core.Bool.{Bool, true, false}
use mathlib.Core.Logic.{◌⊎◌, inl, inr}
use mathlib.Core.List.{List, []}
use Prim.Native.Nat.{ℕ, ◌+◌, ◌*◌, ◌<◌}
use lib.Dec.{eqb}
use lib.ListN.{length, get_or, take, drop}
use lib.Seq.{get_or-take, get_or-drop}
use Rattle.field.proofs.Booleans.{if_else}
use Rattle.layout.specs.declared.Header.{Header}
use Rattle.layout.specs.Header.{image_size, stripe_at, stripe_size, stripe_of}
use Rattle.layout.proofs.Refusals.{if_taken_lem, if_refused}
use Rattle.image.specs.Image.{words_of}
use Rattle.image.specs.Loading.{stripe_in}
use Rattle.image.proofs.StripeLoads.{stripe_long}
use Rattle.judging.specs.Decoding.{Decoded, decode_rows}
use Rattle.two_readings.specs.declared.choosing.Place.{Place}
use Rattle.two_readings.specs.Choosing.{second_has_more, chosen}
use Rattle.two_readings.specs.ShelfOfTwoCall.{shelf_of_two_number, shelf_of_two_part, place, place_of_two}
use Rattle.two_readings.proofs.Chosen.{number_more, chosen_second, chosen_first}
use Rattle.two_readings.proofs.Placing.{Placed, placed}
use Rattle.vault.specs.promises.Decoding.{marks}
use Rattle.vault.specs.promises.Erasures.{stripe_place}
use Rattle.vault.specs.promises.TwoReadings.{SecondHasMore, ShelfBytes, ShelfDecodes}
use Rattle.vault.specs.promises.Leaving.{ShelfRefused}
use Rattle.vault.specs.promises.Boundary.{PlaceIs, PlaceAt}
use Rattle.vault.proofs.Erasures as Places
use Rattle.vault.proofs.TwoExchanged.{choice_is}

-- WHERE THE CALL IS TAKEN its part is a stripe of one of the two images, which have their length
module _ (h : Header) (m e m' e' : List ℕ) (l : ℕ) (t : shelf_of_two_number h m e m' e' l ≡ 0) where
  P : Placed h m e m' e' l
  P = placed h m e m' e' l t

  abbrev part : List ℕ
  part = shelf_of_two_part h m e m' e' l

  abbrev Second : Type 0
  Second = SecondHasMore h e e' l

  part_is : part ≡ stripe_in h (chosen h e e' l m m') l
  part_is = if_taken_lem (stripe_in h (chosen h e e' l m m') l) [] t

  part_second : Second → part ≡ stripe_in h m' l
  part_second q = part_is ∙ ap (λ (x : List ℕ). stripe_in h x l) (chosen_second h e e' l m m' q)

  part_first : (Second → ⊥) → part ≡ stripe_in h m l
  part_first d = part_is ∙ ap (λ (x : List ℕ). stripe_in h x l) (chosen_first h e e' l m m' d)

  -- its length, and its bytes
  part_long : length part ≡ 4 * stripe_size h l
  part_long = ap length part_is ∙ stripe_long h (chosen h e e' l m m') l (rw (by (second_has_more h e e' l)) P.ends)
    where
      by : (b : Bool) → length (if_else b m' m) ≡ image_size h
      by true = P.second_long
      by false = P.first_long

  byte_at : (x : List ℕ) (byte : ℕ) → byte < 4 * stripe_size h l → get_or (stripe_in h x l) byte 0 ≡ get_or x (4 * stripe_place h l + byte) 0
  byte_at x byte b =
      get_or-take (4 * stripe_size h l) (drop (4 * stripe_at h l) x) byte 0 b ∙ get_or-drop (4 * stripe_at h l) x byte 0
      ∙ ap (λ (n : ℕ). get_or x (4 * n + byte) 0) (Places.place_is h l)

pub shelf_bytes : ShelfBytes
shelf_bytes h m e m' e' l t = (
  part_long h m e m' e' l t,
  λ byte b. (
    λ q. ap (λ (x : List ℕ). get_or x byte 0) (part_second h m e m' e' l t q) ∙ byte_at h m e m' e' l t m' byte b,
    λ d. ap (λ (x : List ℕ). get_or x byte 0) (part_first h m e m' e' l t d) ∙ byte_at h m e m' e' l t m byte b,
  ),
)

pub shelf_decodes : ShelfDecodes
shelf_decodes h m e m' e' l t =
    let by : List ℕ → List ℕ → Decoded = λ (y x : List ℕ). decode_rows (stripe_of h l) (marks h y l) (words_of x) in (
      λ q. (choice_is h m e m' e' l).0 q ∙ ap (by e') (sym (part_second h m e m' e' l t q)),
      λ d. (choice_is h m e m' e' l).1 d ∙ ap (by e) (sym (part_first h m e m' e' l t d)),
    )

pub shelf_refused : ShelfRefused
shelf_refused h m e m' e' l d = if_refused (stripe_in h (chosen h e e' l m m') l) [] d

-- WHERE IT STANDS
pub place_is : PlaceIs
place_is h m e m' e' l = by (eqb (shelf_of_two_number h m e m' e' l) 0) (second_has_more h e e' l) (4 * stripe_at h l) (4 * stripe_size h l)
  where
    by : (taken second : Bool) (start count : ℕ) →
        let p = if_else taken (place (if_else second 1 0) start count) (place 0 0 0) in
        let part = if_else taken (take count (drop start (if_else second m' m))) [] in
        ((p.reading ≡ 0) × (take p.count (drop p.start m) ≡ part)) ⊎ ((p.reading ≡ 1) × (take p.count (drop p.start m') ≡ part))
    by true true start count = inr (refl, refl)
    by true false start count = inl (refl, refl)
    by false second start count = inl (refl, refl)

pub place_at : PlaceAt
place_at h m e m' e' l =
    let there = place (chosen h e e' l 0 1) (4 * stripe_at h l) (4 * stripe_size h l) in (
      λ t. let p : place_of_two h m e m' e' l ≡ there = if_taken_lem there (place 0 0 0) t in (
        (λ q. number_more h e e' l (sym (ap (λ (x : Place). x.reading) p) ∙ q), λ q. ap (λ (x : Place). x.reading) p ∙ chosen_second h e e' l 0 1 q),
        ap (λ (x : Place). x.start) p ∙ ap (λ (n : ℕ). 4 * n) (Places.place_is h l),
        ap (λ (x : Place). x.count) p,
      ),
      λ d. let p : place_of_two h m e m' e' l ≡ place 0 0 0 = if_refused there (place 0 0 0) d in
          (ap (λ (x : Place). x.reading) p, ap (λ (x : Place). x.start) p, ap (λ (x : Place). x.count) p),
    )
