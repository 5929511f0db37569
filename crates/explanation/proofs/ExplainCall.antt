-- The call `explain`: the counts of a stripe, and what holds of the sizes where the call is taken. Assumes nothing.
use mathlib.Core.Path.{◌≡◌}
use mathlib.Core.Bool.{true, false, ◌&&◌}
use mathlib.Core.List.{List}
use Prim.Native.Nat.{ℕ, ◌-◌, ◌^◌}
use borrow.Author.Tests.{eqb-true}
use lib.Dec.{eqb}
use lib.ListN.{length}
use Rattle.layout.specs.declared.Header.{Header}
use Rattle.layout.specs.Header.{header_fits, image_size, scratch_size, has_stripe}
use Rattle.image.specs.Erasures.{Erasure}
use Rattle.recovery.specs.Origins.{origins_size}
use Rattle.stripe_decoding.specs.Decoding.{positions_left}
use Rattle.explanation.specs.Counts.{counts_size, left, shortfall}
use Rattle.explanation.specs.ExplainCall.{explain_early}
use Rattle.field.proofs.Booleans.{first_true, second_true}
use Rattle.image.proofs.ImageRefusals.{whole}

-- THE COUNTS of a stripe, which recovery needs or does not need
module _ (h : Header) (gs : List Erasure) (l : ℕ) where
  pub left_needed : has_stripe h l ≡ true → left h gs l ≡ positions_left h gs l
  unfolding left
  left_needed e = rw (e, left)

  pub left_none : has_stripe h l ≡ false → left h gs l ≡ 0
  unfolding left
  left_none e = rw (e, left)

  pub short_needed : has_stripe h l ≡ true → shortfall h gs l ≡ 2 ^ l - positions_left h gs l
  unfolding shortfall
  short_needed e = rw (e, shortfall)

  pub short_none : has_stripe h l ≡ false → shortfall h gs l ≡ 0
  unfolding shortfall
  short_none e = rw (e, shortfall)

-- THE CALL
module _ (h : Header) (m e n o s : List ℕ) where
  -- what holds where no test applies
  pub record Lent : Type 0 where
    pub fits : header_fits h ≡ true
    pub counted : length n ≡ counts_size h
    pub image : length m ≡ image_size h
    pub named : length o ≡ origins_size h
    pub room : length s ≡ scratch_size h

  pub lent : explain_early h m e n o s ≡ 0 → Lent
  lent z =
      let named = eqb (length o) (origins_size h) in
      let room = eqb (length s) (scratch_size h) in
      let counted = eqb (length n) (counts_size h) in
      let w = whole h m e (counted && (named && room)) z in
      let t = second_true counted (named && room) w.others in
      record {
        fits = w.fits;
        counted = eqb-true (length n) (counts_size h) (first_true counted (named && room) w.others);
        image = w.image;
        named = eqb-true (length o) (origins_size h) (first_true named room t);
        room = eqb-true (length s) (scratch_size h) (second_true named room t);
      }
