-- Two readings of a history: they never differ, recovery from both gives every record as last written where each needed stripe keeps half in one or in the
-- other, and no other history agrees with both. The room TwoReadings of specs/promises. Assumes nothing.
use mathlib.Core.Path.{◌≡◌, refl, sym, ◌∙◌, subst}
use mathlib.Core.Bool.{Bool, true, false}
use mathlib.Core.Logic.{◌⊎◌, ⊎_elim}
use mathlib.Core.List.{List}
use Prim.Native.Nat.{ℕ}
use native.Mathlib.Omega.{arith}
use borrow.Author.Tests.{ltb-true, ltb-false}
use Rattle.field.proofs.Booleans.{if_else}
use Rattle.layout.specs.declared.Header.{Header}
use Rattle.image.specs.Erasures.{erasures_in}
use Rattle.stripe_decoding.specs.Decoding.{decode_stripe}
use Rattle.two_readings.specs.Choosing.{second_has_more, decoding_of_two}
use Rattle.vault.specs.Event.{Opening, Event}
use Rattle.vault.specs.History.{Opens, header_after, image_after}
use Rattle.vault.specs.promises.Erasures.{WellFormed}
use Rattle.vault.specs.promises.Decoding.{Half}
use Rattle.vault.specs.promises.Losses.{Needed}
use Rattle.vault.specs.promises.Table.{InRange, none, NoRow}
use Rattle.vault.specs.promises.Numbers.{TwoRows}
use Rattle.vault.specs.promises.TwoReadings.{Reads, ReadTwice, TwoRecover, TwoNoOther, NeverDiffer, ShelfAfter}
use Rattle.vault.proofs.Erasures.{well_formed_iff, same_words_iff}
use Rattle.vault.proofs.Table.{fits_iff, needed_iff}
use Rattle.vault.proofs.RoundDecoding.{TakenFrom}
use Rattle.vault.proofs.Demand3.{OfHistory, recovers_history, same_history, fits_after}
use Rattle.vault.proofs.TwoNumbers.{two_asked_iff, shelf_of_two_numbers}

-- A READING has the history's words at the positions of needed stripes that no byte of a pair touches, and a header in range
range_after : (o : Opening) (es : List Event) → Opens o → InRange (header_after o es)
range_after o es O = (fits_iff (header_after o es)).0 (fits_after o es O)

formed : {o : Opening} {es : List Event} {m e : List ℕ} → Reads o es m e → WellFormed (header_after o es) e
formed {o} {es} {e} R = (well_formed_iff (header_after o es) e).0 R.well_formed

-- so two of them never differ
pub never_differ : NeverDiffer
never_differ o es m e m' e' O R R' D =
    let h = header_after o es in
    let few = (range_after o es O).k_to in
    let need = (needed_iff h D.stripe).1 D.needed in
    let one = (same_words_iff h e (image_after o es) m few (formed R)).0 R.words D.stripe D.position D.column need D.among D.inside D.untouched in
    let two = (same_words_iff h e' (image_after o es) m' few (formed R')).0 R'.words D.stripe D.position D.column need D.among D.inside D.untouched' in
    D.other (sym one ∙ two)

-- NO ROW from 1 to 13 applies to them; `lengths`: the other buffers of a call have theirs
passed : (o : Opening) (es : List Event) (m e m' e' : List ℕ) {lengths : Type 0} → Opens o → Reads o es m e → Reads o es m' e' → lengths
    → NoRow (TwoRows (header_after o es) m e m' e' lengths none)
passed o es m e m' e' O R R' long = (
  (((tt, λ f. f (range_after o es O)), λ f. f (R.long, R'.long, long)), ⊎_elim (λ g. g (formed R)) (λ g. g (formed R'))),
  never_differ o es m e m' e' O R R',
)

-- ONE STRIPE
pub shelf_after : ShelfAfter
shelf_after o es m e m' e' l O R R' =
    let P = passed o es m e m' e' O R R' tt in
    let S = shelf_of_two_numbers (header_after o es) m e m' e' l in
    let six = S.0.1.1.1.1.0 in (
      ((λ q. (tt, (six.0 q).1), λ t. six.1 (P, t.1)), tt),
      (λ q. (tt, (S.1.0 q).1), λ t. S.1.1 (P, t.1)),
    )

-- EACH NEEDED STRIPE is taken from the reading with more of it left, and so keeps half
two_keep : (o : Opening) (es : List Event) (m e m' e' : List ℕ) → ReadTwice o es m e m' e' → OfHistory o es (decoding_of_two (header_after o es) m e m' e')
two_keep o es m e m' e' X l need = go (second_has_more h e e' l) refl
  where
    h : Header
    h = header_after o es

    go : (b : Bool) → second_has_more h e e' l ≡ b
        → TakenFrom h (image_after o es) l (decode_stripe h (if_else b m' m) (erasures_in (if_else b e' e)) l)
    go true t = record {
      image = m';
      erasures = e';
      is = refl;
      half = ⊎_elim (λ p. omega (arith, ltb-true _ _ t)) (λ q. q) (X.half l need);
      same = X.second.words.same l need;
    }
    go false t = record {
      image = m;
      erasures = e;
      is = refl;
      half = ⊎_elim (λ p. p) (λ q. omega (arith, ltb-false _ _ t)) (X.half l need);
      same = X.first.words.same l need;
    }

pub two_recover : TwoRecover
two_recover o es m e m' e' O X =
    let h = header_after o es in
    let all = recovers_history o es (decoding_of_two h m e m' e') O (two_keep o es m e m' e' X) in
    record {
      call = λ out scratch out_long scratch_long.
          let early = (two_asked_iff h m e m' e' out scratch).1 (passed o es m e m' e' O X.first X.second (out_long, scratch_long)) in
          (rw (early, all), rw (early, all), rw early);
    }

pub two_no_other : TwoNoOther
two_no_other o o' es es' m e m' e' O O' q X R R' =
    let X' : ReadTwice o' es' m e m' e' =
    record { first = R; second = R'; half = subst (λ (h : Header). (l : ℕ) → Needed h l → Half h e l ⊎ Half h e' l) q X.half } in
    let d = λ (h : Header). decoding_of_two h m e m' e' in
    same_history o o' es es' (d (header_after o es)) O O' q (two_keep o es m e m' e' X)
    (subst (λ (h : Header). OfHistory o' es' (d h)) (sym q) (two_keep o' es' m e m' e' X'))
