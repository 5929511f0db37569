-- Two readings do not agree if and only if they differ as the table says, by a word at a position that neither list touches; and a word differs if and only if
-- one of its bytes does. Of the rooms Table and TwoReadings of specs/promises. Assumes nothing.
use mathlib.Core.Path.{◌≡◌, refl, sym, ap, ◌∙◌, subst}
use mathlib.Core.Bool.{Bool, true, false, false≢true}
use mathlib.Core.List.{List}
use Prim.Native.Nat.{ℕ, zero, suc, ◌+◌, ◌*◌, ◌-◌, ◌/◌, ◌%◌, ◌^◌, ◌<◌}
use native.Mathlib.Nat.{add-zero, suc-mul}
use native.Mathlib.Omega.{arith}
use lib.Dec.{eqb}
use lib.ListN.{get_or}
use borrow.Author.Tests.{eqb-true, eqb-false}
use Rattle.std.specs.Prelude.{◌↔◌}
use Rattle.std.proofs.lemmas.Bool.{or_from, or_parts}
use Rattle.field.proofs.Booleans.{if_else, is_false}
use Rattle.layout.specs.declared.Header.{Header}
use Rattle.layout.specs.Header.{width, has_stripe, stripe_at}
use Rattle.image.specs.Image.{word_at}
use Rattle.image.specs.Erasures.{erasures_fit}
use Rattle.two_readings.specs.Agreeing.{all_below, same_word, position_agrees, stripe_agrees, agrees_if_needed, readings_agree}
use Rattle.two_readings.proofs.AllBelow.{each_true, below_iff}
use Rattle.vault.specs.promises.Erasures.{four_bytes, stripe_place, WellFormed, Untouched}
use Rattle.vault.specs.promises.Table.{Differ}
use Rattle.vault.specs.promises.TwoReadings.{Bytes, DifferIff}
use Rattle.vault.proofs.Erasures.{well_formed_iff, erased_iff, word_by_bytes}
use Rattle.vault.proofs.StripeCall.{needed_within}
use Rattle.vault.proofs.Table.{needed_iff, stripe_says}

-- A POSITION does not agree if and only if neither list touches it and a word of it differs
abbrev Other : Header → (image image' : List ℕ) → (stripe position column : ℕ) → Type 0
Other h m m' l i j = let byte = 4 * (stripe_place h l + (i * suc h.s + j)) in four_bytes m byte ≡ four_bytes m' byte → ⊥

module _ (h : Header) (m e m' e' : List ℕ) (l i : ℕ) where
  word_iff : (j : ℕ) → (same_word m m' (stripe_at h l + i * width h) j ≡ false) ↔ Other h m m' l i j
  unfolding same_word
  word_iff j =
      let w = word_by_bytes h m l (i * suc h.s + j) in
      let w' = word_by_bytes h m' l (i * suc h.s + j) in
      let at : stripe_at h l + i * width h + j ≡ stripe_at h l + (i * suc h.s + j) = omega arith in
      let v = ap (word_at m) at ∙ w in
      let v' = ap (word_at m') at ∙ w' in (
        λ q d. eqb-false _ _ q (v ∙ d ∙ sym v'),
        λ d. is_false _ (λ t. d (sym v ∙ eqb-true _ _ t ∙ v')),
      )

  position_iff : WellFormed h e → WellFormed h e'
      → (position_agrees h m e m' e' l i ≡ false) ↔ (Untouched h e l i × Untouched h e' l i × ((j : ℕ) × (j < suc h.s) × Other h m m' l i j))
  unfolding position_agrees
  position_iff W W' =
      let u = erased_iff h l i e W in
      let u' = erased_iff h l i e' W' in
      let words = below_iff (width h) (same_word m m' (stripe_at h l + i * width h)) in (
        λ q.
            let p = or_parts _ _ q in
            let r = or_parts _ _ p.0 in
            let w = words.0 p.1 in
            (u.0 r.0, u'.0 r.1, (w.0, w.1, (word_iff w.0).0 w.2)),
        λ t. or_from _ _ (or_from _ _ (u.1 t.0) (u'.1 t.1)) (words.1 (t.2.0, t.2.1, (word_iff t.2.0).1 t.2.2)),
      )

-- and a stripe that is needed, if one of its positions does not
needed_agrees : (h : Header) (m e m' e' : List ℕ) (l : ℕ)
    → (agrees_if_needed h m e m' e' l ≡ false) ↔ ((has_stripe h l ≡ true) × (stripe_agrees h m e m' e' l ≡ false))
unfolding agrees_if_needed
needed_agrees h m e m' e' l = go (has_stripe h l) (stripe_agrees h m e m' e' l)
  where
    go : (a b : Bool) → (if_else a b true ≡ false) ↔ ((a ≡ true) × (b ≡ false))
    go true b = (λ q. (refl, q), λ p. p.1)
    go false b = (λ q. absurd (false≢true (sym q)), λ p. absurd (false≢true p.0))

-- READINGS DO NOT AGREE if and only if they differ
pub agree_iff : (h : Header) (m e m' e' : List ℕ) → erasures_fit h e ≡ true → erasures_fit h e' ≡ true
    → (readings_agree h m e m' e' ≡ false) ↔ Differ h m e m' e'
agree_iff h m e m' e' formed formed' =
    let stripes = below_iff (suc h.k) (agrees_if_needed h m e m' e') in
    let positions = λ (l : ℕ). below_iff (2 ^ suc l) (position_agrees h m e m' e' l) in
    let one = λ (l i : ℕ). position_iff h m e m' e' l i ((well_formed_iff h e).0 formed) ((well_formed_iff h e').0 formed') in (
      λ q.
          let a = stripes.0 q in
          let b = (needed_agrees h m e m' e' a.0).0 a.2 in
          let c = (positions a.0).0 b.1 in
          let d = (one a.0 c.0).0 c.2 in
          record {
            stripe = a.0;
            position = c.0;
            column = d.2.0;
            needed = (stripe_says h a.0).0 b.0;
            among = c.1;
            inside = d.2.1;
            untouched = d.0;
            untouched' = d.1;
            other = d.2.2;
          },
      λ D.
          let l = D.stripe in
          let agrees = (one l D.position).1 (D.untouched, D.untouched', (D.column, D.inside, D.other)) in
          let stripe = (positions l).1 (D.position, D.among, agrees) in
          stripes.1 (l, omega (arith, needed_within h l ((needed_iff h l).1 D.needed)), (needed_agrees h m e m' e' l).1 ((stripe_says h l).1 D.needed, stripe)),
    )

-- A WORD DIFFERS if and only if one of its bytes does
four_digits : (f f' : ℕ → ℕ) → ((r : ℕ) → f r < 256) → ((r : ℕ) → f' r < 256)
    → f 0 + 256 * f 1 + 65536 * f 2 + 16777216 * f 3 ≡ f' 0 + 256 * f' 1 + 65536 * f' 2 + 16777216 * f' 3 → (r : ℕ) → r < 4 → f r ≡ f' r
four_digits f f' b b' e zero a = omega (arith, e, b 0, b 1, b 2, b' 0, b' 1, b' 2)
four_digits f f' b b' e (suc zero) a = omega (arith, e, b 0, b 1, b 2, b' 0, b' 1, b' 2)
four_digits f f' b b' e (suc (suc zero)) a = omega (arith, e, b 0, b 1, b 2, b' 0, b' 1, b' 2)
four_digits f f' b b' e (suc (suc (suc zero))) a = omega (arith, e, b 0, b 1, b 2, b' 0, b' 1, b' 2)
four_digits f f' b b' e (suc (suc (suc (suc r)))) a = absurd (omega arith)

module _ (m m' : List ℕ) (x : ℕ) where
  abbrev Same : ℕ → Type 0
  Same r = get_or m (x + r) 0 ≡ get_or m' (x + r) 0

  same_bytes : Bytes m → Bytes m' → four_bytes m x ≡ four_bytes m' x → (r : ℕ) → r < 4 → Same r
  same_bytes B B' e = four_digits (λ r. get_or m (x + r) 0) (λ r. get_or m' (x + r) 0) (λ r. B (x + r)) (λ r. B' (x + r)) (rw (add-zero x) e)

  abbrev is_same : ℕ → Bool
  is_same r = eqb (get_or m (x + r) 0) (get_or m' (x + r) 0)

  all_same : all_below 4 is_same ≡ true → four_bytes m x ≡ four_bytes m' x
  all_same t = omega (arith, rw (add-zero x) at (one 0 (omega arith)), one 1 (omega arith), one 2 (omega arith), one 3 (omega arith))
    where
      one : (r : ℕ) → r < 4 → Same r
      one r a = eqb-true _ _ (each_true 4 is_same t r a)

  other_byte : (four_bytes m x ≡ four_bytes m' x → ⊥) → (r : ℕ) × (r < 4) × (Same r → ⊥)
  other_byte d =
      let b = (below_iff 4 is_same).0 (is_false (all_below 4 is_same) (λ t. d (all_same t))) in
      (b.0, b.1, eqb-false (get_or m (x + b.0) 0) (get_or m' (x + b.0) 0) b.2)

pub differ_iff : DifferIff
differ_iff h m e m' e' B B' = (
  λ D.
      let b = other_byte m m' (4 * (stripe_place h D.stripe + (D.position * suc h.s + D.column))) D.other in
      record {
        stripe = D.stripe;
        position = D.position;
        byte = 4 * (stripe_place h D.stripe + (D.position * suc h.s + D.column)) + b.0;
        needed = D.needed;
        among = D.among;
        inside = record { from = omega arith; to = omega (arith, suc-mul D.position (suc h.s), D.inside, b.1) };
        untouched = D.untouched;
        untouched' = D.untouched';
        other = b.2;
      },
  λ D.
      let j : ℕ = D.byte / 4 - (stripe_place h D.stripe + D.position * suc h.s) in
      let x : ℕ = 4 * (stripe_place h D.stripe + (D.position * suc h.s + j)) in
      let is : x + D.byte % 4 ≡ D.byte = omega (arith, D.inside.from) in
      record {
        stripe = D.stripe;
        position = D.position;
        column = j;
        needed = D.needed;
        among = D.among;
        inside = omega (arith, D.inside.from, D.inside.to, suc-mul D.position (suc h.s));
        untouched = D.untouched;
        untouched' = D.untouched';
        other = λ q. D.other (subst (λ (y : ℕ). get_or m y 0 ≡ get_or m' y 0) is (same_bytes m m' x B B' q (D.byte % 4) (omega arith)));
      },
)
