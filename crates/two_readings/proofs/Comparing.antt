-- Two readings compared: a position of which the marks are known, a stripe, and the loop over the stripes, which chooses as well. Assumes nothing.
use Rattle.std.proofs.Common.{◌≡◌, refl, sym, ◌∙◌, ℕ, suc, ◌+◌, ◌*◌, ◌^◌, ◌<◌, ◌≤◌, Bool, true, false, ◌||◌, List, length, get_or, arith}
use borrow.Author.Tests.{lt-ltb}
use native.Mathlib.Decide.{dec_lt}
use mathlib.Core.Bool.{false≢true}
use lib.ListN.{set, length-set}
use lib.Pow.{pow_mono}
use lib.Seq.{get_or-set_same, get_or-set_other}
use Rattle.layout.specs.declared.Header.{Header}
use Rattle.layout.specs.Header.{width, image_size, has_stripe, stripe_at}
use Rattle.layout.specs.Refusals.{done, test, refusal}
use Rattle.layout.proofs.Bounds.{Fits}
use Rattle.layout.proofs.Refusals.{test_fails, alone_holds, passes}
use Rattle.layout.proofs.StripePlaces.{inside, stripe_within}
use Rattle.code.proofs.Lifting.{row_in}
use Rattle.image.specs.Erasures.{Erasure, erasures_in, is_erased, mark_at, marks_of}
use Rattle.image.proofs.Marking.{get_or_flags}
use Rattle.two_readings.specs.Agreeing.{all_below, same_words, position_agrees, stripe_agrees, agrees_if_needed, readings_agree}
use Rattle.two_readings.specs.Choosing.{second_has_more}
use Rattle.two_readings.proofs.TwoRefusals.{alone_failed}
use Rattle.two_readings.proofs.AllBelow.{all_start, all_holds, one_fails, all_end}

-- A POSITION of a stripe: its mark is whether it is erased, its words are inside an image, and it agrees where it is erased or its words are the same
pub mark_is : (h : Header) (l i : ℕ) → h.k ≤ 10 → l ≤ h.k → i < 2 ^ suc l → (gs : List Erasure) → get_or (marks_of h gs l) i false ≡ is_erased h gs l i
unfolding mark_at
mark_is h l i few w b gs =
    get_or_flags 2048 (mark_at h gs l) i (omega (arith, pow_mono {i = suc l} {j = 11} (omega arith))) ∙ rw (lt-ltb i (2 ^ suc l) b, mark_at) refl

module _ (h : Header) (f : Fits h) (l i : ℕ) (w : l ≤ h.k) (b : i < 2 ^ suc l) where
  pub words_inside : 4 * (stripe_at h l + i * width h + width h) ≤ image_size h
  words_inside = omega (arith, inside h l f w, row_in (width h) b)

  pub position_is : (m e m' e' : List ℕ) {x y : List Bool} {erased : Bool} → x ≡ marks_of h (erasures_in e) l → y ≡ marks_of h (erasures_in e') l
      → erased ≡ (get_or x i false || get_or y i false)
      → position_agrees h m e m' e' l i ≡ (erased || same_words m m' (stripe_at h l + i * width h) (width h))
  unfolding position_agrees
  position_is m e m' e' p q r = rw (r, p, q, mark_is h l i f.k_high w b (erasures_in e), mark_is h l i f.k_high w b (erasures_in e')) refl

-- THE LOOP over the stripes: those below l agree where they are needed, and of each of these it is chosen which reading it is taken from
pub record Compared (h : Header) (m e m' e' : List ℕ) (takes : List Bool) (l : ℕ) : Type 0 where
  pub long : length takes ≡ 11
  pub agree : true ≡ all_below l (agrees_if_needed h m e m' e')
  pub choice : (i : ℕ) → i < l → has_stripe h i ≡ true → get_or takes i false ≡ second_has_more h e e' i

module _ (h : Header) (m e m' e' : List ℕ) where
  pub compared_start : {takes : List Bool} → length takes ≡ 11 → Compared h m e m' e' takes 0
  compared_start t = record { long = t; agree = all_start _; choice = λ i b s. absurd (omega arith) }

  needed : (l : ℕ) → has_stripe h l ≡ true → agrees_if_needed h m e m' e' l ≡ stripe_agrees h m e m' e' l
  unfolding agrees_if_needed
  needed l s = rw (s, agrees_if_needed)

  not_needed : (l : ℕ) → has_stripe h l ≡ false → agrees_if_needed h m e m' e' l ≡ true
  unfolding agrees_if_needed
  not_needed l s = rw (s, agrees_if_needed)

  pub compared_fails : (l : ℕ) {n : ℕ} → l < suc h.k → has_stripe h l ≡ true → n ≡ refusal (test (stripe_agrees h m e m' e' l) 13 done) → (n ≡ 0 → ⊥)
      → n ≡ refusal (test (readings_agree h m e m' e') 13 done)
  compared_fails l b s q d =
      let t = alone_failed {b = stripe_agrees h m e m' e' l} q d in
      t.1 ∙ test_fails 13 done (one_fails _ l (suc h.k) b (needed l s ∙ t.0))

  module _ {takes : List Bool} {l : ℕ} (c : Compared h m e m' e' takes l) where
    -- one more stripe, which agrees if it is needed, and is then chosen; no other choice changes
    one_more : {to : List Bool} → length to ≡ 11 → agrees_if_needed h m e m' e' l ≡ true → ((i : ℕ) → i < l → get_or to i false ≡ get_or takes i false)
        → (has_stripe h l ≡ true → get_or to l false ≡ second_has_more h e e' l) → Compared h m e m' e' to (l + 1)
    one_more {to} n t same q = record { long = n; agree = all_holds _ l c.agree t; choice = λ i u v. at i u v (dec_lt i l) }
      where
        at : (i : ℕ) → i < l + 1 → has_stripe h i ≡ true → Dec (i < l) → get_or to i false ≡ second_has_more h e e' i
        at i u v (yes x) = same i x ∙ c.choice i x v
        at i u v (no x) = let y : i ≡ l = omega arith in rw y (q (rw y at v))

    pub compared_next : {b : Bool} → l < 11 → has_stripe h l ≡ true → 0 ≡ refusal (test (stripe_agrees h m e m' e' l) 13 done) → b ≡ second_has_more h e e' l
        → Compared h m e m' e' (set takes l b) (l + 1)
    compared_next {b} n s t q =
        one_more (length-set takes l b ∙ c.long) (needed l s ∙ (passes (stripe_agrees h m e m' e' l) 13 done (sym t) (omega arith)).0)
        (λ i x. get_or-set_other takes l i b false (λ y. omega arith)) (λ v. get_or-set_same takes l b false (omega (arith, c.long)) ∙ q)

    pub compared_skip : has_stripe h l ≡ false → Compared h m e m' e' takes (l + 1)
    compared_skip s = one_more c.long (not_needed l s) (λ i x. refl) (λ v. absurd (false≢true (sym s ∙ v)))

    module _ (end : suc h.k ≡ l) where
      pub compared_agree : 0 ≡ refusal (test (readings_agree h m e m' e') 13 done)
      compared_agree = alone_holds 13 (sym (all_end _ l (suc h.k) c.agree (sym end)))

      pub compared_choice : (i : ℕ) → has_stripe h i ≡ true → get_or takes i false ≡ second_has_more h e e' i
      compared_choice i s = c.choice i (omega (arith, end, stripe_within h i s)) s
