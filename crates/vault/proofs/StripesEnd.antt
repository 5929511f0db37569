-- WHERE THE STRIPES END, for any layer: at the first needed one that fails, in the order k, k - 1, .., or nowhere, and then all decode. That no other
-- stripe is looked at, and how long the words are that they come to. Assumes nothing.
use mathlib.Core.Path.{◌≡◌, refl, sym, ap, ◌∙◌, subst₂}
use mathlib.Core.Bool.{Bool, true, false, false≢true}
use mathlib.Core.Logic.{◌⊎◌, inl, inr, ⊎_elim}
use mathlib.Core.List.{List}
use Prim.Native.Nat.{ℕ, zero, suc, ◌≤◌, ◌<◌}
use native.Mathlib.Nat.{eq-or-lt_of_le, suc-le-suc_iff}
use native.Mathlib.Omega.{arith}
use lib.ListN.{length, length-replicate}
use borrow.Author.Tests.{eq-eqb, eqb-true}
use Rattle.field.proofs.Booleans.{if_else}
use Rattle.layout.specs.declared.Header.{Header}
use Rattle.layout.specs.Header.{is_filled}
use Rattle.judging.specs.Decoding.{Decoded, failed, decoded}
use Rattle.recovery.specs.Verdicts.{Verdict}
use Rattle.recovery.specs.Recovery.{Layer, Recovered, stopped, recovered, then_lay, levels_over, stripes_over}
use Rattle.recovery.specs.RecoveryCall.{unnamed, at_fault, answer_of, recovered_words}
use Rattle.vault.specs.promises.Losses.{Needed}
use Rattle.vault.proofs.StripeCall.{needed_within}

-- STRIPE l IS THE FIRST TO FAIL of those that are asked for, and n is its number; or each of them decodes
module _ (d : ℕ → Decoded) where
  abbrev pub Decode : ℕ → Type 0
  Decode l = (bs : List ℕ) × (d l ≡ decoded bs)

  abbrev pub First : (asked : ℕ → Type 0) → (number stripe : ℕ) → Type 0
  First A n l = A l × (d l ≡ failed n) × ((l' : ℕ) → A l' → l < l' → Decode l')

  abbrev pub All : (asked : ℕ → Type 0) → Type 0
  All A = (l : ℕ) → A l → Decode l

  pub data Ends (A : ℕ → Type 0) (x : Recovered) : Type 0 where
    stops : (n l : ℕ) → x ≡ stopped n l → First A n l → Ends A x
    passes : (r : List ℕ) → x ≡ recovered r → All A → Ends A x

  -- one that fails does not decode, so that there is one first, and one number
  clash : {l n : ℕ} {bs : List ℕ} → d l ≡ failed n → d l ≡ decoded bs → ⊥
  clash p q = cc

  fails_all : {A : ℕ → Type 0} {n l : ℕ} → First A n l → All A → ⊥
  fails_all {l = l} f all = clash f.1 (all l f.0).1

  one_first : {A : ℕ → Type 0} {n l n' l' : ℕ} → First A n l → First A n' l' → at_fault n l ≡ at_fault n' l'
  one_first {n = n} {l = l} {n' = n'} {l' = l'} f g =
      let above : l < l' → ⊥ = λ b. clash g.1 (f.2 l' g.0 b).1 in
      let below : l' < l → ⊥ = λ b. clash f.1 (g.2 l f.0 b).1 in
      let e : l ≡ l' = omega arith in
      let p : d l ≡ failed n = f.1 in
      let q : d l' ≡ failed n' = g.1 in
      cc

  -- WHAT IS TOLD of the end is what the answer says
  module _ {A : ℕ → Type 0} {x : Recovered} (E : Ends A x) where
    pub first_if : {n l : ℕ} → answer_of x ≡ at_fault n l → First A n l
    first_if {n} {l} e = by E
      where
        by : Ends A x → First A n l
        by (stops n' l' q f) =
            let z : at_fault n' l' ≡ at_fault n l = ap answer_of (sym q) ∙ e in
            subst₂ (λ (i j : ℕ). First A i j) (ap (λ (a : Verdict). a.number) z) (ap (λ (a : Verdict). a.stripe) z) f
        by (passes r q all) = absurd (false≢true (ap (λ (a : Verdict). a.named) (ap answer_of (sym q) ∙ e)))

    pub if_first : {n l : ℕ} → First A n l → answer_of x ≡ at_fault n l
    if_first {n} {l} f = by E
      where
        by : Ends A x → answer_of x ≡ at_fault n l
        by (stops n' l' q g) = ap answer_of q ∙ one_first g f
        by (passes r q all) = absurd (fails_all f all)

    pub all_if : answer_of x ≡ unnamed 0 → All A
    all_if e = by E
      where
        by : Ends A x → All A
        by (stops n l q f) = absurd (false≢true (ap (λ (a : Verdict). a.named) (sym e ∙ ap answer_of q)))
        by (passes r q all) = all

    pub if_all : All A → answer_of x ≡ unnamed 0
    if_all all = by E
      where
        by : Ends A x → answer_of x ≡ unnamed 0
        by (stops n l q f) = absurd (fails_all f all)
        by (passes r q a) = ap answer_of q

  -- more that are asked for: each is one of those before, or decodes
  wider : {A B : ℕ → Type 0} {x : Recovered} → ((l : ℕ) → A l → B l) → ((l : ℕ) → B l → A l ⊎ Decode l) → Ends A x → Ends B x
  wider to from (stops n l q f) = stops n l q (to l f.0, f.1, λ l' b lt. ⊎_elim (λ a. f.2 l' a lt) (λ t. t) (from l' b))
  wider to from (passes r q all) = passes r q (λ l b. ⊎_elim (λ a. all l a) (λ t. t) (from l b))

-- OF A HEADER'S STRIPES
module _ (h : Header) (d : ℕ → Decoded) (y : Layer) where
  abbrev Below : ℕ → ℕ → Type 0
  Below l l' = (l' < l) × (is_filled h l' ≡ true)

  -- a stripe and what follows it
  one_ends : {A B : ℕ → Type 0} (l : ℕ) (x : Decoded) (next : List ℕ → Recovered) → d l ≡ x → B l → ((l' : ℕ) → B l' → l' ≤ l)
      → ((l' : ℕ) → A l' → B l') → ((l' : ℕ) → B l' → A l' ⊎ (l' ≡ l)) → ((bs : List ℕ) → Ends d A (next bs)) → Ends d B (then_lay l x next)
  one_ends l (failed n) next e b top to from ends = stops n l refl (b, e, λ l' b' lt. absurd (omega (arith, top l' b')))
  one_ends l (decoded bs) next e b top to from ends =
      wider d to (λ l' b'. ⊎_elim (λ a. inl a) (λ q. inr (bs, ap d q ∙ e)) (from l' b')) (ends bs)

  levels_end : (l : ℕ) (r : List ℕ) → Ends d (Below l) (levels_over l h d y r)
  unfolding levels_over
  levels_end zero r = passes r refl (λ l b. absurd (omega (arith, b.0)))
  levels_end (suc l) r = by (is_filled h l) refl (levels_end l)
    where
      widen : (l' : ℕ) → Below l l' → Below (suc l) l'
      widen l' b = (omega (arith, b.0), b.1)

      split : (l' : ℕ) → Below (suc l) l' → Below l l' ⊎ (l' ≡ l)
      split l' b = ⊎_elim (λ q. inr q) (λ lt. inl (lt, b.1)) (eq-or-lt_of_le (suc-le-suc_iff.0 b.0))

      by : (f : Bool) → is_filled h l ≡ f → ((x : List ℕ) → Ends d (Below l) (levels_over l h d y x)) → Ends d (Below (suc l)) (levels_over (suc l) h d y r)
      by true f rest =
          rw (f, levels_over)
          (one_ends {A = Below l} l (d l) _ refl (omega arith, f) (λ l' b. omega (arith, b.0)) widen split (λ bs. rest (y.over l bs r)))
      by false f rest =
          rw (f, levels_over)
          (wider d widen (λ l' b. ⊎_elim (λ a. inl a) (λ q. absurd (false≢true (sym f ∙ ap (is_filled h) (sym q) ∙ b.1))) (split l' b)) (rest r))

  pub stripes_end : Ends d (Needed h) (stripes_over h d y)
  stripes_end =
      one_ends {A = Below h.k} h.k (d h.k) _ refl (inl (eq-eqb h.k h.k refl)) (λ l need. needed_within h l need) (λ l b. inr b) split
      (λ bs. levels_end h.k (y.full bs))
    where
      split : (l : ℕ) → Needed h l → Below h.k l ⊎ (l ≡ h.k)
      split l (inl full) = inr (eqb-true l h.k full)
      split l (inr below) = inl below

-- RECOVERY looks at needed stripes only, whatever is laid
module _ (h : Header) {d d' : ℕ → Decoded} (y : Layer) (same : (l : ℕ) → Needed h l → d l ≡ d' l) where
  laid_alike : (l : ℕ) (x : Decoded) (next next' : List ℕ → Recovered) → ((bs : List ℕ) → next bs ≡ next' bs) → then_lay l x next ≡ then_lay l x next'
  laid_alike l (failed n) next next' e = refl
  laid_alike l (decoded bs) next next' e = e bs

  levels_alike : (l : ℕ) (r : List ℕ) → l ≤ h.k → levels_over l h d y r ≡ levels_over l h d' y r
  unfolding levels_over
  levels_alike zero r w = refl
  levels_alike (suc l) r w = by (is_filled h l) refl (λ x. levels_alike l x (omega arith))
    where
      by : (f : Bool) → is_filled h l ≡ f → ((x : List ℕ) → levels_over l h d y x ≡ levels_over l h d' y x)
          → levels_over (suc l) h d y r ≡ levels_over (suc l) h d' y r
      by true f rest = rw (f, levels_over, same l (inr (w, f))) (laid_alike l (d' l) _ _ (λ bs. rest (y.over l bs r)))
      by false f rest = rw (f, levels_over) (rest r)

  pub stripes_alike : stripes_over h d y ≡ stripes_over h d' y
  stripes_alike = rw (same h.k (inl (eq-eqb h.k h.k refl))) (laid_alike h.k (d' h.k) _ _ (λ bs. levels_alike h.k (y.full bs) (omega arith)))

-- THE WORDS have a size if the full stripe's have it and each level keeps the length
abbrev pub Sized : ℕ → Recovered → Type 0
Sized size x = length (recovered_words x size) ≡ size

module _ (size : ℕ) (h : Header) (d : ℕ → Decoded) (y : Layer) (over : (l : ℕ) (bs r : List ℕ) → length (y.over l bs r) ≡ length r) where
  sized_either : (t : Bool) (x z : Recovered) → Sized size x → Sized size z → Sized size (if_else t x z)
  sized_either true x z p q = p
  sized_either false x z p q = q

  sized_laid : (l : ℕ) (x : Decoded) (next : List ℕ → Recovered) → ((bs : List ℕ) → Sized size (next bs)) → Sized size (then_lay l x next)
  sized_laid l (failed n) next q = length-replicate size 0
  sized_laid l (decoded bs) next q = q bs

  levels_sized : (l : ℕ) (r : List ℕ) → length r ≡ size → Sized size (levels_over l h d y r)
  unfolding levels_over
  levels_sized zero r e = e
  levels_sized (suc l) r e =
      sized_either (is_filled h l) (then_lay l (d l) (λ (bs : List ℕ). levels_over l h d y (y.over l bs r))) (levels_over l h d y r)
      (sized_laid l (d l) _ (λ bs. levels_sized l (y.over l bs r) (over l bs r ∙ e))) (levels_sized l r e)

  pub stripes_sized : ((bs : List ℕ) → length (y.full bs) ≡ size) → Sized size (stripes_over h d y)
  stripes_sized full = sized_laid h.k (d h.k) _ (λ bs. levels_sized h.k (y.full bs) (full bs))
