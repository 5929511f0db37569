-- Values of polynomials by their coefficients modulo p: parts, multiples and sums of lists of coefficients, a list cut in two where the power at the
-- cut is 1 or -1, and z R'(z). Assumes nothing.
use mathlib.Core.Path.{◌≡◌, refl, sym, ap, ap₂, ◌∙◌}
use mathlib.Core.List.{List, [], ◌∷◌}
use Prim.Native.Nat.{ℕ, zero, suc, ◌+◌, ◌≤◌, ◌<◌}
use native.Mathlib.Nat.{mod-lt, zero-add, add-zero}
use native.Mathlib.Omega.{arith}
use lib.ListN.{length, get_or}
use Rattle.field.specs.Residue.{plus, minus, times}
use Rattle.field.specs.Power.{power}
use Rattle.field.specs.Polynomial.{horner, lift}
use Rattle.field.specs.Words.{table}
use Rattle.field.proofs.Congruence.{of_eq}
use Rattle.field.proofs.Ring.{v, ◌⊕◌, ◌⊖◌, ◌⊗◌, ring, lin}
use Rattle.field.proofs.Polynomials.{horner_parts, lift_is}
use Rattle.field.proofs.WordLists.{same_table}
use Rattle.code.specs.Transform.{scaled}

-- THE VALUE AT x OF z R'(z), for the polynomial R with these coefficients
unfoldable pub euler : (p : ℕ) → (coefficients : List ℕ) → (x : ℕ) → ℕ
euler p [] x = 0
euler p (c ∷ cs) x = times p x (plus p (horner p cs x) (euler p cs x))

module _ (p : ℕ) (h : 0 < p) where
  pub horner_scaled : (g : ℕ) (cs : List ℕ) (x : ℕ) → horner p (scaled p g cs) x ≡ times p g (horner p cs x)
  unfolding horner scaled
  horner_scaled g [] x = ring p h (v 0) (v g ⊗ v 0) h h (omega arith)
  horner_scaled g (c ∷ cs) x =
      ap (λ t. plus p (times p g c) (times p x t)) (horner_scaled g cs x)
      ∙ (let s = v (horner p cs x) in
      ring p h (v g ⊗ v c ⊕ v x ⊗ (v g ⊗ s)) (v g ⊗ (v c ⊕ v x ⊗ s)) h h (omega arith))

  -- coefficients past the end are 0
  pub horner_table : (n : ℕ) (cs : List ℕ) (x : ℕ) → length cs ≤ n → horner p (table n (λ j. get_or cs j 0)) x ≡ horner p cs x
  unfolding horner table
  horner_table zero [] x l = refl
  horner_table (suc n) [] x l =
      ap (λ t. plus p 0 (times p x t)) (horner_table n [] x (omega arith)) ∙ ring p h (v 0 ⊕ v x ⊗ v 0) (v 0) h h (omega arith)
  horner_table zero (c ∷ cs) x l = absurd (omega arith)
  horner_table (suc n) (c ∷ cs) x l = ap (λ t. plus p c (times p x t)) (horner_table n cs x (omega arith))

  pub euler_table : (n : ℕ) (cs : List ℕ) (x : ℕ) → length cs ≤ n → euler p (table n (λ j. get_or cs j 0)) x ≡ euler p cs x
  unfolding euler horner table
  euler_table zero [] x l = refl
  euler_table (suc n) [] x l =
      ap₂ (λ s t. times p x (plus p s t)) (horner_table n [] x (omega arith)) (euler_table n [] x (omega arith))
      ∙ ring p h (v x ⊗ (v 0 ⊕ v 0)) (v 0) h h (omega arith)
  euler_table zero (c ∷ cs) x l = absurd (omega arith)
  euler_table (suc n) (c ∷ cs) x l = ap₂ (λ s t. times p x (plus p s t)) (horner_table n cs x (omega arith)) (euler_table n cs x (omega arith))

  -- each coefficient times its place, counted from s
  euler_from : (n s : ℕ) (f : ℕ → ℕ) (x : ℕ)
      → horner p (table n (λ j. times p (s + j) (f j))) x ≡ plus p (times p s (horner p (table n f) x)) (euler p (table n f) x)
  unfolding euler horner table
  euler_from zero s f x = ring p h (v 0) (v s ⊗ v 0 ⊕ v 0) h h (omega arith)
  euler_from (suc n) s f x =
      let f' : ℕ → ℕ = λ j. f (suc j) in
      ap₂ (λ a t. plus p (times p a (f 0)) (times p x (horner p t x))) (add-zero s)
      (same_table n (λ j. times p (s + suc j) (f' j)) (λ j. times p (suc s + j) (f' j))
      (λ j _. ap (λ (i : ℕ). times p i (f' j)) {x = s + suc j} {y = suc s + j} (omega arith)))
      ∙ ap (λ t. plus p (times p s (f 0)) (times p x t)) (euler_from n (suc s) f' x)
      ∙ (let u = v (horner p (table n f') x) in
      let e = v (euler p (table n f') x) in
      ring p h (v s ⊗ v (f 0) ⊕ v x ⊗ (v (suc s) ⊗ u ⊕ e)) (v s ⊗ (v (f 0) ⊕ v x ⊗ u) ⊕ v x ⊗ (u ⊕ e)) h h (omega arith))

  euler_lt : (cs : List ℕ) (x : ℕ) → euler p cs x < p
  unfolding euler times
  euler_lt [] x = h
  euler_lt (c ∷ cs) x = mod-lt _ h

  pub euler_is : (n : ℕ) (f : ℕ → ℕ) (x : ℕ) → horner p (table n (λ j. times p j (f j))) x ≡ euler p (table n f) x
  euler_is n f x =
      let s = v (horner p (table n f) x) in
      let t = v (euler p (table n f) x) in
      ap (λ l. horner p l x) (same_table n (λ j. times p j (f j)) (λ j. times p (0 + j) (f j)) (λ j _. ap (λ (i : ℕ). times p i (f j)) (sym (zero-add j))))
      ∙ euler_from n 0 f x ∙ ring p h (v 0 ⊗ s ⊕ t) t h (euler_lt (table n f) x) (omega arith)

  -- the product rule for y + (z - a) q
  pub euler_lift : (a x y : ℕ) (q : List ℕ) → euler p (lift p a y q) x ≡ plus p (times p x (horner p q x)) (times p (minus p x a) (euler p q x))
  unfolding euler horner lift
  euler_lift a x y [] = ring p h (v x ⊗ (v 0 ⊕ v 0)) (v x ⊗ v 0 ⊕ (v x ⊖ v a) ⊗ v 0) h h (omega arith)
  euler_lift a x y (e ∷ q) =
      ap₂ (λ s t. times p x (plus p s t)) (lift_is p h a x e q) (euler_lift a x e q)
      ∙ (let s = v (horner p q x) in
      let t = v (euler p q x) in
      ring p h (v x ⊗ (v e ⊕ (v x ⊖ v a) ⊗ s ⊕ (v x ⊗ s ⊕ (v x ⊖ v a) ⊗ t))) (v x ⊗ (v e ⊕ v x ⊗ s) ⊕ (v x ⊖ v a) ⊗ (v x ⊗ (s ⊕ t))) h h (omega arith))

  horner_plus : (n : ℕ) (f g : ℕ → ℕ) (x : ℕ) → horner p (table n (λ j. plus p (f j) (g j))) x ≡ plus p (horner p (table n f) x) (horner p (table n g) x)
  unfolding horner table
  horner_plus zero f g x = ring p h (v 0) (v 0 ⊕ v 0) h h (omega arith)
  horner_plus (suc n) f g x =
      ap (λ t. plus p (plus p (f 0) (g 0)) (times p x t)) (horner_plus n (λ j. f (suc j)) (λ j. g (suc j)) x)
      ∙ (let s = v (horner p (table n (λ j. f (suc j))) x) in
      let t = v (horner p (table n (λ j. g (suc j))) x) in
      ring p h (v (f 0) ⊕ v (g 0) ⊕ v x ⊗ (s ⊕ t)) (v (f 0) ⊕ v x ⊗ s ⊕ (v (g 0) ⊕ v x ⊗ t)) h h (omega arith))

  horner_minus : (n : ℕ) (f g : ℕ → ℕ) (x : ℕ) → horner p (table n (λ j. minus p (f j) (g j))) x ≡ minus p (horner p (table n f) x) (horner p (table n g) x)
  unfolding horner table
  horner_minus zero f g x = ring p h (v 0) (v 0 ⊖ v 0) h h (omega arith)
  horner_minus (suc n) f g x =
      ap (λ t. plus p (minus p (f 0) (g 0)) (times p x t)) (horner_minus n (λ j. f (suc j)) (λ j. g (suc j)) x)
      ∙ (let s = v (horner p (table n (λ j. f (suc j))) x) in
      let t = v (horner p (table n (λ j. g (suc j))) x) in
      ring p h (v (f 0) ⊖ v (g 0) ⊕ v x ⊗ (s ⊖ t)) (v (f 0) ⊕ v x ⊗ s ⊖ (v (g 0) ⊕ v x ⊗ t)) h h (omega arith))

-- cut in half, where the power at the cut is 1, and where it is -1
module _ (p : ℕ) (h : 1 < p) where
  pub fold_plus : (n : ℕ) (f : ℕ → ℕ) (x : ℕ) → power p x n ≡ 1 → horner p (table (n + n) f) x ≡ horner p (table n (λ j. plus p (f j) (f (n + j)))) x
  fold_plus n f x e =
      let s = v (horner p (table n f) x) in
      let t = v (horner p (table n (λ j. f (n + j))) x) in
      let o : 0 < p = omega arith in
      horner_parts p h n n f x ∙ lin p o (s ⊕ v (power p x n) ⊗ t) (s ⊕ t) t (v (power p x n)) (v 1) (of_eq p e) o o (omega arith)
      ∙ sym (horner_plus p o n f (λ j. f (n + j)) x)

  pub fold_minus : (n : ℕ) (f : ℕ → ℕ) (x : ℕ) → power p x n ≡ minus p 0 1
      → horner p (table (n + n) f) x ≡ horner p (table n (λ j. minus p (f j) (f (n + j)))) x
  fold_minus n f x e =
      let s = v (horner p (table n f) x) in
      let t = v (horner p (table n (λ j. f (n + j))) x) in
      let o : 0 < p = omega arith in
      horner_parts p h n n f x ∙ lin p o (s ⊕ v (power p x n) ⊗ t) (s ⊖ t) t (v (power p x n)) (v 0 ⊖ v 1) (of_eq p e) o o (omega arith)
      ∙ sym (horner_minus p o n f (λ j. f (n + j)) x)
