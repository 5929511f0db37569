-- Whether something holds of all numbers below one: number by number, below a sum, where it holds of each or does so as another does, and
-- where it fails. Assumes nothing.
use Rattle.std.proofs.Common.{◌≡◌, refl, sym, ap, ap₂, ◌∙◌, ℕ, zero, suc, ◌+◌, ◌<◌, Bool, true, false, ◌&&◌, add-one, arith}
use Rattle.std.specs.Prelude.{◌↔◌}
use mathlib.Core.Bool.{and_assoc, and-true, and-false, false≢true}
use mathlib.Core.Logic.{⊎_elim}
use native.Mathlib.Nat.{eq-or-lt_of_le}
use Rattle.field.proofs.Booleans.{either, both_true, first_false}
use Rattle.two_readings.specs.Agreeing.{all_below}

pub all_start : (f : ℕ → Bool) → true ≡ all_below 0 f
unfolding all_below
all_start f = refl

-- one more that holds, and one that fails
module _ (f : ℕ → Bool) (i : ℕ) where
  pub all_holds : {b : Bool} → b ≡ all_below i f → f i ≡ true → b ≡ all_below (i + 1) f
  unfolding all_below
  all_holds {b} e t = rw (add-one i, t, ← e) (sym (and-true b))

  pub all_fails : f i ≡ false → false ≡ all_below (i + 1) f
  unfolding all_below
  all_fails t = rw (add-one i, t) (sym (and-false (all_below i f)))

  -- one that fails among n, and none
  pub one_fails : (n : ℕ) → i < n → f i ≡ false → all_below n f ≡ false
  unfolding all_below
  one_fails zero h t = absurd (omega arith)
  one_fails (suc n) h t =
      ⊎_elim (λ e. rw (← e, t) (and-false (all_below i f))) (λ b. first_false (f n) (one_fails n b t)) (eq-or-lt_of_le (omega arith))

  pub all_end : {b : Bool} (n : ℕ) → b ≡ all_below i f → i ≡ n → b ≡ all_below n f
  all_end n e t = rw (← t) e

-- it holds of each, or does so of each as another does
pub all_true : (n : ℕ) (f : ℕ → Bool) → ((i : ℕ) → f i ≡ true) → all_below n f ≡ true
unfolding all_below
all_true zero f e = refl
all_true (suc i) f e = both_true (all_true i f e) (e i)

pub each_true : (n : ℕ) (f : ℕ → Bool) → all_below n f ≡ true → (i : ℕ) → i < n → f i ≡ true
each_true n f t i a = ⊎_elim (λ q. q) (λ q. absurd (false≢true (sym (one_fails f i n a q) ∙ t))) (either (f i))

pub all_alike : (n : ℕ) (f g : ℕ → Bool) → ((i : ℕ) → i < n → f i ≡ g i) → all_below n f ≡ all_below n g
unfolding all_below
all_alike zero f g e = refl
all_alike (suc i) f g e = ap₂ (λ (a b : Bool). a && b) (all_alike i f g (λ j b. e j (omega arith))) (e i (omega arith))

-- it holds of those below a sum
pub all_sum : (a b : ℕ) (f : ℕ → Bool) → all_below (a + b) f ≡ (all_below a f && all_below b (λ j. f (a + j)))
unfolding all_below
all_sum a zero f = ap (λ n. all_below n f) {x = a + 0} {y = a} (omega arith) ∙ sym (and-true (all_below a f))
all_sum a (suc b) f =
    ap (λ n. all_below n f) {x = a + suc b} {y = suc (a + b)} (omega arith) ∙ ap (λ x. x && f (a + b)) (all_sum a b f)
    ∙ and_assoc (all_below a f) (all_below b (λ j. f (a + j))) (f (a + b))

-- ONE OF THEM FAILS if and only if it does not hold of all
some_fails : (n : ℕ) (f : ℕ → Bool) → all_below n f ≡ false → (i : ℕ) × (i < n) × (f i ≡ false)
unfolding all_below
some_fails zero f e = absurd cc
some_fails (suc n) f e = go (all_below n f) (some_fails n f) e
  where
    go : (b : Bool) → (b ≡ false → (i : ℕ) × (i < n) × (f i ≡ false)) → (b && f n) ≡ false → (i : ℕ) × (i < suc n) × (f i ≡ false)
    go true rest q = (n, omega arith, q)
    go false rest q = let r = rest refl in (r.0, omega (arith, r.1), r.2)

pub below_iff : (n : ℕ) (f : ℕ → Bool) → (all_below n f ≡ false) ↔ ((i : ℕ) × (i < n) × (f i ≡ false))
below_iff n f = (some_fails n f, λ r. one_fails f r.0 n r.1 r.2)
