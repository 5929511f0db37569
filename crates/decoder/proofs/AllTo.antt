-- Laws of tests: that two numbers are equal unless .., and of `all_to` of specs/steps/RowTests, a test for each number below n. Assumes nothing.
use mathlib.Core.Path.{◌≡◌, refl, sym, ap, ap₂, ◌∙◌}
use mathlib.Core.Bool.{Bool, true, false, false≢true, ◌&&◌, ◌||◌}
use mathlib.Core.Logic.{⊎_elim}
use mathlib.Core.List.{List}
use Prim.Native.Nat.{ℕ, zero, suc, ◌+◌, ◌≤◌, ◌<◌}
use native.Mathlib.Nat.{eq-or-lt_of_le, zero-add}
use native.Mathlib.Omega.{arith}
use lib.Dec.{eqb}
use lib.ListN.{length, get_or, take, drop, length-drop}
use lib.Seq.{length-take-le, get_or-take, get_or-drop}
use Rattle.std.proofs.Common.{ext_get_or}
use Rattle.std.specs.Bool.{Decides, MatchBool}
use Rattle.std.specs.List.{AllWithin, HoldsAt, range_with_len}
use Rattle.std.proofs.lemmas.List.FromFn.{length-range_with_len, get_or-range_with_len}
use borrow.Author.Tests.{eqb-true, eq-eqb}
use Rattle.field.proofs.Booleans.{either, same_truth, both_true, first_true, second_true}
use Rattle.decoder.specs.steps.RowTests.{all_to, same_at}

-- two numbers are equal unless b
pub unless_same : (b : Bool) (x y : ℕ) → (b ≡ false → x ≡ y) → (b || eqb x y) ≡ true
unless_same true x y e = refl
unless_same false x y e = eq-eqb x y (e refl)

pub same_unless : (b : Bool) (x y : ℕ) → (b || eqb x y) ≡ true → b ≡ false → x ≡ y
same_unless true x y e m = absurd (false≢true (sym m))
same_unless false x y e m = eqb-true x y e

-- all tests are true, and each is
pub all_to_all : (n : ℕ) (f : ℕ → Bool) → ((i : ℕ) → i < n → f i ≡ true) → all_to n f ≡ true
unfolding all_to
all_to_all zero f e = refl
all_to_all (suc n) f e = both_true (e n (omega arith)) (all_to_all n f (λ i h. e i (omega arith)))

pub all_to_each : (n : ℕ) (f : ℕ → Bool) → all_to n f ≡ true → (i : ℕ) → i < n → f i ≡ true
unfolding all_to
all_to_each zero f e i h = absurd (omega arith)
all_to_each (suc n) f e i h =
    ⊎_elim (λ q. rw q (first_true (f n) (all_to n f) e)) (λ q. all_to_each n f (second_true (f n) (all_to n f) e) i q)
    (eq-or-lt_of_le {n = i} {m = n} (omega arith))

pub all_to_false : (n i : ℕ) (f : ℕ → Bool) → i < n → f i ≡ false → all_to n f ≡ false
all_to_false n i f h e = ⊎_elim (λ t. t ∙ sym (all_to_each n f t i h) ∙ e) (λ q. q) (either (all_to n f))

-- as the library tells it of a chain over the numbers below n
pub all_told : {b : Bool} (n : ℕ) (f : ℕ → Bool)
    → MatchBool b (AllWithin (λ i. f i ≡ true) (range_with_len 0 n) 0 (length (range_with_len 0 n)))
    ((k : ℕ) × (k < length (range_with_len 0 n)) × HoldsAt (λ i. f i ≡ false) (range_with_len 0 n) k)
    → b ≡ all_to n f
all_told {b = true} n f h =
    sym (all_to_all n f (λ i t. rw (get_or-range_with_len 0 n i 0 t, zero-add i) at (h i 0 (omega arith) (rw length-range_with_len t))))
all_told {b = false} n f h =
    let t : h.0 < n = rw length-range_with_len at h.1 in
    sym (all_to_false n h.0 f t (rw (get_or-range_with_len 0 n h.0 0 t, zero-add h.0) at (h.2 0)))

pub all_to_same : (n : ℕ) (f g : ℕ → Bool) → ((i : ℕ) → i < n → f i ≡ g i) → all_to n f ≡ all_to n g
unfolding all_to
all_to_same zero f g e = refl
all_to_same (suc n) f g e = ap₂ ◌&&◌ (e n (omega arith)) (all_to_same n f g (λ i h. e i (omega arith)))

-- n times m tests, by rows or by columns
pub all_to_swap : (n m : ℕ) (f : ℕ → ℕ → Bool) → all_to n (λ i. all_to m (f i)) ≡ all_to m (λ j. all_to n (λ i. f i j))
all_to_swap n m f = same_truth (all_to n (λ i. all_to m (f i))) (all_to m (λ j. all_to n (λ i. f i j))) (swapped n m f) (swapped m n (λ j i. f i j))
  where
    swapped : (n m : ℕ) (f : ℕ → ℕ → Bool) → all_to n (λ i. all_to m (f i)) ≡ true → all_to m (λ j. all_to n (λ i. f i j)) ≡ true
    swapped n m f e =
        all_to_all m (λ j. all_to n (λ i. f i j))
        (λ j b. all_to_all n (λ i. f i j) (λ i a. all_to_each m (f i) (all_to_each n (λ i. all_to m (f i)) e i a) j b))

-- two parts of a list are the same where all their words are
module _ (n low high : ℕ) (l : List ℕ) (a : low + n ≤ length l) (b : high + n ≤ length l) where
  part_long : (at : ℕ) → at + n ≤ length l → length (take n (drop at l)) ≡ n
  part_long at h = length-take-le n (drop at l) (rw (length-drop at l) (omega arith))

  part_at : (at j : ℕ) → j < n → get_or (take n (drop at l)) j 0 ≡ get_or l (at + j) 0
  part_at at j h = get_or-take n (drop at l) j 0 h ∙ get_or-drop at l j 0

  pub parts_same : {r : Bool} → Decides r (take n (drop low l) ≡ take n (drop high l)) → r ≡ all_to n (same_at low high l)
  unfolding same_at
  parts_same {r} d =
      same_truth r (all_to n (same_at low high l))
      (λ e. all_to_all n (same_at low high l)
      (λ j h. eq-eqb _ _ (sym (part_at low j h) ∙ ap (λ (p : List ℕ). get_or p j 0) (d.0 e) ∙ part_at high j h)))
      (λ e. d.1 (ext_get_or 0 (take n (drop low l)) (take n (drop high l)) (part_long low a ∙ sym (part_long high b))
      (λ j t. let h : j < n = omega (arith, part_long low a) in
      part_at low j h ∙ eqb-true _ _ (all_to_each n (same_at low high l) e j h) ∙ sym (part_at high j h))))

pub or_all_to : (b : Bool) (n : ℕ) (f : ℕ → Bool) → b || all_to n f ≡ all_to n (λ j. b || f j)
or_all_to true n f = sym (all_to_all n (λ j. true) (λ j h. refl))
or_all_to false n f = refl
