-- Sums of f 0, f 1, .., and the sum over exponents as a sum over positions. Assumes nothing.
use mathlib.Core.Path.{◌≡◌, refl, sym, ap, ap₂, ◌∙◌}
use Prim.Native.Nat.{ℕ, zero, suc, ◌+◌, ◌*◌, ◌^◌, ◌≤◌, ◌<◌}
use native.Mathlib.Omega.{arith}
use Rattle.logarithms.specs.Weights.{exponent_at}
use Rattle.logarithms.proofs.Weights.{exponent_low, exponent_high}

-- f 0 + f 1 + .., n of them
unfoldable pub total : (n : ℕ) → (f : ℕ → ℕ) → ℕ
total zero f = 0
total (suc n) f = total n f + f n

pub total_same : (n : ℕ) (f g : ℕ → ℕ) → ((i : ℕ) → i < n → f i ≡ g i) → total n f ≡ total n g
unfolding total
total_same zero f g e = refl
total_same (suc n) f g e = ap₂ ◌+◌ (total_same n f g (λ i b. e i (omega arith))) (e n (omega arith))

-- two stretches
total_parts : (n m : ℕ) (f : ℕ → ℕ) → total (n + m) f ≡ total n f + total m (λ i. f (n + i))
unfolding total
total_parts n zero f = ap (λ (k : ℕ). total k f) {x = n + 0} {y = n} (omega arith) ∙ omega arith
total_parts n (suc m) f =
    ap (λ (k : ℕ). total k f) {x = n + suc m} {y = suc (n + m)} (omega arith) ∙ ap (λ (s : ℕ). s + f (n + m)) (total_parts n m f) ∙ omega arith

-- the even ones and the odd ones
total_pairs : (n : ℕ) (f : ℕ → ℕ) → total (2 * n) f ≡ total n (λ i. f (2 * i)) + total n (λ i. f (2 * i + 1))
unfolding total
total_pairs zero f = refl
total_pairs (suc n) f =
    ap (λ (k : ℕ). total k f) {x = 2 * suc n} {y = suc (suc (2 * n))} (omega arith)
    ∙ ap₂ (λ (s x : ℕ). s + f (2 * n) + x) (total_pairs n f) (ap f {x = suc (2 * n)} {y = 2 * n + 1} (omega arith)) ∙ omega arith

-- THE SUM OVER EXPONENTS is that over positions
pub total_exponents : (l : ℕ) (f : ℕ → ℕ) → total (2 ^ suc l) f ≡ total (2 ^ suc l) (λ i. f (exponent_at l i))
total_exponents l f =
    let n = 2 ^ l in
    ap (λ (k : ℕ). total k f) {x = 2 ^ suc l} {y = 2 * n} (omega arith) ∙ total_pairs n f
    ∙ ap₂ ◌+◌ (total_same n _ _ (λ i b. ap f (sym (exponent_low l i b))))
    (total_same n _ _ (λ i b. ap f (sym (exponent_high l (n + i) (omega arith) ∙ omega arith))))
    ∙ sym (total_parts n n (λ i. f (exponent_at l i))) ∙ ap (λ (k : ℕ). total k (λ i. f (exponent_at l i))) {x = n + n} {y = 2 ^ suc l} (omega arith)

-- sums of sums, of multiples, and of numbers of which each is at most m times f's
pub total_plus : (n : ℕ) (f g : ℕ → ℕ) → total n f + total n g ≡ total n (λ i. f i + g i)
unfolding total
total_plus zero f g = refl
total_plus (suc n) f g = omega (arith, total_plus n f g)

pub total_times : (n c : ℕ) (f : ℕ → ℕ) → c * total n f ≡ total n (λ i. c * f i)
unfolding total
total_times zero c f = omega arith
total_times (suc n) c f = omega (arith, total_times n c f)

pub total_le : (n m : ℕ) (f g : ℕ → ℕ) → ((i : ℕ) → i < n → g i ≤ m * f i) → total n g ≤ m * total n f
unfolding total
total_le zero m f g e = omega arith
total_le (suc n) m f g e = omega (arith, total_le n m f g (λ i b. e i (omega arith)), e n (omega arith))
