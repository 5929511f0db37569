-- The points of a stripe's 2M positions, M = 2 ^ level. With u the level's root, of order 2M, they are u^(2i) in X and u^(2i+1) in Y: residues but 0,
-- distinct, and their powers at M are 1 in X and -1 in Y. Assumes nothing.
use mathlib.Core.Path.{◌≡◌, sym, ap, ◌∙◌}
use mathlib.Core.Logic.{◌≢◌}
use Prim.Native.Nat.{ℕ, suc, ◌+◌, ◌*◌, ◌-◌, ◌/◌, ◌^◌, ◌≤◌, ◌<◌}
use native.Mathlib.Omega.{arith, ne_cases}
use lib.Dec.{ltb}
use borrow.Author.Tests.{lt-ltb, le-ltb}
use Rattle.field.specs.Residue.{minus}
use Rattle.field.specs.Power.{power}
use Rattle.field.specs.Field.{Root}
use Rattle.field.proofs.Powers.{power_lt, power_mul}
use Rattle.field.proofs.Unity.{root_half, root_distinct, root_positive}
use Rattle.code.proofs.Shapes.{by_halves}
use Rattle.code.proofs.Values.{level_root, even_power}
use Rattle.decoder.specs.Decoding.{point_at}
use Rattle.decoder.specs.Promises.{PointsDistinct}
use Rattle.field.proofs.Booleans.{choice_lt}

-- the points as powers of u
module _ (p w k l : ℕ) where
  abbrev u : ℕ
  u = power p w (2 ^ k / 2 ^ l)

  pub point_low : (i : ℕ) → i < 2 ^ l → point_at p w k l i ≡ power p u (2 * i)
  unfolding point_at
  point_low i b = rw (lt-ltb i (2 ^ l) b, point_at)

  pub point_high : (i : ℕ) → point_at p w k l (2 ^ l + i) ≡ power p u (suc (2 * i))
  unfolding point_at
  point_high i = rw (le-ltb (2 ^ l + i) (2 ^ l) (omega arith), point_at) (ap (power p u) {x = 2 * (2 ^ l + i - 2 ^ l) + 1} {y = suc (2 * i)} (omega arith))

  module _ (h : 1 < p) where
    pub point_lt : (i : ℕ) → point_at p w k l i < p
    unfolding point_at
    point_lt i = choice_lt (ltb i (2 ^ l)) (power_lt p h u (2 * i)) (power_lt p h u (2 * (i - 2 ^ l) + 1))

module _ (p w k l : ℕ) (R : Root p k w) (within : l ≤ k) where
  h : 1 < p
  h = omega (arith, R.odd)

  abbrev r : ℕ
  r = power p w (2 ^ k / 2 ^ l)

  root : Root p l r
  root = level_root p w k R l within

  pub point_positive : (i : ℕ) → i < 2 ^ suc l → 0 < point_at p w k l i
  point_positive =
      by_halves l (λ (i : ℕ). 0 < point_at p w k l i) (λ i b. rw (point_low p w k l i b) (root_positive p l r root (2 * i) (omega arith)))
      (λ i b. rw (point_high p w k l i) (root_positive p l r root (suc (2 * i)) (omega arith)))

  pub point_power_low : (i : ℕ) → i < 2 ^ l → power p (point_at p w k l i) (2 ^ l) ≡ 1
  point_power_low i b = ap (λ (x : ℕ). power p x (2 ^ l)) (point_low p w k l i b) ∙ even_power p w k R l within i

  pub point_power_high : (i : ℕ) → power p (point_at p w k l (2 ^ l + i)) (2 ^ l) ≡ minus p 0 1
  point_power_high i =
      ap (λ (x : ℕ). power p x (2 ^ l)) (point_high p w k l i) ∙ sym (power_mul p h r (suc (2 * i)) (2 ^ l))
      ∙ ap (power p r) {x = suc (2 * i) * 2 ^ l} {y = 2 * i * 2 ^ l + 2 ^ l} (omega arith)
      ∙ root_half p l r root (2 * i * 2 ^ l) ∙ ap (minus p 0) (power_mul p h r (2 * i) (2 ^ l) ∙ even_power p w k R l within i)

  -- two exponents below the root's order
  apart : (a b : ℕ) → a ≢ b → a < 2 ^ suc l → b < 2 ^ suc l → power p r a ≢ power p r b
  apart a b d f g q = ne_cases a b ⊥ d (λ c. root_distinct p l r root a b c g q) (λ c. root_distinct p l r root b a c f (sym q))

pub points_distinct : PointsDistinct
points_distinct p w k l t i j S m n =
    by_halves l (λ (a : ℕ). a < j → point_at p w k l a ≢ point_at p w k l j)
    (λ a x. by_halves l (λ (b : ℕ). a < b → point_at p w k l a ≢ point_at p w k l b)
    (λ b y c q. differ (2 * a) (2 * b) (omega arith) (omega arith) (omega arith) (sym (point_low p w k l a x) ∙ q ∙ point_low p w k l b y))
    (λ b y c q. differ (2 * a) (suc (2 * b)) (omega arith) (omega arith) (omega arith) (sym (point_low p w k l a x) ∙ q ∙ point_high p w k l b)) j n)
    (λ a x. by_halves l (λ (b : ℕ). 2 ^ l + a < b → point_at p w k l (2 ^ l + a) ≢ point_at p w k l b)
    (λ b y c q. omega arith)
    (λ b y c q. differ (suc (2 * a)) (suc (2 * b)) (omega arith) (omega arith) (omega arith) (sym (point_high p w k l a) ∙ q ∙ point_high p w k l b)) j n)
    i (omega arith) m
  where
    differ : (a b : ℕ) → a ≢ b → a < 2 ^ suc l → b < 2 ^ suc l → power p (power p w (2 ^ k / 2 ^ l)) a ≢ power p (power p w (2 ^ k / 2 ^ l)) b
    differ = apart p w k l S.root S.within
