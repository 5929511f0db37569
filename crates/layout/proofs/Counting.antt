-- Binary counting: bit l of c, the multiple of 2^(l+1) below it, and how both change from c to c + 1. Assumes nothing.
use mathlib.Core.Path.{◌≡◌, refl, sym, ap, ◌∙◌}
use mathlib.Core.Bool.{Bool, true, false}
use Prim.Native.Nat.{ℕ, zero, suc, ◌+◌, ◌*◌, ◌-◌, ◌/◌, ◌%◌, ◌^◌, ◌≤◌, ◌<◌}
use native.Mathlib.Nat.{pow-succ', pow-suc, div-div-eq-div-mul, div-mul-le_self, mul-pos, mul_assoc}
use native.Mathlib.Omega.{arith}
use lib.Dec.{eqb}
use lib.Pow.{pow_pos, pow-add, high, shr-shr, ones_lt}
use borrow.Author.Tests.{eqb-true, eqb-false}
use Rattle.layout.specs.Header.{first_empty}

pub next_bit : (c l : ℕ) → c / 2 ^ suc l ≡ c / 2 ^ l / 2
next_bit c l = rw pow-suc (sym (div-div-eq-div-mul c (2 ^ l) 2))

-- where bit l is 1, the multiple and 2^l are at most c
pub bit_in : (c l : ℕ) → c / 2 ^ l % 2 ≡ 1 → c / 2 ^ suc l * 2 ^ suc l + 2 ^ l ≤ c
bit_in c l e = rw (next_bit, pow-succ') (go (c / 2 ^ l) (2 ^ l) e (div-mul-le_self c (2 ^ l)))
  where
    go : (d m : ℕ) → d % 2 ≡ 1 → d * m ≤ c → d / 2 * (2 * m) + m ≤ c
    go d m e h = omega (arith, ap (λ (x : ℕ). x * m) {x = d} {y = d / 2 * 2 + 1} (omega arith))

-- CARRYING: c + 1 is q 2^(l+1) + 2^l, so that bits 0 to l - 1 of c are 1, and bit l is 0
pub record Carry (c l q : ℕ) : Type 0 where
  pub next : suc c ≡ q * 2 ^ suc l + 2 ^ l

-- the first empty level is where it ends
pub record Carried (n l c : ℕ) : Type 0 where
  pub level : ℕ
  pub multiple : ℕ
  pub first : first_empty n l c ≡ l + level
  pub within : level < n
  pub carry : Carry c level multiple

pub carried : (n l c : ℕ) → suc c < 2 ^ n → Carried n l c
unfolding first_empty
carried zero l c h = absurd (omega arith)
carried (suc n) l c h = go (eqb (c % 2) 1) refl (carried n (suc l) (c / 2))
  where
    go : (b : Bool) → eqb (c % 2) 1 ≡ b → (suc (c / 2) < 2 ^ n → Carried n (suc l) (c / 2)) → Carried (suc n) l c
    go true e rest =
        let o : c % 2 ≡ 1 = eqb-true (c % 2) 1 e in
        let r : Carried n (suc l) (c / 2) = rest (omega arith) in
        record {
          level = suc r.level;
          multiple = r.multiple;
          first = rw (e, first_empty) (r.first ∙ omega arith);
          within = omega arith;
          carry = record { next = rw (pow-succ' 2 (suc r.level)) (omega (arith, r.carry.next)) };
        }
    go false e rest = record {
      level = 0;
      multiple = c / 2;
      first = rw (e, first_empty) (omega arith);
      within = omega arith;
      carry = record { next = omega (arith, eqb-false (c % 2) 1 e) };
    }

-- q m + r with r below m
over : (l q r n : ℕ) → r < 2 ^ l → n ≡ q * 2 ^ l + r → n / 2 ^ l ≡ q
over l q r n h e = ap (λ (x : ℕ). x / 2 ^ l) e ∙ high q l h

module _ {c l q : ℕ} (carry : Carry c l q) where
  -- level l is filled
  pub filled_now : suc c / 2 ^ l % 2 ≡ 1
  filled_now = let e : suc c / 2 ^ l ≡ q * 2 + 1 = over l (q * 2 + 1) 0 (suc c) (pow_pos l) (carry.next ∙ rw pow-succ' (omega arith)) in omega arith

  multiple_now : suc c / 2 ^ suc l ≡ q
  multiple_now = over (suc l) q (2 ^ l) (suc c) (omega (arith, pow_pos l)) carry.next

  pub first_now : suc c / 2 ^ suc l * 2 ^ suc l + 2 ^ l ≡ suc c
  first_now = rw multiple_now (sym carry.next)

  -- above level l nothing changes
  pub same_above : (i : ℕ) → l < i → suc c / 2 ^ i ≡ c / 2 ^ i
  same_above i h =
      let e : suc l + (i - suc l) ≡ i = omega arith in
      let s : c / 2 ^ suc l ≡ q = over (suc l) q (2 ^ l - 1) c (omega (arith, pow_pos l)) (omega (arith, carry.next, pow_pos l)) in
      rw (← e, ← shr-shr, ← shr-shr c, s, multiple_now)

  -- each level below was filled and is empty now
  below : (i : ℕ) → i < l → (v : ℕ) × (suc c ≡ suc v * 2 ^ suc i)
  below i h = (u - 1, carry.next ∙ rw (pow-succ' 2 l, whole) (ap (λ (x : ℕ). x * 2 ^ suc i) {x = u} {y = suc (u - 1)} (omega (arith, positive))))
    where
      u : ℕ
      u = (q * 2 + 1) * 2 ^ (l - suc i)

      positive : 0 < u
      positive = mul-pos (omega arith) (pow_pos (l - suc i))

      whole : q * (2 * 2 ^ l) + 2 ^ l ≡ u * 2 ^ suc i
      whole =
          let e : 2 ^ (l - suc i) * 2 ^ suc i ≡ 2 ^ l =
          sym (pow-add 2 (l - suc i) (suc i)) ∙ ap (λ (x : ℕ). 2 ^ x) {x = l - suc i + suc i} {y = l} (omega arith) in
          rw (mul_assoc (q * 2 + 1) (2 ^ (l - suc i)) (2 ^ suc i), e) (omega arith)

  pub filled_before : (i : ℕ) → i < l → c / 2 ^ i % 2 ≡ 1
  filled_before i h =
      let v : ℕ = (below i h).0 in
      let e : c / 2 ^ i ≡ v * 2 + 1 = over i (v * 2 + 1) (2 ^ i - 1) c (ones_lt i) (go v (2 ^ i) (pow_pos i) (rw pow-succ' at (below i h).1)) in
      omega arith
    where
      go : (v m : ℕ) → 0 < m → suc c ≡ suc v * (2 * m) → c ≡ (v * 2 + 1) * m + (m - 1)
      go v m z e = omega arith

  pub first_before : (i : ℕ) → i < l → c / 2 ^ suc i * 2 ^ suc i + 2 ^ suc i ≡ suc c
  first_before i h =
      let v : ℕ = (below i h).0 in
      let e : c / 2 ^ suc i ≡ v = over (suc i) v (2 ^ suc i - 1) c (ones_lt (suc i)) (omega (arith, (below i h).1, pow_pos (suc i))) in
      rw e (omega (arith, (below i h).1))

  pub empty_below : (i : ℕ) → i < l → suc c / 2 ^ i % 2 ≡ 0
  empty_below i h =
      let v : ℕ = (below i h).0 in
      let e : suc c / 2 ^ i ≡ suc v * 2 = over i (suc v * 2) 0 (suc c) (pow_pos i) ((below i h).1 ∙ rw pow-succ' (omega arith)) in
      omega arith
