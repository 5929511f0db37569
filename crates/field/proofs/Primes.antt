-- 65537 is prime, and the roots of its vaults are roots of unity. Assumes nothing.
use Rattle.std.proofs.Common.{◌≡◌, ℕ, ◌+◌, ◌-◌, ◌*◌, ◌/◌, ◌^◌, ◌≤◌, ◌≢◌, sym, refl, ap, ◌∙◌, ⊎_elim, mul-div_cancel, arith, lit<, pow_pos, pow-add}
use Rattle.field.specs.Residue.{times}
use Rattle.field.specs.Power.{power_from, power}
use Rattle.field.specs.Field.{Prime, Root, fermat, root_of}
use Rattle.field.proofs.Powers.{power_mul, power_lt}
use Rattle.field.proofs.Divisors.{peel, not_one, one_of}
use Rattle.field.proofs.Certificate.{certified}

full : power 65537 3 65536 ≡ 1
unfolding power power_from times
full = refl

half : power 65537 3 32768 ≡ 65536
unfolding power power_from times
half = refl

half_not_one : power 65537 3 32768 ≢ 1
half_not_one e = let z : ◌≡◌ {A = ℕ} 65536 1 = sym half ∙ e in omega arith

pub fermat_prime : Prime 65537
fermat_prime =
    certified 65536 3 (lit< tt) full
    (λ r m e b. ⊎_elim (λ t. not_one 65537 3 2 32768 r m t.0 (lit< tt) e (lit< tt) t.1 half_not_one) (λ s. absurd (one_of m s.0 s.1 b))
    (peel 1 16 m r e))

-- (p - 1) / 2n times n is (p - 1) / 2
exponent : (k : ℕ) → k ≤ 15 → 65536 / (2 * 2 ^ k) * 2 ^ k ≡ 32768
exponent k l =
    let e : 2 ^ (15 - k) * 2 ^ k ≡ 32768 = sym (pow-add 2 (15 - k) k) ∙ ap (λ t. 2 ^ t) {x = 15 - k + k} {y = 15} (omega arith) in
    let d : 65536 / (2 * 2 ^ k) ≡ 2 ^ (15 - k) =
    ap (λ t. t / (2 * 2 ^ k)) {x = 65536} {y = 2 ^ (15 - k) * (2 * 2 ^ k)} (omega arith) ∙ mul-div_cancel (2 ^ (15 - k)) (omega (arith, pow_pos k)) in
    ap (λ t. t * 2 ^ k) d ∙ e

pub fermat_root : (k : ℕ) → k ≤ 15 → Root 65537 k (root_of fermat k)
unfolding root_of
fermat_root k l = record {
  odd = lit< tt;
  small = power_lt 65537 (lit< tt) 3 (65536 / (2 * 2 ^ k));
  half = sym (power_mul 65537 (lit< tt) 3 (65536 / (2 * 2 ^ k)) (2 ^ k)) ∙ ap (power 65537 3) (exponent k l) ∙ half;
}
