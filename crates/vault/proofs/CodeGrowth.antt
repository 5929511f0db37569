-- The code of a column from single words up: that of one word, and that of an older and a newer half from theirs. Of the room Coding of specs/promises.
-- Assumes nothing.
use mathlib.Core.Path.{◌≡◌, refl, sym, ap, ap₂, ◌∙◌, subst}
use mathlib.Core.List.{List, [], ◌∷◌, ◌++◌}
use Prim.Native.Nat.{ℕ, zero, suc, ◌+◌, ◌*◌, ◌-◌, ◌/◌, ◌%◌, ◌^◌, ◌≤◌, ◌<◌}
use native.Mathlib.Nat.{add-zero, mul_assoc, mod-lt, mod-add-div, div-one, div-div-eq-div-mul, add-mul-div_left, pow-succ'}
use native.Mathlib.Omega.{arith}
use lib.Pow.{pow-add, pow_pos}
use lib.ListN.{length, get_or, take, drop}
use lib.Seq.{take-append_seam, drop-append_seam}
use Rattle.std.proofs.lemmas.Nat.{mul-mod_first}
use Rattle.field.specs.Residue.{plus, minus, times}
use Rattle.field.specs.Power.{power}
use Rattle.field.proofs.PowerTables.{level_root}
use Rattle.field.proofs.Powers.{power_mul}
use Rattle.code.specs.Transform.{mixed, transform, reversed, turned}
use Rattle.code.specs.Stripe.{coded}
use Rattle.code.proofs.BitReversal.{reversed_zero, reversed_suc}
use Rattle.code.proofs.Shapes.{length_halves, length_transform, length_turned, coded_low, coded_high, mixed_low, mixed_high}
use Rattle.vault.specs.promises.Coding.{root, CodeBegins, CodeMixes}
use Rattle.vault.proofs.Coding.{root_is}
use Rattle.vault.proofs.Leaving.{power_is}

-- POWERS of the root of a vault, and of its power that mixes halves of 2^l words
pub root_power : (k i : ℕ) → power 65537 (root k) i ≡ 3 ^ (32768 / 2 ^ k * i) % 65537
unfolding root
root_power k i =
    ap (λ (w : ℕ). power 65537 w i) (sym (power_is 65537 3 (32768 / 2 ^ k) (omega arith))) ∙ sym (power_mul 65537 (omega arith) 3 (32768 / 2 ^ k) i)
    ∙ power_is 65537 3 (32768 / 2 ^ k * i) (omega arith)

pub level_power : (k l i : ℕ) → l ≤ k → k ≤ 10 → power 65537 (power 65537 (root k) (2 ^ k / 2 ^ l)) i ≡ 3 ^ (32768 / 2 ^ l * i) % 65537
level_power k l i a b =
    ap (λ (w : ℕ). power 65537 (power 65537 w (2 ^ k / 2 ^ l)) i) (sym (root_is k))
    ∙ ap (λ (w : ℕ). power 65537 w i) (level_root k l a (omega arith) ∙ root_is l) ∙ root_power l i

-- A SUM AND A DIFFERENCE of the field, as numbers
sum_is : (a b g q : ℕ) → q ≡ g % 65537 → plus 65537 a (times 65537 q b) ≡ (a + g * b) % 65537
unfolding plus times
sum_is a b g q e = let f : q * b % 65537 ≡ g * b % 65537 = rw e (mul-mod_first g b 65537) in sums a (q * b % 65537) (g * b) f
  where
    sums : (a x y : ℕ) → x ≡ y % 65537 → (a + x) % 65537 ≡ (a + y) % 65537
    sums a x y e = omega arith

difference_is : (a b g q : ℕ) → q ≡ g % 65537 → (minus 65537 a (times 65537 q b) + g * b) % 65537 ≡ a % 65537
unfolding minus times
difference_is a b g q e = let f : q * b % 65537 ≡ g * b % 65537 = rw e (mul-mod_first g b 65537) in differences a (q * b % 65537) (g * b) f
  where
    differences : (a x y : ℕ) → x ≡ y % 65537 → ((a + (65537 - x % 65537)) % 65537 + y) % 65537 ≡ a % 65537
    differences a x y e = omega arith

difference_lt : (a y : ℕ) → minus 65537 a y < 65537
unfolding minus
difference_lt a y = mod-lt (a + (65537 - y % 65537)) (omega arith)

-- MIXING of an older and a newer half
module _ (w k l : ℕ) (x y : List ℕ) (long : length x ≡ 2 ^ l) where
  halves : transform 65537 w k (suc l) (x ++ y) ≡ mixed 65537 (power 65537 w (2 ^ k / 2 ^ l)) (transform 65537 w k l x) (transform 65537 w k l y)
  unfolding transform
  halves =
      ap₂ (λ (c d : List ℕ). mixed 65537 (power 65537 w (2 ^ k / 2 ^ l)) (transform 65537 w k l c) (transform 65537 w k l d))
      (ap (λ (n : ℕ). take n (x ++ y)) (sym long) ∙ take-append_seam x y) (ap (λ (n : ℕ). drop n (x ++ y)) (sym long) ∙ drop-append_seam x y)

turned_append : (w k t : ℕ) (x y : List ℕ) → turned 65537 w k t (x ++ y) ≡ turned 65537 w k t x ++ turned 65537 w k (t + length x) y
unfolding turned
turned_append w k t [] y = ap (λ (n : ℕ). turned 65537 w k n y) (sym (add-zero t))
turned_append w k t (z ∷ x) y =
    ap (◌∷◌ (times 65537 (power 65537 w (reversed k t)) z))
    (turned_append w k (suc t) x y
    ∙ ap (λ (n : ℕ). turned 65537 w k (suc t) x ++ turned 65537 w k n y) {x = suc t + length x} {y = t + suc (length x)} (omega arith))

-- word i of both halves of the mixed column is as the statements say, of the words that stand at i in the columns mixed
pub record Mixes (g a b sum difference : ℕ) : Type 0 where
  pub sums : sum ≡ (a + g * b) % 65537
  pub small : difference < 65537
  pub differs : (difference + g * b) % 65537 ≡ a % 65537

pub mixed_is : (v m g i : ℕ) (older newer : List ℕ) → length older ≡ m → i < m → power 65537 v i ≡ g % 65537
    → Mixes g (get_or older i 0) (get_or newer i 0) (get_or (mixed 65537 v older newer) i 0) (get_or (mixed 65537 v older newer) (m + i) 0)
mixed_is v m g i older newer long b q =
    let there = mixed_high 65537 v m older newer i long b in
    record {
      sums = mixed_low 65537 v older newer i (omega arith) ∙ sum_is (get_or older i 0) (get_or newer i 0) g (power 65537 v i) q;
      small = rw there (difference_lt (get_or older i 0) (times 65537 (power 65537 v i) (get_or newer i 0)));
      differs = ap (λ (n : ℕ). (n + g * get_or newer i 0) % 65537) there ∙ difference_is (get_or older i 0) (get_or newer i 0) g (power 65537 v i) q;
    }

mixes : (k l i : ℕ) (x y : List ℕ) → suc l ≤ k → k ≤ 10 → length x ≡ 2 ^ l → length y ≡ 2 ^ l → i < 2 ^ l
    → Mixes (3 ^ (32768 / 2 ^ l * i)) (get_or (transform 65537 (root k) k l x) i 0) (get_or (transform 65537 (root k) k l y) i 0)
    (get_or (transform 65537 (root k) k (suc l) (x ++ y)) i 0) (get_or (transform 65537 (root k) k (suc l) (x ++ y)) (2 ^ l + i) 0)
mixes k l i x y c d e f b =
    let w : ℕ = root k in
    let older : List ℕ = transform 65537 w k l x in
    let newer : List ℕ = transform 65537 w k l y in
    let g : ℕ = 3 ^ (32768 / 2 ^ l * i) in
    subst (λ (c : List ℕ). Mixes g (get_or older i 0) (get_or newer i 0) (get_or c i 0) (get_or c (2 ^ l + i) 0)) (sym (halves w k l x y e))
    (mixed_is (power 65537 w (2 ^ k / 2 ^ l)) (2 ^ l) g i older newer (length_transform 65537 w k l x e) b (level_power k l i (omega arith) d))

-- and so of numbers that are those words
said : (g a b s d a' b' s' d' : ℕ) → a' ≡ a → b' ≡ b → s' ≡ s → d' ≡ d → Mixes g a b s d
    → (s' ≡ (a' + g * b') % 65537) × (d' < 65537) × ((d' + g * b') % 65537 ≡ a' % 65537)
said g a b s d a' b' s' d' e f h j M = rw (e, f, h, j) (M.sums, M.small, M.differs)

-- X AND Y of a coded column, as the statement counts their words
low : (k l t : ℕ) (c : List ℕ) (i : ℕ) → length c ≡ 2 ^ l → i < 2 ^ l
    → get_or (coded 65537 (root k) k l t c) (0 * 2 ^ l + i) 0 ≡ get_or (transform 65537 (root k) k l c) i 0
low k l t c i e b =
    ap (λ (n : ℕ). get_or (coded 65537 (root k) k l t c) n 0) {x = 0 * 2 ^ l + i} {y = i} (omega arith) ∙ coded_low 65537 (root k) k l t c e i b

high : (k l t : ℕ) (c : List ℕ) (i : ℕ) → length c ≡ 2 ^ l
    → get_or (coded 65537 (root k) k l t c) (1 * 2 ^ l + i) 0 ≡ get_or (transform 65537 (root k) k l (turned 65537 (root k) k t c)) i 0
high k l t c i e =
    ap (λ (n : ℕ). get_or (coded 65537 (root k) k l t c) n 0) {x = 1 * 2 ^ l + i} {y = 2 ^ l + i} (omega arith) ∙ coded_high 65537 (root k) k l t c e i

pub code_mixes : CodeMixes
code_mixes k l t zero i x y c d e f h b =
    let both : length (x ++ y) ≡ 2 ^ suc l = length_halves l x y e f in
    said (3 ^ (32768 / 2 ^ l * i)) _ _ _ _ _ _ _ _ (low k l t x i e b) (low k l (t + 2 ^ l) y i f b) (low k (suc l) t (x ++ y) i both (omega arith))
    (low k (suc l) t (x ++ y) (2 ^ l + i) both (omega arith)) (mixes k l i x y c d e f b)
code_mixes k l t (suc zero) i x y c d e f h b =
    let w : ℕ = root k in
    let u : List ℕ = turned 65537 w k t x in
    let v : List ℕ = turned 65537 w k (t + 2 ^ l) y in
    let both : length (x ++ y) ≡ 2 ^ suc l = length_halves l x y e f in
    let parts : turned 65537 w k t (x ++ y) ≡ u ++ v = turned_append w k t x y ∙ ap (λ (n : ℕ). u ++ turned 65537 w k (t + n) y) e in
    let at : (j : ℕ) → get_or (coded 65537 w k (suc l) t (x ++ y)) (1 * 2 ^ suc l + j) 0 ≡ get_or (transform 65537 w k (suc l) (u ++ v)) j 0 =
    λ j. high k (suc l) t (x ++ y) j both ∙ ap (λ (z : List ℕ). get_or (transform 65537 w k (suc l) z) j 0) parts in
    said (3 ^ (32768 / 2 ^ l * i)) _ _ _ _ _ _ _ _ (high k l t x i e) (high k l (t + 2 ^ l) y i f) (at i) (at (2 ^ l + i))
    (mixes k l i u v c d (length_turned 65537 w k t x ∙ e) (length_turned 65537 w k (t + 2 ^ l) y ∙ f) b)
code_mixes k l t (suc (suc half)) i x y c d e f h b = absurd (omega arith)

-- REVERSED BITS: a bit below others is that of the rest
lower_bit : (k bit r : ℕ) → bit < k → r % 2 ^ k / 2 ^ bit % 2 ≡ r / 2 ^ bit % 2
lower_bit k bit r b =
    let m : ℕ = 2 ^ (k - suc bit) in
    let s : ℕ = r / 2 ^ k in
    let e : 2 ^ k * s ≡ 2 ^ bit * (2 * (m * s)) =
    ap (λ (n : ℕ). n * s) (ap (λ (n : ℕ). 2 ^ n) {x = k} {y = bit + suc (k - suc bit)} (omega arith) ∙ pow-add 2 bit (suc (k - suc bit)))
    ∙ mul_assoc (2 ^ bit) (2 ^ suc (k - suc bit)) s ∙ ap (λ (n : ℕ). 2 ^ bit * n) (ap (λ (n : ℕ). n * s) (pow-succ' 2 (k - suc bit)) ∙ mul_assoc 2 m s) in
    let f : r / 2 ^ bit ≡ r % 2 ^ k / 2 ^ bit + 2 * (m * s) =
    ap (λ (n : ℕ). n / 2 ^ bit) (sym (mod-add-div r (2 ^ k)) ∙ ap (λ (n : ℕ). r % 2 ^ k + n) e) ∙ add-mul-div_left (r % 2 ^ k) (2 * (m * s)) (pow_pos bit) in
    parity (r % 2 ^ k / 2 ^ bit) (m * s) (r / 2 ^ bit) f
  where
    parity : (x z y : ℕ) → y ≡ x + 2 * z → x % 2 ≡ y % 2
    parity x z y e = omega arith

-- and a number with the bits of t in reverse is t reversed
pub is_reversed : (k t r : ℕ) → r < 2 ^ k → ((bit : ℕ) → bit < k → r / 2 ^ bit % 2 ≡ t / 2 ^ (k - suc bit) % 2) → r ≡ reversed k t
is_reversed zero t r b f = omega (arith, reversed_zero t)
is_reversed (suc k) t r b f =
    let rest : r % 2 ^ k ≡ reversed k (t / 2) =
    is_reversed k (t / 2) (r % 2 ^ k) (mod-lt r (pow_pos k))
    (λ bit c.
    lower_bit k bit r c ∙ f bit (omega arith)
    ∙ ap (λ (n : ℕ). t / n % 2) (ap (λ (n : ℕ). 2 ^ n) {x = suc k - suc bit} {y = suc (k - suc bit)} (omega arith) ∙ pow-succ' 2 (k - suc bit))
    ∙ ap (λ (n : ℕ). n % 2) (sym (div-div-eq-div-mul t 2 (2 ^ (k - suc bit))))) in
    let top : r / 2 ^ k % 2 ≡ t % 2 =
    f k (omega arith) ∙ ap (λ (n : ℕ). t / 2 ^ n % 2) {x = suc k - suc k} {y = 0} (omega arith) ∙ ap (λ (n : ℕ). n % 2) (div-one t) in
    let parts : r % 2 ^ k + 2 ^ k * (r / 2 ^ k) ≡ r = mod-add-div r (2 ^ k) in
    let small : r / 2 ^ k % 2 ≡ r / 2 ^ k = one_bit (2 ^ k) (r % 2 ^ k) (r / 2 ^ k) (omega arith) in
    sym parts ∙ ap₂ (λ (x y : ℕ). x + 2 ^ k * y) rest (sym small ∙ top) ∙ omega (arith, reversed_suc k t)
  where
    one_bit : (n x s : ℕ) → x + n * s < 2 * n → s % 2 ≡ s
    one_bit n x zero b = refl
    one_bit n x (suc zero) b = refl
    one_bit n x (suc (suc s)) b = absurd (omega arith)

pub code_begins : CodeBegins
unfolding coded transform turned times
code_begins k t r word a b c f =
    ap (λ (n : ℕ). word ∷ n ∷ [])
    (ap (λ (n : ℕ). power 65537 (root k) n * word % 65537) (sym (is_reversed k t r c f))
    ∙ ap (λ (n : ℕ). n * word % 65537) (root_power k r) ∙ mul-mod_first (3 ^ (32768 / 2 ^ k * r)) word 65537)
