-- Logarithms: which exponent a search finds, the test by which a constant is shown to be a table of logarithms (`logs_of` of specs/Logarithms), what stands in
-- the table, and a power by two digits of its exponent. Assumes nothing.
use mathlib.Core.Path.{◌≡◌, refl, sym, ap, ap₂, ◌∙◌}
use mathlib.Core.Logic.{◌≢◌}
use mathlib.Core.Bool.{Bool, true, ◌&&◌}
use mathlib.Core.List.{List, [], ◌∷◌}
use Prim.Native.Nat.{ℕ, zero, suc, ◌+◌, ◌*◌, ◌-◌, ◌/◌, ◌%◌, ◌^◌, ◌≤◌, ◌<◌}
use native.Mathlib.Nat.{div-add-mod}
use native.Mathlib.Decide.{dec_lt}
use native.Mathlib.Omega.{arith}
use borrow.Author.Tests.{eqb-true, ltb-true, eq-eqb, ne_eqb}
use lib.Dec.{ltb, eqb}
use lib.ListN.{length, get_or}
use Rattle.field.specs.Residue.{minus, times}
use Rattle.field.specs.Power.{power, power_from}
use Rattle.field.specs.Words.{Words, table}
use Rattle.field.specs.Field.{Root, fermat, root_of, powers_of}
use Rattle.field.proofs.Booleans.{first_true, second_true, choice_lt}
use Rattle.field.proofs.Ring.{v, ◌⊖◌, ring}
use Rattle.field.proofs.Laws.{minus_lt}
use Rattle.field.proofs.Powers.{power_lt, power_zero, power_suc, power_add, power_mul}
use Rattle.field.proofs.Unity.{root_distinct, root_positive}
use Rattle.field.proofs.Pigeonhole.{onto}
use Rattle.field.proofs.Primes.{fermat_root}
use Rattle.field.proofs.WordLists.{words_table, length_table, get_or_table}
use Rattle.field.proofs.Polynomials.{minus_zero}
use Rattle.logarithms.specs.Logarithms.{log_from, logarithm, logs_of, log_table}

-- A SEARCH, a turn at a time
pub log_found : (n p g x e : ℕ) → power p g e ≡ x → log_from (suc n) p g x e ≡ e
unfolding log_from
log_found n p g x e q = rw (eq-eqb (power p g e) x q, log_from)

pub log_next : (n p g x e : ℕ) → power p g e ≢ x → log_from (suc n) p g x e ≡ log_from n p g x (suc e)
unfolding log_from
log_next n p g x e d = rw (ne_eqb (power p g e) x d, log_from)

-- it finds t where no exponent before t has the power x, and nothing where none has it
module _ (p g x : ℕ) where
  finds : (n e t : ℕ) → e ≤ t → t < e + n → power p g t ≡ x → ((j : ℕ) → j < t → power p g j ≢ x) → log_from n p g x e ≡ t
  finds zero e t a b q d = absurd (omega arith)
  finds (suc n) e t a b q d = at (dec_lt e t) (finds n (suc e) t)
    where
      at : Dec (e < t) → (suc e ≤ t → t < suc e + n → power p g t ≡ x → ((j : ℕ) → j < t → power p g j ≢ x) → log_from n p g x (suc e) ≡ t)
          → log_from (suc n) p g x e ≡ t
      at (yes l) i = log_next n p g x e (d e l) ∙ i l (omega arith) q d
      at (no l) i = let s : e ≡ t = omega arith in log_found n p g x e (ap (power p g) s ∙ q) ∙ s

  finds_none : (n e : ℕ) → ((j : ℕ) → j < e + n → power p g j ≢ x) → log_from n p g x e ≡ 0
  unfolding log_from
  finds_none zero e d = refl
  finds_none (suc n) e d = log_next n p g x e (d e (omega arith)) ∙ finds_none n (suc e) (λ j b. d j (omega arith))

-- a logarithm is below p - 1
log_from_lt : (n p g x e m : ℕ) → e + n ≤ m → 0 < m → log_from n p g x e < m
unfolding log_from
log_from_lt zero p g x e m b h = h
log_from_lt (suc n) p g x e m b h = choice_lt (eqb (power p g e) x) (omega arith) (log_from_lt n p g x (suc e) m (omega arith) h)

pub logarithm_lt : (p g x : ℕ) → 1 < p → logarithm p g x < p - 1
unfolding logarithm
logarithm_lt p g x h = log_from_lt (p - 1) p g x 0 (p - 1) (omega arith) (omega arith)

-- THE TEST: the first entry is 0, and the power of each next is y - 1, where y is u at the first of these and u times the one before at the others
abbrev raised : (p g u y : ℕ) → List ℕ → Bool
raised p g u y [] = true
raised p g u y (e ∷ es) = (ltb e (p - 1) && eqb (power p g e) (minus p y 1)) && raised p g u (times p u y) es

abbrev pub logs : (p g u : ℕ) → List ℕ → Bool
logs p g u [] = true
logs p g u (e ∷ es) = eqb e 0 && raised p g u (times p u 1) es

-- A BASE whose powers are all residues but 0
module _ (p k g : ℕ) (R : Root p k g) (all : 2 ^ suc k ≡ p - 1) where
  big : 1 < p
  big = omega (arith, R.odd)

  pub logarithm_is : (x e : ℕ) → e < p - 1 → power p g e ≡ x → logarithm p g x ≡ e
  unfolding logarithm
  logarithm_is x e b q = finds p g x (p - 1) 0 e (omega arith) (omega arith) q (λ j l i. root_distinct p k g R j e l (omega arith) (i ∙ sym q))

  logarithm_of_zero : logarithm p g 0 ≡ 0
  unfolding logarithm
  logarithm_of_zero = finds_none p g 0 (p - 1) 0 (λ j b i. let s = root_positive p k g R j (omega arith) in omega arith)

  -- each residue but 0 is the power at its logarithm: the powers are distinct, and as many as these
  pub power_of_logarithm : (x : ℕ) → 0 < x → x < p → power p g (logarithm p g x) ≡ x
  power_of_logarithm x l b =
      let f = onto (power p g) (p - 1) (λ i m. root_positive p k g R i (omega arith)) (λ i m. omega (arith, power_lt p big g i))
      (λ i j m n. root_distinct p k g R i j m (omega arith)) x l (omega arith) in
      ap (power p g) (logarithm_is x f.0 f.1 f.2) ∙ f.2

  -- u^0 - 1 is 0
  logarithm_first : (u : ℕ) → logarithm p g (minus p (power p u 0) 1) ≡ 0
  logarithm_first u =
      let h : 0 < p = omega (arith, R.odd) in
      ap (logarithm p g) (ap (λ (t : ℕ). minus p t 1) (power_zero p big u) ∙ ring p h (v 1 ⊖ v 1) (v 0) h h (omega arith)) ∙ logarithm_of_zero

  -- a list that passes it is that of any f with f 0 = y and f (d + 1) = u f d
  raised_rule : (u y : ℕ) (f : ℕ → ℕ) (es : List ℕ) → f 0 ≡ y → ((d : ℕ) → f (suc d) ≡ times p u (f d)) → raised p g u y es ≡ true
      → es ≡ table (length es) (λ d. logarithm p g (minus p (f d) 1))
  unfolding table
  raised_rule u y f [] a s t = refl
  raised_rule u y f (e ∷ es) a s t =
      let one = first_true (ltb e (p - 1) && eqb (power p g e) (minus p y 1)) (raised p g u (times p u y) es) t in
      let rest = second_true (ltb e (p - 1) && eqb (power p g e) (minus p y 1)) (raised p g u (times p u y) es) t in
      let b = ltb-true e (p - 1) (first_true (ltb e (p - 1)) (eqb (power p g e) (minus p y 1)) one) in
      let q = eqb-true (power p g e) (minus p y 1) (second_true (ltb e (p - 1)) (eqb (power p g e) (minus p y 1)) one) in
      ap₂ ◌∷◌ (sym (logarithm_is (minus p (f 0) 1) e b (q ∙ ap (λ (t : ℕ). minus p t 1) (sym a))))
      (raised_rule u (times p u y) (λ d. f (suc d)) es (s 0 ∙ ap (times p u) a) (λ d. s (suc d)) rest)

  -- THE RULE: a list that passes the test is a table of logarithms
  pub logs_rule : (u : ℕ) (es : List ℕ) → logs p g u es ≡ true → es ≡ logs_of p g u (length es)
  unfolding logs_of table
  logs_rule u [] t = refl
  logs_rule u (e ∷ es) t =
      let first = first_true (eqb e 0) (raised p g u (times p u 1) es) t in
      let rest = second_true (eqb e 0) (raised p g u (times p u 1) es) t in
      ap₂ ◌∷◌ (eqb-true e 0 first ∙ sym (logarithm_first u))
      (raised_rule u (times p u 1) (λ d. power p u (suc d)) es (power_suc p big u 0 ∙ ap (times p u) (power_zero p big u)) (λ d. power_suc p big u (suc d))
      rest)

-- A TABLE OF LOGARITHMS, an entry at a time
pub length_logs_of : (p g u n : ℕ) → length (logs_of p g u n) ≡ n
unfolding logs_of
length_logs_of p g u n = length_table n (λ d. logarithm p g (minus p (power p u d) 1))

pub logs_at : (p g u n d : ℕ) → d < n → get_or (logs_of p g u n) d 0 ≡ logarithm p g (minus p (power p u d) 1)
unfolding logs_of
logs_at p g u n d b = get_or_table n d (λ d. logarithm p g (minus p (power p u d) 1)) b

pub logs_words : (p g u n : ℕ) → 1 < p → Words (p - 1) (logs_of p g u n)
unfolding logs_of
logs_words p g u n h =
    words_table (p - 1) (omega arith) n (λ d. logarithm p g (minus p (power p u d) 1)) (λ d b. logarithm_lt p g (minus p (power p u d) 1) h)

-- 3 IS SUCH A BASE modulo 65537
pub three_root : Root 65537 15 3
unfolding root_of power power_from times
three_root = fermat_root 15 (omega arith)

pub length_logs : length log_table ≡ 2048
length_logs = length_logs_of 65537 3 (power 65537 3 32) 2048

pub log_lt : (d : ℕ) → get_or log_table d 0 < 65536
log_lt d = (logs_words 65537 3 (power 65537 3 32) 2048 (omega arith)).word d

pub log_zero : get_or log_table 0 0 ≡ 0
log_zero = logs_at 65537 3 (power 65537 3 32) 2048 0 (omega arith) ∙ logarithm_first 65537 15 3 three_root refl (power 65537 3 32)

-- u is the root of 1,024 records, of which no power before the 2,048th is 1
pub base_root : power 65537 3 32 ≡ root_of fermat 10
unfolding root_of
base_root = refl

pub log_entry : (d : ℕ) → 0 < d → d < 2048 → power 65537 3 (get_or log_table d 0) ≡ minus 65537 (power 65537 (root_of fermat 10) d) 1
log_entry d l b =
    let u = root_of fermat 10 in
    let h : 1 < 65537 = omega arith in
    let h' : 0 < 65537 = omega arith in
    let R = fermat_root 10 (omega arith) in
    let y = minus 65537 (power 65537 u d) 1 in
    let n : y ≢ 0 = λ e. root_distinct 65537 10 u R 0 d l b
    (power_zero 65537 h u ∙ sym (minus_zero 65537 h' (power 65537 u d) 1 (power_lt 65537 h u d) h e)) in
    ap (power 65537 3) (logs_at 65537 3 (power 65537 3 32) 2048 d b ∙ ap (λ (u : ℕ). logarithm 65537 3 (minus 65537 (power 65537 u d) 1)) base_root)
    ∙ power_of_logarithm 65537 15 3 three_root refl y (omega arith) (minus_lt 65537 h' (power 65537 u d) 1)

-- each entry of a table of powers is below p, and so is the 0 that stands for what is behind its end
pub powers_lt : (p x n i : ℕ) {l : List ℕ} → 1 < p → l ≡ powers_of p x n → get_or l i 0 < p
unfolding powers_of
powers_lt p x n i h e = rw e ((words_table p (omega arith) n (power p x) (λ k b. power_lt p h x k)).word i)

-- A POWER BY TWO DIGITS of its exponent
pub power_digits : (p x b e : ℕ) → 1 < p → power p x e ≡ times p (power p (power p x b) (e / b)) (power p x (e % b))
power_digits p x b e h =
    ap (power p x) (sym (div-add-mod e b)) ∙ power_add p h x (b * (e / b)) (e % b) ∙ ap (λ (t : ℕ). times p t (power p x (e % b))) (power_mul p h x b (e / b))
