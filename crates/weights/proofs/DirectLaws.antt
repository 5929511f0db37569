-- The sums that are made directly (specs/steps/Direct): their bound, the part that they start from, a row added, the loop that adds a row, and the
-- logarithms. Assumes nothing.
use mathlib.Core.Path.{◌≡◌, refl, sym, ap, ap₂, ◌∙◌}
use mathlib.Core.Bool.{Bool, true, false}
use mathlib.Core.List.{List, ◌++◌}
use Prim.Native.Nat.{ℕ, zero, suc, ◌+◌, ◌*◌, ◌-◌, ◌/◌, ◌%◌, ◌^◌, ◌≤◌, ◌<◌}
use native.Mathlib.Nat.{zero-add, mul-add-mod_self_right}
use native.Mathlib.Numerals.{add-one}
use native.Mathlib.Decide.{dec_lt}
use native.Mathlib.Omega.{arith}
use lib.Pow.{pow_mono}
use lib.ListN.{length, get_or, set, take, drop, get_or-append}
use lib.Seq.{get_or-take, get_or-drop}
use Rattle.field.specs.Words.{table}
use Rattle.field.proofs.WordLists.{length_table, get_or_table, same_table}
use Rattle.code.specs.steps.Storing.{stored, always, word_from}
use Rattle.code.proofs.RowLaws.{stored_before, stored_at, stored_front, length_stored}
use Rattle.code.proofs.Shapes.{append_low, append_high}
use Rattle.logarithms.specs.Logarithms.{log_table}
use Rattle.logarithms.specs.Weights.{exponent_at, log_of_power, log_of_less, log_at, logs}
use Rattle.weights.specs.steps.Digits.{flag, powers_to}
use Rattle.weights.specs.steps.Direct.{less_to, Sums, row_sum, direct_at}
use Rattle.logarithms.proofs.Weights.{exponent_lt}
use Rattle.weights.proofs.ExponentLaws.{log_of_power_lt, log_of_less_lt, flag_times_le}
use Rattle.weights.proofs.DigitSums.{log_sums}
use Rattle.weights.proofs.ColumnLaws.{StoringEach, each_turn, each_next}

-- THE BOUND: as many terms of 16 bits as positions
less_le : (l : ℕ) (ms : List Bool) (e n : ℕ) → less_to l ms e n ≤ 65536 * n
unfolding less_to
less_le l ms e zero = omega arith
less_le l ms e (suc n) =
    let x = log_of_less l (e + (2 ^ suc l - exponent_at l n)) in
    omega (arith, less_le l ms e n, flag_times_le (get_or ms n false) x, log_of_less_lt l (e + (2 ^ suc l - exponent_at l n)))

powers_le : (l : ℕ) (ms : List Bool) (n : ℕ) → l ≤ 10 → n ≤ 2 ^ suc l → powers_to l ms n ≤ 65536 * n
unfolding powers_to
powers_le l ms zero b h = omega arith
powers_le l ms (suc n) b h =
    let e = exponent_at l n in
    omega (
      arith,
      powers_le l ms n b (omega arith),
      flag_times_le (get_or ms n false) (log_of_power l e),
      log_of_power_lt l e b (exponent_lt l n (omega arith)),
    )

positions_le : (l : ℕ) → l ≤ 10 → 2 ^ suc l ≤ 2048
positions_le l b = pow_mono {i = suc l} {j = 11} (omega arith)

-- one position more
less_marked : (l : ℕ) (ms : List Bool) (e n : ℕ) → get_or ms n false ≡ true
    → less_to l ms e (n + 1) ≡ less_to l ms e n + log_of_less l (e + (2 ^ suc l - exponent_at l n))
unfolding less_to flag
less_marked l ms e n m = rw (add-one, m) (omega arith)

less_unmarked : (l : ℕ) (ms : List Bool) (e n : ℕ) → get_or ms n false ≡ false → less_to l ms e (n + 1) ≡ less_to l ms e n
unfolding less_to flag
less_unmarked l ms e n m = rw (add-one, m) (omega arith)

-- exponents count modulo 2 ^ suc l
once_more : (n d : ℕ) → (n + d) % n ≡ d % n
once_more n d = ap (λ (k : ℕ). k % n) {x = n + d} {y = 1 * n + d} (omega arith) ∙ mul-add-mod_self_right 1 n d

less_again : (l d : ℕ) → log_of_less l (2 ^ suc l + d) ≡ log_of_less l d
unfolding log_of_less
less_again l d = ap (λ (k : ℕ). get_or log_table (k * (1024 / 2 ^ l)) 0) (once_more (2 ^ suc l) d)

-- THE PART AT THE START: no sums, and the terms twice
less_none : (l : ℕ) (ms : List Bool) (e : ℕ) → less_to l ms e 0 ≡ 0
unfolding less_to
less_none l ms e = refl

module _ (l : ℕ) (ms : List Bool) (u u₁ u₂ u₃ : List ℕ) {n : ℕ} (room : 3 * 2 ^ suc l ≤ length u) (count : n ≡ 2 ^ suc l)
    (zeros : u₁ ≡ stored 0 (always 0) n u) (once : u₂ ≡ stored (2 ^ suc l) (log_of_less l) (2 ^ suc l) u₁)
    (twice : u₃ ≡ stored (n + n) (word_from u₂ n) n u₂) where
  first_long : length u₁ ≡ length u
  first_long = ap length zeros ∙ length_stored 0 (always 0) n u

  second_long : length u₂ ≡ length u
  second_long = ap length once ∙ length_stored (2 ^ suc l) (log_of_less l) (2 ^ suc l) u₁ ∙ first_long

  low : (k : ℕ) → k < n + n → get_or u₃ k 0 ≡ get_or u₂ k 0
  low k b = ap (λ (r : List ℕ). get_or r k 0) twice ∙ stored_before (n + n) (word_from u₂ n) n u₂ k b

  term_at : (d : ℕ) → d < 2 ^ suc l → get_or u₂ (2 ^ suc l + d) 0 ≡ log_of_less l d
  term_at d b =
      ap (λ (r : List ℕ). get_or r (2 ^ suc l + d) 0) once
      ∙ stored_at (2 ^ suc l) (log_of_less l) (2 ^ suc l) u₁ d (omega (arith, first_long)) b

  none_at : (e : ℕ) → e < 2 ^ suc l → get_or u₃ e 0 ≡ 0
  unfolding always
  none_at e b =
      low e (omega arith) ∙ ap (λ (r : List ℕ). get_or r e 0) once ∙ stored_before (2 ^ suc l) (log_of_less l) (2 ^ suc l) u₁ e b
      ∙ ap₂ (λ (r : List ℕ) (k : ℕ). get_or r k 0) zeros (sym (zero-add e)) ∙ stored_at 0 (always 0) n u e (omega arith) (omega arith)

  again_at : (d : ℕ) → d < 2 ^ suc l → get_or u₃ (n + n + d) 0 ≡ log_of_less l d
  unfolding word_from
  again_at d b =
      ap (λ (r : List ℕ). get_or r (n + n + d) 0) twice
      ∙ stored_at (n + n) (word_from u₂ n) n u₂ d (omega (arith, second_long)) (omega arith)
      ∙ ap (λ (k : ℕ). get_or u₂ (k + d) 0) count ∙ term_at d b

  pub sums_start : Sums l ms 0 u₃
  sums_start = record { sums = λ e b. none_at e b ∙ sym (less_none l ms e); terms = λ d b. at d b (dec_lt d (2 ^ suc l)) }
    where
      at : (d : ℕ) → d < 2 * 2 ^ suc l → Dec (d < 2 ^ suc l) → get_or u₃ (2 ^ suc l + d) 0 ≡ log_of_less l d
      at d b (yes h) = low (2 ^ suc l + d) (omega arith) ∙ term_at d h
      at d b (no h) =
          let k = d - 2 ^ suc l in
          ap (λ (i : ℕ). get_or u₃ i 0) {x = 2 ^ suc l + d} {y = n + n + k} (omega arith) ∙ again_at k (omega arith) ∙ sym (less_again l k)
          ∙ ap (log_of_less l) {x = 2 ^ suc l + k} {y = d} (omega arith)

-- A ROW ADDED for an erased position
module _ {l : ℕ} {ms : List Bool} {j : ℕ} {u : List ℕ} (h : Sums l ms j u) (b : j < 2 ^ suc l) {f from : ℕ} (ef : f ≡ exponent_at l j)
    (at : from ≡ 2 ^ suc l + (2 ^ suc l - f)) where
  row_is : (e : ℕ) → e < 2 ^ suc l → row_sum u from e ≡ less_to l ms e j + log_of_less l (e + (2 ^ suc l - exponent_at l j))
  unfolding row_sum
  row_is e c =
      let n = 2 ^ suc l in
      let d = e + (n - exponent_at l j) in
      ap₂ ◌+◌ (h.sums e c)
      (ap (λ (k : ℕ). get_or u k 0) {x = from + e} {y = n + d} (omega arith) ∙ h.terms d (omega arith))

  pub row_fits : l ≤ 10 → (e : ℕ) → e < 2 ^ suc l → row_sum u from e < 4294967296
  row_fits small e c =
      omega (arith, row_is e c, less_le l ms e j, log_of_less_lt l (e + (2 ^ suc l - exponent_at l j)), positions_le l small)

-- s is the sums, t the terms behind them, and r those of the position
module _ {l : ℕ} {ms : List Bool} {j : ℕ} (s t : List ℕ) (h : Sums l ms j (s ++ t)) (b : j < 2 ^ suc l) {n f a : ℕ} (count : n ≡ 2 ^ suc l)
    (long : length s ≡ n) (ef : f ≡ exponent_at l j) (ea : a ≡ n - f) where
  abbrev r : List ℕ
  r = take (a + n - a) (drop a t)

  sum_is : (e : ℕ) → e < n → get_or s e 0 + get_or r e 0 ≡ row_sum (s ++ t) (n + a) e
  unfolding row_sum
  sum_is e c =
      ap₂ ◌+◌ (sym (append_low s t long e c))
      (get_or-take (a + n - a) (drop a t) e 0 (omega arith) ∙ get_or-drop a t e 0 ∙ sym (append_high s t long (a + e))
      ∙ ap (λ (k : ℕ). get_or (s ++ t) k 0) {x = n + (a + e)} {y = n + a + e} (omega arith))

  at : n + a ≡ 2 ^ suc l + (2 ^ suc l - f)
  at = omega arith

  pub sum_fits : l ≤ 10 → (e : ℕ) → e < length s → get_or s e 0 + get_or r e 0 < 4294967296
  sum_fits small e c = omega (arith, sum_is e (omega arith), row_fits h b ef at small e (omega arith))

  pub row_added : {v : List ℕ} → get_or ms j false ≡ true → v ≡ table (length s) (λ e. get_or s e 0 + get_or r e 0) → Sums l ms (j + 1) (v ++ t)
  row_added {v} m ev =
      let g = λ (e : ℕ). get_or s e 0 + get_or r e 0 in
      let same : length v ≡ n = ap length ev ∙ length_table (length s) g ∙ long in
      record {
        sums = λ e c. get_or-append v t 0 e (omega arith) ∙ ap (λ (x : List ℕ). get_or x e 0) ev ∙ get_or_table (length s) e g (omega arith)
            ∙ sum_is e (omega arith) ∙ row_is h b ef at e c ∙ sym (less_marked l ms e j m);
        terms = λ d c. ap (λ (k : ℕ). get_or (v ++ t) (k + d) 0) (sym count) ∙ append_high v t same d ∙ sym (append_high s t long d)
            ∙ ap (λ (k : ℕ). get_or (s ++ t) (k + d) 0) count ∙ h.terms d c;
      }

pub row_skipped : {l : ℕ} {ms : List Bool} {j : ℕ} {u : List ℕ} → Sums l ms j u → get_or ms j false ≡ false → Sums l ms (j + 1) u
row_skipped {l} {ms} {j} h m = record { sums = λ e c. h.sums e c ∙ sym (less_unmarked l ms e j m); terms = h.terms }

-- THE LOOP THAT ADDS A ROW: each word of r to that of s
abbrev pub sum_of : (r s : List ℕ) (e : ℕ) → ℕ
sum_of r s e = get_or s e 0 + get_or r e 0

module _ (r : List ℕ) {s v : List ℕ} {e : ℕ} (h : StoringEach (sum_of r s) s v e) where
  next_is : get_or v e 0 + get_or r e 0 ≡ sum_of r s e
  next_is = ap (λ (x : ℕ). x + get_or r e 0) (each_next h)

  pub add_fits : ((k : ℕ) → k < length s → sum_of r s k < 4294967296) → e < length s → get_or v e 0 + get_or r e 0 < 4294967296
  add_fits f b = omega (arith, next_is, f e b)

  pub add_turn : e < length s → StoringEach (sum_of r s) s (set v e (get_or v e 0 + get_or r e 0)) (e + 1)
  add_turn b = each_turn h b next_is

-- THE LOGARITHMS, once all positions are added
module _ {l : ℕ} {ms : List Bool} {u : List ℕ} {x : ℕ} (h : Sums l ms (2 ^ suc l) u) (shared : x ≡ powers_to l ms (2 ^ suc l)) where
  pub words_fit : l ≤ 10 → (e : ℕ) → e < 2 ^ suc l → x + get_or u e 0 < 4294967296
  words_fit b e c =
      let n = 2 ^ suc l in
      omega (arith, shared, powers_le l ms n b (omega arith), h.sums e c, less_le l ms e n, positions_le l b)

  direct_at_lem : (i : ℕ) → i < 2 ^ suc l → direct_at l x u i ≡ log_at l ms i
  unfolding direct_at log_at
  direct_at_lem i b =
      ap₂ (λ (y z : ℕ). (y + z) % 65536) shared (h.sums (exponent_at l i) (exponent_lt l i b))
      ∙ ap (λ (y : ℕ). y % 65536) (sym (log_sums l ms i (2 ^ suc l)))

  pub logs_direct : (w : List ℕ) {v : List ℕ} → 2 ^ suc l ≤ length w → v ≡ stored 0 (direct_at l x u) (2 ^ suc l) w → v ≡ logs l ms ++ drop (2 ^ suc l) w
  unfolding logs
  logs_direct w room e =
      let n = 2 ^ suc l in
      e ∙ stored_front (direct_at l x u) n w room ∙ ap (λ (r : List ℕ). r ++ drop n w) (same_table n _ _ direct_at_lem)
