-- The positions that survive: each is one of those asked for, unmarked, and they rise; and how many survive and how many are erased. Assumes nothing.
use mathlib.Core.Path.{◌≡◌, refl, sym, ap, ◌∙◌}
use mathlib.Core.Logic.{⊎_elim}
use mathlib.Core.Bool.{Bool, true, false}
use mathlib.Core.List.{List, ◌∷◌}
use Prim.Native.Nat.{ℕ, zero, suc, ◌+◌, ◌^◌, ◌≤◌, ◌<◌}
use native.Mathlib.Nat.{zero-add, add-zero}
use native.Mathlib.Omega.{arith}
use lib.ListN.{length, get_or, take}
use mir.Val.{bool_byte}
use Rattle.std.proofs.lemmas.List.{get_or-take}
use Rattle.logarithms.specs.Weights.{erased_to}
use Rattle.decoder.specs.Decoding.{survivors_from}
use Rattle.decoder.specs.steps.Decoder.{erased_count}
use Rattle.decoder.specs.Promises.{Enough}
use Rattle.field.proofs.Booleans.{either}

-- the positions of s are among the n from i on
pub record Survivors (marks : List Bool) (i n : ℕ) (s : List ℕ) : Type 0 where
  pub low : (k : ℕ) → k < length s → i ≤ get_or s k 0
  pub high : (k : ℕ) → k < length s → get_or s k 0 < i + n
  pub kept : (k : ℕ) → k < length s → get_or marks (get_or s k 0) false ≡ false
  pub rising : (j k : ℕ) → j < k → k < length s → get_or s j 0 < get_or s k 0

-- one more position in front: marked, or not
module _ (ms : List Bool) (i n : ℕ) (s : List ℕ) (R : Survivors ms (suc i) n s) where
  skip : Survivors ms i (suc n) s
  skip = record { low = λ k b. omega (arith, R.low k b); high = λ k b. omega (arith, R.high k b); kept = R.kept; rising = R.rising }

  keep : get_or ms i false ≡ false → Survivors ms i (suc n) (i ∷ s)
  keep e = record { low = low; high = high; kept = kept; rising = rising }
    where
      low : (k : ℕ) → k < suc (length s) → i ≤ get_or (i ∷ s) k 0
      low zero b = omega arith
      low (suc k) b = omega (arith, R.low k (omega arith))

      high : (k : ℕ) → k < suc (length s) → get_or (i ∷ s) k 0 < i + suc n
      high zero b = omega arith
      high (suc k) b = omega (arith, R.high k (omega arith))

      kept : (k : ℕ) → k < suc (length s) → get_or ms (get_or (i ∷ s) k 0) false ≡ false
      kept zero b = e
      kept (suc k) b = R.kept k (omega arith)

      rising : (j k : ℕ) → j < k → k < suc (length s) → get_or (i ∷ s) j 0 < get_or (i ∷ s) k 0
      rising j zero a b = absurd (omega arith)
      rising zero (suc k) a b = R.low k (omega arith)
      rising (suc j) (suc k) a b = R.rising j k (omega arith) (omega arith)

  front : (b : Bool) → get_or ms i false ≡ b → Survivors ms i (suc n) (elim b [ true ↦ s | false ↦ i ∷ s ])
  front true e = skip
  front false e = keep e

pub survivors_are : (ms : List Bool) (i n : ℕ) → Survivors ms i n (survivors_from ms i n)
unfolding survivors_from
survivors_are ms i zero = record {
  low = λ k b. absurd (omega arith);
  high = λ k b. absurd (omega arith);
  kept = λ k b. absurd (omega arith);
  rising = λ j k a b. absurd (omega arith);
}
survivors_are ms i (suc n) = front ms i n (survivors_from ms (suc i) n) (survivors_are ms (suc i) n) (get_or ms i false) refl

-- how many of the positions below n are erased
module _ (ms : List Bool) where
  pub erased_zero : erased_to ms 0 ≡ 0
  unfolding erased_to
  erased_zero = refl

  pub erased_true : (n : ℕ) → get_or ms n false ≡ true → erased_to ms (suc n) ≡ suc (erased_to ms n)
  unfolding erased_to
  erased_true n e = rw (e, erased_to)

  pub erased_false : (n : ℕ) → get_or ms n false ≡ false → erased_to ms (suc n) ≡ erased_to ms n
  unfolding erased_to
  erased_false n e = rw (e, erased_to)

  -- one more mark, as a number
  pub mark_added : (m n : ℕ) → n < m → erased_to ms (n + 1) ≡ erased_to ms n + bool_byte (get_or (take m ms) n false)
  mark_added m n b =
      ap (erased_to ms) {x = n + 1} {y = suc n} (omega arith) ∙ by (get_or ms n false) refl
      ∙ ap (λ x. erased_to ms n + bool_byte x) (sym (get_or-take m ms n false b))
    where
      by : (x : Bool) → get_or ms n false ≡ x → erased_to ms (suc n) ≡ erased_to ms n + bool_byte x
      by true e = omega (arith, erased_true n e)
      by false e = omega (arith, erased_false n e)

  survivors_true : (i n : ℕ) → get_or ms i false ≡ true → length (survivors_from ms i (suc n)) ≡ length (survivors_from ms (suc i) n)
  unfolding survivors_from
  survivors_true i n e = rw (e, survivors_from)

  survivors_false : (i n : ℕ) → get_or ms i false ≡ false → length (survivors_from ms i (suc n)) ≡ suc (length (survivors_from ms (suc i) n))
  unfolding survivors_from
  survivors_false i n e = rw (e, survivors_from)

  survivors_none : (i : ℕ) → length (survivors_from ms i 0) ≡ 0
  unfolding survivors_from
  survivors_none i = refl

  -- of the n positions from i on, those that survive and those that are erased
  counted : (i n : ℕ) → length (survivors_from ms i n) + erased_to ms (i + n) ≡ n + erased_to ms i
  counted i zero = omega (arith, survivors_none i, ap (erased_to ms) (add-zero i))
  counted i (suc n) =
      let r : erased_to ms (i + suc n) ≡ erased_to ms (suc i + n) = ap (erased_to ms) {x = i + suc n} {y = suc i + n} (omega arith) in
      let c = counted (suc i) n in
      ⊎_elim (λ e. omega (arith, survivors_true i n e, erased_true i e)) (λ e. omega (arith, survivors_false i n e, erased_false i e))
      (either (get_or ms i false))

  pub no_more : (l : ℕ) → length (survivors_from ms 0 (2 ^ suc l)) ≤ 2 ^ suc l
  no_more l = omega (arith, counted 0 (2 ^ suc l), erased_zero)

  pub no_more_erased : (n : ℕ) → erased_to ms n ≤ n
  no_more_erased n = omega (arith, counted 0 n, erased_zero, ap (erased_to ms) (zero-add n))

  pub count : (l : ℕ) → erased_count l ms ≡ erased_to ms (2 ^ suc l)
  count l = omega (arith, counted 0 (2 ^ suc l), erased_zero, ap (erased_to ms) (zero-add (2 ^ suc l)))

-- at least half of the positions survive where at most half are erased, and the other way round
pub enough : (l : ℕ) (ms : List Bool) → erased_count l ms + erased_count l ms ≤ 2 ^ suc l → Enough l ms
enough l ms b = omega arith

pub erased_half : (l : ℕ) (ms : List Bool) → Enough l ms → erased_to ms (2 ^ suc l) ≤ 2 ^ l
erased_half l ms e = omega (arith, count ms l)
