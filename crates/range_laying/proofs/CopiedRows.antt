-- Rows copied one after the other: the loop that copies, what stands where afterwards, and a row copied to a record's place. Assumes nothing.
use mathlib.Core.Path.{◌≡◌, refl, ap, ◌∙◌}
use mathlib.Core.List.{List}
use mathlib.Core.Logic.{◌≢◌}
use Prim.Native.Nat.{ℕ, zero, suc, ◌+◌, ◌*◌, ◌≤◌, ◌<◌}
use native.Mathlib.Nat.{mul-le-mul_right}
use native.Mathlib.Numerals.{add-one}
use native.Mathlib.Decide.{dec_lt}
use native.Mathlib.Omega.{arith}
use lib.ListN.{length, get_or}
use Rattle.code.specs.steps.Storing.{stored, word_from}
use Rattle.code.proofs.RowLaws.{length_stored, stored_none, stored_at, stored_off, stored_before}
use Rattle.range_laying.specs.steps.Blocks.{copied_rows}

module _ (to width from stride count : ℕ) (l : List ℕ) where
  pub length_copied : (n : ℕ) (o : List ℕ) → length (copied_rows to width from stride count l n o) ≡ length o
  unfolding copied_rows
  length_copied zero o = refl
  length_copied (suc n) o =
      length_stored (to + n * width) (word_from l (from + n * stride)) count (copied_rows to width from stride count l n o) ∙ length_copied n o

  -- no word of each row
  pub copied_none : count ≡ 0 → (n : ℕ) (o : List ℕ) → copied_rows to width from stride count l n o ≡ o
  unfolding copied_rows
  copied_none e zero o = refl
  copied_none e (suc n) o = rw (e, stored_none) (copied_none e n o)

  -- THE LOOP after i of its rows
  pub record Copying (rows : ℕ) (out₀ out : List ℕ) (i : ℕ) : Type 0 where
    pub turns : i ≤ rows
    pub same : length out ≡ length out₀
    pub now : out ≡ copied_rows to width from stride count l i out₀

  pub copying_start : (rows : ℕ) (o : List ℕ) → Copying rows o o 0
  unfolding copied_rows
  copying_start rows o = record { turns = omega arith; same = refl; now = refl }

module _ {to width from stride count : ℕ} {l : List ℕ} {rows : ℕ} {o₀ o : List ℕ} {i : ℕ} (h : Copying to width from stride count l rows o₀ o i) where
  pub copying_turn : {o' : List ℕ} → i < rows → o' ≡ stored (to + i * width) (word_from l (from + i * stride)) count o
      → Copying to width from stride count l rows o₀ o' (i + 1)
  unfolding copied_rows
  copying_turn {o'} b e = record {
    turns = omega arith;
    same = ap length e ∙ length_stored (to + i * width) (word_from l (from + i * stride)) count o ∙ h.same;
    now = e ∙ rw (add-one, h.now);
  }

-- WHERE EACH WORD STANDS afterwards
module _ (to width from stride count : ℕ) (l : List ℕ) (fits : to + count ≤ width) where
  pub copied_at : (n : ℕ) (o : List ℕ) → n * width ≤ length o → (i j : ℕ) → i < n → j < count
      → get_or (copied_rows to width from stride count l n o) (i * width + (to + j)) 0 ≡ get_or l (from + i * stride + j) 0
  unfolding copied_rows word_from
  copied_at zero o h i j a b = absurd (omega arith)
  copied_at (suc n) o h i j a b = at (dec_lt i n) (copied_at n o (omega arith) i j)
    where
      at : Dec (i < n)
          → (i < n → j < count → get_or (copied_rows to width from stride count l n o) (i * width + (to + j)) 0 ≡ get_or l (from + i * stride + j) 0)
          → get_or (stored (to + n * width) (word_from l (from + n * stride)) count (copied_rows to width from stride count l n o))
          (i * width + (to + j)) 0 ≡ get_or l (from + i * stride + j) 0
      at (yes y) rest =
          stored_before (to + n * width) (word_from l (from + n * stride)) count (copied_rows to width from stride count l n o) (i * width + (to + j))
          (omega (arith, mul-le-mul_right width y))
          ∙ rest y b
      at (no y) rest =
          let e : i ≡ n = omega arith in
          rw e
          (ap (λ (x : ℕ). get_or (stored (to + n * width) (word_from l (from + n * stride)) count (copied_rows to width from stride count l n o)) x 0) {x =
          n * width + (to + j)} {y = to + n * width + j} (omega arith)
          ∙ stored_at (to + n * width) (word_from l (from + n * stride)) count (copied_rows to width from stride count l n o) j
          (omega (arith, length_copied to width from stride count l n o)) b)

  -- the other columns, and the words behind the rows, are as they were
  pub copied_off : (n : ℕ) (o : List ℕ) (k : ℕ) → ((i j : ℕ) → i < n → j < count → k ≢ i * width + (to + j))
      → get_or (copied_rows to width from stride count l n o) k 0 ≡ get_or o k 0
  unfolding copied_rows
  copied_off zero o k d = refl
  copied_off (suc n) o k d =
      stored_off (to + n * width) (word_from l (from + n * stride)) count (copied_rows to width from stride count l n o) k
      (λ j b e. d n j (omega arith) b (omega arith))
      ∙ copied_off n o k (λ i j a. d i j (omega arith))
