-- Blocks laid over records one after the other: the loop that lays them, and what it asks of a stripe's blocks. Assumes nothing.
use mathlib.Core.Path.{◌≡◌, refl, ap, ◌∙◌}
use mathlib.Core.List.{List}
use Prim.Native.Nat.{ℕ, suc, ◌+◌, ◌*◌, ◌≤◌, ◌<◌}
use native.Mathlib.Nat.{mul-le-mul_right}
use native.Mathlib.Numerals.{add-one}
use native.Mathlib.Omega.{arith}
use lib.ListN.{length, get_or, take, drop, length-drop}
use lib.Seq.{length-take-le, get_or-take, get_or-drop}
use Rattle.code.specs.steps.Storing.{stored, word_from}
use Rattle.code.proofs.RowLaws.{length_stored, stored_list}
use Rattle.layout.specs.Records.{replaced}
use Rattle.range_laying.specs.Laid.{laid}

-- a row that is copied to a record's place
row_put : (s i from : ℕ) (bs r : List ℕ) → from + s ≤ length bs → stored (i * s) (word_from bs from) s r ≡ replaced s r i (take s (drop from bs))
unfolding word_from
row_put s i from bs r b =
    stored_list (i * s) (word_from bs from) s (take s (drop from bs)) r (length-take-le s (drop from bs) (rw length-drop (omega arith)))
    (λ k c. get_or-take s (drop from bs) k 0 c ∙ get_or-drop from bs k 0)

-- THE LOOP after j blocks of s data words
pub record Laying (s : ℕ) (bs : List ℕ) (rows : ℕ) (r o : List ℕ) (j : ℕ) : Type 0 where
  pub turns : j ≤ rows
  pub same : length o ≡ length r
  pub now : o ≡ laid s bs j r

pub laying_start : (s : ℕ) (bs : List ℕ) (rows : ℕ) (r : List ℕ) → Laying s bs rows r r 0
unfolding laid
laying_start s bs rows r = record { turns = omega arith; same = refl; now = refl }

-- block j lies inside
pub laying_reads : (s : ℕ) {j rows n : ℕ} → j < rows → rows * suc s ≤ n → j * (s + 1) + 1 + s ≤ n
laying_reads s {j} b e = omega (arith, mul-le-mul_right (suc s) b)

module _ {s : ℕ} {bs : List ℕ} {rows : ℕ} {r o : List ℕ} {j : ℕ} (L : Laying s bs rows r o j) (b : j < rows) where
  pub laying_turn : {o' : List ℕ} (i : ℕ) → i ≡ get_or bs (j * (s + 1)) 0 → rows * suc s ≤ length bs
      → o' ≡ stored (i * s) (word_from bs (j * (s + 1) + 1)) s o → Laying s bs rows r o' (j + 1)
  unfolding laid
  laying_turn {o'} i n f q = record {
    turns = omega arith;
    same = ap length q ∙ length_stored (i * s) (word_from bs (j * (s + 1) + 1)) s o ∙ L.same;
    now = q ∙ row_put s i (j * (s + 1) + 1) bs o (laying_reads s b f) ∙ rw (n, add-one (j * (s + 1)), add-one j, add-one s, ← L.now);
  }
