-- Rows that are filled range by range of their columns: what a range that is copied makes of them, and all of them. Assumes nothing.
use mathlib.Core.Path.{◌≡◌, refl, sym, ap, ap₂, ◌∙◌}
use mathlib.Core.List.{List, ◌++◌}
use Prim.Native.Nat.{ℕ, ◌+◌, ◌*◌, ◌-◌, ◌%◌, ◌≤◌, ◌<◌, max}
use native.Mathlib.Decide.{dec_lt}
use native.Mathlib.Omega.{arith}
use lib.Arith.{digits_lt, digits_mod}
use lib.ListN.{length, get_or, take, drop, length-drop, take-append-drop}
use lib.Seq.{length-take-le, get_or-take, get_or-drop, ext_get_or}
use Rattle.code.specs.declared.Stripe.{Stripe}
use Rattle.code.specs.declared.Range.{Range}
use Rattle.code.specs.Stripe.{block_count}
use Rattle.image.specs.steps.Loading.{columns_of}
use Rattle.judging.proofs.ColumnRanges.{columns_at, is_columns}
use Rattle.range_laying.specs.steps.Blocks.{copied_columns}
use Rattle.range_laying.proofs.CopiedRows.{length_copied, copied_at, copied_off}

-- THE ROWS of which the columns from `skip` up to `from` are those of the blocks
pub record Filled (w skip from n : ℕ) (bs o₀ o : List ℕ) : Type 0 where
  pub same : length o ≡ length o₀
  pub filled : (i j : ℕ) → i < n → j < w - skip → skip + j < from → get_or o (i * (w - skip) + j) 0 ≡ get_or bs (i * w + (skip + j)) 0
  pub rest : (q : ℕ) → n * (w - skip) ≤ q → get_or o q 0 ≡ get_or o₀ q 0

pub filled_none : (w skip n : ℕ) (bs o : List ℕ) → Filled w skip 0 n bs o o
filled_none w skip n bs o = record { same = refl; filled = λ i j a b c. absurd (omega arith); rest = λ q b. refl }

-- words of different columns stand apart
apart : (c i i' j x : ℕ) → j < c → x < c → i * c + j ≡ i' * c + x → j ≡ x
apart c i i' j x a b e = sym (digits_mod i a) ∙ ap (λ (q : ℕ). q % c) e ∙ digits_mod i' b

-- one range more, whose words l stand in rows of their own
module _ (st : Stripe) (range : Range) (skip : ℕ) where
  abbrev w : ℕ
  w = st.width

  abbrev n : ℕ
  n = block_count st

  abbrev from : ℕ
  from = range.from

  abbrev cols : ℕ
  cols = range.cols

  abbrev g : ℕ
  g = max range.from skip

  module _ (fits : range.from + range.cols ≤ st.width) (s : skip ≤ st.width) {bs o₀ o : List ℕ}
      (F : Filled st.width skip range.from (block_count st) bs o₀ o) (room : block_count st * (st.width - skip) ≤ length o₀)
      (l : List ℕ) (is : l ≡ columns_of st.width range.from range.cols (block_count st) bs) where
    inside : g - skip + (from + cols - g) ≤ w - skip
    inside = omega (arith, fits, s)

    at : (i j : ℕ) → i < n → j < w - skip → skip + j < from + cols → Dec (skip + j < from)
        → get_or (copied_columns st range skip l o) (i * (w - skip) + j) 0 ≡ get_or bs (i * w + (skip + j)) 0
    at i j a b c (yes y) =
        copied_off (g - skip) (w - skip) (g - from) cols (from + cols - g) l inside n o (i * (w - skip) + j)
        (λ i' j' a' b' e. let t : j ≡ g - skip + j' = apart (w - skip) i i' j (g - skip + j') b (omega (arith, inside)) e in omega arith) ∙ F.filled i j a b y
    at i j a b c (no y) =
        let d : ℕ = skip + j - g in
        let q : ℕ = g - from + d in
        ap (λ (x : ℕ). get_or (copied_columns st range skip l o) (i * (w - skip) + x) 0) {x = j} {y = g - skip + d} (omega arith)
        ∙ copied_at (g - skip) (w - skip) (g - from) cols (from + cols - g) l inside n o (omega (arith, F.same, room)) i d a (omega arith)
        ∙ ap (λ (x : ℕ). get_or l x 0) {x = g - from + i * cols + d} {y = i * cols + q} (omega arith) ∙ ap (λ (x : List ℕ). get_or x (i * cols + q) 0) is
        ∙ columns_at w from cols n bs i q a (omega arith) ∙ ap (λ (x : ℕ). get_or bs (i * w + x) 0) {x = from + q} {y = skip + j} (omega arith)

    pub filled_more : {o' : List ℕ} → o' ≡ copied_columns st range skip l o → Filled st.width skip (range.from + range.cols) (block_count st) bs o₀ o'
    filled_more {o'} e = rw e (record {
      same = length_copied (g - skip) (w - skip) (g - from) cols (from + cols - g) l n o ∙ F.same;
      filled = λ i j a b c. at i j a b c (dec_lt (skip + j) from);
      rest = λ q b. copied_off (g - skip) (w - skip) (g - from) cols (from + cols - g) l inside n o q
          (λ i j a c t. let u : i * (w - skip) + (g - skip + j) < n * (w - skip) = digits_lt a (omega (arith, inside)) in omega arith) ∙ F.rest q b;
    })

-- all of them
pub filled_all : {w skip n : ℕ} {bs o₀ o : List ℕ} → Filled w skip w n bs o₀ o → n * (w - skip) ≤ length o₀
    → o ≡ columns_of w skip (w - skip) n bs ++ drop (n * (w - skip)) o₀
filled_all {w} {skip} {n} {bs} {o₀} {o} F room =
    let m = n * (w - skip) in
    sym (take-append-drop m o)
    ∙ ap₂ ◌++◌
    (is_columns w skip (w - skip) n bs (take m o) (length-take-le m o (omega (arith, F.same)))
    (λ i j a b. get_or-take m o (i * (w - skip) + j) 0 (digits_lt a b) ∙ F.filled i j a b (omega arith)))
    (ext_get_or 0 (drop m o) (drop m o₀) (length-drop m o ∙ ap (λ (x : ℕ). x - m) F.same ∙ sym (length-drop m o₀))
    (λ q b. get_or-drop m o q 0 ∙ F.rest (m + q) (omega arith) ∙ sym (get_or-drop m o₀ q 0)))
