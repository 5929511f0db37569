-- What turning over the second half and turning back in place share: the factors of the rows, and that all rows scaled by them are turned. Assumes nothing.
use mathlib.Core.Path.{◌≡◌, refl, sym, ap, ◌∙◌}
use mathlib.Core.Logic.{⊎_elim, ◌⊎◌}
use mathlib.Core.Bool.{Bool, true, false}
use mathlib.Core.List.{List}
use Prim.Native.Nat.{ℕ, ◌+◌, ◌*◌, ◌-◌, ◌%◌, ◌^◌, ◌≤◌, ◌<◌}
use native.Mathlib.Omega.{arith}
use lib.Arith.{digits_div, digits_lt}
use lib.Dec.{lit<}
use lib.ListN.{get_or, take}
use lib.Seq.{get_or-take}
use Rattle.field.specs.Residue.{times}
use Rattle.field.specs.Power.{power}
use Rattle.field.specs.Field.{fermat, root_of, power_table}
use Rattle.field.specs.Words.{Words, table}
use Rattle.field.proofs.Unity.{two_div}
use Rattle.field.proofs.PowerTables.{table_root, level_root}
use Rattle.code.specs.Rows.{column, lifted}
use Rattle.code.specs.Transform.{reversed, turned}
use Rattle.code.specs.declared.Stripe.{Stripe}
use Rattle.code.specs.Stripe.{Numbers, root_in}
use Rattle.code.proofs.Shapes.{reversed_lt, turned_at}
use Rattle.code.proofs.Lifting.{length_column, column_at, table_lifted, row_in}
use Rattle.code.proofs.RowLaws.{StoringRows, storing_rows_front, storing_rows_rest, scaled_rows_word}
use Rattle.code.proofs.Factors.{power_entry, turning_power, turning_back}
use Rattle.mixing.specs.steps.Words.{root_for, step_of}

-- the factor of the row of write first + i
unfoldable pub factor : (w k first i : ℕ) → ℕ
factor w k t i = power 65537 w (reversed k (t + i))

-- the entry of the root of 1,024 records, or of its inverse: its power is that of 2 ^ k records
entry_in : (u : Bool) → step_of u 10 < 2048
entry_in false = lit< tt
entry_in true = lit< tt

turning_root : (u : Bool) {k : ℕ} → k ≤ 10 → power 65537 (get_or power_table (step_of u 10) 0) (2 ^ (10 - k)) ≡ root_for u 65537 (root_of fermat k)
turning_root false {k} b =
    ap (λ (x : ℕ). power 65537 x (2 ^ (10 - k))) (table_root 10 (omega arith)) ∙ ap (power 65537 (root_of fermat 10)) (sym (two_div 10 k b))
    ∙ level_root 10 k b (omega arith)
turning_root true b = turning_back refl b

-- its power at the ten bits reversed is the factor
pub turning_factor_is : (u : Bool) {st : Stripe} {rows j step r x : ℕ} → Numbers st → rows ≡ 2 ^ st.level → j < rows → step ≡ step_of u 10
    → r ≡ reversed 10 (st.first + j) → x ≡ get_or power_table (r * step % 2048) 0 → x ≡ factor (root_for u 65537 (root_in st)) st.k st.first j
unfolding factor
turning_factor_is u {st} {j = j} h e b es er ex =
    let write_in : st.first + j < 2 ^ st.k = omega (arith, h.ends) in
    ex ∙ rw es (power_entry {powers = power_table} refl (entry_in u) er)
    ∙ turning_power (get_or power_table (step_of u 10) 0) st.k (st.first + j) h.small write_in
    ∙ ap (λ (w : ℕ). power 65537 w (reversed st.k (st.first + j))) (turning_root u h.small)

-- a row of as many as there are powers
pub reversed_few : (t : ℕ) {r rows : ℕ} → r ≡ reversed 10 t → rows ≡ 2 ^ 10 → r < rows
reversed_few t e es = rw (e, es) (reversed_lt 10 t)

-- A ROW THAT IS READ is as it was, where rows are stored in a second half or over themselves
module _ {to width m : ℕ} {f : ℕ → ℕ} {l₀ l : List ℕ} {i : ℕ} (h : StoringRows to f m width l₀ l (to + i * width) i) (b : i < m)
    (place : (m * width ≤ to) ⊎ (to ≡ 0)) where
  pub as_it_was : (c : ℕ) → c < width → get_or l (i * width + c) 0 ≡ get_or l₀ (i * width + c) 0
  as_it_was c t =
      ⊎_elim (λ a. storing_rows_front h (i * width + c) (omega (arith, row_in width b))) (λ z. storing_rows_rest h (i * width + c) (omega arith)) place

  pub row_words : Words 65537 (take (m * width) l₀) → (c : ℕ) → c < width → get_or l (i * width + c) 0 < 65537
  row_words w c t = rw (as_it_was c t, ← get_or-take (m * width) l₀ (i * width + c) 0 (omega (arith, row_in width b))) (w.word (i * width + c))

-- all rows turned
pub turned_rows : (rows first k width w : ℕ) (l : List ℕ)
    → table (rows * width) (scaled_rows_word 65537 width (factor w k first) l) ≡ lifted width rows rows (turned 65537 w k first) (take (rows * width) l)
unfolding factor scaled_rows_word
turned_rows rows first k width w l =
    let r = take (rows * width) l in
    table_lifted width rows rows (turned 65537 w k first) (scaled_rows_word 65537 width (factor w k first) l) r
    (λ i j h b. rw (digits_div i b) (ap (times 65537 (power 65537 w (reversed k (first + i))))
    (sym (column_at width rows j r i h ∙ get_or-take (rows * width) l (i * width + j) 0 (digits_lt h b)))
    ∙ sym (turned_at 65537 w k first (column width rows j r) i (rw length_column h))))
