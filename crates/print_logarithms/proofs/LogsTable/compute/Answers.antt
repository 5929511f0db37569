-- `print_logarithms::Logs` is the table of logarithms: each power is a word, and what a call gives of it is its entry. Assumes nothing.
use Rattle.std.proofs.Common.{◌≡◌, ◌<◌, All, List, ℕ, suc, [], ◌∷◌, get_or, length, subst, ap, ◌∙◌, arith, rules, lit<}
use Rattle.std.specs.Iterator.{Yields}
use Rattle.std.specs.Array.{list_steps}
use Rattle.std.proofs.lemmas.Grind.{get_or_default_zero}
use Rattle.field.specs.Residue.{minus}
use Rattle.field.specs.Power.{power}
use Rattle.field.proofs.WordLists.{is_table}
use Rattle.field.proofs.PowerTables.{powers_entry}
use Rattle.logarithms.specs.Logarithms.{logarithm, logs_of, log_table}
use Rattle.logarithms.proofs.Logarithms.{log_lt}
use Rattle.print_logarithms.proofs.LogsTable.compute.Goals as goal

-- what holds of each element of a list holds of one that comes after others
of_next : (P : ℕ → Type 0) (xs l t u : List ℕ) (x : ℕ) → All P l → Yields list_steps l xs t → t ≡ x ∷ u → P x
of_next P [] l t u x all y e = let s : l ≡ x ∷ u = y ∙ e in subst P (ap (λ (v : List ℕ). get_or v 0 x) s) (all 0 x (omega (arith, ap length s)))
of_next P (z ∷ xs) l t u x all y e =
    of_next P xs y.0 t u x (λ k d b. subst P (ap (λ (v : List ℕ). get_or v (suc k) d) y.1) (all (suc k) d (omega (arith, ap length y.1)))) y.2 e

pub map-requires : goal.map-requires
map-requires c =
    let turn = of_next (λ (z : ℕ). z < 65537) in
    let words = c.powers_of_three.ensures.words in
    (lit< tt, (lit< tt, (lit< tt, record { at = λ xs t q x u y f e. let b : x < 65537 = turn xs c.powers_of_three.result t u x words y e in search rules })))

pub returns : goal.returns
unfolding logs_of
returns c =
    let l = c.map.result in
    let at : (i : ℕ) → i < 2048 → get_or l i 0 ≡ logarithm 65537 3 (minus 65537 (get_or c.powers_of_three.result i 0) 1) =
    λ i b. let h = (c.map.ensures.items.at i 0 0 b).2 in search rules
    in
    let is : l ≡ log_table =
    is_table l 2048 (λ d. logarithm 65537 3 (minus 65537 (power 65537 (power 65537 3 32) d) 1)) c.map.ensures.items.long
    (λ i b. at i b ∙ ap (λ (y : ℕ). logarithm 65537 3 (minus 65537 y 1)) (powers_entry 65537 (power 65537 3 32) 2048 i c.powers_of_three.ensures.powers b))
    in
    record { entries = is; five_digits = λ k d b. omega (arith, get_or_default_zero l k d b, ap (λ (v : List ℕ). get_or v k 0) is, log_lt k) }
