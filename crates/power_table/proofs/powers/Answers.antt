-- `power_table::powers` meets its contract. Assumes nothing.
use Rattle.std.proofs.Common.{◌≡◌, sym, ◌∙◌, List, ℕ, arith, eq-eqb, ne_eqb, length}
use Rattle.field.specs.Field.{power_table}
use Rattle.layout.specs.Refusals.{done, refusal}
use Rattle.power_table.specs.PowersCall.{powers_number, powers_leaves}
use Rattle.layout.proofs.Refusals.{test_holds, none_fails, if_taken_lem, if_refused}
use Rattle.power_table.proofs.powers.Goals as goal

module _ (out : List ℕ) where
  refused : (length out ≡ 2048 → ⊥) → 2 ≡ powers_number out
  unfolding refusal
  refused d = rw (ne_eqb (length out) 2048 d)

  kept : (length out ≡ 2048 → ⊥) → out ≡ powers_leaves out
  kept d = let e : 2 ≡ powers_number out = refused d in sym (if_refused {n = powers_number out} power_table out (λ z. omega arith))

  taken : length out ≡ 2048 → 0 ≡ powers_number out
  taken e = sym (test_holds 2 done (eq-eqb (length out) 2048 e) ∙ none_fails)

  copied : length out ≡ 2048 → power_table ≡ powers_leaves out
  copied e = sym (if_taken_lem power_table out (sym (taken e)))

pub returns-then-out-ne2048-clause-value : goal.returns-then-out-ne2048-clause-value
returns-then-out-ne2048-clause-value c = refused c.args.out.now c.if-out-ne2048.true

pub returns-then-out-ne2048-clause-out_after : goal.returns-then-out-ne2048-clause-out_after
returns-then-out-ne2048-clause-out_after c = kept c.args.out.now c.if-out-ne2048.true

pub returns-clause-value : goal.returns-clause-value
returns-clause-value c = taken c.args.out.now c.if-out-ne2048.false

pub returns-clause-out_after : goal.returns-clause-out_after
returns-clause-out_after c = c.copy_words.ensures ∙ c.powers.ensures ∙ copied c.args.out.now c.if-out-ne2048.false
