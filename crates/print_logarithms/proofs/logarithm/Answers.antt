-- `print_logarithms::logarithm` meets its contract: the loop is the definition's search. Assumes nothing.
use mathlib.Core.Path.{◌≡◌, refl, sym, ap, ◌∙◌}
use mathlib.Core.Logic.{◌≢◌}
use Prim.Native.Nat.{ℕ, suc, ◌+◌, ◌-◌, ◌≤◌, ◌<◌}
use native.Mathlib.Numerals.{add-one}
use native.Mathlib.Omega.{arith}
use Rattle.field.specs.Residue.{times}
use Rattle.field.specs.Power.{power}
use Rattle.field.proofs.Powers.{power_zero, power_suc, power_lt}
use Rattle.logarithms.specs.Logarithms.{log_from, logarithm}
use Rattle.logarithms.proofs.Logarithms.{log_found, log_next}
use Rattle.print_logarithms.proofs.logarithm.Invariants.{Looking}
use Rattle.print_logarithms.proofs.logarithm.Goals as goal

start : (x : ℕ) → Looking x 1 0
unfolding logarithm
start x = record { turns = omega arith; here = sym (power_zero 65537 (omega arith) 3); rest = refl }

more : (x e : ℕ) → e < 65536 → log_from (65536 - e) 65537 3 x e ≡ log_from (suc (65536 - suc e)) 65537 3 x e
more x e b = ap (λ (n : ℕ). log_from n 65537 3 x e) {x = 65536 - e} {y = suc (65536 - suc e)} (omega arith)

turn : {x y e : ℕ} (y' : ℕ) → Looking x y e → e < 65536 → y ≢ x → y' ≡ times 65537 3 y → Looking x y' (e + 1)
turn {x} {y} {e} y' h b d q = record {
  turns = omega arith;
  here = q ∙ ap (times 65537 3) h.here ∙ sym (power_suc 65537 (omega arith) 3 e) ∙ ap (power 65537 3) (sym (add-one e));
  rest = ap (λ (i : ℕ). log_from (65536 - i) 65537 3 x i) (add-one e)
      ∙ sym (more x e b ∙ log_next (65536 - suc e) 65537 3 x e (λ (i : power 65537 3 e ≡ x). d (h.here ∙ i))) ∙ h.rest;
}

found : {x y e : ℕ} → Looking x y e → e < 65536 → y ≡ x → e ≡ logarithm 65537 3 x
found {x} {y} {e} h b q = sym (more x e b ∙ log_found (65536 - suc e) 65537 3 x e (sym h.here ∙ q)) ∙ h.rest

none : {x y e : ℕ} → Looking x y e → 65536 ≤ e → 0 ≡ logarithm 65537 3 x
unfolding log_from
none {x} {y} {e} h b = ap (λ (i : ℕ). log_from (65536 - i) 65537 3 x i) {x = 65536} {y = e} (omega arith) ∙ h.rest

pub loop-e-init : goal.loop-e-init
loop-e-init c = start _

pub returns-then-power-x : goal.returns-then-power-x
returns-then-power-x c = found c.loop-e.invariant c.loop-e-test.true c.if-power-x.true

pub mul-power-requires : goal.mul-power-requires
mul-power-requires c = (omega arith, omega (arith, c.loop-e.invariant.here, power_lt 65537 (omega arith) 3 c.loop-e.e))

pub loop-e-preserved : goal.loop-e-preserved
loop-e-preserved c = turn _ c.loop-e.invariant c.loop-e-test.true c.if-power-x.false c.mul-power.ensures

pub returns : goal.returns
returns c = none c.loop-e.invariant c.loop-e-test.false
