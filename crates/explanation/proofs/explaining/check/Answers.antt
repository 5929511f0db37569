-- `explanation::explaining::check` meets its contract. Assumes nothing.
use mathlib.Core.Path.{◌≡◌, refl, sym, ◌∙◌}
use Rattle.std.proofs.Common.{Bool, true, false, ◌&&◌, ℕ, ◌+◌, ◌*◌, eqb, arith}
use borrow.Author.Tests.{ne_eqb}
use Rattle.layout.specs.Refusals.{Tests, test, refusal}
use Rattle.layout.proofs.Refusals.{header_passed_on, header_taken}
use Rattle.explanation.specs.Counts.{counts_size}
use Rattle.explanation.proofs.explaining.check.Goals as goal

-- a size that is wrong, after one that is right or wrong
size_refused : {r b : Bool} → r ≡ b → r ≡ true → (first others : Bool) {x x' s : ℕ} → s ≡ x' → (x ≡ s → ⊥) → (rest : Tests)
    → 2 ≡ refusal (test b 1 (test (first && (eqb x x' && others)) 2 rest))
unfolding refusal
size_refused e h true others {x} {x'} {s} es d rest = rw (sym e ∙ h, ← es, ne_eqb x s d)
size_refused e h false others es d rest = rw (sym e ∙ h)

pub returns-in_err-valid-clause-number : goal.returns-in_err-valid-clause-number
returns-in_err-valid-clause-number c = header_passed_on c.args.header _ c.from_residual.result _ c.from_residual.ensures.1 c.in_err-valid.ensures

pub returns-then-counts-header-clause-number : goal.returns-then-counts-header-clause-number
returns-then-counts-header-clause-number c =
    let h = c.args.header in
    let e : (h.k + 1) * 2 ≡ counts_size h = omega arith in
    size_refused (header_taken _ _ c.in_ok-valid.ensures c.in_ok-valid.valid.fits) refl _ _ e c.if-counts-header.true _
