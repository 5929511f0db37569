-- `weights::exponents::Positions::log_of_less` meets its contract: the entry is inside the table. Assumes nothing.
use Rattle.std.proofs.Common.{List, ℕ, ◌*◌, ◌/◌, get_or, sym, ap, ap₂, ◌∙◌, arith}
use Rattle.weights.proofs.ExponentLaws.{entry_in, log_of_less_is}
use Rattle.weights.proofs.exponents.Positions.log_of_less.Goals as goal

pub bounds-logarithms-d : goal.bounds-logarithms-d
bounds-logarithms-d c =
    omega (
      arith,
      ap (λ (n : ℕ). c.args.d * (1024 / n)) c.two_to.ensures,
      entry_in c.args.self.level c.args.d c.args.self.few c.requires,
    )

pub returns : goal.returns
returns c =
    ap₂ (λ (l : List ℕ) (n : ℕ). get_or l (c.args.d * (1024 / n)) 0) c.logarithms.ensures c.two_to.ensures
    ∙ sym (log_of_less_is c.args.self.level c.args.d c.requires)
