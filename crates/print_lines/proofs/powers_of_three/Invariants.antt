-- The invariant of `print_lines::powers_of_three`: the powers so far are written, and the next one is at hand. Assumes nothing.
use Rattle.std.proofs.Common.{◌≡◌, ℕ, ◌<◌, get_or}
use Rattle.field.specs.Power.{power}
use Rattle.print_lines.proofs.powers_of_three.Given as goal

abbrev pub invariant-loop-entry : goal.invariant-loop-entry
invariant-loop-entry l = record {
  next : l.power ≡ power 65537 l.x l.entry-index;
  written : (k : ℕ) → k < l.entry-index → get_or l.entry-items k 0 ≡ power 65537 l.x k;
}
