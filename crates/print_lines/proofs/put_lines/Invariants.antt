-- The invariant of `print_lines::put_lines`: the lines of the numbers so far stand in the buffer, 6 bytes a number at most. Assumes nothing.
use Rattle.std.proofs.Common.{◌≡◌, ◌*◌, ◌≤◌, take}
use Rattle.print_lines.specs.Text.{lines}
use Rattle.print_lines.proofs.put_lines.Given as goal

abbrev pub invariant-loop-n : goal.invariant-loop-n
invariant-loop-n l = record {
  room : l.to ≤ 6 * l.n-index;
  text : take l.to l.out ≡ lines (take l.n-index l.numbers);
}
