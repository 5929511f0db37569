-- `print_lines::put_line` meets its contract: the digits are at most five, and the line feed stands behind them. Assumes nothing.
use Rattle.std.proofs.Common.{◌≡◌, List, ℕ, ◌+◌, ◌<◌, ◌≤◌, length, arith}
use Rattle.print_lines.specs.Putting.{put_end}
use Rattle.print_lines.specs.Text.{decimal}
use Rattle.print_lines.proofs.Text.{few_digits, line_put}
use Rattle.print_lines.proofs.put_line.Goals as goal

five : (n : ℕ) → n < 100000 → length (decimal n) ≤ 5
five n b = few_digits 5 n (omega arith) b (omega arith)

end : (l : List ℕ) (i n : ℕ) {m : ℕ} → m ≡ put_end l i (decimal n) → (n < 100000) × (i + 6 ≤ length l) → m ≤ i + 5
unfolding put_end
end l i n e h = omega (arith, five n h.0)

pub bounds-out-end : goal.bounds-out-end
bounds-out-end c = omega (arith, end c.args.out.now c.args.at c.args.n c.put_number-end.ensures.value c.requires)

pub overflow_add-result : goal.overflow_add-result
overflow_add-result c = omega (arith, end c.args.out.now c.args.at c.args.n c.put_number-end.ensures.value c.requires)

pub returns-clause-upper_bound : goal.returns-clause-upper_bound
returns-clause-upper_bound c = omega (arith, end c.args.out.now c.args.at c.args.n c.put_number-end.ensures.value c.requires)

pub returns-clause-out_after : goal.returns-clause-out_after
returns-clause-out_after c =
    let p = c.put_number-end.ensures in
    line_put c.args.out.now c.args.at c.args.n (omega (arith, five c.args.n c.requires.0)) p.value p.out_after
