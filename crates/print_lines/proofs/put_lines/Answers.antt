-- `print_lines::put_lines` meets its contract: each turn puts a line more. Assumes nothing.
use Rattle.std.proofs.Common.{refl, sym, ap, ◌∙◌, List, ℕ, [], ◌∷◌, ◌++◌, get_or, arith}
use Rattle.print_lines.specs.Text.{lines}
use Rattle.print_lines.proofs.Text.{lines_more}
use Rattle.print_lines.proofs.put_lines.Goals as goal

pub loop-n-init : goal.loop-n-init
unfolding lines
loop-n-init c = record { room = omega arith; text = refl }

pub loop-n-preserved : goal.loop-n-preserved
loop-n-preserved c =
    let numbers = c.args.numbers.now in
    let i = c.loop-n.n-index in
    let p = c.put_line-to.ensures in
    record {
      room = omega arith;
      text = p.out_after ∙ ap (λ (t : List ℕ). t ++ lines (get_or numbers i 0 ∷ [])) c.loop-n.invariant.text ∙ sym (lines_more numbers i c.loop-n-test.true);
    }
