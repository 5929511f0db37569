-- `print_lines::putting::put` meets its contract: what is copied is what fits. Assumes nothing.
use Rattle.std.proofs.Common.{arith}
use Rattle.print_lines.specs.Putting.{put_end}
use Rattle.print_lines.proofs.PutTexts.{copied}
use Rattle.print_lines.proofs.putting.put.Goals as goal

pub returns-clause-value : goal.returns-clause-value
unfolding put_end
returns-clause-value c = omega (arith, c.min-count.ensures)

pub returns-clause-out_after : goal.returns-clause-out_after
returns-clause-out_after c =
    copied c.args.out.now c.args.at c.requires c.args.text.now c.min-count.result _ c.min-count.ensures (omega arith) c.copy_from_slice.ensures.after
