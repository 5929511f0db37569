-- `print_lines::putting::put_number` meets its contract: the digits are those of `decimal`. Assumes nothing.
use Rattle.std.proofs.Common.{ap, ◌∙◌, arith}
use Rattle.print_lines.specs.Putting.{put, put_end}
use Rattle.print_lines.proofs.Text.{digits_are}
use Rattle.print_lines.proofs.putting.put_number.Goals as goal

pub returns-clause-value : goal.returns-clause-value
returns-clause-value c =
    c.put.ensures.value ∙ ap (put_end c.args.out.now c.args.at) (c.as_bytes.ensures.value ∙ c.format.ensures.text ∙ digits_are c.args.n (omega arith))

pub returns-clause-out_after : goal.returns-clause-out_after
returns-clause-out_after c =
    c.put.ensures.out_after ∙ ap (put c.args.out.now c.args.at) (c.as_bytes.ensures.value ∙ c.format.ensures.text ∙ digits_are c.args.n (omega arith))
