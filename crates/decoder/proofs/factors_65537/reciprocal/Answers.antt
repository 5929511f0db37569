-- `decoder::factors_65537::reciprocal` meets its contract. Assumes nothing.
use Rattle.std.proofs.Common.{arith, ◌∙◌}
use Rattle.decoder.proofs.WeightLogs.{power_back}
use Rattle.decoder.proofs.factors_65537.reciprocal.Goals as goal

pub returns : goal.returns
returns c = c.power_of_three.ensures ∙ power_back c.args.word (omega arith)
