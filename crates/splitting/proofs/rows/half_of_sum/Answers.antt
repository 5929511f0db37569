-- `splitting::rows::half_of_sum` meets its contract, by the laws of half a word (proofs/SplitRows). Assumes nothing.
use Rattle.splitting.proofs.SplitRows.{half_sum_word}
use Rattle.splitting.proofs.rows.half_of_sum.Goals as goal

pub returns : goal.returns
returns c = half_sum_word c.args.a c.args.b c.half-h.result c.requires.0 c.requires.1 c.half-h.ensures c.min.ensures
