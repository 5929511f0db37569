-- `mixing::words::cross_words_each` meets its contract: the factor of a word is that of its place. Assumes nothing.
use Rattle.code.specs.steps.Mixing.{factor_at}
use Rattle.mixing.proofs.words.cross_words_each.Goals as goal

pub returns : goal.returns
unfolding factor_at
returns g c = c.cross_each.ensures
