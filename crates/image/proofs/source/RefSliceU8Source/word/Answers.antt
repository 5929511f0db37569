-- `image::source::Source::word` of bytes meets its contract: the word is that of four bytes. Assumes nothing.
use Rattle.std.proofs.Common.{sym, ◌∙◌}
use Rattle.image.proofs.StripeLoads.{words_at}
use Rattle.image.proofs.source.RefSliceU8Source.word.Goals as goal

pub returns : goal.returns
returns c = c.number_at.ensures ∙ sym (words_at c.args.self.now c.args.q)
