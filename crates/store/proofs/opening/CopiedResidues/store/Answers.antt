-- `store::opening::Copied` meets the contract of residues: words of the field are their own. Assumes nothing.
use Rattle.std.proofs.Common.{refl, sym, ◌∙◌}
use Rattle.store.proofs.StoredRecords.{reduced_same}
use Rattle.store.proofs.opening.CopiedResidues.store.Goals as goal

pub returns : goal.returns
returns c = c.copy_words.ensures ∙ sym (reduced_same 65537 c.args.words.now (c.requires.whole_words.words_of refl))
