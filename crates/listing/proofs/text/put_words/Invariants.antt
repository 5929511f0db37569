-- The invariant of `listing::text::put_words`: the words that are left are still to be put. Assumes nothing.
use Rattle.std.proofs.Common.{drop}
use Rattle.print_lines.proofs.PutTexts.{Left}
use Rattle.listing.specs.Listing.{words}
use Rattle.listing.proofs.text.put_words.Given as goal

abbrev pub invariant-loop-word : goal.invariant-loop-word
invariant-loop-word l = Left l.initial.out l.initial.to (words l.row) l.out l.to (words (drop l.word-index l.row))
