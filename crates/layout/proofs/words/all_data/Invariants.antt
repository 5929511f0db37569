-- The loop of `layout::words::all_data`: all words are data words if those before it are (`fit`) and those from it on. Assumes nothing.
use Rattle.std.proofs.Common.{◌≡◌, ◌&&◌, drop}
use Rattle.layout.specs.Records.{are_data}
use Rattle.layout.proofs.words.all_data.Given as goal

abbrev pub invariant-loop-word : goal.invariant-loop-word
invariant-loop-word l = are_data l.words ≡ (l.fit && are_data (drop l.word-index l.words))
