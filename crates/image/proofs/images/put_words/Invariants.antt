-- The loop of `image::images::put_words`: with the bytes of the words that are left stored too, all bytes are stored. Assumes nothing.
use Rattle.std.proofs.Common.{◌≡◌, ◌+◌, ◌*◌, drop}
use Rattle.std.proofs.lemmas.List.Edits.{sets}
use Rattle.image.specs.Image.{bytes_of}
use Rattle.image.proofs.images.put_words.Given as goal

abbrev pub invariant-loop-i : goal.invariant-loop-i
invariant-loop-i l = sets l.bytes (l.at + 4 * l.i) (bytes_of (drop l.i l.words)) ≡ sets l.initial.bytes l.at (bytes_of l.words)
