-- `image::bytes::put_word` meets its contract. Assumes nothing.
use Rattle.std.proofs.Common.{◌≡◌, ◌∙◌, arith}
use Rattle.image.specs.Image.{little}
use Rattle.image.proofs.WordBytes.{four_bytes, part_over, length_little}
use Rattle.image.proofs.bytes.put_word.Goals as goal

pub returns : goal.returns
returns c =
    let a = c.args in
    let is : c.copy_from_slice.new.self ≡ little 4 a.word = c.copy_from_slice.ensures.after ∙ c.to_le_bytes.ensures ∙ four_bytes a.word in
    rw is (part_over a.at a.bytes.now (little 4 a.word) (omega (arith, length_little 4 a.word)) (omega (arith, length_little 4 a.word, c.requires)))
