-- `mixing::direction::Mixing` meets the contract of a direction: a product is a word of the field. Assumes nothing.
use Rattle.mixing.proofs.Crossing.{product_word}
use Rattle.mixing.proofs.direction.MixingDirection.cross.Goals as goal

pub add-requires : goal.add-requires
add-requires g c = (c.requires.0, product_word _ _ c.product-t.ensures)

pub sub-requires : goal.sub-requires
sub-requires g c = (c.requires.0, product_word _ _ c.product-t.ensures)
