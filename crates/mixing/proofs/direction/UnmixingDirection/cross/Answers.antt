-- `mixing::direction::Unmixing` meets the contract of a direction: a difference is a word of the field. Assumes nothing.
use Rattle.mixing.proofs.Crossing.{difference_word}
use Rattle.mixing.proofs.direction.UnmixingDirection.cross.Goals as goal

pub product-requires : goal.product-requires
product-requires g c = difference_word _ _ c.sub.ensures
