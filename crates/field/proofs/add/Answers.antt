-- `field::add` meets its contract. Assumes nothing.
use Rattle.std.proofs.Common.{◌≡◌, ℕ, ◌-◌, ◌<◌, ◌∙◌, arith}
use Rattle.field.specs.Residue.{plus, minus}
use Rattle.field.proofs.add.Goals as goal

negated : (x y : ℕ) → x < 65537 → y < 65537 → minus 65537 x (65537 - y) ≡ plus 65537 x y
unfolding minus plus
negated x y hx hy = omega arith

pub returns : goal.returns
returns c = c.difference.ensures ∙ negated _ _ c.requires.0 c.requires.1
