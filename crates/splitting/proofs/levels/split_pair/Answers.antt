-- `splitting::levels::split_pair` meets its contract: the powers are those of the inverse of the level's root. Assumes nothing.
use Rattle.std.proofs.Common.{ℕ, ◌*◌, ◌++◌, replicate, ap₂, ◌∙◌}
use Rattle.splitting.specs.steps.Unfolding.{newer}
use Rattle.splitting.proofs.HalvesLoop.{back_entry}
use Rattle.splitting.proofs.levels.split_pair.Goals as goal

pub returns-clause-x : goal.returns-clause-x
returns-clause-x c =
    let e = c.powers-powers.ensures in
    c.split_half.ensures.part
    ∙ ap₂ (λ (m v : ℕ). replicate (m * c.args.width) 0 ++ newer 65537 32769 v c.args.width (m * c.args.width) c.args.x.now) e.0
    (back_entry c.requires.level_bound e.1 e.2)

pub returns-clause-y : goal.returns-clause-y
returns-clause-y c =
    let e = c.powers-powers.ensures in
    c.split_half-2.ensures.part
    ∙ ap₂ (λ (m v : ℕ). replicate (m * c.args.width) 0 ++ newer 65537 32769 v c.args.width (m * c.args.width) c.args.y.now) e.0
    (back_entry c.requires.level_bound e.1 e.2)
