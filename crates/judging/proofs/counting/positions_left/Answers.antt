-- `judging::counting::positions_left` meets its contract: the positions less those that are erased. Assumes nothing.
use mathlib.Core.Path.{◌≡◌, ap, ◌∙◌}
use Rattle.std.proofs.Common.{ℕ, suc, ◌^◌, add-one, arith}
use Rattle.decoder.proofs.Survivors.{no_more}
use Rattle.judging.proofs.counting.positions_left.Goals as goal

pub returns : goal.returns
returns c =
    let a = c.args in
    let all : c.two_to.result ≡ 2 ^ suc a.level = c.two_to.ensures ∙ ap (λ (n : ℕ). 2 ^ n) (add-one a.level) in
    omega (arith, all, c.count_erased.ensures, no_more a.marks.now a.level)
