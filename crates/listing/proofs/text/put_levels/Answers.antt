-- `listing::text::put_levels` meets its contract: each turn puts a level. Assumes nothing.
use Rattle.std.proofs.Common.{◌+◌, ◌-◌}
use native.Mathlib.Nat.{sub-zero}
use Rattle.print_lines.proofs.PutTexts.{left_all, left_turn, none_end, none_now}
use Rattle.listing.specs.Listing.{level_text, levels_text}
use Rattle.listing.proofs.Lines.{levels_next, levels_done}
use Rattle.listing.proofs.text.put_levels.Goals as goal

pub loop-level-init : goal.loop-level-init
loop-level-init c = rw sub-zero (left_all (levels_text c.args.header c.args.log.now 0 c.args.header.k) c.requires.at)

pub loop-level-preserved : goal.loop-level-preserved
loop-level-preserved c =
    let h = c.args.header in
    let g = c.args.log.now in
    let l = c.loop-level.level in
    let p = c.put_level-to.ensures in
    let behind = levels_text h g (l + 1) (h.k - (l + 1)) in
    left_turn c.loop-level.invariant (level_text h g l) behind (levels_next h g l h.k c.loop-level-test.true) p.value p.out_after

pub returns-clause-value : goal.returns-clause-value
returns-clause-value c =
    none_end c.loop-level.invariant (levels_done c.args.header c.args.log.now c.loop-level.level c.args.header.k c.loop-level-test.false)

pub returns-clause-out_after : goal.returns-clause-out_after
returns-clause-out_after c =
    none_now c.loop-level.invariant (levels_done c.args.header c.args.log.now c.loop-level.level c.args.header.k c.loop-level-test.false)
