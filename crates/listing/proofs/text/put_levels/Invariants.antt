-- The invariant of `listing::text::put_levels`: the levels that are left are still to be put. Assumes nothing.
use Rattle.std.proofs.Common.{◌-◌}
use Rattle.print_lines.proofs.PutTexts.{Left}
use Rattle.listing.specs.Listing.{levels_text}
use Rattle.listing.proofs.text.put_levels.Given as goal

abbrev pub invariant-loop-level : goal.invariant-loop-level
invariant-loop-level l =
    Left l.initial.out l.initial.to (levels_text l.header l.log 0 l.header.k) l.out l.to (levels_text l.header l.log l.level (l.header.k - l.level))
