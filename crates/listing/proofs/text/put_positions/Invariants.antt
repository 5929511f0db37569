-- The invariant of `listing::text::put_positions`: the lines of the rows that are left are still to be put. Assumes nothing.
use Rattle.std.proofs.Common.{◌≡◌, ◌*◌, ◌-◌, length}
use Rattle.print_lines.proofs.PutTexts.{Left}
use Rattle.listing.specs.Listing.{positions}
use Rattle.listing.proofs.text.put_positions.Given as goal

abbrev pub invariant-loop-position : goal.invariant-loop-position
invariant-loop-position l = record {
  rows : length l.rest ≡ (l.count - l.position) * l.width;
  text : Left l.initial.out l.initial.to (positions l.name l.width l.rows 0 l.count) l.out l.to
      (positions l.name l.width l.rest l.position (l.count - l.position));
}
