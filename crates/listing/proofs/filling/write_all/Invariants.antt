-- The invariant of `listing::filling::write_all`: what is left of the bytes makes of the rack what all of them make of the one given. Assumes nothing.
use Rattle.std.proofs.Common.{◌≡◌, ◌-◌}
use Rattle.store.specs.Buffers.{buffers}
use Rattle.listing.specs.Listing.{rack, write_all}
use Rattle.listing.proofs.filling.write_all.Given as goal

abbrev pub invariant-loop : goal.invariant-loop
invariant-loop l = record {
  k_same : l.header.k ≡ l.fn.header.k;
  s_same : l.header.s ≡ l.fn.header.s;
  whole : write_all (256 - l.counter) (rack l.header (buffers l.raw l.full l.log)) l.rest
      ≡ write_all 256 (rack l.fn.header (buffers l.fn.raw l.fn.full l.fn.log)) l.writes;
}
