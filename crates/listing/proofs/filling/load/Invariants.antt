-- The invariant of `listing::filling::load`: the words so far are stored. Assumes nothing.
use Rattle.std.proofs.Common.{◌≡◌, ℕ, ◌<◌, get_or}
use Rattle.listing.specs.Listing.{pairs}
use Rattle.listing.proofs.filling.load.Given as goal

abbrev pub invariant-loop-i : goal.invariant-loop-i
invariant-loop-i l = (k : ℕ) → k < l.i → get_or l.words k 0 ≡ get_or (pairs l.bytes) k 0
