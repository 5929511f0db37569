-- `racklist::main` hands the listing of what was read to the output: its buffer has room for every listing. Assumes nothing.
use Rattle.std.proofs.Common.{take, replicate, lit≤}
use Rattle.listing.proofs.Proved.{whole_listing}
use Rattle.racklist.proofs.main.Goals as goal

pub print_listing-requires : goal.print_listing-requires
print_listing-requires c =
    whole_listing (take c.min-count.result c.get_ref.result.now) (replicate 13482 0) (lit≤ tt) c.list-length.ensures.value c.list-length.ensures.out_after
