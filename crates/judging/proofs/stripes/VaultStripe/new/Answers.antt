-- `judging::stripes::VaultStripe::new` meets its contract: the stripes of a header in range are those of a vault. Assumes nothing.
use Rattle.judging.proofs.StripeNumbers.{stripe_fits}
use Rattle.judging.proofs.stripes.VaultStripe.new.Goals as goal

pub invariant_of-valid : goal.invariant_of-valid
invariant_of-valid c =
    let h = c.args.header in
    record { numbers = rw c.stripe_of.ensures (stripe_fits h.header c.args.level h.fits c.requires).numbers }

pub invariant_of-result : goal.invariant_of-result
invariant_of-result c =
    let h = c.args.header in
    record { fits = rw c.stripe_of.ensures (stripe_fits h.header c.args.level h.fits c.requires) }
