-- `listing::filling::fill` meets its contract: opening zeros is taken, and the writes begin with the rack that it makes. Assumes nothing.
use Rattle.std.proofs.Common.{ap, ◌∙◌, arith}
use Rattle.layout.specs.declared.Header.{Header}
use Rattle.listing.specs.Listing.{Rack, write_all}
use Rattle.listing.proofs.Opening.{opens, header_is, rack_is, same_on}
use Rattle.listing.proofs.filling.fill.Goals as goal

pub write_all-requires : goal.write_all-requires
write_all-requires c =
    let a = c.args in
    let q = c.requires in
    let e = header_is a.k a.s q.ranges a.raw.now a.full.now a.log.now q.raw_zeros q.lengths.0 q.lengths.1 c.in_ok-header.ensures.value in
    omega (arith, q.ranges.3, ap (λ (h : Header). h.s) e)

pub returns-in_err-header-clause-value : goal.returns-in_err-header-clause-value
returns-in_err-header-clause-value c =
    let a = c.args in
    let q = c.requires in
    absurd (opens a.k a.s q.ranges a.raw.now a.full.now a.log.now q.raw_zeros q.lengths.0 q.lengths.1 c.in_err-header.field-0.0 c.in_err-header.ensures.value)

pub returns-clause-value : goal.returns-clause-value
returns-clause-value c =
    let a = c.args in
    let q = c.requires in
    let e = c.in_ok-header.ensures in
    c.write_all.ensures.value
    ∙ ap (λ (r : Rack). write_all 256 r a.writes.now)
    (rack_is a.k a.s q.ranges a.raw.now a.full.now a.log.now q.raw_zeros q.lengths.0 q.lengths.1 e.value e.full_after e.log_after)

pub returns-clause-same : goal.returns-clause-same
returns-clause-same c =
    let a = c.args in
    let q = c.requires in
    let e = c.in_ok-header.ensures in
    same_on c.write_all.result (header_is a.k a.s q.ranges a.raw.now a.full.now a.log.now q.raw_zeros q.lengths.0 q.lengths.1 e.value) c.write_all.ensures.same
