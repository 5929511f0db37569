-- `listing::list_writes` meets its contract: the parts of its memory are the buffers of a vault of zero records. Assumes nothing.
use Rattle.std.proofs.Common.{refl, sym, ap, ap₂, ◌∙◌, ℕ, take, replicate}
use Rattle.std.proofs.lemmas.List.{take-replicate}
use Rattle.layout.specs.Header.{header_of, raw_size, full_size, log_size}
use Rattle.listing.proofs.Opening.{range_fits, raw_room, full_room, log_room, lent_long}
use Rattle.listing.proofs.list_writes.Goals as goal

pub invariant_of-opened : goal.invariant_of-opened
invariant_of-opened c = record { fits = range_fits c.args.k c.args.s c.requires }

pub slice_bounds-raw-end : goal.slice_bounds-raw-end
slice_bounds-raw-end c = rw c.raw_size.ensures (raw_room c.args.k c.args.s c.requires)

pub slice_bounds-raw-end-2 : goal.slice_bounds-raw-end-2
slice_bounds-raw-end-2 c = sym (lent_long c.raw_size.result 512 0 refl (rw c.raw_size.ensures (raw_room c.args.k c.args.s c.requires)))

pub slice_bounds-full-end : goal.slice_bounds-full-end
slice_bounds-full-end c = rw c.full_size.ensures (full_room c.args.k c.args.s c.requires)

pub slice_bounds-full-end-2 : goal.slice_bounds-full-end-2
slice_bounds-full-end-2 c = sym (lent_long c.full_size.result 1088 0 refl (rw c.full_size.ensures (full_room c.args.k c.args.s c.requires)))

pub slice_bounds-log-end : goal.slice_bounds-log-end
slice_bounds-log-end c = rw c.log_size.ensures (log_room c.args.k c.args.s c.requires)

pub slice_bounds-log-end-2 : goal.slice_bounds-log-end-2
slice_bounds-log-end-2 c = sym (lent_long c.log_size.result 1054 0 refl (rw c.log_size.ensures (log_room c.args.k c.args.s c.requires)))

pub fill-requires-clause-raw_zeros : goal.fill-requires-clause-raw_zeros
fill-requires-clause-raw_zeros c =
    let a = c.args in
    ap (λ (n : ℕ). take n (replicate 512 0)) c.raw_size.ensures ∙ take-replicate (raw_size (header_of a.k a.s 0)) 512 0 (raw_room a.k a.s c.requires)

pub fill-requires-clause-lengths : goal.fill-requires-clause-lengths
fill-requires-clause-lengths c =
    let a = c.args in (
      lent_long (full_size (header_of a.k a.s 0)) 1088 0 c.full_size.ensures (full_room a.k a.s c.requires),
      lent_long (log_size (header_of a.k a.s 0)) 1054 0 c.log_size.ensures (log_room a.k a.s c.requires),
    )

pub put_rack-requires-clause-lengths : goal.put_rack-requires-clause-lengths
put_rack-requires-clause-lengths c =
    let a = c.args in
    let same = c.in-Ok.ensures.same in (
      c.fill.auto.full ∙ lent_long (full_size (header_of a.k a.s 0)) 1088 0 c.full_size.ensures (full_room a.k a.s c.requires)
          ∙ ap₂ (λ (k s : ℕ). full_size (header_of k s 0)) (sym same.0) (sym same.1),
      c.fill.auto.log ∙ lent_long (log_size (header_of a.k a.s 0)) 1054 0 c.log_size.ensures (log_room a.k a.s c.requires)
          ∙ ap₂ (λ (k s : ℕ). log_size (header_of k s 0)) (sym same.0) (sym same.1),
    )
