-- `listing::filling::write_first` meets its contract: the words of the bytes are what the call on the vault is given. Assumes nothing.
use Rattle.std.proofs.Common.{sym, ◌∙◌, List, ℕ, ◌+◌, ◌-◌, ◌++◌, get_or, take, drop, replicate, arith}
use Rattle.store.specs.Buffers.{buffers}
use Rattle.store.specs.StoreCalls.{write_leaves}
use Rattle.listing.specs.Listing.{rack}
use Rattle.listing.proofs.Writes.{too_short, first_made, same_buffers, header_same, write_told}
use Rattle.listing.proofs.filling.write_first.Goals as goal

pub returns-then-writes-size-clause-value : goal.returns-then-writes-size-clause-value
returns-then-writes-size-clause-value c =
    let a = c.args in sym (too_short (rack a.header (buffers a.raw.now a.full.now a.log.now)) a.writes.now (omega (arith, c.if-writes-size.true)))

pub returns-clause-value : goal.returns-clause-value
returns-clause-value c =
    let a = c.args in
    let h = a.header in
    let u = buffers a.raw.now a.full.now a.log.now in
    let z : List ℕ = drop (h.s + 1) (replicate 17 0) in
    let i = get_or (c.load.new.words ++ z) 0 0 in
    let b = take (h.s + 1 - 1) (drop 1 (c.load.new.words ++ z)) in
    let p = c.write.ensures in
    write_told h u i b (buffers c.write.new.raw c.write.new.full c.write.new.log)
    (same_buffers (write_leaves h u i b) p.raw_after p.full_after p.log_after) c.write.result p.value
    ∙ first_made (rack h u) a.writes.now z c.if-writes-size.false c.load.ensures

pub returns-clause-same : goal.returns-clause-same
returns-clause-same c =
    let a = c.args in
    let h = a.header in
    let u = buffers a.raw.now a.full.now a.log.now in
    let z : List ℕ = drop (h.s + 1) (replicate 17 0) in
    let i = get_or (c.load.new.words ++ z) 0 0 in
    let b = take (h.s + 1 - 1) (drop 1 (c.load.new.words ++ z)) in
    header_same h u i b c.write.result c.write.ensures.value
