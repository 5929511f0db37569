-- `taking_back::taking::take_last` meets its contract, by the laws of proofs/TakingLast. Assumes nothing.
use mathlib.Core.Path.{◌≡◌, ap₂, ◌∙◌}
use Prim.Native.Nat.{◌*◌}
use lib.ListN.{length}
use Rattle.layout.specs.Header.{out_size}
use Rattle.taking_back.proofs.TakingLast.{lowest_is, level_words, log_is, put_room, raw_is}
use Rattle.taking_back.proofs.taking.take_last.Goals as goal

pub find-requires-clause-level_is : goal.find-requires-clause-level_is
find-requires-clause-level_is c = lowest_is c.args.header.header c.args.header.fits c.requires.some c.first_empty-level.ensures

pub put_record-requires : goal.put_record-requires
put_record-requires c =
    let a = c.args in
    let h = a.header.header in
    let n : length c.find.new.out ≡ out_size h =
    c.find.auto.out ∙ c.split_at_mut-out.ensures.front_len ∙ ap₂ ◌*◌ c.record_count.ensures c.width-width.ensures in
    put_room h a.raw.now a.full.now a.log.now c.find.new.out c.in_ok-found.found a.header.fits c.requires.some c.requires.lengths c.in_ok-found.ensures.value
    c.width-width.ensures n

pub split_lowest-requires-clause-level_is : goal.split_lowest-requires-clause-level_is
split_lowest-requires-clause-level_is c = (lowest_is c.args.header.header c.args.header.fits c.requires.some c.first_empty-level.ensures).0

pub split_lowest-requires-clause-words : goal.split_lowest-requires-clause-words
split_lowest-requires-clause-words c =
    let a = c.args in
    let h = a.header.header in
    level_words h a.raw.now a.full.now a.log.now c.find.new.out c.in_ok-found.found a.header.fits c.requires.some c.requires.lengths c.in_ok-found.ensures.value
    (lowest_is h a.header.fits c.requires.some c.first_empty-level.ensures).0

pub returns-clause-raw_after : goal.returns-clause-raw_after
returns-clause-raw_after c =
    let a = c.args in
    let h = a.header.header in
    let n : length c.find.new.out ≡ out_size h =
    c.find.auto.out ∙ c.split_at_mut-out.ensures.front_len ∙ ap₂ ◌*◌ c.record_count.ensures c.width-width.ensures in
    raw_is h a.raw.now a.full.now a.log.now c.find.new.out c.in_ok-found.found a.header.fits c.requires.some c.requires.lengths c.in_ok-found.ensures.value
    c.width-width.ensures n c.put_record.ensures

pub returns-clause-log_after : goal.returns-clause-log_after
returns-clause-log_after c =
    let a = c.args in
    let h = a.header.header in
    log_is h a.raw.now a.full.now a.log.now c.find.new.out c.in_ok-found.found a.header.fits c.requires.some c.requires.lengths c.in_ok-found.ensures.value
    (lowest_is h a.header.fits c.requires.some c.first_empty-level.ensures).0 c.split_lowest.ensures
