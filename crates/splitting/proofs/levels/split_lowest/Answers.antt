-- `splitting::levels::split_lowest` meets its contract, by the steps of proofs/SplitLog. Assumes nothing.
use Rattle.std.proofs.Common.{◌-◌, refl, sym, arith}
use lib.Seq.{length-take-le}
use Rattle.splitting.proofs.SplitLog.{small, bounds, lent_long, lent_is, split_log}
use Rattle.splitting.proofs.levels.split_lowest.Goals as goal

pub half_at-start-requires : goal.half_at-start-requires
half_at-start-requires c =
    let a = c.args in
    let s = small a.header.header a.level a.log.now a.header.fits c.requires.some c.requires.level_is c.width-width.ensures in
    (omega (arith, s.0), omega arith, s.1)

pub overflow_add-level : goal.overflow_add-level
overflow_add-level c =
    let a = c.args in
    let s = small a.header.header a.level a.log.now a.header.fits c.requires.some c.requires.level_is c.width-width.ensures in
    record { fits = omega (arith, s.0) }

pub half_at-end-requires : goal.half_at-end-requires
half_at-end-requires c =
    let a = c.args in
    let s = small a.header.header a.level a.log.now a.header.fits c.requires.some c.requires.level_is c.width-width.ensures in
    (omega (arith, s.0), omega arith, s.1)

pub split_at_mut-below-requires : goal.split_at_mut-below-requires
split_at_mut-below-requires c =
    let a = c.args in
    (bounds a.header.header a.level a.log.now a.header.fits c.requires.some c.requires.level_is c.width-width.ensures c.requires.log_len
    c.half_at-start.ensures c.half_at-end.ensures refl).0

pub slice_bounds-split_level-end : goal.slice_bounds-split_level-end
slice_bounds-split_level-end c =
    let a = c.args in
    (bounds a.header.header a.level a.log.now a.header.fits c.requires.some c.requires.level_is c.width-width.ensures c.requires.log_len
    c.half_at-start.ensures c.half_at-end.ensures c.split_at_mut-below.ensures.back).1

pub slice_bounds-split_level-length : goal.slice_bounds-split_level-length
slice_bounds-split_level-length c =
    let a = c.args in
    sym (length-take-le (c.half_at-end.result - c.half_at-start.result) c.split_at_mut-below.result.1.now
    (bounds a.header.header a.level a.log.now a.header.fits c.requires.some c.requires.level_is c.width-width.ensures c.requires.log_len
    c.half_at-start.ensures c.half_at-end.ensures c.split_at_mut-below.ensures.back).1)

pub split_level-requires-clause-level_bound : goal.split_level-requires-clause-level_bound
split_level-requires-clause-level_bound c =
    let a = c.args in
    let s = small a.header.header a.level a.log.now a.header.fits c.requires.some c.requires.level_is c.width-width.ensures in
    (omega (arith, s.0), s.1)

pub split_level-requires-clause-part_len : goal.split_level-requires-clause-part_len
split_level-requires-clause-part_len c =
    let a = c.args in
    lent_long a.header.header a.level a.log.now a.header.fits c.requires.some c.requires.level_is c.width-width.ensures c.requires.log_len
    c.half_at-start.ensures c.half_at-end.ensures c.split_at_mut-below.ensures.back

pub split_level-requires-clause-words : goal.split_level-requires-clause-words
split_level-requires-clause-words c =
    let a = c.args in
    rw (lent_is a.header.header a.level a.log.now a.header.fits c.requires.some c.requires.level_is c.width-width.ensures c.requires.log_len
    c.half_at-start.ensures c.half_at-end.ensures c.split_at_mut-below.ensures.back) c.requires.words

pub returns : goal.returns
returns c =
    let a = c.args in
    split_log a.header.header a.level a.log.now a.header.fits c.requires.some c.requires.level_is c.width-width.ensures c.requires.log_len
    c.half_at-start.ensures c.half_at-end.ensures c.split_at_mut-below.ensures.back c.split_level.ensures.below c.split_level.ensures.part
