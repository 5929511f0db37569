-- `stripe_decoding::ranges::decode_and_lay` meets its contract, by the laws of proofs/RangeLoop. Assumes nothing.
use Rattle.std.proofs.Common.{◌*◌, ◌∙◌, refl}
use Rattle.code.specs.Stripe.{block_count}
use Rattle.layout.proofs.Refusals.{passed_on, not_zero}
use Rattle.judging.proofs.ColumnRanges.{length_columns}
use Rattle.stripe_decoding.proofs.RangeLoop.{blocks, first_words, same_length, ranging_start, range_stops, range_left, range_placed, range_taken}
use Rattle.stripe_decoding.proofs.RangeLoop.{ranges_ten, ranges_zero, ranges_laid, ranges_left}
use Rattle.stripe_decoding.proofs.ranges.decode_and_lay.Goals.{then-fit, else-fit}
use Rattle.stripe_decoding.proofs.ranges.decode_and_lay.Goals as goal

pub loop-from-init : goal.loop-from-init
loop-from-init g c =
    let st = c.args.ready.vault.valid.stripe in
    let ms = c.args.ready.marks.now in
    rw (← c.store_factors.auto.scratch)
    (ranging_start c.args.content st ms (g.S.Source.words c.args.source) c.args.out.now c.store_factors.new.scratch c.args.ready.vault.fits)

pub returns-in_err-decode_range-clause-value : goal.returns-in_err-decode_range-clause-value
returns-in_err-decode_range-clause-value g c =
    let st = c.args.ready.vault.valid.stripe in
    let ms = c.args.ready.marks.now in
    let R = c.loop-from.invariant in
    let f = rw R.sized at c.range_at-range.ensures in
    passed_on _ c.from_residual.result c.from_residual.ensures.1
    ∙ range_stops c.args.content st ms (g.S.Source.words c.args.source) R f c.in_err-decode_range.ensures.value c.args.ready.ready
    (not_zero c.in_err-decode_range.field-0.0)

pub returns-in_err-decode_range-clause-level_after : goal.returns-in_err-decode_range-clause-level_after
returns-in_err-decode_range-clause-level_after g c w =
    let st = c.args.ready.vault.valid.stripe in
    let ms = c.args.ready.marks.now in
    let R = c.loop-from.invariant in
    let f = rw R.sized at c.range_at-range.ensures in
    range_left c.args.content st ms (g.S.Source.words c.args.source) R f c.in_err-decode_range.ensures.value c.args.ready.ready
    (not_zero c.in_err-decode_range.field-0.0) c.requires.out_len w

pub lay_range-requires-clause-placed : goal.lay_range-requires-clause-placed
lay_range-requires-clause-placed g c =
    let st = c.args.ready.vault.valid.stripe in
    let ms = c.args.ready.marks.now in
    let a = c.args in
    let ws = g.S.Source.words a.source in
    let range = c.range_at-range.result in
    let R = c.loop-from.invariant in
    let f = rw R.sized at c.range_at-range.ensures in
    let d = c.in_ok-decode_range.ensures in
    let q = first_words range.cols _ _ c.block_count-blocks.ensures (length_columns st.width range.from range.cols (block_count st) (blocks st ms ws))
    (d.part_after refl) in
    range_placed a.content st ms ws R f d.value refl q c.judge-fit.ensures.fits_after c.judge-fit.ensures.value
    c.args.ready.vault.fits c.requires.out_len c.requires.level_room c.if-fit.true

pub loop-from-preserved : goal.loop-from-preserved
loop-from-preserved g c =
    let st = c.args.ready.vault.valid.stripe in
    let ms = c.args.ready.marks.now in
    let a = c.args in
    let ws = g.S.Source.words a.source in
    let range = c.range_at-range.result in
    let R = c.loop-from.invariant in
    let f = rw R.sized at c.range_at-range.ensures in
    let d = c.in_ok-decode_range.ensures in
    let q = first_words range.cols _ _ c.block_count-blocks.ensures (length_columns st.width range.from range.cols (block_count st) (blocks st ms ws))
    (d.part_after refl) in
    range_taken a.content st ms ws R f d.value refl q c.judge-fit.ensures.fits_after c.judge-fit.ensures.value
    c.args.ready.vault.fits c.requires.out_len c.requires.level_room
    (same_length (c.position_count-positions.result * range.cols) c.loop-from.scratch c.decode_range.new.part
    (rw c.position_count-positions.ensures c.range_at-range.ensures.inside) c.decode_range.auto.part)
    c.if-fit.auto.out
    (λ t. elim c.if-fit.branch [ then-fit w ↦ w.out-is ∙ w.lay_range.ensures | else-fit w ↦ cc ])
    (λ t. elim c.if-fit.branch [ then-fit w ↦ cc | else-fit w ↦ w.out-is ])

pub returns-then-fit-2-clause-value : goal.returns-then-fit-2-clause-value
returns-then-fit-2-clause-value g c =
    let st = c.args.ready.vault.valid.stripe in
    let ms = c.args.ready.marks.now in
    ranges_zero c.args.content st ms (g.S.Source.words c.args.source) c.loop-from.invariant c.loop-from-test.false c.args.ready.ready
    c.if-fit-2.true

pub returns-then-fit-2-clause-out_after : goal.returns-then-fit-2-clause-out_after
returns-then-fit-2-clause-out_after g c _ =
    let st = c.args.ready.vault.valid.stripe in
    let ms = c.args.ready.marks.now in
    ranges_laid c.args.content st ms (g.S.Source.words c.args.source) c.loop-from.invariant c.loop-from-test.false c.args.ready.ready
    c.if-fit-2.true c.requires.out_len

pub returns-else-fit-2-clause-value : goal.returns-else-fit-2-clause-value
returns-else-fit-2-clause-value g c =
    let st = c.args.ready.vault.valid.stripe in
    let ms = c.args.ready.marks.now in
    ranges_ten c.args.content st ms (g.S.Source.words c.args.source) c.loop-from.invariant c.loop-from-test.false c.args.ready.ready
    c.if-fit-2.false

pub returns-then-fit-2-clause-level_after : goal.returns-then-fit-2-clause-level_after
returns-then-fit-2-clause-level_after g c _ =
    let st = c.args.ready.vault.valid.stripe in
    let ms = c.args.ready.marks.now in
    ranges_laid c.args.content st ms (g.S.Source.words c.args.source) c.loop-from.invariant c.loop-from-test.false c.args.ready.ready
    c.if-fit-2.true c.requires.out_len

pub returns-else-fit-2-clause-level_after : goal.returns-else-fit-2-clause-level_after
returns-else-fit-2-clause-level_after g c w =
    let st = c.args.ready.vault.valid.stripe in
    let ms = c.args.ready.marks.now in
    ranges_left c.args.content st ms (g.S.Source.words c.args.source) c.loop-from.invariant c.loop-from-test.false c.args.ready.ready
    c.if-fit-2.false w
