-- `decoder::decoding::count_erased` meets its contract. Assumes nothing.
use mathlib.Core.Path.{◌≡◌, sym, ap, ap₂, ◌∙◌}
use mathlib.Core.Bool.{Bool, false}
use mathlib.Core.List.{List}
use mir.Val.{bool_byte}
use Rattle.std.proofs.Common.{arith, ◌^◌, suc, ℕ, ◌+◌, ◌≤◌, ◌<◌, length, take, get_or}
use lib.Pow.{pow_mono}
use lib.Seq.{length-take-le}
use Rattle.code.proofs.Shapes.{positions}
use Rattle.logarithms.specs.Weights.{erased_to}
use Rattle.decoder.proofs.Survivors.{erased_zero, mark_added, no_more_erased, count}
use Rattle.decoder.proofs.decoding.count_erased.Goals as goal

-- all positions are looked at; and one mark more is counted
looked_at : {n k : ℕ} (ms : List Bool) → n ≡ k → k ≤ length ms → length (take n ms) ≡ n
looked_at {n} ms e b = length-take-le n ms (omega (arith, e, b))

one_more : (ms : List Bool) (m i : ℕ) {x y : ℕ} → x ≡ erased_to ms i → y ≡ bool_byte (get_or (take m ms) i false) → i < m → x + y ≡ erased_to ms (i + 1)
one_more ms m i e f b = ap₂ ◌+◌ e f ∙ sym (mark_added ms m i b)

pub loop-mark-init : goal.loop-mark-init
loop-mark-init c = sym (erased_zero c.args.marks.now)

pub overflow_add-erased : goal.overflow_add-erased
overflow_add-erased c =
    let ms = c.args.marks.now in
    let i = c.loop-mark.mark-index in
    let all = positions c.args.level c.two_to-positions.ensures in
    let inside = looked_at ms all c.requires.level_in_bounds in
    record {
      fits = omega (
        arith,
        one_more ms c.two_to-positions.result i c.loop-mark.invariant c.from-erased.ensures (omega (arith, inside)),
        no_more_erased ms (i + 1),
        inside,
        all,
        pow_mono {i = suc c.args.level} {j = 16} (omega (arith, c.requires.level_bound)),
      );
    }

pub loop-mark-preserved : goal.loop-mark-preserved
loop-mark-preserved c =
    let ms = c.args.marks.now in
    let inside = looked_at ms (positions c.args.level c.two_to-positions.ensures) c.requires.level_in_bounds in
    one_more ms c.two_to-positions.result c.loop-mark.mark-index c.loop-mark.invariant c.from-erased.ensures (omega (arith, inside))

pub returns : goal.returns
returns c =
    let ms = c.args.marks.now in
    let all = positions c.args.level c.two_to-positions.ensures in
    c.loop-mark.invariant ∙ ap (erased_to ms) {y = 2 ^ suc c.args.level} (omega (arith, looked_at ms all c.requires.level_in_bounds, all))
    ∙ sym (count ms c.args.level)
