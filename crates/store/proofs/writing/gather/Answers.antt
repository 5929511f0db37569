-- `store::writing::gather` meets its contract, by the loop that gathers of proofs/Gathering. Assumes nothing.
use mathlib.Core.Path.{◌≡◌, refl, sym, ap, ◌∙◌, subst}
use mathlib.Core.List.{List, ◌∷◌}
use Prim.Native.Nat.{ℕ, suc, ◌+◌, ◌*◌, ◌-◌, ◌^◌, ◌≤◌, ◌<◌}
use native.Mathlib.Omega.{arith}
use native.Mathlib.Numerals.{add-one}
use borrow.Rule.Slice.PartMut.{put_mid}
use lib.ListN.{length, take, drop}
use lib.Seq.{sets}
use Rattle.code.proofs.Shapes.{length_scaled}
use Rattle.store.specs.Buffers.{reduced}
use Rattle.store.specs.steps.Writing.{half_start, gathered}
use Rattle.store.proofs.Stores.{put_over}
use Rattle.store.proofs.Gathering.{GatherLoop, gather_turn, gather_done, gather_high, gather_room, rows_double}
use Rattle.store.proofs.writing.gather.Goals as goal

-- the halves end at `end`, and what is left of them stands before it
module _ {width : ℕ} {log₀ : List ℕ} {level half : ℕ} {log : List ℕ} {end l a n : ℕ} (h : GatherLoop width log₀ level half log (end - 2 ^ l * width) l)
    (ea : a ≡ half_start width level half) (en : n ≡ 2 ^ level) (e : end ≡ a + n * width) where
  end_is : end - 2 ^ l * width + 2 ^ l * width ≡ end
  end_is = h.at_is ∙ sym (e ∙ rw (ea, en))

  inside : end ≤ length log
  inside = omega (arith, end_is, gather_high h)

  -- a turn that is taken copies the level before l
  module _ (b : 0 < l) where
    down : l ≡ suc (l - 1)
    down = omega arith

    here : GatherLoop width log₀ level half log (end - 2 ^ l * width) (suc (l - 1))
    here = subst (GatherLoop width log₀ level half log (end - 2 ^ l * width)) down h

    double : 2 ^ l * width ≡ 2 ^ (l - 1) * width + 2 ^ (l - 1) * width
    double = ap (λ (i : ℕ). 2 ^ i * width) down ∙ rows_double width (l - 1)

    module _ {m : ℕ} (em : m ≡ 2 ^ (l - 1)) where
      at_is : end - 2 * (m * width) ≡ end - 2 ^ l * width
      at_is = rw em (omega (arith, double))

      enough : 2 * (m * width) ≤ end
      enough = rw em (omega (arith, double, end_is))

      room : {from : ℕ} → from ≡ half_start width (l - 1) half
          → (from + m * width ≤ end - 2 * (m * width)) × (end - 2 * (m * width) + m * width ≤ length log)
      room ef =
          let r = gather_room (l - 1) here ef (ap (λ (i : ℕ). i * width) em) in
          rw at_is (r.0, omega (arith, r.1))

      turn : {from : ℕ} {log' : List ℕ} → from ≡ half_start width (l - 1) half
          → log' ≡ sets log (end - 2 * (m * width)) (reduced 65537 (take (m * width) (drop from log)))
          → GatherLoop width log₀ level half log' (end - 2 ^ (l - 1) * width) (l - 1)
      turn ef el =
          let at : end - 2 ^ l * width + m * width ≡ end - 2 ^ (l - 1) * width = rw em (omega (arith, double, end_is)) in
          rw at at (gather_turn (l - 1) here ef (ap (λ (i : ℕ). i * width) em) (rw at_is at el))

  -- and the block's row is the last
  last_row : l ≤ 0 → {row row' : List ℕ} {w : ℕ} → width ≡ w → length row ≡ w → row' ≡ row
      → put_mid (end - width) (end - (end - width)) log row' ≡ sets log₀ (half_start w level half) (gathered 65537 w log₀ half row level)
  last_row b {row} ew er eq =
      let z : l ≡ 0 = omega arith in
      let one : 2 ^ l * width ≡ width = ap (λ (i : ℕ). 2 ^ i * width) z ∙ omega arith in
      rw eq (put_over (end - width) (end - (end - width)) log row (omega (arith, one, end_is, er, ew)) (omega (arith, inside)))
      ∙ ap (λ (i : ℕ). sets log (end - i) row) (sym one) ∙ gather_done h b row
      ∙ ap (λ (w : ℕ). sets log₀ (half_start w level half) (gathered 65537 w log₀ half row level)) ew

pub overflow_sub-end : goal.overflow_sub-end
overflow_sub-end g c = enough c.loop-l.invariant c.half_at.ensures c.two_to.ensures refl c.loop-l-test.true c.two_to-in-loop-l.ensures

pub copy_reduced-requires-clause-count_bound : goal.copy_reduced-requires-clause-count_bound
copy_reduced-requires-clause-count_bound g c =
    (room c.loop-l.invariant c.half_at.ensures c.two_to.ensures refl c.loop-l-test.true c.two_to-in-loop-l.ensures c.half_at-in-loop-l.ensures).0

pub copy_reduced-requires-clause-count_in_bounds : goal.copy_reduced-requires-clause-count_in_bounds
copy_reduced-requires-clause-count_in_bounds g c =
    (room c.loop-l.invariant c.half_at.ensures c.two_to.ensures refl c.loop-l-test.true c.two_to-in-loop-l.ensures c.half_at-in-loop-l.ensures).1

pub loop-l-preserved : goal.loop-l-preserved
loop-l-preserved g c =
    turn c.loop-l.invariant c.half_at.ensures c.two_to.ensures refl c.loop-l-test.true c.two_to-in-loop-l.ensures c.half_at-in-loop-l.ensures
    c.copy_reduced.ensures

pub offset_bounds-log-end : goal.offset_bounds-log-end
offset_bounds-log-end g c = omega (arith, inside c.loop-l.invariant c.half_at.ensures c.two_to.ensures refl)

pub slice_bounds-put_row-end : goal.slice_bounds-put_row-end
slice_bounds-put_row-end g c = omega (arith, inside c.loop-l.invariant c.half_at.ensures c.two_to.ensures refl)

pub returns : goal.returns
returns g c =
    last_row c.loop-l.invariant c.half_at.ensures c.two_to.ensures refl c.loop-l-test.false (add-one (length c.args.block.words.now))
    (length_scaled 65537 (g.F.Factor.value c.args.factor) (c.args.block.number ∷ c.args.block.words.now)) c.put_row.ensures
