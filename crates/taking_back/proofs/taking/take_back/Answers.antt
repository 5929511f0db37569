-- `taking_back::taking::take_back` meets its contract, by the laws of proofs/BackRefusals. Assumes nothing.
use mathlib.Core.Path.{sym, ap, ◌∙◌}
use Prim.Native.Nat.{ℕ, ◌*◌}
use lib.ListN.{replicate}
use Rattle.layout.specs.Header.{scratch_size}
use Rattle.layout.proofs.Refusals.{if_taken_lem}
use Rattle.store.specs.Buffers.{buffers}
use Rattle.taking_back.proofs.BackRefusals.{back_passed}
use Rattle.taking_back.proofs.taking.take_back.Goals as goal

pub take_last-answer-requires-clause-some : goal.take_last-answer-requires-clause-some
take_last-answer-requires-clause-some c =
    let a = c.args in
    let v = c.in_ok-valid.ensures in
    rw v.same (back_passed a.header (buffers a.raw.now a.full.now a.log.now) a.scratch.now (sym v.number)).some

pub take_last-answer-requires-clause-lengths : goal.take_last-answer-requires-clause-lengths
take_last-answer-requires-clause-lengths c =
    let a = c.args in
    let v = c.in_ok-valid.ensures in
    rw v.same (back_passed a.header (buffers a.raw.now a.full.now a.log.now) a.scratch.now (sym v.number)).sized

pub take_last-answer-requires-clause-scratch_len : goal.take_last-answer-requires-clause-scratch_len
take_last-answer-requires-clause-scratch_len c =
    let a = c.args in
    let v = c.in_ok-valid.ensures in
    rw v.same (back_passed a.header (buffers a.raw.now a.full.now a.log.now) a.scratch.now (sym v.number)).room

pub returns-then-is_err-clause-scratch_after : goal.returns-then-is_err-clause-scratch_after
returns-then-is_err-clause-scratch_after c =
    let a = c.args in
    let v = c.in_ok-valid.ensures in
    let room = (back_passed a.header (buffers a.raw.now a.full.now a.log.now) a.scratch.now (sym v.number)).room in
    c.fill.ensures.after (λ y e. e) ∙ ap (λ (n : ℕ). replicate n 0) (c.take_last-answer.auto.scratch ∙ room)
    ∙ sym (if_taken_lem (replicate (2 * scratch_size a.header) 0) a.scratch.now (sym v.number))
