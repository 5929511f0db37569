-- `listing::filling::write_all` meets its contract: each turn makes a write. Assumes nothing.
use Rattle.std.proofs.Common.{◌≡◌, sym, ap, ◌∙◌, ℕ, List, ◌<◌, ◌+◌, ◌*◌, ◌-◌, length, take, drop, min, length-drop, take_all, arith}
use Rattle.std.proofs.lemmas.List.{drop_min}
use Rattle.store.specs.Buffers.{buffers}
use Rattle.listing.specs.Listing.{rack, write_size, write_all}
use Rattle.listing.proofs.Writes.{write_turn, writes_done, no_writes, none_left, some_left, stopped_by}
use Rattle.listing.proofs.filling.write_all.Goals as goal

-- the bytes behind a write
behind : (bytes : List ℕ) (s : ℕ) {n : ℕ} → n ≡ min (2 + 2 * s) (length bytes) → take (length bytes - n) (drop n bytes) ≡ drop (write_size s) bytes
behind bytes s {n} e =
    take_all (length bytes - n) (drop n bytes) (omega (arith, length-drop n bytes)) ∙ ap (λ (m : ℕ). drop m bytes) e ∙ drop_min (2 + 2 * s) bytes

pub write_first-requires : goal.write_first-requires
write_first-requires c = omega (arith, c.loop.invariant.s_same)

pub returns-in_err-header-clause-value : goal.returns-in_err-header-clause-value
returns-in_err-header-clause-value c =
    let l = c.loop in
    let v = buffers c.write_first.new.raw c.write_first.new.full c.write_first.new.log in
    let more : l.counter < 256 = omega arith in
    let d = some_left l.rest.now (sym c.if-is_empty.ensures) in
    stopped_by c.in_err-header.field-0.0 c.from_residual.result v c.from_residual.ensures.1
    ∙ sym (write_turn 256 l.counter l.header (buffers l.raw l.full l.log) l.rest.now more d c.in_err-header.ensures.value) ∙ l.invariant.whole

pub loop-preserved : goal.loop-preserved
loop-preserved c =
    let l = c.loop in
    let h = c.in_ok-header.header in
    let v = buffers c.write_first.new.raw c.write_first.new.full c.write_first.new.log in
    let more : l.counter < 256 = omega arith in
    let d = some_left l.rest.now (sym c.if-is_empty.ensures) in
    let same = c.in_ok-header.ensures.same in
    let turn = write_turn 256 l.counter l.header (buffers l.raw l.full l.log) l.rest.now more d c.in_ok-header.ensures.value in
    let size = c.min-made.ensures ∙ ap (λ (s : ℕ). min (2 + 2 * s) (length l.rest.now)) (sym l.invariant.s_same) in
    record {
      k_same = same.0 ∙ l.invariant.k_same;
      s_same = same.1 ∙ l.invariant.s_same;
      whole = ap (write_all (256 - (l.counter + 1)) (rack h v)) (behind l.rest.now l.header.s size) ∙ sym turn ∙ l.invariant.whole;
    }

pub returns-after-loop-clause-value : goal.returns-after-loop-clause-value
returns-after-loop-clause-value c =
    let l = c.loop in
    sym (writes_done 256 l.counter (rack l.header (buffers l.raw l.full l.log)) l.rest.now c.loop-test.false) ∙ l.invariant.whole

pub returns-then-is_empty-clause-value : goal.returns-then-is_empty-clause-value
returns-then-is_empty-clause-value c =
    let l = c.loop in
    let r = rack l.header (buffers l.raw l.full l.log) in
    sym (ap (write_all (256 - l.counter) r) (none_left l.rest.now (sym c.if-is_empty.ensures)) ∙ no_writes (256 - l.counter) r) ∙ l.invariant.whole
