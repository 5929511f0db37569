-- `store::writing::write` meets its contract. Assumes nothing.
use mathlib.Core.Path.{◌≡◌, refl, sym, ap, ◌∙◌}
use mathlib.Core.Bool.{not}
use mathlib.Core.List.{List, ◌∷◌}
use Prim.Native.Nat.{ℕ}
use Rattle.field.specs.Words.{Words}
use Rattle.layout.specs.declared.Header.{Header}
use Rattle.layout.specs.Header.{raw_size, full_size, log_size}
use Rattle.layout.specs.Records.{is_blank}
use Rattle.layout.specs.Refusals.{done, test}
use Rattle.layout.proofs.RecordWords.{data_words, field_words}
use Rattle.store.specs.Buffers.{Buffers, buffers}
use Rattle.store.specs.Writing.{written}
use Rattle.store.specs.StoreCalls.{write_number, write_leaves}
use Rattle.store.proofs.WriteRefusals.{WriteTaken, write_taken, block_in_field, taken_leaves}
use Rattle.store.proofs.writing.write.Goals as goal

module _ (h : Header) (r f g : List ℕ) (i : ℕ) (b : List ℕ) (z : 0 ≡ write_number h (buffers r f g) i b) where
  told : WriteTaken h r f g i b
  told = write_taken h r f g i b (test (not (is_blank b)) 11 done) (sym z)

  words : Words 65537 (i ∷ b)
  words = block_in_field h told.fitting i told.within (field_words (data_words b told.words))

  -- what is left, by any of the buffers
  leaves : {v : Header} {x : List ℕ} (part : Buffers → List ℕ) → v ≡ h → x ≡ part (written v (buffers r f g) i b)
      → x ≡ part (write_leaves h (buffers r f g) i b)
  leaves part same q = taken_leaves h r f g i {d = b} part z same refl q

pub invariant_of-block : goal.invariant_of-block
invariant_of-block c =
    let a = c.args in
    record { in_field = words a.header a.raw.now a.full.now a.log.now a.number a.block.now c.in_ok-valid.ensures.number }

pub enter-requires-clause-raw_len : goal.enter-requires-clause-raw_len
enter-requires-clause-raw_len c =
    let a = c.args in
    let e = c.in_ok-valid.ensures in
    (told a.header a.raw.now a.full.now a.log.now a.number a.block.now e.number).raw_long ∙ ap raw_size (sym e.same)

pub enter-requires-clause-full_len : goal.enter-requires-clause-full_len
enter-requires-clause-full_len c =
    let a = c.args in
    let e = c.in_ok-valid.ensures in
    (told a.header a.raw.now a.full.now a.log.now a.number a.block.now e.number).full_long ∙ ap full_size (sym e.same)

pub enter-requires-clause-log_len : goal.enter-requires-clause-log_len
enter-requires-clause-log_len c =
    let a = c.args in
    let e = c.in_ok-valid.ensures in
    (told a.header a.raw.now a.full.now a.log.now a.number a.block.now e.number).log_long ∙ ap log_size (sym e.same)

pub enter-requires-clause-block_len : goal.enter-requires-clause-block_len
enter-requires-clause-block_len c =
    let a = c.args in
    let e = c.in_ok-valid.ensures in
    (told a.header a.raw.now a.full.now a.log.now a.number a.block.now e.number).block_long ∙ ap (λ (h : Header). h.s) (sym e.same)

pub enter-requires-clause-within : goal.enter-requires-clause-within
enter-requires-clause-within c =
    let a = c.args in
    let e = c.in_ok-valid.ensures in
    rw e.same (told a.header a.raw.now a.full.now a.log.now a.number a.block.now e.number).within

pub returns-clause-raw_after : goal.returns-clause-raw_after
returns-clause-raw_after c =
    let a = c.args in
    let e = c.in_ok-valid.ensures in
    leaves a.header a.raw.now a.full.now a.log.now a.number a.block.now e.number (λ u. u.raw) e.same c.enter.ensures.raw_after

pub returns-clause-full_after : goal.returns-clause-full_after
returns-clause-full_after c =
    let a = c.args in
    let e = c.in_ok-valid.ensures in
    leaves a.header a.raw.now a.full.now a.log.now a.number a.block.now e.number (λ u. u.full) e.same c.enter.ensures.full_after

pub returns-clause-log_after : goal.returns-clause-log_after
returns-clause-log_after c =
    let a = c.args in
    let e = c.in_ok-valid.ensures in
    leaves a.header a.raw.now a.full.now a.log.now a.number a.block.now e.number (λ u. u.log) e.same c.enter.ensures.log_after
