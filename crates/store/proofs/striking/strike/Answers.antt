-- `store::striking::strike` meets its contract: a write of words of which each is 65536. Assumes nothing.
use mathlib.Core.Path.{◌≡◌, sym, ap, ◌∙◌}
use mathlib.Core.List.{List, ◌∷◌}
use Prim.Native.Nat.{ℕ}
use lib.Dec.{lit<}
use lib.ListN.{take, replicate}
use Rattle.std.proofs.lemmas.List.{take-replicate}
use Rattle.field.specs.Words.{Words}
use Rattle.field.proofs.WordLists.{words_take, words_replicate}
use Rattle.layout.specs.declared.Header.{Header}
use Rattle.layout.specs.Header.{raw_size, full_size, log_size}
use Rattle.layout.proofs.Bounds.{fits}
use Rattle.store.specs.Buffers.{Buffers, buffers}
use Rattle.store.specs.Writing.{written}
use Rattle.store.specs.StoreCalls.{strike_number, strike_leaves}
use Rattle.store.proofs.WriteRefusals.{StrikeTaken, strike_taken, block_in_field, taken_leaves}
use Rattle.store.proofs.striking.strike.Goals as goal

module _ (h : Header) (r f g : List ℕ) (i : ℕ) (z : 0 ≡ strike_number h (buffers r f g) i) where
  told : StrikeTaken h r f g i
  told = strike_taken h r f g i (sym z)

  words : Words 65537 (i ∷ take h.s (replicate 128 65536))
  words = block_in_field h told.fitting i told.within (words_take 65537 (lit< tt) h.s (words_replicate 65537 (lit< tt) 128 65536 (lit< tt)))

  -- what is left, by any of the buffers
  leaves : {v : Header} {x : List ℕ} (part : Buffers → List ℕ) → v ≡ h → x ≡ part (written v (buffers r f g) i (take h.s (replicate 128 65536)))
      → x ≡ part (strike_leaves h (buffers r f g) i)
  leaves part same q = taken_leaves h r f g i part z same (take-replicate h.s 128 65536 (fits h told.fitting).s_high) q

pub invariant_of-block : goal.invariant_of-block
invariant_of-block c =
    let a = c.args in
    record { in_field = words a.header a.raw.now a.full.now a.log.now a.number c.in_ok-valid.ensures.number }

pub enter-requires-clause-raw_len : goal.enter-requires-clause-raw_len
enter-requires-clause-raw_len c =
    let a = c.args in
    let e = c.in_ok-valid.ensures in
    (told a.header a.raw.now a.full.now a.log.now a.number e.number).raw_long ∙ ap raw_size (sym e.same)

pub enter-requires-clause-full_len : goal.enter-requires-clause-full_len
enter-requires-clause-full_len c =
    let a = c.args in
    let e = c.in_ok-valid.ensures in
    (told a.header a.raw.now a.full.now a.log.now a.number e.number).full_long ∙ ap full_size (sym e.same)

pub enter-requires-clause-log_len : goal.enter-requires-clause-log_len
enter-requires-clause-log_len c =
    let a = c.args in
    let e = c.in_ok-valid.ensures in
    (told a.header a.raw.now a.full.now a.log.now a.number e.number).log_long ∙ ap log_size (sym e.same)

pub enter-requires-clause-within : goal.enter-requires-clause-within
enter-requires-clause-within c =
    let a = c.args in
    let e = c.in_ok-valid.ensures in
    rw e.same (told a.header a.raw.now a.full.now a.log.now a.number e.number).within

pub returns-clause-raw_after : goal.returns-clause-raw_after
returns-clause-raw_after c =
    let a = c.args in
    let e = c.in_ok-valid.ensures in
    leaves a.header a.raw.now a.full.now a.log.now a.number e.number (λ u. u.raw) e.same c.enter.ensures.raw_after

pub returns-clause-full_after : goal.returns-clause-full_after
returns-clause-full_after c =
    let a = c.args in
    let e = c.in_ok-valid.ensures in
    leaves a.header a.raw.now a.full.now a.log.now a.number e.number (λ u. u.full) e.same c.enter.ensures.full_after

pub returns-clause-log_after : goal.returns-clause-log_after
returns-clause-log_after c =
    let a = c.args in
    let e = c.in_ok-valid.ensures in
    leaves a.header a.raw.now a.full.now a.log.now a.number e.number (λ u. u.log) e.same c.enter.ensures.log_after
