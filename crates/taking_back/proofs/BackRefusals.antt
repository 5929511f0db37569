-- Tests 1, 2 and 12 of the call `take_back`: what holds where none of them applies. Assumes nothing.
use mathlib.Core.Path.{◌≡◌}
use mathlib.Core.Bool.{true, ◌&&◌}
use mathlib.Core.List.{List}
use Prim.Native.Nat.{ℕ, ◌*◌, ◌<◌}
use native.Mathlib.Omega.{arith}
use borrow.Author.Tests.{eqb-true, ltb-true}
use lib.Dec.{ltb, eqb}
use lib.ListN.{length}
use Rattle.field.proofs.Booleans.{first_true, second_true}
use Rattle.layout.specs.declared.Header.{Header}
use Rattle.layout.specs.Header.{header_fits, scratch_size}
use Rattle.layout.specs.Refusals.{Tests, done, test}
use Rattle.layout.proofs.Refusals.{passes}
use Rattle.store.specs.Buffers.{Buffers}
use Rattle.store.specs.StoreCalls.{buffers_fit}
use Rattle.taking_back.specs.TakeBackCall.{take_back_early}

pub record Passed (h : Header) (u : Buffers) (s : List ℕ) : Type 0 where
  pub fitting : header_fits h ≡ true
  pub sized : buffers_fit h u ≡ true
  pub room : length s ≡ 2 * scratch_size h
  pub some : 0 < h.c

pub back_passed : (h : Header) (u : Buffers) (s : List ℕ) → take_back_early h u s ≡ 0 → Passed h u s
back_passed h u s z =
    let last : Tests = test (ltb 0 h.c) 12 done in
    let long = eqb (length s) (2 * scratch_size h) in
    let one = passes (header_fits h) 1 (test (buffers_fit h u && long) 2 last) z (omega arith) in
    let two = passes (buffers_fit h u && long) 2 last one.1 (omega arith) in
    record {
      fitting = one.0;
      sized = first_true (buffers_fit h u) long two.0;
      room = eqb-true (length s) (2 * scratch_size h) (second_true (buffers_fit h u) long two.0);
      some = ltb-true 0 h.c (passes (ltb 0 h.c) 12 done two.1 (omega arith)).0;
    }
