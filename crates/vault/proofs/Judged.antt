-- THE TABLE OF THE MODEL, with any model: what an event is that it takes, and what a block of s words for one of its records is judged by. Of the model alone.
-- Assumes nothing.
use mathlib.Core.Path.{◌≡◌}
use mathlib.Core.Bool.{Bool, true, false}
use mathlib.Core.List.{List}
use Prim.Native.Nat.{ℕ, zero, suc, ◌^◌, ◌<◌}
use native.Mathlib.Omega.{arith}
use lib.Dec.{eqb, ltb}
use lib.ListN.{length}
use borrow.Author.Tests.{eqb-true, eq-eqb, ltb-true, lt-ltb}
use Rattle.field.proofs.Booleans.{if_else}
use Rattle.layout.specs.Refusals.{Tests, done, test, refusal}
use Rattle.layout.proofs.Refusals.{passes}
use Rattle.vault.specs.Model.{Model, writes, words_fit, judged, strike_judged, back_judged}

-- a write that it takes: its record number is below n, and it has s words, data words
pub record Entered (k s i : ℕ) (b : List ℕ) : Type 0 where
  pub within : i < 2 ^ k
  pub long : length b ≡ s
  pub words : words_fit b ≡ true

pub write_enters : (m : Model) (i : ℕ) (b : List ℕ) (n : ℕ) → judged m i b n ≡ 0 → Entered m.k m.s i b
unfolding refusal
write_enters m i b n e =
    let rest : Tests = test false n done in
    let size = passes (eqb (length b) m.s) 2 (test (ltb i (2 ^ m.k)) 4 (test (words_fit b) 5 rest)) e (omega arith) in
    let number = passes (ltb i (2 ^ m.k)) 4 (test (words_fit b) 5 rest) size.1 (omega arith) in
    record {
      within = ltb-true i (2 ^ m.k) number.0;
      long = eqb-true (length b) m.s size.0;
      words = (passes (words_fit b) 5 rest number.1 (omega arith)).0;
    }

-- a strike
pub strike_within : (m : Model) (i : ℕ) → strike_judged m i ≡ 0 → i < 2 ^ m.k
unfolding refusal
strike_within m i e = ltb-true i (2 ^ m.k) (passes (ltb i (2 ^ m.k)) 4 done e (omega arith)).0

-- a taking-back: there is a write to take back
pub some_write : (m : Model) (scratch : List ℕ) → back_judged m scratch ≡ 0 → 0 < writes m
some_write m scratch e = go (eqb (length scratch) _) (writes m) e
  where
    go : (z : Bool) (c : ℕ) → ◌≡◌ {A = ℕ} (if_else z (if_else (eqb c 0) 12 0) 2) 0 → 0 < c
    go true zero q = absurd (omega arith)
    go true (suc c) q = omega arith
    go false c q = absurd (omega arith)

-- a block of s words for one of its records is judged by its words
pub judged_words : (m : Model) (i : ℕ) (b : List ℕ) (n : ℕ) → length b ≡ m.s → i < 2 ^ m.k → judged m i b n ≡ if_else (words_fit b) n 5
judged_words m i b n e w = rw (eq-eqb (length b) m.s e, lt-ltb i (2 ^ m.k) w, judged)
