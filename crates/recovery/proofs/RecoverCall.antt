-- What the stripes come to where they stop. Assumes nothing.
use mathlib.Core.Path.{◌≡◌, refl, ap}
use Prim.Native.Nat.{ℕ}
use lib.ListN.{replicate}
use Rattle.recovery.specs.Verdicts.{Verdict}
use Rattle.recovery.specs.Recovery.{Recovered, stopped, recovered}
use Rattle.recovery.specs.RecoveryCall.{answer_of, recovered_words}

-- where it stops the words are zeros
pub stopped_words : (x : Recovered) {a : Verdict} (size : ℕ) → a ≡ answer_of x → (a.number ≡ 0 → ⊥) → recovered_words x size ≡ replicate size 0
stopped_words (stopped n l) size e d = refl
stopped_words (recovered r) size e d = absurd (d (ap (λ (y : Verdict). y.number) e))
