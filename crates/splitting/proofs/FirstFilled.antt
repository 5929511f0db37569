-- The lowest filled level after a write is the level that the write filled, which was the first empty one. Assumes nothing.
use mathlib.Core.Path.{◌≡◌, refl, sym, ap, ◌∙◌}
use mathlib.Core.Logic.{◌≢◌}
use Prim.Native.Nat.{ℕ, zero, suc, ◌/◌, ◌%◌, ◌<◌}
use native.Mathlib.Decide.{dec_lt}
use native.Mathlib.Omega.{arith}
use borrow.Author.Tests.{eq-eqb, ne_eqb}
use Rattle.layout.specs.Header.{first_empty}
use Rattle.layout.proofs.FirstLevel.{empty_next, empty_ends}
use Rattle.splitting.specs.Splitting.{first_filled}

-- one level, by its bit
pub filled_ends : (n l c : ℕ) → c % 2 ≡ 1 → first_filled (suc n) l c ≡ l
unfolding first_filled
filled_ends n l c o = rw (eq-eqb (c % 2) 1 o, first_filled)

pub filled_next : (n l c : ℕ) → c % 2 ≢ 1 → first_filled (suc n) l c ≡ first_filled n (suc l) (c / 2)
unfolding first_filled
filled_next n l c o = rw (ne_eqb (c % 2) 1 o, first_filled)

pub first_filled_lem : (n l c : ℕ) → first_filled n l (suc c) ≡ first_empty n l c
unfolding first_filled first_empty
first_filled_lem zero l c = refl
first_filled_lem (suc n) l c = go (dec_lt 0 (c % 2)) (first_filled_lem n (suc l) (c / 2))
  where
    go : Dec (0 < c % 2) → first_filled n (suc l) (suc (c / 2)) ≡ first_empty n (suc l) (c / 2) → first_filled (suc n) l (suc c) ≡ first_empty (suc n) l c
    go (yes o) rest =
        filled_next n l (suc c) (λ z. omega arith) ∙ ap (first_filled n (suc l)) {x = suc c / 2} {y = suc (c / 2)} (omega arith) ∙ rest
        ∙ sym (empty_next n l c (omega arith))
    go (no e) rest = filled_ends n l (suc c) (omega arith) ∙ sym (empty_ends n l c (omega arith))
