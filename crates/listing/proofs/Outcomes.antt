-- What holds of the rack or the number that writes come to, where it holds of the rack before and each write keeps it. Assumes nothing.
use mathlib.Core.Path.{◌≡◌, refl, sym, subst}
use mathlib.Core.Bool.{true, false}
use mathlib.Core.Logic.{⊎_elim}
use mathlib.Core.List.{List, [], ◌∷◌}
use Prim.Native.Nat.{ℕ, zero, suc}
use native.Mathlib.Omega.{arith}
use borrow.Author.Tests.{ltb-true, ltb-false}
use lib.Dec.{ltb}
use lib.ListN.{length, get_or, take, drop}
use Rattle.field.proofs.Booleans.{either}
use Rattle.layout.specs.Refusals.{if_taken}
use Rattle.layout.proofs.Refusals.{if_refused}
use Rattle.store.specs.StoreCalls.{write_number, write_answer, write_leaves}
use Rattle.listing.specs.Listing.{Rack, rack, Filled, stopped, filled, then_fill, pairs, write_size, written, write_of, write_all}
use Rattle.listing.proofs.Writes.{too_short, long_enough}

module _ (P : Rack → Type 0) (Q : ℕ → Type 0) where
  abbrev pub Ends : Filled → Type 0
  Ends (stopped n) = Q n
  Ends (filled r) = P r

  -- a write that is taken keeps it
  abbrev pub Keeps : Type 0
  Keeps = (r : Rack) (i : ℕ) (b : List ℕ) → P r → write_number r.header r.held i b ≡ 0
      → P (rack (write_answer r.header r.held i b).header (write_leaves r.header r.held i b))

  -- and one that is not has such a number
  abbrev pub Stops : Type 0
  Stops = (r : Rack) (i : ℕ) (b : List ℕ) → Q (write_number r.header r.held i b)

  ends_if : (n : ℕ) (x y : Filled) → (n ≡ 0 → Ends x) → Ends y → Ends (if_taken n x y)
  ends_if zero x y p q = p refl
  ends_if (suc n) x y p q = subst Ends (sym (if_refused {n = suc n} x y (λ z. absurd (omega arith)))) q

  pub ends_then : (x : Filled) (f : Rack → Filled) → Ends x → ((a : Rack) → P a → Ends (f a)) → Ends (then_fill x f)
  ends_then (stopped n) f k e = k
  ends_then (filled r) f k e = e r k

  pub then_same : (x : Filled) (f g : Rack → Filled) → Ends x → ((a : Rack) → P a → f a ≡ g a) → then_fill x f ≡ then_fill x g
  then_same (stopped n) f g k e = refl
  then_same (filled r) f g k e = e r k

  module _ (keeps : Keeps) (stops : Stops) (short : Q 2) where
    ends_written : (r : Rack) (i : ℕ) (b : List ℕ) → P r → Ends (written r i b)
    unfolding written
    ends_written r i b p = ends_if (write_number r.header r.held i b) _ _ (keeps r i b p) (stops r i b)

    pub ends_write : (r : Rack) (bytes : List ℕ) → P r → Ends (write_of r bytes)
    ends_write r bytes p =
        let t = ltb (length bytes) (write_size r.header.s) in
        let words = pairs (take (write_size r.header.s) bytes) in
        ⊎_elim
        (λ (e : t ≡ true). subst Ends (sym (too_short r bytes (ltb-true (length bytes) (write_size r.header.s) e))) short)
        (λ (e : t ≡ false). subst Ends (sym (long_enough r bytes (ltb-false (length bytes) (write_size r.header.s) e)))
        (ends_written r (get_or words 0 0) (drop 1 words) p))
        (either t)

    pub ends_all : (n : ℕ) (r : Rack) (bytes : List ℕ) → P r → Ends (write_all n r bytes)
    unfolding write_all
    ends_all zero r bytes p = p
    ends_all (suc n) r [] p = p
    ends_all (suc n) r (x ∷ bytes) p =
        ends_then (write_of r (x ∷ bytes)) _ (ends_write r (x ∷ bytes) p) (λ a q. ends_all n a (drop (write_size r.header.s) (x ∷ bytes)) q)
