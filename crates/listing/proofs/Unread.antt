-- What follows the 256th write is not read. Assumes nothing.
use mathlib.Core.Path.{◌≡◌, refl, sym, ap, ◌∙◌}
use mathlib.Core.Bool.{true, false, ◌&&◌}
use mathlib.Core.List.{List, [], ◌∷◌, ◌++◌}
use Prim.Native.Nat.{ℕ, zero, suc, ◌*◌, ◌-◌, ◌≤◌}
use native.Mathlib.Omega.{arith}
use lib.Dec.{eqb}
use lib.ListN.{length, get_or, drop, length-drop, length-append}
use Rattle.std.proofs.lemmas.List.{take-append-le, drop-append-le}
use Rattle.layout.specs.Header.{is_in}
use Rattle.store.specs.StoreCalls.{write_number}
use Rattle.listing.specs.Listing.{Rack, Filled, stopped, then_fill, pairs, write_size, written, write_of, write_all, zero_rack, text_of}
use Rattle.listing.specs.Promises.{RestUnread}
use Rattle.listing.proofs.Writes.{taken_same, long_enough}
use Rattle.listing.proofs.Outcomes.{Ends, ends_write, then_same}

-- A RACK KEEPS ITS S, whatever is written
abbrev HasWords : (s : ℕ) → Rack → Type 0
HasWords s r = r.header.s ≡ s

abbrev Any : ℕ → Type 0
Any n = Unit {0}

keeps_words : (r : Rack) (bytes : List ℕ) → Ends (HasWords r.header.s) Any (write_of r bytes)
keeps_words r bytes =
    let keeps = λ (a : Rack) (i : ℕ) (b : List ℕ) (e : HasWords r.header.s a) (z : write_number a.header a.held i b ≡ 0).
    (taken_same a.header (eqb (write_number a.header a.held i b) 0) refl).1 ∙ e in
    ends_write (HasWords r.header.s) Any keeps (λ a i b. tt) tt r bytes refl

-- THE FIRST WRITE of more bytes
first_same : (r : Rack) (bytes rest : List ℕ) → write_size r.header.s ≤ length bytes → write_of r (bytes ++ rest) ≡ write_of r bytes
first_same r bytes rest b =
    let size = write_size r.header.s in
    long_enough r (bytes ++ rest) (omega (arith, length-append bytes rest))
    ∙ ap (λ (l : List ℕ). written r (get_or (pairs l) 0 0) (drop 1 (pairs l))) (take-append-le size bytes rest b) ∙ sym (long_enough r bytes b)

-- ALL OF THEM
all_same : (n : ℕ) (r : Rack) (bytes rest : List ℕ) → length bytes ≡ n * write_size r.header.s → write_all n r (bytes ++ rest) ≡ write_all n r bytes
unfolding write_all
all_same zero r bytes rest e = refl
all_same (suc n) r [] rest e = absurd (omega arith)
all_same (suc n) r (x ∷ bytes) rest e =
    let s = r.header.s in
    let size = write_size s in
    let long : size ≤ length (x ∷ bytes) = omega arith in
    let fewer : length (x ∷ bytes) - size ≡ n * size = omega (arith, e) in
    let next = λ (a : Rack). write_all n a (drop size (x ∷ bytes)) in
    ap (λ (f : Filled). then_fill f (λ (a : Rack). write_all n a (drop size (x ∷ (bytes ++ rest))))) (first_same r (x ∷ bytes) rest long)
    ∙ then_same (HasWords s) Any (write_of r (x ∷ bytes)) (λ (a : Rack). write_all n a (drop size (x ∷ (bytes ++ rest)))) next (keeps_words r (x ∷ bytes))
    (λ a k.
    ap (write_all n a) (drop-append-le size (x ∷ bytes) rest long)
    ∙ all_same n a (drop size (x ∷ bytes)) rest (length-drop size (x ∷ bytes) ∙ fewer ∙ ap (λ (m : ℕ). n * write_size m) (sym k)))

pub rest_unread : RestUnread
rest_unread k s writes rest e =
    ap (λ (f : Filled). text_of (elim (is_in 1 5 k && is_in 1 16 s) [ true ↦ f | false ↦ stopped 1 ])) (all_same 256 (zero_rack k s) writes rest e)
