-- Laws of what specs/Listing says of bytes and writes: the words of bytes, and what a call on the vault makes of a rack. Assumes nothing.
use mathlib.Core.Path.{◌≡◌, refl, sym, ap, ap₂, ◌∙◌}
use mathlib.Core.Bool.{Bool, true, false}
use mathlib.Core.List.{List, [], ◌∷◌, ◌++◌}
use Prim.Native.Nat.{ℕ, zero, suc, ◌+◌, ◌*◌, ◌-◌, ◌≤◌, ◌<◌}
use native.Mathlib.Omega.{arith}
use lib.ListN.{length, get_or, take, drop}
use lib.Seq.{take-append_seam, length-take-le}
use borrow.Author.Tests.{lt-ltb, le-ltb, eqb-true}
use lib.Dec.{eqb}
use Rattle.std.specs.Prelude.{◌==◌, Result, Ok, Err, IfOk, IsErrAnd}
use Rattle.std.proofs.lemmas.Bool.{false≢true}
use Rattle.std.proofs.lemmas.Result.{err_from_is_err_and}
use Rattle.layout.specs.declared.Header.{Header}
use Rattle.layout.specs.declared.refusal.Refusal.{Refusal}
use Rattle.layout.specs.Refusals.{number_of}
use Rattle.layout.proofs.Refusals.{not_zero, if_taken_lem, if_refused}
use Rattle.store.specs.Buffers.{Buffers, buffers}
use Rattle.store.specs.Writing.{next_header}
use Rattle.store.specs.StoreCalls.{Written, write_number, written_as, write_answer, write_leaves}
use Rattle.listing.specs.Listing.{Rack, rack, Filled, stopped, filled, filled_as, then_fill, pairs, write_size, written, write_of, write_all}

-- THE WORDS of bytes
pub length_pairs : (bytes : List ℕ) (n : ℕ) → length bytes ≡ 2 * n → length (pairs bytes) ≡ n
unfolding pairs
length_pairs [] n e = omega arith
length_pairs (a ∷ []) n e = absurd (omega arith)
length_pairs (a ∷ b ∷ bs) zero e = absurd (omega arith)
length_pairs (a ∷ b ∷ bs) (suc n) e = ap suc (length_pairs bs n (omega arith))

pub pair_at : (bytes : List ℕ) (i at : ℕ) → at ≡ 2 * i → suc at < length bytes
    → get_or (pairs bytes) i 0 ≡ get_or bytes at 0 + 256 * get_or bytes (suc at) 0
unfolding pairs
pair_at [] i at e b = absurd (omega arith)
pair_at (x ∷ []) i at e b = absurd (omega arith)
pair_at (x ∷ y ∷ bs) zero zero e b = refl
pair_at (x ∷ y ∷ bs) zero (suc at) e b = absurd (omega arith)
pair_at (x ∷ y ∷ bs) (suc i) zero e b = absurd (omega arith)
pair_at (x ∷ y ∷ bs) (suc i) (suc zero) e b = absurd (omega arith)
pair_at (x ∷ y ∷ bs) (suc i) (suc (suc at)) e b = pair_at bs i at (omega arith) (omega arith)

-- A WRITE, by what the call says of it
pub taken_same : (h : Header) (t : Bool) {after : Header} → after ≡ elim t [ true ↦ next_header h | false ↦ h ] → (after.k ≡ h.k) × (after.s ≡ h.s)
taken_same h true e = (ap (λ (x : Header). x.k) e, ap (λ (x : Header). x.s) e)
taken_same h false e = (ap (λ (x : Header). x.k) e, ap (λ (x : Header). x.s) e)

module _ (h : Header) (u : Buffers) (i : ℕ) (b : List ℕ) where
  pub header_same : (r : Result Header Refusal) → written_as h r ≡ write_answer h u i b → IfOk r (λ a. (a.k ≡ h.k) × (a.s ≡ h.s))
  header_same (Ok after) e = taken_same h (eqb (write_number h u i b) 0) (ap (λ (x : Written). x.header) e)
  header_same (Err x) e = tt

  pub write_told : (v : Buffers) → v ≡ write_leaves h u i b → (r : Result Header Refusal) → written_as h r ≡ write_answer h u i b
      → filled_as r v ≡ written (rack h u) i b
  unfolding written
  write_told v w (Ok after) e =
      let n : write_number h u i b ≡ 0 = sym (ap (λ (x : Written). x.number) e) in
      ap₂ (λ (a : Header) (x : Buffers). filled (rack a x)) (ap (λ (x : Written). x.header) e) w ∙ sym (if_taken_lem _ _ n)
  write_told v w (Err x) e =
      let n : number_of x ≡ write_number h u i b = ap (λ (x : Written). x.number) e in
      ap stopped n ∙ sym (if_refused _ _ (λ z. not_zero x (n ∙ z)))

-- THE FIRST WRITE of some bytes
module _ (r : Rack) (bytes : List ℕ) where
  pub too_short : length bytes < write_size r.header.s → write_of r bytes ≡ stopped 2
  unfolding write_of
  too_short b = rw (lt-ltb (length bytes) (write_size r.header.s) b, write_of)

  pub long_enough : write_size r.header.s ≤ length bytes
      → write_of r bytes ≡ written r (get_or (pairs (take (write_size r.header.s) bytes)) 0 0) (drop 1 (pairs (take (write_size r.header.s) bytes)))
  unfolding write_of
  long_enough b = rw (le-ltb (length bytes) (write_size r.header.s) b, write_of)

-- the words of it, which are stored before others
pub number_stored : (x z : List ℕ) → 0 < length x → get_or (x ++ z) 0 0 ≡ get_or x 0 0
number_stored [] z b = absurd (omega arith)
number_stored (y ∷ x) z b = refl

pub block_stored : (x z : List ℕ) (w : ℕ) → length x ≡ suc w → take w (drop 1 (x ++ z)) ≡ drop 1 x
block_stored [] z w e = absurd (omega arith)
block_stored (y ∷ x) z w e = ap (λ (n : ℕ). take n (x ++ z)) {x = w} {y = length x} (omega arith) ∙ take-append_seam x z

pub first_made : (r : Rack) (bytes : List ℕ) {x : List ℕ} (z : List ℕ) → 2 * (r.header.s + 1) ≤ length bytes → x ≡ pairs (take (2 * (r.header.s + 1)) bytes)
    → written r (get_or (x ++ z) 0 0) (take (r.header.s + 1 - 1) (drop 1 (x ++ z))) ≡ write_of r bytes
first_made r bytes {x} z b e =
    let s = r.header.s in
    let size : 2 * (s + 1) ≡ write_size s = omega arith in
    let lent : length (take (2 * (s + 1)) bytes) ≡ 2 * suc s = length-take-le (2 * (s + 1)) bytes b ∙ omega arith in
    let long : length x ≡ suc s = ap length e ∙ length_pairs (take (2 * (s + 1)) bytes) (suc s) lent in
    let is : x ≡ pairs (take (write_size s) bytes) = e ∙ ap (λ (n : ℕ). pairs (take n bytes)) size in
    let w : s + 1 - 1 ≡ s = omega arith in
    ap₂ (written r) (number_stored x z (omega arith) ∙ ap (λ (y : List ℕ). get_or y 0 0) is)
    (ap (λ (n : ℕ). take n (drop 1 (x ++ z))) w ∙ block_stored x z s long ∙ ap (drop 1) is)
    ∙ sym (long_enough r bytes (omega arith))

pub same_buffers : (v : Buffers) {r f g : List ℕ} → r ≡ v.raw → f ≡ v.full → g ≡ v.log → buffers r f g ≡ v
same_buffers v {f = f} {g} er ef eg =
    ap (λ (x : List ℕ). buffers x f g) er ∙ ap (λ (x : List ℕ). buffers v.raw x g) ef ∙ ap (buffers v.raw v.full) eg

-- ALL WRITES, at most n: i are made
module _ (n i : ℕ) (r : Rack) where
  pub writes_next : (bytes : List ℕ) → i < n → (bytes ≡ [] → ⊥)
      → write_all (n - i) r bytes ≡ then_fill (write_of r bytes) (λ (after : Rack). write_all (n - (i + 1)) after (drop (write_size r.header.s) bytes))
  unfolding write_all
  writes_next [] b d = absurd (d refl)
  writes_next (x ∷ bytes) b d = let e : n - i ≡ suc (n - (i + 1)) = omega arith in ap (λ (m : ℕ). write_all m r (x ∷ bytes)) e

  pub writes_done : (bytes : List ℕ) → n ≤ i → write_all (n - i) r bytes ≡ filled r
  unfolding write_all
  writes_done bytes b = let e : n - i ≡ 0 = omega arith in ap (λ (m : ℕ). write_all m r bytes) e

pub no_writes : (m : ℕ) (r : Rack) → write_all m r [] ≡ filled r
unfolding write_all
no_writes zero r = refl
no_writes (suc m) r = refl

-- one more of them is made, or stops it
module _ (n i : ℕ) (h : Header) (u : Buffers) (bytes : List ℕ) (b : i < n) (d : bytes ≡ [] → ⊥) where
  pub write_turn : {f : Filled} → f ≡ write_of (rack h u) bytes
      → write_all (n - i) (rack h u) bytes ≡ then_fill f (λ (after : Rack). write_all (n - (i + 1)) after (drop (write_size h.s) bytes))
  write_turn e =
      writes_next n i (rack h u) bytes b d
      ∙ ap (λ (x : Filled). then_fill x (λ (after : Rack). write_all (n - (i + 1)) after (drop (write_size h.s) bytes))) (sym e)

-- bytes that are left
pub none_left : (bytes : List ℕ) → (length bytes == 0) ≡ true → bytes ≡ []
none_left [] e = refl
none_left (x ∷ bytes) e = absurd (omega (arith, eqb-true (length (x ∷ bytes)) 0 e))

pub some_left : (bytes : List ℕ) → (length bytes == 0) ≡ false → bytes ≡ [] → ⊥
some_left [] e z = false≢true (sym e)
some_left (x ∷ bytes) e z = absurd (omega (arith, ap length z))

-- a refusal that is passed on
pub stopped_by : (x : Refusal) (r : Result Header Refusal) (u : Buffers) → IsErrAnd r (λ y. y ≡ x) → filled_as r u ≡ stopped (number_of x)
stopped_by x r u i = let p = err_from_is_err_and r i in rw (p.1, p.2) refl
