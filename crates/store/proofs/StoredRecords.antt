-- Laws of specs/Buffers: words modulo p, and the lengths and words of blocks and the full stripe. Assumes nothing.
use mathlib.Core.Path.{◌≡◌, refl, sym, ap, ap₂, ◌∙◌}
use mathlib.Core.List.{List, [], ◌∷◌}
use Prim.Native.Nat.{ℕ, zero, suc, ◌+◌, ◌*◌, ◌≤◌, ◌<◌}
use native.Mathlib.Nat.{mod-eq_of_lt, mod-lt, zero-mul}
use native.Mathlib.Omega.{arith}
use lib.ListN.{length, length-append}
use Rattle.field.specs.Words.{Words}
use Rattle.field.proofs.WordLists.{words_nil, words_cons, words_tail, words_append}
use Rattle.code.proofs.CodedRows.{length_coded_rows}
use Rattle.layout.specs.declared.Header.{Header}
use Rattle.layout.specs.Header.{prime_of, vault_root, width, full_size}
use Rattle.layout.specs.Records.{record_in}
use Rattle.store.specs.Buffers.{reduced, blocks_from, blocks_of, full_stripe}
use Rattle.layout.proofs.RecordWords.{length_record}

-- words of the field are their own residues
pub reduced_same : (p : ℕ) (l : List ℕ) → Words p l → reduced p l ≡ l
unfolding reduced
reduced_same p [] u = refl
reduced_same p (x ∷ l) u = ap₂ ◌∷◌ (mod-eq_of_lt (u.word 0)) (reduced_same p l (words_tail u))

pub length_reduced : (p : ℕ) (l : List ℕ) → length (reduced p l) ≡ length l
unfolding reduced
length_reduced p [] = refl
length_reduced p (x ∷ l) = ap suc (length_reduced p l)

pub words_reduced : (p : ℕ) → 0 < p → (l : List ℕ) → Words p (reduced p l)
unfolding reduced
words_reduced p h [] = words_nil p h
words_reduced p h (x ∷ l) = words_cons p h (mod-lt x h) (words_reduced p h l)

-- THE BLOCKS of n records from record i on
pub length_blocks : (p m s : ℕ) (r : List ℕ) (i n : ℕ) → length r ≡ m * s → i + n ≤ m → length (blocks_from p s r i n) ≡ n * suc s
unfolding blocks_from
length_blocks p m s r i zero e h = sym (zero-mul (suc s))
length_blocks p m s r i (suc n) e h =
    ap suc (length-append (reduced p (record_in s r i)) (blocks_from p s r (suc i) n))
    ∙ omega (arith, length_reduced p (record_in s r i), length_record m s r i e (omega arith), length_blocks p m s r (suc i) n e (omega arith))

pub words_blocks : (p s : ℕ) → 0 < p → (r : List ℕ) (i n : ℕ) → i + n ≤ p → Words p (blocks_from p s r i n)
unfolding blocks_from
words_blocks p s h r i zero l = words_nil p h
words_blocks p s h r i (suc n) l =
    words_cons p h (omega arith)
    (words_append p h {a = reduced p (record_in s r i)} (words_reduced p h (record_in s r i)) (words_blocks p s h r (suc i) n (omega arith)))

-- THE FULL STRIPE
pub length_full : (h : Header) (r : List ℕ) → length (full_stripe h r) ≡ full_size h
length_full h r = length_coded_rows (prime_of h) (vault_root h) h.k h.k 0 (width h) (blocks_of h r)
