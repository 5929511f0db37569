-- Words copied modulo p, and parts that are written over. Assumes nothing.
use mathlib.Core.Path.{◌≡◌, refl, sym, ap, ◌∙◌}
use mathlib.Core.List.{List, [], ◌∷◌, ◌++◌, append-nil}
use Prim.Native.Nat.{ℕ, zero, suc, ◌+◌, ◌-◌, ◌%◌, ◌≤◌, ◌<◌}
use native.Mathlib.Omega.{arith}
use borrow.Rule.Slice.PartMut.{put_mid}
use lib.ListN.{length, get_or, set, take, drop, length-drop, drop_of_length-le}
use lib.Seq.{sets, sets-eq, length-take-le}
use Rattle.std.proofs.lemmas.List.{append_assoc, drop-drop}
use Rattle.layout.proofs.CopiedWords.{stored_all}
use Rattle.code.specs.steps.Storing.{stored}
use Rattle.store.specs.Buffers.{reduced}
use Rattle.store.proofs.StoredRecords.{length_reduced}

-- words that are copied modulo p
module _ (p from n : ℕ) (l : List ℕ) (h : from + n ≤ length l) where
  part_long : length (take n (drop from l)) ≡ n
  part_long = length-take-le n (drop from l) (rw length-drop (omega arith))

  pub length_copy : length (reduced p (take n (drop from l))) ≡ n
  length_copy = length_reduced p (take n (drop from l)) ∙ part_long

pub reduced_at : (p : ℕ) (l : List ℕ) (i : ℕ) → i < length l → get_or (reduced p l) i 0 ≡ get_or l i 0 % p
unfolding reduced
reduced_at p [] i h = absurd (omega arith)
reduced_at p (x ∷ l) zero h = refl
reduced_at p (x ∷ l) (suc i) h = reduced_at p l i (omega arith)

pub residues : (ws l : List ℕ) → length l ≡ length ws → stored 0 (λ i. get_or ws i 0 % 65537) (length ws) l ≡ reduced 65537 ws
residues ws l e =
    let n = length_reduced 65537 ws in
    rw n at (stored_all (λ i. get_or ws i 0 % 65537) (reduced 65537 ws) l (e ∙ sym n) (λ i b. reduced_at 65537 ws i (omega (arith, n))))

-- a row whose first word is stored and whose others are lent on
pub lent_others : (row : List ℕ) (x n : ℕ) → length row ≡ suc n → length (take (length (set row 0 x) - 1) (drop 1 (set row 0 x))) ≡ n
lent_others [] x n e = absurd (omega arith)
lent_others (y ∷ ys) x n e = length-take-le (suc (length ys) - 1) ys (omega arith) ∙ omega arith

pub row_put : (row : List ℕ) (x : ℕ) (ws : List ℕ) → length row ≡ suc (length ws) → put_mid 1 (length (set row 0 x) - 1) (set row 0 x) ws ≡ x ∷ ws
row_put [] x ws e = absurd (omega arith)
row_put (y ∷ ys) x ws e =
    ap (λ (r : List ℕ). x ∷ ws ++ r) (drop_of_length-le ys {i = suc (length ys) - 1} (omega arith)) ∙ ap (λ (r : List ℕ). x ∷ r) (append-nil ws)

-- a part that is written over
pub put_over : (a k : ℕ) (l ws : List ℕ) → k ≡ length ws → a + k ≤ length l → put_mid a k l ws ≡ sets l a ws
put_over a k l ws e h =
    ap (λ (m : ℕ). put_mid a m l ws) e ∙ ap (λ (y : List ℕ). take a l ++ (ws ++ y)) (drop-drop (length ws) a l)
    ∙ sym (append_assoc (take a l) ws (drop (a + length ws) l)) ∙ sym (sets-eq ws l a (omega arith))
