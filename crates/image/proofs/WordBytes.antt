-- Laws of the bytes of words, and of stores of one list after the other. Assumes nothing.
use mathlib.Core.Path.{◌≡◌, refl, sym, ap, ◌∙◌}
use mathlib.Core.List.{List, [], ◌∷◌, ◌++◌, append_assoc}
use Prim.Native.Nat.{ℕ, zero, suc, ◌+◌, ◌*◌, ◌/◌, ◌%◌, ◌≤◌}
use native.Mathlib.Omega.{arith}
use borrow.Rule.Slice.PartMut.{put_mid}
use lib.ListN.{length, take, drop, length-append}
use lib.Seq.{sets, sets-eq, drop-drop}
use Rattle.field.proofs.WordLists.{sets_append, sets_all}
use Rattle.image.specs.Image.{little, bytes_of, image_of}

pub length_little : (n x : ℕ) → length (little n x) ≡ n
unfolding little
length_little zero x = refl
length_little (suc n) x = ap suc (length_little n (x / 256))

pub length_bytes : (ws : List ℕ) → length (bytes_of ws) ≡ 4 * length ws
unfolding bytes_of
length_bytes [] = refl
length_bytes (w ∷ ws) = length-append (little 4 w) (bytes_of ws) ∙ omega (arith, length_little 4 w, length_bytes ws)

pub bytes_append : (xs ys : List ℕ) → bytes_of (xs ++ ys) ≡ bytes_of xs ++ bytes_of ys
unfolding bytes_of
bytes_append [] ys = refl
bytes_append (x ∷ xs) ys = ap (λ (l : List ℕ). little 4 x ++ l) (bytes_append xs ys) ∙ sym (append_assoc (little 4 x) (bytes_of xs) (bytes_of ys))

-- the bytes of the full stripe, and those of the log behind them, are the image
pub image_stored : (m f g : List ℕ) → length m ≡ 4 * length f + 4 * length g → sets (sets m 0 (bytes_of f)) (4 * length f) (bytes_of g) ≡ image_of f g
image_stored m f g e =
    ap (λ (k : ℕ). sets (sets m 0 (bytes_of f)) k (bytes_of g)) {x = 4 * length f} {y = 0 + length (bytes_of f)} (omega (arith, length_bytes f))
    ∙ sym (sets_append m 0 (bytes_of f) (bytes_of g))
    ∙ sets_all m (bytes_of f ++ bytes_of g) (e ∙ sym (length-append (bytes_of f) (bytes_of g) ∙ omega (arith, length_bytes f, length_bytes g)))
    ∙ sym (bytes_append f g)

-- the four bytes of a word as the library has them
pub four_bytes : (x : ℕ) → x % 256 ∷ x / 256 % 256 ∷ x / 65536 % 256 ∷ x / 16777216 % 256 ∷ [] ≡ little 4 x
unfolding little
four_bytes x =
    ap (λ (y : ℕ). x % 256 ∷ x / 256 % 256 ∷ y % 256 ∷ x / 16777216 % 256 ∷ []) {x = x / 65536} {y = x / 256 / 256} (omega arith)
    ∙ ap (λ (y : ℕ). x % 256 ∷ x / 256 % 256 ∷ x / 256 / 256 % 256 ∷ y % 256 ∷ []) {x = x / 16777216} {y = x / 256 / 256 / 256} (omega arith)

-- a part of a list that is written over
pub part_over : {k : ℕ} (a : ℕ) (l ws : List ℕ) → k ≡ length ws → a + length ws ≤ length l → put_mid a k l ws ≡ sets l a ws
part_over {k} a l ws e b =
    ap (λ (m : ℕ). put_mid a m l ws) e ∙ ap (λ (y : List ℕ). take a l ++ (ws ++ y)) (drop-drop (length ws) a l)
    ∙ sym (append_assoc (take a l) ws (drop (a + length ws) l)) ∙ sym (sets-eq ws l a b)
