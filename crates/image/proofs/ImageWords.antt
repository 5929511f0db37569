-- Images read back: each word of the buffers that they were made of. Assumes nothing.
use mathlib.Core.Path.{◌≡◌, ap, ◌∙◌}
use mathlib.Core.List.{List, [], ◌∷◌, ◌++◌}
use Prim.Native.Nat.{ℕ, zero, suc, ◌+◌, ◌*◌, ◌/◌, ◌%◌, ◌^◌, ◌<◌}
use native.Mathlib.Nat.{mod-add-div, div-lt_iff_lt-mul, pow-suc}
use native.Mathlib.Omega.{arith}
use lib.Dec.{lit<}
use lib.ListN.{length, get_or, take}
use lib.Seq.{drop-nil, take_at, drop-append-add}
use Rattle.field.specs.Words.{Words}
use Rattle.field.proofs.WordLists.{words_tail}
use Rattle.image.proofs.WordBytes.{length_little}
use Rattle.image.specs.Image.{little, bytes_of, number_of, number_at, word_at}

number_little : (n x : ℕ) → x < 256 ^ n → number_of (little n x) ≡ x
unfolding little number_of
number_little zero x b = omega arith
number_little (suc n) x b =
    let b' : x / 256 < 256 ^ n = (div-lt_iff_lt-mul (lit< tt)).1 (rw pow-suc at b) in
    ap (λ (y : ℕ). x % 256 + 256 * y) (number_little n (x / 256) b') ∙ mod-add-div x 256

pub word_back : (p : ℕ) → p < 4294967296 → (ws : List ℕ) → Words p ws → (i : ℕ) → word_at (bytes_of ws) i ≡ get_or ws i 0
unfolding bytes_of number_of
word_back p b [] w i = rw (drop-nil (4 * i))
word_back p b (x ∷ xs) w zero =
    rw (take_at (little 4 x) (bytes_of xs) 4 (length_little 4 x)) (number_little 4 x (omega (arith, w.word 0)))
word_back p b (x ∷ xs) w (suc i) = ap (λ (n : ℕ). number_at (little 4 x ++ bytes_of xs) n) {x = 4 * suc i} {y = length (little 4 x) + 4 * i}
    (omega (arith, length_little 4 x)) ∙ ap (λ (l : List ℕ). number_of (take 4 l)) (drop-append-add (little 4 x) (bytes_of xs) (4 * i))
    ∙ word_back p b xs (words_tail w) i
