-- Whether two readings of one rack agree, which is test 13 (docs/FORMAT.md, section 8): on the stripes that recovery needs, word by word. A reading is an image
-- and an erasure list; that of the second has a mark. Assumes nothing: these are definitions.
use Rattle.std.specs.Prelude.{Bool, true, false, ◌&&◌, ◌||◌, List, ℕ, zero, suc, ◌+◌, ◌*◌, ◌^◌, eqb}
use Rattle.layout.specs.declared.Header.{Header}
use Rattle.layout.specs.Header.{width, has_stripe, stripe_at}
use Rattle.image.specs.Image.{word_at}
use Rattle.image.specs.Erasures.{erasures_in, is_erased}

-- whether f holds of each number below n
unfoldable pub all_below : (n : ℕ) → (f : ℕ → Bool) → Bool
all_below zero f = true
all_below (suc i) f = all_below i f && f i

-- a word is the same in both images: its four bytes; and so many words from word `at` on
unfoldable pub same_word : (image image' : List ℕ) → (at j : ℕ) → Bool
same_word m m' at j = eqb (word_at m (at + j)) (word_at m' (at + j))

abbrev pub same_words : (image image' : List ℕ) → (at count : ℕ) → Bool
same_words m m' at count = all_below count (same_word m m' at)

-- a position agrees where one of the lists erases it, or all its words are the same
unfoldable pub position_agrees : Header → (image erasures image' erasures' : List ℕ) → (stripe position : ℕ) → Bool
position_agrees h m e m' e' l i =
    (is_erased h (erasures_in e) l i || is_erased h (erasures_in e') l i) || same_words m m' (stripe_at h l + i * width h) (width h)

abbrev pub stripe_agrees : Header → (image erasures image' erasures' : List ℕ) → (stripe : ℕ) → Bool
stripe_agrees h m e m' e' l = all_below (2 ^ suc l) (position_agrees h m e m' e' l)

-- empty levels are not compared
unfoldable pub agrees_if_needed : Header → (image erasures image' erasures' : List ℕ) → (stripe : ℕ) → Bool
agrees_if_needed h m e m' e' l = elim (has_stripe h l) [ true ↦ stripe_agrees h m e m' e' l | false ↦ true ]

abbrev pub readings_agree : Header → (image erasures image' erasures' : List ℕ) → Bool
readings_agree h m e m' e' = all_below (suc h.k) (agrees_if_needed h m e m' e')
