-- ERASURES, BYTE BY BYTE: which lists are well formed, which positions survive, and what it is that two images share. What other rooms say by marks, survivors
-- and words is said here by the bytes of a list and of an image alone. Signs and letters: Demands. Assumes nothing.
use Rattle.std.specs.Prelude.{◌≡◌, true, false, ◌↔◌, List, ℕ, suc, ◌+◌, ◌*◌, ◌-◌, ◌%◌, ◌^◌, ◌≤◌, ◌<◌, eqb, length, get_or}
use Rattle.decoder.specs.Decoding.{survivors}
use Rattle.layout.specs.declared.Header.{Header}
use Rattle.image.specs.Image.{word_at}
use Rattle.image.specs.Erasures.{erasures_fit}
use Rattle.vault.specs.promises.Decoding.{marks}
use Rattle.vault.specs.promises.Losses.{Needed, SameWords}

-- FOUR BYTES from a byte on are a number, low byte first; and so are the words of an image
abbrev pub four_bytes : (bytes : List ℕ) → (byte : ℕ) → ℕ
four_bytes bytes byte =
    get_or bytes byte 0 + 256 * get_or bytes (byte + 1) 0 + 65536 * get_or bytes (byte + 2) 0 + 16777216 * get_or bytes (byte + 3) 0

abbrev pub WordIs : Type 0
WordIs = (m : List ℕ) (q : ℕ) → word_at m q ≡ four_bytes m (4 * q)

-- A PAIR of a list: an offset and a length. Byte number `byte` of an image is in pair number `pair`, counted from 0
abbrev pub offset_at : (erasures : List ℕ) → (pair : ℕ) → ℕ
offset_at e pair = four_bytes e (8 * pair)

abbrev pub size_at : (erasures : List ℕ) → (pair : ℕ) → ℕ
size_at e pair = four_bytes e (8 * pair + 4)

pub record InPair (e : List ℕ) (byte : ℕ) : Type 0 where
  pub pair : ℕ
  pub among : 8 * pair + 8 ≤ length e
  pub from : offset_at e pair ≤ byte
  pub to : byte < offset_at e pair + size_at e pair

-- A LIST IS WELL FORMED: whole pairs; each length is at least 1; each pair ends inside the image, which has 4(s + 1)(4n - 2) bytes; and each offset is greater
-- than the end before it
pub record WellFormed (h : Header) (e : List ℕ) : Type 0 where
  pub whole : length e % 8 ≡ 0
  pub some : (pair : ℕ) → 8 * pair + 8 ≤ length e → 1 ≤ size_at e pair
  pub inside : (pair : ℕ) → 8 * pair + 8 ≤ length e → offset_at e pair + size_at e pair ≤ 4 * suc h.s * (4 * 2 ^ h.k - 2)
  pub rising : (pair : ℕ) → 8 * suc pair + 8 ≤ length e → offset_at e pair + size_at e pair < offset_at e (suc pair)

abbrev pub WellFormedIff : Type 0
WellFormedIff = (h : Header) (e : List ℕ) → (erasures_fit h e ≡ true) ↔ WellFormed h e

-- A POSITION of a stripe in the image: the full stripe's words stand first, 2n(s + 1) of them, and level l begins (2^(l+1) - 2)(s + 1) words behind them.
-- `InPosition`: the byte is one of the 4(s + 1) of the position
abbrev pub stripe_place : Header → (stripe : ℕ) → ℕ
stripe_place h l = elim (eqb l h.k) [ true ↦ 0 | false ↦ 2 * 2 ^ h.k * suc h.s + (2 ^ suc l - 2) * suc h.s ]

pub record InPosition (h : Header) (l position byte : ℕ) : Type 0 where
  pub from : 4 * (stripe_place h l + position * suc h.s) ≤ byte
  pub to : byte < 4 * (stripe_place h l + suc position * suc h.s)

-- no byte of it is in a pair
abbrev pub Untouched : Header → (erasures : List ℕ) → (stripe position : ℕ) → Type 0
Untouched h e l position = (byte : ℕ) → InPosition h l position byte → InPair e byte → ⊥

-- A POSITION IS NOT MARKED if and only if no byte of it is in a pair. A pair of length 0 would mark the position around its offset, though no byte is in it:
-- no well-formed list has one
abbrev pub MarkedIff : Type 0
MarkedIff =
    (h : Header) (e : List ℕ) (l position : ℕ) → h.k ≤ 10 → l ≤ h.k → WellFormed h e → position < 2 ^ suc l →
    (get_or (marks h e l) position false ≡ false) ↔ Untouched h e l position

-- THE SURVIVORS of a stripe: a number is one of them if and only if it is below 2^(l+1) and no byte of its position is in a pair; and they rise, so that each
-- is counted once
pub record Among (position : ℕ) (list : List ℕ) : Type 0 where
  pub place : ℕ
  pub within : place < length list
  pub stands : get_or list place 0 ≡ position

abbrev pub SurvivesIff : Type 0
SurvivesIff =
    (h : Header) (e : List ℕ) (l position : ℕ) → h.k ≤ 10 → l ≤ h.k → WellFormed h e →
    Among position (survivors l (marks h e l)) ↔ ((position < 2 ^ suc l) × Untouched h e l position)

abbrev pub SurvivorsRise : Type 0
SurvivorsRise =
    (h : Header) (e : List ℕ) (l q q' : ℕ) → q < q' → q' < length (survivors l (marks h e l)) →
    get_or (survivors l (marks h e l)) q 0 < get_or (survivors l (marks h e l)) q' 0

-- TWO IMAGES have the same words that survive if and only if their four bytes of each such word are one number; and they have if they are equal at every byte
-- outside the pairs
abbrev pub SameWordsIff : Type 0
SameWordsIff =
    (h : Header) (e one other : List ℕ) → h.k ≤ 10 → WellFormed h e →
    SameWords h e one other ↔
    ((l position column : ℕ) → Needed h l → position < 2 ^ suc l → column < suc h.s → Untouched h e l position →
    let byte = 4 * (stripe_place h l + (position * suc h.s + column)) in
    four_bytes one byte ≡ four_bytes other byte)

abbrev pub SameOutside : Type 0
SameOutside =
    (h : Header) (e one other : List ℕ) → h.k ≤ 10 → ((byte : ℕ) → (InPair e byte → ⊥) → get_or one byte 0 ≡ get_or other byte 0) → SameWords h e one other

-- ALL OF THIS ROOM
pub record Erasures : Type 0 where
  pub word_is : WordIs
  pub well_formed_iff : WellFormedIff
  pub marked_iff : MarkedIff
  pub survives_iff : SurvivesIff
  pub survivors_rise : SurvivorsRise
  pub same_words_iff : SameWordsIff
  pub same_outside : SameOutside
