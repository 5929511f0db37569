-- CODING, COLUMN BY COLUMN: what it is that blocks code to words, by the bytes of an image and by the code of one column of words; what
-- that code is, from single words up; and what the blocks of raw records are. Signs and letters: Demands. Assumes nothing.
use Rattle.std.specs.Prelude.{◌≡◌, true, false, ◌↔◌, List, [], ◌∷◌, ◌++◌, ℕ, suc, ◌+◌, ◌*◌, ◌-◌, ◌/◌, ◌%◌, ◌^◌, ◌≤◌, ◌<◌, eqb, length, get_or}
use Rattle.code.specs.Stripe.{coded}
use Rattle.layout.specs.declared.Header.{Header}
use Rattle.store.specs.Buffers.{blocks_of, full_stripe}
use Rattle.vault.specs.promises.Decoding.{Codes}
use Rattle.vault.specs.promises.Erasures.{four_bytes, stripe_place, WellFormed, Untouched}
use Rattle.vault.specs.promises.Table.{InRange, RawLength}

-- THE ROOT of a vault, 3^(32768 / n) modulo 65537; and t0, the write that the first block of a stripe is
unfoldable pub root : (k : ℕ) → ℕ
root k = 3 ^ (32768 / 2 ^ k) % 65537

abbrev pub first_write : Header → (stripe : ℕ) → ℕ
first_write h l = elim (eqb l h.k) [ true ↦ 0 | false ↦ h.c / 2 ^ suc l * 2 ^ suc l ]

-- `ColumnOf`: the words ws are column j of 2^l blocks of s + 1 words: word j of each
pub record ColumnOf (h : Header) (l j : ℕ) (bs ws : List ℕ) : Type 0 where
  pub long : length ws ≡ 2 ^ l
  pub words : (block : ℕ) → block < 2 ^ l → get_or ws block 0 ≡ get_or bs (block * suc h.s + j) 0

-- BLOCKS CODE TO THE WORDS THAT SURVIVE: they are 2^l blocks of words 0 to 65536, and word j of each position that survives is the word there of the code of
-- column j
pub record CodesEach (h : Header) (m e : List ℕ) (l : ℕ) (bs : List ℕ) : Type 0 where
  pub long : length bs ≡ 2 ^ l * suc h.s
  pub words : (q : ℕ) → get_or bs q 0 ≤ 65536
  pub fits : (position j : ℕ) (ws : List ℕ) → position < 2 ^ suc l → j < suc h.s → Untouched h e l position → ColumnOf h l j bs ws →
      four_bytes m (4 * (stripe_place h l + (position * suc h.s + j))) ≡ get_or (coded 65537 (root h.k) h.k l (first_write h l) ws) position 0

abbrev pub CodesIff : Type 0
CodesIff = (h : Header) (m e : List ℕ) (l : ℕ) (bs : List ℕ) → InRange h → WellFormed h e → l ≤ h.k → Codes h m e l bs ↔ CodesEach h m e l bs

-- THE BLOCKS OF RAW RECORDS: block i is i, and then the words of record i, modulo 65537
abbrev pub BlocksAre : Type 0
BlocksAre =
    (h : Header) (raw : List ℕ) (i : ℕ) → RawLength h raw → i < 2 ^ h.k →
    (get_or (blocks_of h raw) (i * suc h.s) 0 ≡ i) ×
    ((j : ℕ) → j < h.s → get_or (blocks_of h raw) (i * suc h.s + suc j) 0 ≡ get_or raw (i * h.s + j) 0 % 65537)

-- and their full stripe has at each position the words of the columns' codes
abbrev pub FullCodes : Type 0
FullCodes =
    (h : Header) (raw : List ℕ) (position j : ℕ) (ws : List ℕ) → InRange h → RawLength h raw → position < 2 ^ suc h.k → j < suc h.s →
    ColumnOf h h.k j (blocks_of h raw) ws →
    get_or (full_stripe h raw) (position * suc h.s + j) 0 ≡ get_or (coded 65537 (root h.k) h.k h.k 0 ws) position 0

-- THE CODE OF A COLUMN, from the code of single words up. One word of write t: the word itself, and its product with w^r, where r is t with its k bits
-- reversed: bit number `bit` of r is bit k - 1 - `bit` of t
abbrev pub CodeBegins : Type 0
CodeBegins =
    (k t r word : ℕ) → k ≤ 10 → word < 65537 → r < 2 ^ k → ((bit : ℕ) → bit < k → r / 2 ^ bit % 2 ≡ t / 2 ^ (k - suc bit) % 2) →
    coded 65537 (root k) k 0 t (word ∷ []) ≡ word ∷ 3 ^ (32768 / 2 ^ k * r) * word % 65537 ∷ []

-- and of an older and a newer half, 2^l words each: X (`half` 0) of one mixed with X of the other, and Y (`half` 1) likewise. With v = w^(n / 2^l), which is
-- 3^(32768 / 2^l), word i is a + v^i b, and word i + 2^l is a - v^i b: with v^i b added it is a
abbrev pub CodeMixes : Type 0
CodeMixes =
    (k l t half i : ℕ) (older newer : List ℕ) → suc l ≤ k → k ≤ 10 → length older ≡ 2 ^ l → length newer ≡ 2 ^ l → half < 2 → i < 2 ^ l →
    let a = get_or (coded 65537 (root k) k l t older) (half * 2 ^ l + i) 0 in
    let b = get_or (coded 65537 (root k) k l (t + 2 ^ l) newer) (half * 2 ^ l + i) 0 in
    let both = coded 65537 (root k) k (suc l) t (older ++ newer) in
    let difference = get_or both (half * 2 ^ suc l + (2 ^ l + i)) 0 in
    (get_or both (half * 2 ^ suc l + i) 0 ≡ (a + 3 ^ (32768 / 2 ^ l * i) * b) % 65537) ×
    (difference < 65537) × ((difference + 3 ^ (32768 / 2 ^ l * i) * b) % 65537 ≡ a % 65537)

-- ALL OF THIS ROOM
pub record Coding : Type 0 where
  pub code_begins : CodeBegins
  pub code_mixes : CodeMixes
  pub codes_iff : CodesIff
  pub blocks_are : BlocksAre
  pub full_codes : FullCodes
