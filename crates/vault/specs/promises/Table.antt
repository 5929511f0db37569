-- THE TABLE OF REFUSALS (docs/FORMAT.md, section 10) as statements: when each of its rows applies; and what it is that a call gives a row's number if and only
-- if that row applies and no row before it does. Signs and letters: Demands. Assumes nothing.
use Rattle.std.specs.Prelude.{◌≡◌, true, false, ◌⊎◌, ◌↔◌, List, [], ◌∷◌, ℕ, suc, ◌+◌, ◌*◌, ◌-◌, ◌/◌, ◌%◌, ◌^◌, ◌≤◌, ◌<◌, length, get_or}
use Rattle.decoder.specs.Decoding.{survivors}
use Rattle.layout.specs.declared.Header.{Header}
use Rattle.layout.specs.Header.{header_fits}
use Rattle.layout.specs.Refusals.{Tests, done, test, refusal}
use Rattle.vault.specs.promises.Decoding.{marks, Codes}
use Rattle.vault.specs.promises.Losses.{Needed}
use Rattle.vault.specs.promises.Erasures.{four_bytes, stripe_place, WellFormed, Untouched}

-- 1, header range: not so: k is 1 to 10, s 1 to 128, c below n
pub record InRange (h : Header) : Type 0 where
  pub k_from : 1 ≤ h.k
  pub k_to : h.k ≤ 10
  pub s_from : 1 ≤ h.s
  pub s_to : h.s ≤ 128
  pub c_to : h.c < 2 ^ h.k

abbrev pub OutOfRange : Header → Type 0
OutOfRange h = InRange h → ⊥

abbrev pub FitsIff : Type 0
FitsIff = (h : Header) → (header_fits h ≡ true) ↔ InRange h

-- 2, length: a buffer, a block or an image has not its length. The lengths are
abbrev pub RawLength : Header → (raw : List ℕ) → Type 0
RawLength h raw = length raw ≡ 2 ^ h.k * h.s

abbrev pub FullLength : Header → (full : List ℕ) → Type 0
FullLength h full = length full ≡ 2 * 2 ^ h.k * suc h.s

abbrev pub LogLength : Header → (log : List ℕ) → Type 0
LogLength h log = length log ≡ (2 * 2 ^ h.k - 2) * suc h.s

abbrev pub BlockLength : Header → (block : List ℕ) → Type 0
BlockLength h b = length b ≡ h.s

abbrev pub ImageLength : Header → (image : List ℕ) → Type 0
ImageLength h m = length m ≡ 4 * suc h.s * (4 * 2 ^ h.k - 2)

abbrev pub OutLength : Header → (out : List ℕ) → Type 0
OutLength h out = length out ≡ 2 ^ h.k * suc h.s

abbrev pub ScratchLength : Header → (scratch : List ℕ) → Type 0
ScratchLength h scratch = length scratch ≡ 2 ^ h.k * suc h.s + 4 * 2 ^ h.k

abbrev pub BackLength : Header → (scratch : List ℕ) → Type 0
BackLength h scratch = length scratch ≡ 2 * (2 ^ h.k * suc h.s + 4 * 2 ^ h.k)

abbrev pub CountsLength : Header → (counts : List ℕ) → Type 0
CountsLength h counts = length counts ≡ 2 * suc h.k

abbrev pub OriginsLength : Header → (origins : List ℕ) → Type 0
OriginsLength h origins = length origins ≡ 2 * 2 ^ h.k

-- 3, erasure list: it is not well formed
abbrev pub IllFormed : Header → (erasures : List ℕ) → Type 0
IllFormed h e = WellFormed h e → ⊥

-- 4, record number: n or more
abbrev pub NoSuchRecord : Header → (number : ℕ) → Type 0
NoSuchRecord h i = 2 ^ h.k ≤ i

-- 5, data word: a word of a block is above 65535
pub record NoDataWord (words : List ℕ) : Type 0 where
  pub place : ℕ
  pub over : 65535 < get_or words place 0

-- THE DATA OF A RECORD, word by word, which `word` says: its s words are data words, 0 to 65535; or it is struck, and each of them is 65536
abbrev pub IsStruck : (s : ℕ) → (word : ℕ → ℕ) → Type 0
IsStruck s word = (q : ℕ) → q < s → word q ≡ 65536

abbrev pub HoldsRecord : (s : ℕ) → (word : ℕ → ℕ) → Type 0
HoldsRecord s word = ((q : ℕ) → q < s → word q ≤ 65535) ⊎ IsStruck s word

-- 5 of an opening: a record does not hold such data
abbrev pub record_word : Header → (raw : List ℕ) → (record_number q : ℕ) → ℕ
record_word h raw i q = get_or raw (i * h.s + q) 0

abbrev pub NoRecordData : Header → (raw : List ℕ) → Type 0
NoRecordData h raw = (i : ℕ) × (i < 2 ^ h.k) × (HoldsRecord h.s (record_word h raw i) → ⊥)

-- 6, no stripe: it is not k, nor the number of a level whose bit of c is 1
abbrev pub IsStripe : Header → (stripe : ℕ) → Type 0
IsStripe h l = (l ≡ h.k) ⊎ ((l < h.k) × (h.c / 2 ^ l % 2 ≡ 1))

abbrev pub NoStripe : Header → (stripe : ℕ) → Type 0
NoStripe h l = IsStripe h l → ⊥

-- and these are the stripes that recovery needs
abbrev pub NeededIff : Type 0
NeededIff = (h : Header) (l : ℕ) → Needed h l ↔ IsStripe h l

-- 7, too few: fewer than 2^l positions survive
abbrev pub TooFew : Header → (erasures : List ℕ) → (stripe : ℕ) → Type 0
TooFew h e l = length (survivors l (marks h e l)) < 2 ^ l

-- 8, out of field: a word that survives is above 65536
pub record Stray (h : Header) (m e : List ℕ) (l : ℕ) : Type 0 where
  pub position : ℕ
  pub column : ℕ
  pub among : position < 2 ^ suc l
  pub inside : column < suc h.s
  pub untouched : Untouched h e l position
  pub over : 65536 < four_bytes m (4 * (stripe_place h l + (position * suc h.s + column)))

-- 9, inconsistent: no blocks of words 0 to 65536 code to all words that survive
abbrev pub Inconsistent : Header → (image erasures : List ℕ) → (stripe : ℕ) → Type 0
Inconsistent h m e l = (bs : List ℕ) → Codes h m e l bs → ⊥

-- 10, not records: of the blocks that do, block j has a number n or more, or on the full stripe one that is not its place, or does not hold a record's data
abbrev pub block_word : Header → (blocks : List ℕ) → (j q : ℕ) → ℕ
block_word h bs j q = get_or bs (j * suc h.s + suc q) 0

abbrev pub NoRecord : Header → (stripe : ℕ) → (blocks : List ℕ) → (j : ℕ) → Type 0
NoRecord h l bs j =
    (2 ^ h.k ≤ get_or bs (j * suc h.s) 0) ⊎ ((l ≡ h.k) × (get_or bs (j * suc h.s) 0 ≡ j → ⊥)) ⊎ (HoldsRecord h.s (block_word h bs j) → ⊥)

pub record NotRecords (h : Header) (m e : List ℕ) (l : ℕ) : Type 0 where
  pub blocks : List ℕ
  pub codes : Codes h m e l blocks
  pub block : ℕ
  pub among : block < 2 ^ l
  pub no_record : NoRecord h l blocks block

-- 11, blank: all words of a block are 0
abbrev pub AllZero : (block : List ℕ) → Type 0
AllZero b = (q : ℕ) → get_or b q 0 ≡ 0

-- 12, start of a round: it has no write that could be taken back
abbrev pub RoundBegins : Header → Type 0
RoundBegins h = h.c ≡ 0

-- 13, readings differ: at a position of a needed stripe that neither list touches, a word of one image is not that of the other
pub record Differ (h : Header) (m e m' e' : List ℕ) : Type 0 where
  pub stripe : ℕ
  pub position : ℕ
  pub column : ℕ
  pub needed : IsStripe h stripe
  pub among : position < 2 ^ suc stripe
  pub inside : column < suc h.s
  pub untouched : Untouched h e stripe position
  pub untouched' : Untouched h e' stripe position
  pub other : let byte = 4 * (stripe_place h stripe + (position * suc h.s + column)) in four_bytes m byte ≡ four_bytes m' byte → ⊥

-- 14, struck: the record that is read is struck
abbrev pub StruckRecord : Header → (raw : List ℕ) → (record_number : ℕ) → Type 0
StruckRecord h raw i = IsStruck h.s (record_word h raw i)

-- ROWS OF THE TABLE, those that a call tests: each with its number and the statement that it applies
pub data Rows : Type 1 where
  none : Rows
  row : (number : ℕ) → (applies : Type 0) → Rows → Rows

-- NUMBERS BOTH WAYS ROUND: each row's number is given if and only if the row applies and no row before it does (`others`: no row before these applies)
abbrev pub EachAfter : (given : ℕ) → (others : Type 0) → Rows → Type 0
EachAfter given others none = Unit {0}
EachAfter given others (row n A rest) = ((given ≡ n) ↔ (others × A)) × EachAfter given (others × (A → ⊥)) rest

abbrev pub NoneAfter : (others : Type 0) → Rows → Type 0
NoneAfter others none = others
NoneAfter others (row n A rest) = NoneAfter (others × (A → ⊥)) rest

abbrev pub EachRow : (given : ℕ) → Rows → Type 0
EachRow given rows = EachAfter given (Unit {0}) rows

abbrev pub NoRow : Rows → Type 0
NoRow rows = NoneAfter (Unit {0}) rows

-- and 0 if and only if none applies
abbrev pub EachNumber : (given : ℕ) → Rows → Type 0
EachNumber given rows = EachRow given rows × ((given ≡ 0) ↔ NoRow rows)

-- THE ONE LAW of tests in a list, and rows that go together: each test fails if and only if its row applies, and their numbers are the same, none of them 0
-- and none twice
abbrev pub Fresh : (before : List ℕ) → (n : ℕ) → Type 0
Fresh [] n = 0 < n
Fresh (n' ∷ before) n = (n ≡ n' → ⊥) × Fresh before n

abbrev pub Match : (before : List ℕ) → Tests → Rows → Type 0
Match before done none = Unit {0}
Match before (test holds n ts) (row n' A rows) = Fresh before n × (n ≡ n') × ((holds ≡ false) ↔ A) × Match (n ∷ before) ts rows
Match before done (row n' A rows) = ⊥
Match before (test holds n ts) none = ⊥

abbrev pub RefusalIs : Type 1
RefusalIs = (ts : Tests) (rows : Rows) → Match [] ts rows → EachNumber (refusal ts) rows

-- ALL OF THIS ROOM
pub record Table : Type 1 where
  pub refusal_is : RefusalIs
  pub fits_iff : FitsIff
  pub needed_iff : NeededIff
