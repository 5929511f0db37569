-- TWO READINGS OF ONE RACK: recovery from both, and one stripe of them; of any readings, and of those of a history. A reading is an image and an erasure list;
-- those of the second have a mark. Signs and letters: Demands. Assumes nothing.
use Rattle.std.specs.Prelude.{◌≡◌, true, ◌⊎◌, ◌↔◌, List, ℕ, suc, ◌+◌, ◌*◌, ◌^◌, ◌<◌, length, get_or, replicate}
use Rattle.decoder.specs.Decoding.{survivors}
use Rattle.layout.specs.declared.Header.{Header}
use Rattle.layout.specs.Header.{raw_size, scratch_size, image_size, stripe_of}
use Rattle.image.specs.Image.{words_of}
use Rattle.image.specs.Erasures.{erasures_fit}
use Rattle.judging.specs.Decoding.{decode_rows}
use Rattle.recovery.specs.RecoveryCall.{recover_answer, recover_leaves, recover_scratch, unnamed, at_fault}
use Rattle.two_readings.specs.Choosing.{decoding_of_two}
use Rattle.two_readings.specs.RecoverTwoCall.{recover_two_answer, recover_two_leaves, recover_two_scratch}
use Rattle.two_readings.specs.ShelfOfTwoCall.{shelf_of_two_number, shelf_of_two_part}
use Rattle.vault.specs.Event.{Opening, Event}
use Rattle.vault.specs.Model.{model_of}
use Rattle.vault.specs.History.{Opens, header_after, image_after}
use Rattle.vault.specs.promises.Decoding.{marks, Half}
use Rattle.vault.specs.promises.Losses.{Needed, SameWords}
use Rattle.vault.specs.promises.Erasures.{stripe_place, InPosition, Untouched}
use Rattle.vault.specs.promises.Table.{IsStripe, NoStripe, Differ, none, row, NoRow, EachNumber}
use Rattle.vault.specs.promises.Numbers.{RecoverTwoRows}
use Rattle.vault.specs.promises.Recovering.{in_image, FirstFails, AllDecode, LastBlock}

-- A READING OF A HISTORY: a well-formed erasure list, which may leave less than half, and an image of the right length that has the words of the history at the
-- positions of needed stripes that its own list leaves. Its other bytes may be anything
pub record Reads (o : Opening) (es : List Event) (m e : List ℕ) : Type 0 where
  pub well_formed : erasures_fit (header_after o es) e ≡ true
  pub long : length m ≡ image_size (header_after o es)
  pub words : SameWords (header_after o es) e (image_after o es) m

-- two of them, where each needed stripe keeps half in one or in the other
pub record ReadTwice (o : Opening) (es : List Event) (m e m' e' : List ℕ) : Type 0 where
  pub first : Reads o es m e
  pub second : Reads o es m' e'
  pub half : (l : ℕ) → Needed (header_after o es) l → Half (header_after o es) e l ⊎ Half (header_after o es) e' l

-- THE CALL `recover_two` GIVES these records: it is taken and names no stripe, the output is the records, and the scratch zeros, whatever these two held
pub record RecoversTwo (h : Header) (m e m' e' records : List ℕ) : Type 0 where
  pub call : (out scratch : List ℕ) → length out ≡ raw_size h → length scratch ≡ scratch_size h →
      (recover_two_answer h m e m' e' out scratch ≡ unnamed 0) × (recover_two_leaves h m e m' e' out scratch ≡ records) ×
      (recover_two_scratch h m e m' e' out scratch ≡ replicate (scratch_size h) 0)

-- AFTER ANY HISTORY they give exactly every record as last written
abbrev pub TwoRecover : Type 0
TwoRecover =
    (o : Opening) (es : List Event) (m e m' e' : List ℕ) → Opens o → ReadTwice o es m e m' e' →
    RecoversTwo (header_after o es) m e m' e' (model_of o es).records

-- and no other history with the same header agrees with both and ends with other records, nor with another model
abbrev pub TwoNoOther : Type 0
TwoNoOther =
    (o o' : Opening) (es es' : List Event) (m e m' e' : List ℕ) → Opens o → Opens o' → header_after o es ≡ header_after o' es' →
    ReadTwice o es m e m' e' → Reads o' es' m e → Reads o' es' m' e' → model_of o es ≡ model_of o' es'

-- 13 does not arise, whatever is left of the stripes; and one stripe is given if there is such a stripe
abbrev pub NeverDiffer : Type 0
NeverDiffer =
    (o : Opening) (es : List Event) (m e m' e' : List ℕ) → Opens o → Reads o es m e → Reads o es m' e' → Differ (header_after o es) m e m' e' → ⊥

abbrev pub ShelfAfter : Type 0
ShelfAfter =
    (o : Opening) (es : List Event) (m e m' e' : List ℕ) (l : ℕ) → Opens o → Reads o es m e → Reads o es m' e' →
    EachNumber (shelf_of_two_number (header_after o es) m e m' e' l) (row 6 (NoStripe (header_after o es) l) none)

-- ANY TWO READINGS. They differ (13) if and only if a byte does of a position of a needed stripe that neither list touches, of images whose bytes are below 256
pub record DifferInByte (h : Header) (m e m' e' : List ℕ) : Type 0 where
  pub stripe : ℕ
  pub position : ℕ
  pub byte : ℕ
  pub needed : IsStripe h stripe
  pub among : position < 2 ^ suc stripe
  pub inside : InPosition h stripe position byte
  pub untouched : Untouched h e stripe position
  pub untouched' : Untouched h e' stripe position
  pub other : get_or m byte 0 ≡ get_or m' byte 0 → ⊥

abbrev pub Bytes : (image : List ℕ) → Type 0
Bytes m = (byte : ℕ) → get_or m byte 0 < 256

abbrev pub DifferIff : Type 0
DifferIff = (h : Header) (m e m' e' : List ℕ) → Bytes m → Bytes m' → Differ h m e m' e' ↔ DifferInByte h m e m' e'

-- THE READING that a stripe is taken from is the one with more of its positions left, the first on a tie
abbrev pub SecondHasMore : Header → (erasures erasures' : List ℕ) → (stripe : ℕ) → Type 0
SecondHasMore h e e' l = length (survivors l (marks h e l)) < length (survivors l (marks h e' l))

-- and it decodes to what it does in that one
abbrev pub ChoiceIs : Type 0
ChoiceIs =
    (h : Header) (m e m' e' : List ℕ) (l : ℕ) →
    (SecondHasMore h e e' l → decoding_of_two h m e m' e' l ≡ in_image h m' e' l) ×
    ((SecondHasMore h e e' l → ⊥) → decoding_of_two h m e m' e' l ≡ in_image h m e l)

-- WHERE NO NUMBER OF 1, 2, 3 AND 13 APPLIES it stops as recovery of one image does, by what each stripe decodes to
abbrev pub TwoStopsIff : Type 0
TwoStopsIff =
    (h : Header) (m e m' e' out scratch : List ℕ) (n l : ℕ) → NoRow (RecoverTwoRows h m e m' e' out scratch) →
    (recover_two_answer h m e m' e' out scratch ≡ at_fault n l) ↔ FirstFails h (decoding_of_two h m e m' e') n l

abbrev pub TwoTakenIff : Type 0
TwoTakenIff =
    (h : Header) (m e m' e' out scratch : List ℕ) → NoRow (RecoverTwoRows h m e m' e' out scratch) →
    (recover_two_answer h m e m' e' out scratch ≡ unnamed 0) ↔ AllDecode h (decoding_of_two h m e m' e')

-- 7 on a stripe: neither reading keeps half of it
abbrev pub SevenOfTwo : Type 0
SevenOfTwo =
    (h : Header) (m e m' e' out scratch : List ℕ) (l : ℕ) → NoRow (RecoverTwoRows h m e m' e' out scratch) →
    recover_two_answer h m e m' e' out scratch ≡ at_fault 7 l → (Half h e l → ⊥) × (Half h e' l → ⊥)

-- and where it is taken, each record has a last block, and is its data
abbrev pub TwoHasLast : Type 0
TwoHasLast =
    (h : Header) (m e m' e' out scratch : List ℕ) (i : ℕ) → recover_two_answer h m e m' e' out scratch ≡ unnamed 0 → i < 2 ^ h.k →
    (l : ℕ) × (j : ℕ) × (bs : List ℕ) × LastBlock h (decoding_of_two h m e m' e') i l bs j

abbrev pub TwoHolds : Type 0
TwoHolds =
    (h : Header) (m e m' e' out scratch : List ℕ) (i l j q : ℕ) (bs : List ℕ) → recover_two_answer h m e m' e' out scratch ≡ unnamed 0 →
    LastBlock h (decoding_of_two h m e m' e') i l bs j → q < h.s →
    get_or (recover_two_leaves h m e m' e' out scratch) (i * h.s + q) 0 ≡ get_or bs (j * suc h.s + suc q) 0

-- EXCHANGED, `shelf_of_two` has the same number
abbrev pub ExchangedShelf : Type 0
ExchangedShelf = (h : Header) (m e m' e' : List ℕ) (l : ℕ) → shelf_of_two_number h m e m' e' l ≡ shelf_of_two_number h m' e' m e l

-- a stripe is taken from the same reading but where both have as many of its positions left
abbrev pub Ties : Header → (erasures erasures' : List ℕ) → (stripe : ℕ) → Type 0
Ties h e e' l = length (survivors l (marks h e l)) ≡ length (survivors l (marks h e' l))

abbrev pub ExchangedStripe : Type 0
ExchangedStripe =
    (h : Header) (m e m' e' : List ℕ) (l : ℕ) → (Ties h e e' l → ⊥) →
    (decoding_of_two h m e m' e' l ≡ decoding_of_two h m' e' m e l) × (shelf_of_two_part h m e m' e' l ≡ shelf_of_two_part h m' e' m e l)

-- so that recovery is the same in all where 1, 2, 3 or 13 applies, and else where each needed stripe on which they tie decodes alike in both
abbrev pub Exchanged : Type 0
Exchanged =
    (h : Header) (m e m' e' out scratch : List ℕ) →
    (NoRow (RecoverTwoRows h m e m' e' out scratch) → (l : ℕ) → Needed h l → Ties h e e' l → in_image h m e l ≡ in_image h m' e' l) →
    (recover_two_answer h m e m' e' out scratch ≡ recover_two_answer h m' e' m e out scratch) ×
    (recover_two_leaves h m e m' e' out scratch ≡ recover_two_leaves h m' e' m e out scratch) ×
    (recover_two_scratch h m e m' e' out scratch ≡ recover_two_scratch h m' e' m e out scratch)

-- THE SAME READING TWICE gives what recovery of it gives, for every input
abbrev pub TwiceIsOnce : Type 0
TwiceIsOnce =
    (h : Header) (m e out scratch : List ℕ) →
    (recover_two_answer h m e m e out scratch ≡ recover_answer h m e out scratch) ×
    (recover_two_leaves h m e m e out scratch ≡ recover_leaves h m e out scratch) ×
    (recover_two_scratch h m e m e out scratch ≡ recover_scratch h m e out scratch)

-- ONE STRIPE. Where it is taken, the part has the bytes of the stripe, in the image of the reading that it is taken from
abbrev pub ShelfBytes : Type 0
ShelfBytes =
    (h : Header) (m e m' e' : List ℕ) (l : ℕ) → shelf_of_two_number h m e m' e' l ≡ 0 →
    let part = shelf_of_two_part h m e m' e' l in
    (length part ≡ 4 * (2 ^ suc l * suc h.s)) ×
    ((byte : ℕ) → byte < 4 * (2 ^ suc l * suc h.s) →
    (SecondHasMore h e e' l → get_or part byte 0 ≡ get_or m' (4 * stripe_place h l + byte) 0) ×
    ((SecondHasMore h e e' l → ⊥) → get_or part byte 0 ≡ get_or m (4 * stripe_place h l + byte) 0))

-- and it is what `recover_two` decodes of that stripe, under the marks of the list that goes with it
abbrev pub ShelfDecodes : Type 0
ShelfDecodes =
    (h : Header) (m e m' e' : List ℕ) (l : ℕ) → shelf_of_two_number h m e m' e' l ≡ 0 →
    let words = words_of (shelf_of_two_part h m e m' e' l) in
    (SecondHasMore h e e' l → decoding_of_two h m e m' e' l ≡ decode_rows (stripe_of h l) (marks h e' l) words) ×
    ((SecondHasMore h e e' l → ⊥) → decoding_of_two h m e m' e' l ≡ decode_rows (stripe_of h l) (marks h e l) words)

-- ALL OF THIS ROOM
pub record TwoReadings : Type 0 where
  pub two_recover : TwoRecover
  pub two_no_other : TwoNoOther
  pub never_differ : NeverDiffer
  pub shelf_after : ShelfAfter
  pub differ_iff : DifferIff
  pub choice_is : ChoiceIs
  pub two_stops_iff : TwoStopsIff
  pub two_taken_iff : TwoTakenIff
  pub seven_of_two : SevenOfTwo
  pub two_has_last : TwoHasLast
  pub two_holds : TwoHolds
  pub exchanged_shelf : ExchangedShelf
  pub exchanged_stripe : ExchangedStripe
  pub exchanged : Exchanged
  pub twice_is_once : TwiceIsOnce
  pub shelf_bytes : ShelfBytes
  pub shelf_decodes : ShelfDecodes
