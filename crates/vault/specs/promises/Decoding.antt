-- DECODING A STRIPE, both ways round, for any header, image and erasure list; and the call `decode`. Signs and letters: Demands. Assumes nothing.
use Rattle.std.specs.Prelude.{◌≡◌, Bool, true, false, ◌↔◌, List, ◌++◌, ℕ, ◌+◌, ◌-◌, ◌^◌, ◌≤◌, ◌<◌, length, get_or, replicate}
use Rattle.decoder.specs.Decoding.{survivors}
use Rattle.layout.specs.declared.Header.{Header}
use Rattle.layout.specs.Header.{header_fits, out_size, scratch_size, image_size, stripe_at, stripe_size, stripe_of}
use Rattle.image.specs.Image.{word_at, words_of}
use Rattle.image.specs.Erasures.{erasures_in, marks_of}
use Rattle.image.specs.Loading.{stripe_in}
use Rattle.judging.specs.Decoding.{failed, decoded, are_records}
use Rattle.judging.specs.Promises as Rows
use Rattle.judging.specs.Promises.{InField, OutOfField}
use Rattle.stripe_decoding.specs.Decoding.{decode_stripe}
use Rattle.stripe_decoding.specs.StripeCall.{decode_early, decode_number, decode_leaves, decode_scratch}

-- A STRIPE'S MARKS, and its words in an image, whatever stands at erased positions
abbrev pub marks : Header → (erasures : List ℕ) → (stripe : ℕ) → List Bool
marks h e l = marks_of h (erasures_in e) l

abbrev pub words_in : Header → (image : List ℕ) → (stripe : ℕ) → List ℕ
words_in h m l = words_of (stripe_in h m l)

-- which are the image's words from the stripe's place on
abbrev pub WordsStand : Type 0
WordsStand = (h : Header) (m : List ℕ) (l q : ℕ) → q < stripe_size h l → get_or (words_in h m l) q 0 ≡ word_at m (stripe_at h l + q)

-- at least half of its positions survive
abbrev pub Half : Header → (erasures : List ℕ) → (stripe : ℕ) → Type 0
Half h e l = 2 ^ l ≤ length (survivors l (marks h e l))

-- it is one of the stripes of a header that fits, and can be decoded: at least half of its positions survive, and no word of theirs is out of field
pub record Readable (h : Header) (m e : List ℕ) (l : ℕ) : Type 0 where
  pub fits : header_fits h ≡ true
  pub within : l ≤ h.k
  pub enough : Half h e l
  pub in_field : InField (stripe_of h l) (marks h e l) (words_in h m l)

-- bs are 2^l blocks of words of the field that code to all words that survive on it; and whether each is a record
abbrev pub Codes : Header → (image erasures : List ℕ) → (stripe : ℕ) → (blocks : List ℕ) → Type 0
Codes h m e l bs = Rows.Codes (stripe_of h l) (marks h e l) (words_in h m l) bs

abbrev pub HoldRecords : Header → (stripe : ℕ) → (blocks : List ℕ) → (whether : Bool) → Type 0
HoldRecords h l bs whether = are_records (stripe_of h l) bs (2 ^ l) ≡ whether

-- it decodes to the blocks bs; or it fails with the number of a refusal
abbrev pub Decodes : Header → (image erasures : List ℕ) → (stripe : ℕ) → (blocks : List ℕ) → Type 0
Decodes h m e l bs = decode_stripe h m (erasures_in e) l ≡ decoded bs

abbrev pub Fails : Header → (image erasures : List ℕ) → (stripe refusal : ℕ) → Type 0
Fails h m e l refusal = decode_stripe h m (erasures_in e) l ≡ failed refusal

-- THE CALL `decode`, on inputs to which no number from 1 to 6 applies: what it gives, both ways round
abbrev pub Asked : Header → (image erasures : List ℕ) → (stripe : ℕ) → (out scratch : List ℕ) → Type 0
Asked h m e l out scratch = decode_early h m e l out scratch ≡ 0

-- 7 if and only if fewer than 2^l positions survive, and 8 if and only if enough do and one of their words is out of field
abbrev pub GivesSeven : Type 0
GivesSeven =
    (h : Header) (m e : List ℕ) (l : ℕ) (out scratch : List ℕ) → Asked h m e l out scratch →
    (decode_number h m e l out scratch ≡ 7) ↔ (length (survivors l (marks h e l)) < 2 ^ l)

abbrev pub GivesEight : Type 0
GivesEight =
    (h : Header) (m e : List ℕ) (l : ℕ) (out scratch : List ℕ) → Asked h m e l out scratch →
    (decode_number h m e l out scratch ≡ 8) ↔ (Half h e l × OutOfField (stripe_of h l) (marks h e l) (words_in h m l))

-- 9 if and only if the stripe is readable and no blocks code to its surviving words; 10 if and only if it is and blocks do that are not all records; 0 if and
-- only if it is and blocks do that are
abbrev pub GivesNine : Type 0
GivesNine =
    (h : Header) (m e : List ℕ) (l : ℕ) (out scratch : List ℕ) → Asked h m e l out scratch →
    (decode_number h m e l out scratch ≡ 9) ↔ (Readable h m e l × ((bs : List ℕ) → Codes h m e l bs → ⊥))

abbrev pub GivesTen : Type 0
GivesTen =
    (h : Header) (m e : List ℕ) (l : ℕ) (out scratch : List ℕ) → Asked h m e l out scratch →
    (decode_number h m e l out scratch ≡ 10) ↔ (Readable h m e l × ((bs : List ℕ) × Codes h m e l bs × HoldRecords h l bs false))

abbrev pub GivesZero : Type 0
GivesZero =
    (h : Header) (m e : List ℕ) (l : ℕ) (out scratch : List ℕ) → Asked h m e l out scratch →
    (decode_number h m e l out scratch ≡ 0) ↔ (Readable h m e l × ((bs : List ℕ) × Codes h m e l bs × HoldRecords h l bs true))

-- with 0 it leaves the blocks in order of time at the start of the output, and zeros after them; with any other number an output of zeros; and always a scratch
-- of zeros
abbrev pub LeavesBlocks : Type 0
LeavesBlocks =
    (h : Header) (m e : List ℕ) (l : ℕ) (bs out scratch : List ℕ) → Asked h m e l out scratch →
    Readable h m e l → Codes h m e l bs → HoldRecords h l bs true →
    decode_leaves h m e l out scratch ≡ bs ++ replicate (out_size h - length bs) 0

abbrev pub LeavesZeros : Type 0
LeavesZeros =
    (h : Header) (m e : List ℕ) (l : ℕ) (out scratch : List ℕ) → Asked h m e l out scratch →
    ((decode_number h m e l out scratch ≡ 0 → ⊥) → decode_leaves h m e l out scratch ≡ replicate (out_size h) 0) ×
    (decode_scratch h m e l out scratch ≡ replicate (scratch_size h) 0)

-- THE BLOCKS OF A STRIPE ARE bs: its decoding gives them, and the call `decode`, whatever the output and the scratch hold that it is lent, gives 0 and leaves
-- them, zeros after them, and a scratch of zeros
pub record Gives (h : Header) (m e : List ℕ) (l : ℕ) (bs : List ℕ) : Type 0 where
  pub decodes : Decodes h m e l bs
  pub call : (out scratch : List ℕ) → length m ≡ image_size h → length out ≡ out_size h → length scratch ≡ scratch_size h →
      (decode_number h m e l out scratch ≡ 0) × (decode_leaves h m e l out scratch ≡ bs ++ replicate (out_size h - length bs) 0) ×
      (decode_scratch h m e l out scratch ≡ replicate (scratch_size h) 0)

-- ALL OF THIS ROOM
pub record Decoding : Type 0 where
  pub words_stand : WordsStand
  pub gives_seven : GivesSeven
  pub gives_eight : GivesEight
  pub gives_nine : GivesNine
  pub gives_ten : GivesTen
  pub gives_zero : GivesZero
  pub leaves_blocks : LeavesBlocks
  pub leaves_zeros : LeavesZeros
