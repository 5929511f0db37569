-- WHAT EVERY CALL LEAVES, by its number: with 1 to 6 and 11 to 14 everything as it was, with 7 to 10 zeros but for counts, with 0 what is promised. Of `write`,
-- `strike` and `take_back` it is refused_stays of Demands, and with 0 the rooms Writing and TakingBack, which also has the scratch. Signs and letters: Demands.
-- Assumes nothing.
use Rattle.std.specs.Prelude.{◌≡◌, ◌⊎◌, ◌↔◌, List, [], ℕ, suc, ◌+◌, ◌*◌, ◌-◌, ◌/◌, ◌%◌, ◌^◌, ◌≤◌, ◌<◌, length, get_or, replicate}
use Rattle.layout.specs.declared.Header.{Header}
use Rattle.layout.specs.Header.{header_of}
use Rattle.store.specs.Buffers.{buffers, full_stripe}
use Rattle.store.specs.StoreCalls.{open_answer, open_leaves, read_number, read_gives}
use Rattle.image.specs.ImageCall.{image_number, image_leaves}
use Rattle.stripe_decoding.specs.StripeCall.{decode_number, decode_leaves, decode_scratch}
use Rattle.recovery.specs.RecoveryCall.{recover_answer, recover_leaves, recover_scratch, unnamed, at_fault}
use Rattle.two_readings.specs.RecoverTwoCall.{recover_two_answer, recover_two_leaves, recover_two_scratch}
use Rattle.two_readings.specs.ShelfOfTwoCall.{shelf_of_two_number, shelf_of_two_part}
use Rattle.explanation.specs.ExplainCall.{explain_answer, explain_counts, explain_origins, explain_scratch}
use Rattle.power_table.specs.PowersCall.{powers_number, powers_leaves}
use Rattle.vault.specs.Event.{Opening, Event}
use Rattle.vault.specs.Model.{model_of}
use Rattle.vault.specs.History.{Opens, vault_after, header_after, image_after}
use Rattle.layout.specs.Records.{record_in}
use Rattle.vault.specs.promises.Table.{ImageLength, IsStruck}

-- OPENING: a header of zeros where it is refused; else k, s and 0, the raw records as they are, their full stripe, and a log of zeros
abbrev pub OpenRefused : Type 0
OpenRefused =
    (k s : ℕ) (raw full log : List ℕ) → ((open_answer k s raw full log).number ≡ 0 → ⊥) →
    ((open_answer k s raw full log).header ≡ header_of 0 0 0) × (open_leaves k s raw full log ≡ buffers raw full log)

abbrev pub OpenTaken : Type 0
OpenTaken =
    (k s : ℕ) (raw full log : List ℕ) → (open_answer k s raw full log).number ≡ 0 →
    let h = header_of k s 0 in
    ((open_answer k s raw full log).header ≡ h) × (open_leaves k s raw full log ≡ buffers raw (full_stripe h raw) (replicate ((2 * 2 ^ k - 2) * suc s) 0))

-- READING: an empty part where it is refused; else record i, whose word j is word i * s + j of the raw buffer
abbrev pub ReadRefused : Type 0
ReadRefused = (h : Header) (raw : List ℕ) (i : ℕ) → (read_number h raw i ≡ 0 → ⊥) → read_gives h raw i ≡ []

abbrev pub ReadTaken : Type 0
ReadTaken =
    (h : Header) (raw : List ℕ) (i : ℕ) → read_number h raw i ≡ 0 →
    (length (read_gives h raw i) ≡ h.s) × ((j : ℕ) → j < h.s → get_or (read_gives h raw i) j 0 ≡ get_or raw (i * h.s + j) 0)

-- after any history the number is 14 if and only if the model's record is struck, and else 0, and the part is the model's record
abbrev pub ReadsModel : Type 0
ReadsModel =
    (o : Opening) (es : List Event) (i : ℕ) → Opens o → i < 2 ^ (model_of o es).k →
    let h = header_after o es in
    let raw = (vault_after o es).held.raw in
    let kept = record_in (model_of o es).s (model_of o es).records i in
    let is_struck = IsStruck (model_of o es).s (λ q. get_or kept q 0) in
    ((read_number h raw i ≡ 14) ↔ is_struck) × ((is_struck → ⊥) → (read_number h raw i ≡ 0) × (read_gives h raw i ≡ kept))

-- THE IMAGE: as it was where it is refused; else the words of the full stripe and then those of the log, each 4 bytes, low byte first
abbrev pub byte_of : (word byte : ℕ) → ℕ
byte_of word byte = word / 256 ^ byte % 256

pub record ImageOf (h : Header) (full log m : List ℕ) : Type 0 where
  pub long : ImageLength h m
  pub full_first : (q byte : ℕ) → q < 2 * 2 ^ h.k * suc h.s → byte < 4 → get_or m (4 * q + byte) 0 ≡ byte_of (get_or full q 0) byte
  pub then_log : (q byte : ℕ) → q < (2 * 2 ^ h.k - 2) * suc h.s → byte < 4 →
      get_or m (4 * (2 * 2 ^ h.k * suc h.s + q) + byte) 0 ≡ byte_of (get_or log q 0) byte

abbrev pub ImageRefused : Type 0
ImageRefused = (h : Header) (full log m : List ℕ) → (image_number h full log m ≡ 0 → ⊥) → image_leaves h full log m ≡ m

abbrev pub ImageTaken : Type 0
ImageTaken = (h : Header) (full log m : List ℕ) → image_number h full log m ≡ 0 → ImageOf h full log (image_leaves h full log m)

-- after any history the call is taken, and leaves the image that losses and recoveries are of
abbrev pub ImagesHistory : Type 0
ImagesHistory =
    (o : Opening) (es : List Event) (m : List ℕ) → Opens o →
    let h = header_after o es in
    let held = (vault_after o es).held in
    ImageLength h m → (image_number h held.full held.log m ≡ 0) × (image_leaves h held.full held.log m ≡ image_after o es)

-- DECODING
abbrev pub Zeros : (size : ℕ) → (words : List ℕ) → Type 0
Zeros size words = words ≡ replicate size 0

abbrev pub DecodeRefused : Type 0
DecodeRefused =
    (h : Header) (m e : List ℕ) (l : ℕ) (out scratch : List ℕ) →
    let n = decode_number h m e l out scratch in
    1 ≤ n → n ≤ 6 → (decode_leaves h m e l out scratch ≡ out) × (decode_scratch h m e l out scratch ≡ scratch)

abbrev pub DecodeFailed : Type 0
DecodeFailed =
    (h : Header) (m e : List ℕ) (l : ℕ) (out scratch : List ℕ) →
    let n = decode_number h m e l out scratch in
    7 ≤ n → Zeros (length out) (decode_leaves h m e l out scratch) × Zeros (length scratch) (decode_scratch h m e l out scratch)

-- with 0 LeavesBlocks of Decoding says what stands in the output
abbrev pub DecodeTaken : Type 0
DecodeTaken =
    (h : Header) (m e : List ℕ) (l : ℕ) (out scratch : List ℕ) → decode_number h m e l out scratch ≡ 0 →
    (length (decode_leaves h m e l out scratch) ≡ length out) × Zeros (length scratch) (decode_scratch h m e l out scratch)

-- RECOVERY: with 1 to 3 it names no stripe. With 0 RecoverHolds of Recovering says what stands in the output, and of a history's image recovers_all of Demands
abbrev pub RecoverRefused : Type 0
RecoverRefused =
    (h : Header) (m e out scratch : List ℕ) →
    let answer = recover_answer h m e out scratch in
    1 ≤ answer.number → answer.number ≤ 6 →
    (answer ≡ unnamed answer.number) × (recover_leaves h m e out scratch ≡ out) × (recover_scratch h m e out scratch ≡ scratch)

abbrev pub RecoverFailed : Type 0
RecoverFailed =
    (h : Header) (m e out scratch : List ℕ) →
    let answer = recover_answer h m e out scratch in
    7 ≤ answer.number →
    (answer ≡ at_fault answer.number answer.stripe) × Zeros (length out) (recover_leaves h m e out scratch) ×
    Zeros (length scratch) (recover_scratch h m e out scratch)

abbrev pub RecoverTaken : Type 0
RecoverTaken =
    (h : Header) (m e out scratch : List ℕ) → (recover_answer h m e out scratch).number ≡ 0 →
    (recover_answer h m e out scratch ≡ unnamed 0) × (length (recover_leaves h m e out scratch) ≡ length out) ×
    Zeros (length scratch) (recover_scratch h m e out scratch)

-- RECOVERY FROM TWO READINGS: with 1, 2, 3 and 13 it names no stripe. With 0 TwoHolds of TwoReadings says what stands in the output, and of a history's images
-- TwoRecover there
abbrev pub TwoRefused : Type 0
TwoRefused =
    (h : Header) (m e m' e' out scratch : List ℕ) →
    let answer = recover_two_answer h m e m' e' out scratch in
    ((1 ≤ answer.number) × (answer.number ≤ 6)) ⊎ (answer.number ≡ 13) →
    (answer ≡ unnamed answer.number) × (recover_two_leaves h m e m' e' out scratch ≡ out) × (recover_two_scratch h m e m' e' out scratch ≡ scratch)

abbrev pub TwoFailed : Type 0
TwoFailed =
    (h : Header) (m e m' e' out scratch : List ℕ) →
    let answer = recover_two_answer h m e m' e' out scratch in
    7 ≤ answer.number → answer.number ≤ 10 →
    (answer ≡ at_fault answer.number answer.stripe) × Zeros (length out) (recover_two_leaves h m e m' e' out scratch) ×
    Zeros (length scratch) (recover_two_scratch h m e m' e' out scratch)

abbrev pub TwoTaken : Type 0
TwoTaken =
    (h : Header) (m e m' e' out scratch : List ℕ) → (recover_two_answer h m e m' e' out scratch).number ≡ 0 →
    (recover_two_answer h m e m' e' out scratch ≡ unnamed 0) × (length (recover_two_leaves h m e m' e' out scratch) ≡ length out) ×
    Zeros (length scratch) (recover_two_scratch h m e m' e' out scratch)

-- ONE STRIPE OF TWO READINGS: an empty part where it is refused. With 0 ShelfBytes of TwoReadings says which part it is
abbrev pub ShelfRefused : Type 0
ShelfRefused =
    (h : Header) (m e m' e' : List ℕ) (l : ℕ) → (shelf_of_two_number h m e m' e' l ≡ 0 → ⊥) → shelf_of_two_part h m e m' e' l ≡ []

-- EXPLAINING: CountsAre of Explaining says what stands in the counts with any number but 1 to 3; ExplainHolds of Recovering what in the origins with 0, and of
-- a history's image OriginsTrue of Explaining
abbrev pub ExplainRefused : Type 0
ExplainRefused =
    (h : Header) (m e counts origins scratch : List ℕ) →
    let answer = explain_answer h m e counts origins scratch in
    1 ≤ answer.number → answer.number ≤ 6 →
    (answer ≡ unnamed answer.number) × (explain_counts h m e counts origins scratch ≡ counts) × (explain_origins h m e counts origins scratch ≡ origins) ×
    (explain_scratch h m e counts origins scratch ≡ scratch)

abbrev pub ExplainFailed : Type 0
ExplainFailed =
    (h : Header) (m e counts origins scratch : List ℕ) →
    let answer = explain_answer h m e counts origins scratch in
    7 ≤ answer.number →
    (answer ≡ at_fault answer.number answer.stripe) × Zeros (length origins) (explain_origins h m e counts origins scratch) ×
    Zeros (length scratch) (explain_scratch h m e counts origins scratch)

abbrev pub ExplainTaken : Type 0
ExplainTaken =
    (h : Header) (m e counts origins scratch : List ℕ) → (explain_answer h m e counts origins scratch).number ≡ 0 →
    (explain_answer h m e counts origins scratch ≡ unnamed 0) × (length (explain_origins h m e counts origins scratch) ≡ length origins) ×
    Zeros (length scratch) (explain_scratch h m e counts origins scratch)

-- POWERS: as it was where it is refused; else word q is 3^(32q) modulo 65537
abbrev pub PowersRefused : Type 0
PowersRefused = (out : List ℕ) → (powers_number out ≡ 0 → ⊥) → powers_leaves out ≡ out

abbrev pub PowersTaken : Type 0
PowersTaken =
    (out : List ℕ) → powers_number out ≡ 0 →
    (length (powers_leaves out) ≡ 2048) × ((q : ℕ) → q < 2048 → get_or (powers_leaves out) q 0 ≡ 3 ^ (32 * q) % 65537)

-- ALL OF THIS ROOM
pub record Leaving : Type 0 where
  pub open_refused : OpenRefused
  pub open_taken : OpenTaken
  pub read_refused : ReadRefused
  pub read_taken : ReadTaken
  pub reads_model : ReadsModel
  pub image_refused : ImageRefused
  pub image_taken : ImageTaken
  pub images_history : ImagesHistory
  pub decode_refused : DecodeRefused
  pub decode_failed : DecodeFailed
  pub decode_taken : DecodeTaken
  pub recover_refused : RecoverRefused
  pub recover_failed : RecoverFailed
  pub recover_taken : RecoverTaken
  pub two_refused : TwoRefused
  pub two_failed : TwoFailed
  pub two_taken : TwoTaken
  pub shelf_refused : ShelfRefused
  pub explain_refused : ExplainRefused
  pub explain_failed : ExplainFailed
  pub explain_taken : ExplainTaken
  pub powers_refused : PowersRefused
  pub powers_taken : PowersTaken
