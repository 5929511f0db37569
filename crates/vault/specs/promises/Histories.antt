-- HISTORIES: the model beside the round that a history ends in, and the raw copy and the image that it leaves. Signs and letters: Demands. Assumes nothing.
use Rattle.std.specs.Prelude.{◌≡◌, ◌⊎◌, List, [], ◌∷◌, ◌++◌, ℕ, suc, ◌+◌, ◌*◌, ◌-◌, ◌^◌, ◌≤◌, ◌<◌, length, get_or, take, replicate}
use Rattle.layout.specs.Header.{image_size}
use Rattle.vault.specs.Event.{Opening, Event, write, earlier, strike, take_back}
use Rattle.vault.specs.Model.{writes, table_number, model_of}
use Rattle.vault.specs.History.{Opens, vault_after, header_after, image_after}
use Rattle.vault.specs.Round.{put_all, model_in, round_of}

-- THE MODEL begins with the opening's k and s, an event keeps them, and so they stay the opening's
abbrev pub SizesBegin : Type 0
SizesBegin = (o : Opening) → ((model_of o []).k ≡ o.k) × ((model_of o []).s ≡ o.s)

-- with the opened records, and no write
abbrev pub ModelBegins : Type 0
ModelBegins = (o : Opening) → ((model_of o []).records ≡ o.raw) × (writes (model_of o []) ≡ 0)

abbrev pub SizesKept : Type 0
SizesKept =
    (o : Opening) (es : List Event) (next : Event) →
    ((model_of o (es ++ (next ∷ []))).k ≡ (model_of o es).k) × ((model_of o (es ++ (next ∷ []))).s ≡ (model_of o es).s)

abbrev pub SizesStay : Type 0
SizesStay = (o : Opening) (es : List Event) → ((model_of o es).k ≡ o.k) × ((model_of o es).s ≡ o.s)

-- it has n records of s words by its own k and s, and they are the raw copy
abbrev pub RecordsLong : Type 0
RecordsLong = (o : Opening) (es : List Event) → Opens o → length (model_of o es).records ≡ 2 ^ (model_of o es).k * (model_of o es).s

abbrev pub RawIs : Type 0
RawIs = (o : Opening) (es : List Event) → Opens o → (vault_after o es).held.raw ≡ (model_of o es).records

-- it is the round's: its records are those of the round's start with all writes since put in
abbrev pub ModelIs : Type 0
ModelIs = (o : Opening) (es : List Event) → Opens o → model_of o es ≡ model_in (round_of o es)

-- and what it remembers of the round is what was there: it counts the writes since, `before` has an entry for each, and entry `back` is the records as all
-- writes but the last back + 1 left them
abbrev pub BeforeIs : Type 0
BeforeIs =
    (o : Opening) (es : List Event) → Opens o →
    let count = writes (model_of o es) in
    let round = round_of o es in
    (count ≡ length round.since) × (length (model_of o es).before ≡ count) ×
    ((back : ℕ) → back < count → get_or (model_of o es).before back [] ≡ put_all (model_of o es).s round.base (take (count - suc back) round.since))

-- AN EVENT THAT THE TABLE REFUSES leaves the model as it is. A write or a strike that it takes puts its block's words in the place of record i, and nothing
-- else; the count grows by 1, and at n it is 0
abbrev pub ModelKept : Type 0
ModelKept = (o : Opening) (es : List Event) (next : Event) → (table_number (model_of o es) next ≡ 0 → ⊥) → model_of o (es ++ (next ∷ [])) ≡ model_of o es

-- `Puts`: the event is a write or an earlier write of b to record i; or a strike of it, and b is 65536 in the place of each of its s data words
abbrev pub Puts : (s : ℕ) → Event → (record_number : ℕ) → (block : List ℕ) → Type 0
Puts s next i b = (next ≡ write i b) ⊎ (next ≡ earlier i b) ⊎ ((next ≡ strike i) × (b ≡ replicate s 65536))

abbrev pub ModelPuts : Type 0
ModelPuts =
    (o : Opening) (es : List Event) (next : Event) (i : ℕ) (b : List ℕ) → Opens o → Puts (model_of o es).s next i b → table_number (model_of o es) next ≡ 0 →
    let before = model_of o es in
    let after = model_of o (es ++ (next ∷ [])) in
    ((j : ℕ) → j < before.s → get_or after.records (i * before.s + j) 0 ≡ get_or b j 0) ×
    ((q : ℕ) → (q < i * before.s) ⊎ (suc i * before.s ≤ q) → get_or after.records q 0 ≡ get_or before.records q 0) ×
    (suc (writes before) < 2 ^ before.k → writes after ≡ suc (writes before)) × (suc (writes before) ≡ 2 ^ before.k → writes after ≡ 0)

-- A TAKING-BACK that it takes cancels the last write of the round: the records are those of the round's start with all writes but the last put in
abbrev pub ModelTakes : Type 0
ModelTakes =
    (o : Opening) (es : List Event) (scratch : List ℕ) → Opens o → table_number (model_of o es) (take_back scratch) ≡ 0 →
    let before = model_of o es in
    let after = model_of o (es ++ (take_back scratch ∷ [])) in
    let round = round_of o es in
    (suc (writes after) ≡ writes before) × (after.written ≡ take (writes before - 1) before.written) ×
    (after.records ≡ put_all before.s round.base (take (writes before - 1) round.since))

-- THE IMAGE has the length that recovery asks for
abbrev pub ImageLong : Type 0
ImageLong = (o : Opening) (es : List Event) → Opens o → length (image_after o es) ≡ image_size (header_after o es)

-- ALL OF THIS ROOM
pub record Histories : Type 0 where
  pub sizes_begin : SizesBegin
  pub model_begins : ModelBegins
  pub sizes_kept : SizesKept
  pub sizes_stay : SizesStay
  pub records_long : RecordsLong
  pub raw_is : RawIs
  pub model_is : ModelIs
  pub before_is : BeforeIs
  pub model_kept : ModelKept
  pub model_puts : ModelPuts
  pub model_takes : ModelTakes
  pub image_long : ImageLong
