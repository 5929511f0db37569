-- BY THE OPENING'S NUMBERS: what other rooms say by the model's own k and s, said by those of the opening, which no event of today changes (SizesStay of
-- Histories). Signs and letters: Demands. Assumes nothing.
use Rattle.std.specs.Prelude.{◌≡◌, List, [], ◌∷◌, ◌++◌, ℕ, suc, ◌*◌, ◌-◌, ◌^◌, ◌<◌, length, get_or, take, replicate}
use Rattle.layout.specs.Header.{header_of}
use Rattle.layout.specs.Records.{record_in}
use Rattle.vault.specs.Event.{Opening, Event, write, earlier, strike}
use Rattle.vault.specs.Model.{writes, written_at, table_number, LastWrite, NoWrite, model_of}
use Rattle.vault.specs.History.{number_on, Opens, vault_after, header_after}
use Rattle.vault.specs.Round.{put_all, round_of}

-- header_is of Demands
abbrev pub HeaderAsOpened : Type 0
HeaderAsOpened = (o : Opening) (es : List Event) → Opens o → header_after o es ≡ header_of o.k o.s (writes (model_of o es))

-- RecordsLong and BeforeIs of Histories
abbrev pub RecordsAsOpened : Type 0
RecordsAsOpened = (o : Opening) (es : List Event) → Opens o → length (model_of o es).records ≡ 2 ^ o.k * o.s

abbrev pub BeforeAsOpened : Type 0
BeforeAsOpened =
    (o : Opening) (es : List Event) → Opens o →
    let count = writes (model_of o es) in
    let round = round_of o es in
    (count ≡ length round.since) × (length (model_of o es).before ≡ count) ×
    ((back : ℕ) → back < count → get_or (model_of o es).before back [] ≡ put_all o.s round.base (take (count - suc back) round.since))

-- LastIsRecord and ElseAtStart of Explaining
abbrev pub LastAsOpened : Type 0
LastAsOpened =
    (o : Opening) (es : List Event) (i t : ℕ) → Opens o → LastWrite (model_of o es) i t →
    record_in o.s (model_of o es).records i ≡ (written_at (model_of o es) t).block

abbrev pub StartAsOpened : Type 0
StartAsOpened =
    (o : Opening) (es : List Event) (i : ℕ) → Opens o → NoWrite (model_of o es) i →
    record_in o.s (model_of o es).records i ≡ record_in o.s (round_of o es).base i

-- BlankRefused and BlankKept of Blanks
abbrev pub RefusedAsOpened : Type 0
RefusedAsOpened =
    (o : Opening) (es : List Event) (i : ℕ) → Opens o → i < 2 ^ o.k →
    let next = write i (replicate o.s 0) in
    (number_on (vault_after o es) next ≡ 11) × (vault_after o (es ++ (next ∷ [])) ≡ vault_after o es) × (model_of o (es ++ (next ∷ [])) ≡ model_of o es)

abbrev pub KeptAsOpened : Type 0
KeptAsOpened =
    (o : Opening) (es : List Event) (i : ℕ) → Opens o → i < 2 ^ o.k →
    let next = earlier i (replicate o.s 0) in
    (number_on (vault_after o es) next ≡ 0) × (table_number (model_of o es) next ≡ 0) ×
    (record_in o.s (model_of o (es ++ (next ∷ []))).records i ≡ replicate o.s 0)

-- StrikeTaken of Strikes
abbrev pub StruckAsOpened : Type 0
StruckAsOpened =
    (o : Opening) (es : List Event) (i : ℕ) → Opens o → i < 2 ^ o.k →
    (number_on (vault_after o es) (strike i) ≡ 0) × (record_in o.s (model_of o (es ++ (strike i ∷ []))).records i ≡ replicate o.s 65536)

-- ALL OF THIS ROOM
pub record Openings : Type 0 where
  pub header_as_opened : HeaderAsOpened
  pub records_as_opened : RecordsAsOpened
  pub before_as_opened : BeforeAsOpened
  pub last_as_opened : LastAsOpened
  pub start_as_opened : StartAsOpened
  pub refused_as_opened : RefusedAsOpened
  pub kept_as_opened : KeptAsOpened
  pub struck_as_opened : StruckAsOpened
