-- What other rooms promise by the model's k and s, by the opening's: the two are equal after any history. Assumes nothing.
use mathlib.Core.Path.{◌≡◌, sym, ap, ap₂, ◌∙◌}
use Rattle.std.proofs.Common.{subst}
use mathlib.Core.List.{[], ◌∷◌, ◌++◌}
use Prim.Native.Nat.{ℕ, suc, ◌*◌, ◌-◌, ◌^◌, ◌<◌}
use lib.ListN.{length, get_or, take, replicate}
use Rattle.layout.specs.Header.{header_of}
use Rattle.layout.specs.Records.{record_in}
use Rattle.vault.specs.Event.{write, earlier, strike}
use Rattle.vault.specs.Model.{writes, table_number, model_of}
use Rattle.vault.specs.History.{number_on, vault_after}
use Rattle.vault.specs.Round.{put_all, round_of}
use Rattle.vault.specs.promises.Openings.{HeaderAsOpened, RecordsAsOpened, BeforeAsOpened, LastAsOpened, StartAsOpened, RefusedAsOpened, KeptAsOpened}
use Rattle.vault.specs.promises.Openings.{StruckAsOpened}
use Rattle.vault.proofs.Histories.{header_is, sizes_stay, records_long_lem, before_is}
use Rattle.vault.proofs.LastWrites.{last_is_record, else_at_start}
use Rattle.vault.proofs.Blanks.{blank_refused, blank_kept}
use Rattle.vault.proofs.Strikes.{strike_taken}

pub header_as_opened : HeaderAsOpened
header_as_opened o es O =
    let same = sizes_stay o es in
    header_is o es O ∙ ap₂ (λ (k s : ℕ). header_of k s (writes (model_of o es))) same.0 same.1

pub records_as_opened : RecordsAsOpened
records_as_opened o es O =
    let same = sizes_stay o es in
    records_long_lem o es O ∙ ap₂ (λ (k s : ℕ). 2 ^ k * s) same.0 same.1

pub before_as_opened : BeforeAsOpened
before_as_opened o es O =
    subst
    (λ (s : ℕ). let count = writes (model_of o es) in let round = round_of o es in
    (count ≡ length round.since) × (length (model_of o es).before ≡ count) ×
    ((back : ℕ) → back < count → get_or (model_of o es).before back [] ≡ put_all s round.base (take (count - suc back) round.since)))
    (sizes_stay o es).1 (before_is o es O)

pub last_as_opened : LastAsOpened
last_as_opened o es i t O w = ap (λ (s : ℕ). record_in s (model_of o es).records i) (sym (sizes_stay o es).1) ∙ last_is_record o es i t O w

pub start_as_opened : StartAsOpened
start_as_opened o es i O n =
    let same = (sizes_stay o es).1 in
    ap (λ (s : ℕ). record_in s (model_of o es).records i) (sym same) ∙ else_at_start o es i O n ∙ ap (λ (s : ℕ). record_in s (round_of o es).base i) same

pub refused_as_opened : RefusedAsOpened
refused_as_opened o es i O b =
    let same = sizes_stay o es in
    subst
    (λ (s : ℕ). let next = write i (replicate s 0) in
    (number_on (vault_after o es) next ≡ 11) × (vault_after o (es ++ (next ∷ [])) ≡ vault_after o es) × (model_of o (es ++ (next ∷ [])) ≡ model_of o es))
    same.1 (blank_refused o es i O (subst (λ (k : ℕ). i < 2 ^ k) (sym same.0) b))

pub kept_as_opened : KeptAsOpened
kept_as_opened o es i O b =
    let same = sizes_stay o es in
    subst
    (λ (s : ℕ). let next = earlier i (replicate s 0) in
    (number_on (vault_after o es) next ≡ 0) × (table_number (model_of o es) next ≡ 0) ×
    (record_in s (model_of o (es ++ (next ∷ []))).records i ≡ replicate s 0))
    same.1 (blank_kept o es i O (subst (λ (k : ℕ). i < 2 ^ k) (sym same.0) b))

pub struck_as_opened : StruckAsOpened
struck_as_opened o es i O b =
    let same = sizes_stay o es in
    let t = strike_taken o es i O (subst (λ (k : ℕ). i < 2 ^ k) (sym same.0) b) in
    (t.0, subst (λ (s : ℕ). record_in s (model_of o (es ++ (strike i ∷ []))).records i ≡ replicate s 65536) same.1 t.2)
