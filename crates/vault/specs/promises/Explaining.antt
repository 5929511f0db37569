-- EXPLAINING why a rack comes back or does not. Signs and letters: Demands. Assumes nothing.
use Rattle.std.specs.Prelude.{◌≡◌, Bool, true, ◌⊎◌, ◌↔◌, List, ℕ, ◌+◌, ◌*◌, ◌-◌, ◌^◌, ◌≤◌, ◌<◌, length, get_or, replicate}
use Rattle.decoder.specs.Decoding.{survivors}
use Rattle.layout.specs.declared.Header.{Header}
use Rattle.layout.specs.Header.{raw_size, scratch_size, image_size, is_filled, first_of, stripe_of}
use Rattle.layout.specs.Records.{record_in}
use Rattle.image.specs.Erasures.{erasures_fit}
use Rattle.judging.specs.Decoding.{failed, decode_rows}
use Rattle.recovery.specs.Origins.{origins_size}
use Rattle.recovery.specs.RecoveryCall.{recover_answer, unnamed, at_fault}
use Rattle.explanation.specs.Counts.{counts_size}
use Rattle.explanation.specs.ExplainCall.{explain_early, explain_answer, explain_counts, explain_origins, explain_scratch}
use Rattle.vault.specs.Event.{Opening, Event}
use Rattle.vault.specs.Model.{Model, model_of, written_at, LastWrite, NoWrite}
use Rattle.vault.specs.History.{Opens, header_after, image_after}
use Rattle.vault.specs.Round.{round_of}
use Rattle.vault.specs.promises.Decoding.{marks, Half}
use Rattle.vault.specs.promises.Losses.{Needed, KeepsHalf, SameWords}

-- FOR EVERY INPUT: the number and the stripe that explaining answers are recovery's, with output, counts and origins at their lengths and one scratch
abbrev pub Agrees : Type 0
Agrees =
    (h : Header) (m e out counts origins scratch : List ℕ) →
    length out ≡ raw_size h → length counts ≡ counts_size h → length origins ≡ origins_size h →
    explain_answer h m e counts origins scratch ≡ recover_answer h m e out scratch

-- on inputs to which no number from 1 to 3 applies, whatever follows: the pair of a needed stripe is its surviving positions and what they lack of half; that
-- of any other stripe is zeros
abbrev pub CountsAre : Type 0
CountsAre =
    (h : Header) (m e counts origins scratch : List ℕ) → explain_early h m e counts origins scratch ≡ 0 →
    let xs = explain_counts h m e counts origins scratch in
    (length xs ≡ counts_size h) ×
    ((l : ℕ) → l ≤ h.k →
    (Needed h l → (get_or xs (2 * l) 0 ≡ length (survivors l (marks h e l))) × (get_or xs (2 * l + 1) 0 ≡ 2 ^ l - length (survivors l (marks h e l)))) ×
    ((Needed h l → ⊥) → (get_or xs (2 * l) 0 ≡ 0) × (get_or xs (2 * l + 1) 0 ≡ 0)))

-- and the shortfall is sharp: with d positions more than are left, whichever they are (ms: any marks, those of another erasure list among them) and whatever
-- words they have (ws), the stripe is still too few if and only if d is below it
abbrev pub CountsSharp : Type 0
CountsSharp =
    (h : Header) (m e counts origins scratch : List ℕ) (l d : ℕ) (ms : List Bool) (ws : List ℕ) → explain_early h m e counts origins scratch ≡ 0 →
    let xs = explain_counts h m e counts origins scratch in
    Needed h l → length (survivors l ms) ≡ get_or xs (2 * l) 0 + d →
    (decode_rows (stripe_of h l) ms ws ≡ failed 7) ↔ (d < get_or xs (2 * l + 1) 0)

-- where no number from 1 to 3 applies it leaves a scratch of zeros, and with a number from 7 to 10 origins of zeros; with 1 to 3 it leaves every buffer as it
-- is
abbrev pub ExplainLeaves : Type 0
ExplainLeaves =
    (h : Header) (m e counts origins scratch : List ℕ) →
    (explain_early h m e counts origins scratch ≡ 0 →
    (explain_scratch h m e counts origins scratch ≡ replicate (scratch_size h) 0) ×
    (((explain_answer h m e counts origins scratch).number ≡ 0 → ⊥) → explain_origins h m e counts origins scratch ≡ replicate (origins_size h) 0)) ×
    ((explain_early h m e counts origins scratch ≡ 0 → ⊥) →
    (explain_counts h m e counts origins scratch ≡ counts) × (explain_origins h m e counts origins scratch ≡ origins) ×
    (explain_scratch h m e counts origins scratch ≡ scratch))

-- A HISTORY'S IMAGE IS EXPLAINED from any well-formed erasure list, one that leaves too little as well; any image with the words that survive; and buffers of
-- their lengths
pub record Explained (o : Opening) (es : List Event) (m e counts origins scratch : List ℕ) : Type 0 where
  pub opens : Opens o
  pub well_formed : erasures_fit (header_after o es) e ≡ true
  pub long : length m ≡ image_size (header_after o es)
  pub words : SameWords (header_after o es) e (image_after o es) m
  pub counts_long : length counts ≡ counts_size (header_after o es)
  pub origins_long : length origins ≡ origins_size (header_after o es)
  pub scratch_long : length scratch ≡ scratch_size (header_after o es)

-- stripe l is the first in the order of decoding, k and then the levels down, that does not keep half
pub record FirstShort (h : Header) (e : List ℕ) (l : ℕ) : Type 0 where
  pub needed : Needed h l
  pub short : length (survivors l (marks h e l)) < 2 ^ l
  pub above : (l' : ℕ) → Needed h l' → l < l' → Half h e l'

-- the number is 0, and no stripe is named, if every needed stripe keeps half; else it is 7, with the first that does not
abbrev pub ExplainsWhy : Type 0
ExplainsWhy =
    (o : Opening) (es : List Event) (m e counts origins scratch : List ℕ) → Explained o es m e counts origins scratch →
    let h = header_after o es in
    let answer = explain_answer h m e counts origins scratch in
    (KeepsHalf h e × (answer ≡ unnamed 0)) ⊎ ((l : ℕ) × FirstShort h e l × (answer ≡ at_fault 7 l))

-- THE ORIGIN OF RECORD i: the last write of the round to it, with the level that holds it; k and 0, for the full stripe, where the round has none. A level
-- holds write t of the round if it is filled and t is one of the 2^l writes from its first on
pub record HoldsWrite (h : Header) (l t : ℕ) : Type 0 where
  pub level : l < h.k
  pub filled : is_filled h l ≡ true
  pub starts : first_of h l ≤ t
  pub ends : t < first_of h l + 2 ^ l

abbrev pub Origin : Header → Model → (record_number stripe write : ℕ) → Type 0
Origin h x i l t = (LastWrite x i t × HoldsWrite h l t) ⊎ (NoWrite x i × (l ≡ h.k) × (t ≡ 0))

-- where every needed stripe keeps half, the pair of each record is its origin, by the model's writes
abbrev pub OriginsTrue : Type 0
OriginsTrue =
    (o : Opening) (es : List Event) (m e counts origins scratch : List ℕ) → Explained o es m e counts origins scratch →
    let h = header_after o es in
    let xs = explain_origins h m e counts origins scratch in
    KeepsHalf h e → (length xs ≡ origins_size h) × ((i : ℕ) → i < 2 ^ h.k → Origin h (model_of o es) i (get_or xs (2 * i) 0) (get_or xs (2 * i + 1) 0))

-- and no record has two
abbrev pub OneOrigin : Type 0
OneOrigin =
    (h : Header) (x : Model) (i l t l' t' : ℕ) → Origin h x i l t → Origin h x i l' t' → (l ≡ l') × (t ≡ t')

-- what the origin holds is the record as last written: the block of the last write, or the record of the round's start where the round has none
abbrev pub LastIsRecord : Type 0
LastIsRecord =
    (o : Opening) (es : List Event) (i t : ℕ) → Opens o → LastWrite (model_of o es) i t →
    record_in (model_of o es).s (model_of o es).records i ≡ (written_at (model_of o es) t).block

abbrev pub ElseAtStart : Type 0
ElseAtStart =
    (o : Opening) (es : List Event) (i : ℕ) → Opens o → NoWrite (model_of o es) i →
    record_in (model_of o es).s (model_of o es).records i ≡ record_in (model_of o es).s (round_of o es).base i

-- ALL OF THIS ROOM
pub record Explaining : Type 0 where
  pub agrees : Agrees
  pub counts_are : CountsAre
  pub counts_sharp : CountsSharp
  pub explain_leaves : ExplainLeaves
  pub explains_why : ExplainsWhy
  pub origins_true : OriginsTrue
  pub one_origin : OneOrigin
  pub last_is_record : LastIsRecord
  pub else_at_start : ElseAtStart
