-- STRIKES, in histories: that a strike is a write, of what no write can write; what a record is as last written, over the whole history; and where it reads as
-- struck. What a strike leaves on any buffers is in Writing, that it is taken back in TakingBack, and that it comes back in Demands. Signs and letters:
-- Demands. Assumes nothing.
use Rattle.std.specs.Prelude.{◌≡◌, ◌⊎◌, ◌↔◌, List, [], ◌∷◌, ◌++◌, ℕ, suc, ◌+◌, ◌*◌, ◌^◌, ◌<◌, get_or, drop, replicate}
use Rattle.layout.specs.Records.{record_in}
use Rattle.store.specs.StoreCalls.{read_number}
use Rattle.explanation.specs.ExplainCall.{explain_origins}
use Rattle.vault.specs.Event.{Opening, Event, write, earlier, strike, take_back}
use Rattle.vault.specs.Model.{writes, table_number, model_of}
use Rattle.vault.specs.History.{number_on, Opens, vault_after, header_after}
use Rattle.vault.specs.Standing.{standing, NoneTo, LastTo}
use Rattle.vault.specs.promises.Histories.{Puts}
use Rattle.vault.specs.promises.Losses.{KeepsHalf}
use Rattle.vault.specs.promises.Table.{IsStruck}
use Rattle.vault.specs.promises.Explaining.{Explained, HoldsWrite}

-- AFTER ANY HISTORY, and of any record below n, struck or not: a strike is taken and counts as a write, and the record is struck then
abbrev pub StrikeTaken : Type 0
StrikeTaken =
    (o : Opening) (es : List Event) (i : ℕ) → Opens o → i < 2 ^ (model_of o es).k →
    let before = model_of o es in
    let after = model_of o (es ++ (strike i ∷ [])) in
    (number_on (vault_after o es) (strike i) ≡ 0) × (table_number before (strike i) ≡ 0) × (record_in before.s after.records i ≡ replicate before.s 65536) ×
    (suc (writes before) < 2 ^ before.k → writes after ≡ suc (writes before)) × (suc (writes before) ≡ 2 ^ before.k → writes after ≡ 0)

-- a write of what it puts there gives 5, and so does an earlier one
abbrev pub StillFive : Type 0
StillFive =
    (o : Opening) (es : List Event) (i : ℕ) → Opens o → i < 2 ^ (model_of o es).k →
    let b = replicate (model_of o es).s 65536 in
    (number_on (vault_after o es) (write i b) ≡ 5) × (number_on (vault_after o es) (earlier i b) ≡ 5)

-- WHAT STANDS of a history: nothing at first. An event that the table refuses changes nothing of it, a write or a strike that it takes stands before the
-- others, and a taking-back that it takes takes the first of them off
abbrev pub StandingBegins : Type 0
StandingBegins = (o : Opening) → standing o [] ≡ []

abbrev pub StandingGrows : Type 0
StandingGrows =
    (o : Opening) (es : List Event) (next : Event) →
    let more = standing o (es ++ (next ∷ [])) in
    ((table_number (model_of o es) next ≡ 0 → ⊥) → more ≡ standing o es) ×
    ((i : ℕ) (b : List ℕ) → Puts (model_of o es).s next i b → table_number (model_of o es) next ≡ 0 → more ≡ next ∷ standing o es) ×
    ((scratch : List ℕ) → next ≡ take_back scratch → table_number (model_of o es) next ≡ 0 → more ≡ drop 1 (standing o es))

-- AS LAST WRITTEN, over the whole history: of the writes and strikes that stand, those taken and not taken back, the last to record i is what the record holds;
-- where none is to it, it holds what was opened
abbrev pub AsLastWritten : Type 0
AsLastWritten =
    (o : Opening) (es : List Event) (i : ℕ) → Opens o → i < 2 ^ (model_of o es).k →
    let s = (model_of o es).s in
    let kept = record_in s (model_of o es).records i in
    ((next : Event) (b : List ℕ) → LastTo (standing o es) i next → Puts s next i b → kept ≡ b) ×
    (NoneTo (standing o es) i → kept ≡ record_in s o.raw i)

-- and each record has one or the other
abbrev pub LastOrNone : Type 0
LastOrNone =
    (o : Opening) (es : List Event) (i : ℕ) → Opens o →
    ((next : Event) × (b : List ℕ) × LastTo (standing o es) i next × Puts (model_of o es).s next i b) ⊎ NoneTo (standing o es) i

-- READING gives 14 if and only if the last one was a strike, or there is none and the record was opened struck
abbrev pub ReadsStruck : Type 0
ReadsStruck =
    (o : Opening) (es : List Event) (i : ℕ) → Opens o → i < 2 ^ (model_of o es).k →
    (read_number (header_after o es) (vault_after o es).held.raw i ≡ 14) ↔
    (LastTo (standing o es) i (strike i) ⊎
    (NoneTo (standing o es) i × IsStruck (model_of o es).s (λ q. get_or (record_in (model_of o es).s o.raw i) q 0)))

-- EXPLAINING names the strike as the record's origin, by its number in the round and the level that holds it
abbrev pub StrikeExplained : Type 0
StrikeExplained =
    (o : Opening) (es : List Event) (i : ℕ) (m e counts origins scratch : List ℕ) → i < 2 ^ (model_of o es).k →
    suc (writes (model_of o es)) < 2 ^ (model_of o es).k →
    let then = es ++ (strike i ∷ []) in
    Explained o then m e counts origins scratch → KeepsHalf (header_after o then) e →
    let xs = explain_origins (header_after o then) m e counts origins scratch in
    (get_or xs (2 * i + 1) 0 ≡ writes (model_of o es)) × HoldsWrite (header_after o then) (get_or xs (2 * i) 0) (writes (model_of o es))

-- ALL OF THIS ROOM
pub record Strikes : Type 0 where
  pub strike_taken : StrikeTaken
  pub still_five : StillFive
  pub standing_begins : StandingBegins
  pub standing_grows : StandingGrows
  pub as_last_written : AsLastWritten
  pub last_or_none : LastOrNone
  pub reads_struck : ReadsStruck
  pub strike_explained : StrikeExplained
