-- THE BOUNDARY FOR C: what it hands out of an answer says as much as the answer. Signs and letters: Demands. Assumes nothing.
use Rattle.std.specs.Prelude.{◌≡◌, true, false, ◌⊎◌, ◌↔◌, List, ℕ, suc, ◌*◌, ◌^◌, take, drop}
use Rattle.layout.specs.declared.Header.{Header}
use Rattle.recovery.specs.Verdicts.{Verdict}
use Rattle.store.specs.StoreCalls.{read_number, read_gives}
use Rattle.recovery.specs.RecoveryCall.{recover_answer}
use Rattle.two_readings.specs.RecoverTwoCall.{recover_two_answer}
use Rattle.two_readings.specs.ShelfOfTwoCall.{shelf_of_two_number, shelf_of_two_part, place_of_two}
use Rattle.explanation.specs.ExplainCall.{explain_answer}
use Rattle.vault.specs.promises.Erasures.{stripe_place}
use Rattle.vault.specs.promises.TwoReadings.{SecondHasMore}
use Rattle.vault.specs.Boundary.{read_start, read_count, no_shelf, shelf_of}

-- READING. The words of raw from the index that is handed out, as many as the count says, are the part that reading gives
abbrev pub PartIs : Type 0
PartIs = (h : Header) (raw : List ℕ) (i : ℕ) → take (read_count h raw i) (drop (read_start h raw i) raw) ≡ read_gives h raw i

-- they are those of record i, and 0 and 0 where it is refused
abbrev pub PartAt : Type 0
PartAt =
    (h : Header) (raw : List ℕ) (i : ℕ) →
    (read_number h raw i ≡ 0 → (read_start h raw i ≡ i * h.s) × (read_count h raw i ≡ h.s)) ×
    ((read_number h raw i ≡ 0 → ⊥) → (read_start h raw i ≡ 0) × (read_count h raw i ≡ 0))

-- ONE STRIPE OF TWO READINGS. The bytes of the first image where the reading that is handed out is 0, and of the second where it is 1, from the start on, as
-- many as the count says, are the part that the call gives
abbrev pub PlaceIs : Type 0
PlaceIs =
    (h : Header) (m e m' e' : List ℕ) (l : ℕ) →
    let p = place_of_two h m e m' e' l in
    ((p.reading ≡ 0) × (take p.count (drop p.start m) ≡ shelf_of_two_part h m e m' e' l)) ⊎
    ((p.reading ≡ 1) × (take p.count (drop p.start m') ≡ shelf_of_two_part h m e m' e' l))

-- they are those of the stripe: 1 if and only if the second list leaves more of its positions; and 0, 0 and 0 where it is refused
abbrev pub PlaceAt : Type 0
PlaceAt =
    (h : Header) (m e m' e' : List ℕ) (l : ℕ) →
    let p = place_of_two h m e m' e' l in
    (shelf_of_two_number h m e m' e' l ≡ 0 →
    ((p.reading ≡ 1) ↔ SecondHasMore h e e' l) × (p.start ≡ 4 * stripe_place h l) × (p.count ≡ 4 * (2 ^ suc l * suc h.s))) ×
    ((shelf_of_two_number h m e m' e' l ≡ 0 → ⊥) → (p.reading ≡ 0) × (p.start ≡ 0) × (p.count ≡ 0))

-- RECOVERY, AND EXPLAINING. A stripe that is named is handed out, and where none is, the number that stands for none
abbrev pub ShelfIs : Type 0
ShelfIs = (answer : Verdict) → (answer.named ≡ true → shelf_of answer ≡ answer.stripe) × (answer.named ≡ false → shelf_of answer ≡ 4294967295)

-- Whoever reads the number that stands for none knows that no stripe is named
abbrev pub NoneNamed : Type 0
NoneNamed =
    (h : Header) (m e out scratch : List ℕ) → shelf_of (recover_answer h m e out scratch) ≡ no_shelf → (recover_answer h m e out scratch).named ≡ false

abbrev pub NoneExplained : Type 0
NoneExplained =
    (h : Header) (m e counts origins scratch : List ℕ) →
    let answer = explain_answer h m e counts origins scratch in
    shelf_of answer ≡ no_shelf → answer.named ≡ false

abbrev pub NoneNamedOfTwo : Type 0
NoneNamedOfTwo =
    (h : Header) (m e m' e' out scratch : List ℕ) →
    let answer = recover_two_answer h m e m' e' out scratch in
    shelf_of answer ≡ no_shelf → answer.named ≡ false

-- ALL OF THIS ROOM
pub record Boundary : Type 0 where
  pub part_is : PartIs
  pub part_at : PartAt
  pub place_is : PlaceIs
  pub place_at : PlaceAt
  pub shelf_is : ShelfIs
  pub none_named : NoneNamed
  pub none_explained : NoneExplained
  pub none_named_of_two : NoneNamedOfTwo
