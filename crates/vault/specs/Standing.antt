-- What stands of a whole history: the writes and strikes that the table takes, without those that were taken back. It is fed what the model is fed, and
-- nothing from the vault. Assumes nothing: these are definitions.
use Rattle.std.specs.Prelude.{◌≡◌, true, false, List, [], ◌∷◌, ◌++◌, ℕ, eqb, drop}
use Rattle.vault.specs.Event.{Opening, Event, write, earlier, strike, take_back}
use Rattle.vault.specs.Model.{Model, table_number, fed, opened_model}

-- WHAT STANDS, the newest first: a taking-back takes off the newest
abbrev pub with_next : Event → (so_far : List Event) → List Event
with_next (write i b) ws = write i b ∷ ws
with_next (earlier i b) ws = earlier i b ∷ ws
with_next (strike i) ws = strike i ∷ ws
with_next (take_back scratch) ws = drop 1 ws

unfoldable pub standing_from : Model → (so_far : List Event) → List Event → List Event
standing_from x ws [] = ws
standing_from x ws (next ∷ es) = standing_from (fed x next) (elim (eqb (table_number x next) 0) [ true ↦ with_next next ws | false ↦ ws ]) es

abbrev pub standing : Opening → List Event → List Event
standing o es = standing_from (opened_model o) [] es

-- an event is to record i; none of some is; and `next` is the newest one that is
abbrev pub IsTo : Event → (record_number : ℕ) → Type 0
IsTo (write j b) i = j ≡ i
IsTo (earlier j b) i = j ≡ i
IsTo (strike j) i = j ≡ i
IsTo (take_back scratch) i = ⊥

unfoldable pub NoneTo : List Event → (record_number : ℕ) → Type 0
NoneTo [] i = Unit {0}
NoneTo (next ∷ ws) i = (IsTo next i → ⊥) × NoneTo ws i

pub record LastTo (ws : List Event) (i : ℕ) (next : Event) : Type 0 where
  pub newer : List Event
  pub older : List Event
  pub parts : ws ≡ newer ++ (next ∷ older)
  pub to : IsTo next i
  pub none : NoneTo newer i
