-- Words that are stored over all that there is room for. Assumes nothing.
use Rattle.std.proofs.Common.{◌≡◌, ◌<◌, ℕ, List, get_or, length, refl, sym, ◌∙◌, zero-add}
use Rattle.field.proofs.WordLists.{is_table}
use Rattle.code.specs.steps.Storing.{stored}
use Rattle.code.proofs.RowLaws.{stored_last}

-- as many words stored as there is room for
pub stored_all : (f : ℕ → ℕ) (ws l : List ℕ) → length l ≡ length ws → ((i : ℕ) → i < length ws → get_or ws i 0 ≡ f i) → stored 0 f (length ws) l ≡ ws
stored_all f ws l e h = stored_last 0 f (length ws) l (e ∙ sym (zero-add (length ws))) ∙ sym (is_table ws (length ws) f refl h)
