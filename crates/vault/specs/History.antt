-- Histories: events after a taken opening, run through the calls' own answers. Assumes nothing: these are definitions.
use Rattle.std.specs.Prelude.{◌≡◌, List, [], ◌∷◌, ℕ}
use Rattle.layout.specs.declared.Header.{Header}
use Rattle.image.specs.Image.{image_of}
use Rattle.store.specs.Buffers.{Buffers}
use Rattle.store.specs.StoreCalls.{open_number, open_answer, open_leaves, write_number, write_answer, write_leaves}
use Rattle.store.specs.StoreCalls.{earlier_number, earlier_answer, earlier_leaves, strike_number, strike_answer, strike_leaves}
use Rattle.taking_back.specs.TakeBackCall.{take_back_number, take_back_answer, take_back_leaves}
use Rattle.vault.specs.Event.{Opening, Event, write, earlier, strike, take_back}

-- a vault: its header and its buffers, as the opening or the event before left them
pub record Vault : Type 0 where
  pub header : Header
  pub held : Buffers

abbrev pub vault : Header → Buffers → Vault
vault h u = record { header = h; held = u }

-- the image of a vault: its full stripe and then its log
abbrev pub image_left : Vault → List ℕ
image_left v = image_of v.held.full v.held.log

-- the number that the call gives to an event; to an earlier write, the call as it was
abbrev pub number_on : Vault → Event → ℕ
number_on v (write i b) = write_number v.header v.held i b
number_on v (earlier i b) = earlier_number v.header v.held i b
number_on v (strike i) = strike_number v.header v.held i
number_on v (take_back scratch) = take_back_number v.header v.held scratch

-- what the call leaves
abbrev pub step : Vault → Event → Vault
step v (write i b) = vault (write_answer v.header v.held i b).header (write_leaves v.header v.held i b)
step v (earlier i b) = vault (earlier_answer v.header v.held i b).header (earlier_leaves v.header v.held i b)
step v (strike i) = vault (strike_answer v.header v.held i).header (strike_leaves v.header v.held i)
step v (take_back scratch) = vault (take_back_answer v.header v.held scratch).header (take_back_leaves v.header v.held scratch)

unfoldable pub after : Vault → List Event → Vault
after v [] = v
after v (next ∷ es) = after (step v next) es

-- a taken opening: the call gives 0
abbrev pub Opens : Opening → Type 0
Opens o = open_number o.k o.s o.raw o.full o.log ≡ 0

-- what the opening call gives and leaves
abbrev pub opened_vault : Opening → Vault
opened_vault o = vault (open_answer o.k o.s o.raw o.full o.log).header (open_leaves o.k o.s o.raw o.full o.log)

-- AFTER A HISTORY, the opening o and then the events es: the vault, its header, and its image
abbrev pub vault_after : Opening → List Event → Vault
vault_after o es = after (opened_vault o) es

abbrev pub header_after : Opening → List Event → Header
header_after o es = (vault_after o es).header

abbrev pub image_after : Opening → List Event → List ℕ
image_after o es = image_left (vault_after o es)
