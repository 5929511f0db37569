-- What a history is made of: an opening, and events after it. It imports lists and numbers alone, and nothing of the vault. Assumes nothing: these are
-- definitions.
use Rattle.std.specs.Prelude.{List, ℕ}

-- what an opening is given: k, s, the records, and the buffers that it is lent for the full stripe and the log, which may hold anything
pub record Opening : Type 0 where
  pub k : ℕ
  pub s : ℕ
  pub raw : List ℕ
  pub full : List ℕ
  pub log : List ℕ

-- what a write enters: a record's number, and the words of its block
pub record Entry : Type 0 where
  pub number : ℕ
  pub block : List ℕ

-- an event, with any record number and any block: a write by today's table of refusals; or an earlier one, by a vault that did not know refusal 11 (blank); or
-- a strike of a record; or a taking-back of the round's last write, with the scratch that is lent for it, of any length
pub data Event : Type 0 where
  write : (number : ℕ) → (block : List ℕ) → Event
  earlier : (number : ℕ) → (block : List ℕ) → Event
  strike : (number : ℕ) → Event
  take_back : (scratch : List ℕ) → Event
