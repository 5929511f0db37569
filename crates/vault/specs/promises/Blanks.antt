-- BLANK BLOCKS: what refusal 11 (blank) turns away, and that it changes nothing else. Signs and letters: Demands. Assumes nothing.
use Rattle.std.specs.Prelude.{◌≡◌, true, ◌↔◌, List, [], ◌∷◌, ◌++◌, ℕ, ◌^◌, ◌<◌, length, replicate}
use Rattle.layout.specs.Header.{header_of, header_fits, raw_size, full_size, log_size}
use Rattle.layout.specs.Records.{record_in}
use Rattle.vault.specs.Event.{Opening, Event, write, earlier}
use Rattle.vault.specs.Model.{table_number, model_of}
use Rattle.vault.specs.History.{Vault, number_on, step, Opens, vault_after}
use Rattle.vault.specs.promises.Table.{HoldsRecord, record_word}

-- A BLOCK IS BLANK, and so are records, if the words are all 0
abbrev pub Blank : (block : List ℕ) → Type 0
Blank b = b ≡ replicate (length b) 0

-- with any header and any buffers: a write gives 11 if and only if the same write as an earlier one (`earlier`) would be taken, and its block is blank
abbrev pub GivesEleven : Type 0
GivesEleven = (v : Vault) (i : ℕ) (b : List ℕ) → (number_on v (write i b) ≡ 11) ↔ ((number_on v (earlier i b) ≡ 0) × Blank b)

-- with any other number, it is the earlier write: the same number, and the same header and buffers are left
abbrev pub ElseAsEarlier : Type 0
ElseAsEarlier =
    (v : Vault) (i : ℕ) (b : List ℕ) → (number_on v (write i b) ≡ 11 → ⊥) →
    (number_on v (write i b) ≡ number_on v (earlier i b)) × (step v (write i b) ≡ step v (earlier i b))

-- a block to which 5 applies is never blank: which of the two tests comes first shows in no answer
abbrev pub FiveNotBlank : Type 0
FiveNotBlank = (v : Vault) (i : ℕ) (b : List ℕ) → number_on v (earlier i b) ≡ 5 → Blank b → ⊥

-- OPENING. One whose k and s are in range, and whose buffers have their lengths, is taken if and only if each of its records holds data words or is struck; and
-- so zero records are taken
pub record Fitting (o : Opening) : Type 0 where
  pub header : header_fits (header_of o.k o.s 0) ≡ true
  pub raw_long : length o.raw ≡ raw_size (header_of o.k o.s 0)
  pub full_long : length o.full ≡ full_size (header_of o.k o.s 0)
  pub log_long : length o.log ≡ log_size (header_of o.k o.s 0)

abbrev pub OpensIff : Type 0
OpensIff =
    (o : Opening) → Fitting o →
    Opens o ↔ ((i : ℕ) → i < 2 ^ o.k → HoldsRecord o.s (record_word (header_of o.k o.s 0) o.raw i))

abbrev pub ZerosOpen : Type 0
ZerosOpen = (o : Opening) → Fitting o → Blank o.raw → Opens o

-- AFTER ANY HISTORY, and of any record below n: a write of a blank block gives 11, and a history with it ends as without it
abbrev pub BlankRefused : Type 0
BlankRefused =
    (o : Opening) (es : List Event) (i : ℕ) → Opens o → i < 2 ^ (model_of o es).k →
    let next = write i (replicate (model_of o es).s 0) in
    (number_on (vault_after o es) next ≡ 11) × (vault_after o (es ++ (next ∷ [])) ≡ vault_after o es) × (model_of o (es ++ (next ∷ [])) ≡ model_of o es)

-- and an earlier one is taken, by the model too: the record is zeros then
abbrev pub BlankKept : Type 0
BlankKept =
    (o : Opening) (es : List Event) (i : ℕ) → Opens o → i < 2 ^ (model_of o es).k →
    let next = earlier i (replicate (model_of o es).s 0) in
    (number_on (vault_after o es) next ≡ 0) × (table_number (model_of o es) next ≡ 0) ×
    (record_in (model_of o es).s (model_of o (es ++ (next ∷ []))).records i ≡ replicate (model_of o es).s 0)

-- ALL OF THIS ROOM
pub record Blanks : Type 0 where
  pub gives_eleven : GivesEleven
  pub else_as_earlier : ElseAsEarlier
  pub five_not_blank : FiveNotBlank
  pub opens_iff : OpensIff
  pub zeros_open : ZerosOpen
  pub blank_refused : BlankRefused
  pub blank_kept : BlankKept
