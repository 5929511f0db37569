-- The model (docs/FORMAT.md, section 11): n = 2^k records of s words, the writes of this round, and the records that there were before each of them. It is fed
-- k, s, the opened records and the events, and nothing from the vault: of this crate it imports the events alone. Assumes nothing: these are definitions.
use Rattle.std.specs.Prelude.{◌≡◌, Bool, true, false, ◌&&◌, List, [], ◌∷◌, ◌++◌, ℕ, suc, ◌+◌, ◌*◌, ◌-◌, ◌^◌, ◌<◌, ltb, leb, eqb, length, get_or, take, drop}
use Rattle.std.specs.Prelude.{replicate}
use Rattle.vault.specs.Event.{Opening, Entry, Event, write, earlier, strike, take_back}

-- `written` has the writes of this round, the oldest first; `before` the records as they were before each of them, the newest first: its head is what taking
-- back the last write would give
pub record Model : Type 0 where
  pub k : ℕ
  pub s : ℕ
  pub records : List ℕ
  pub written : List Entry
  pub before : List (List ℕ)

-- the count: the writes of this round
abbrev pub writes : Model → ℕ
writes x = length x.written

unfoldable pub words_fit : List ℕ → Bool
words_fit [] = true
words_fit (w ∷ ws) = leb w 65535 && words_fit ws

unfoldable pub words_zero : List ℕ → Bool
words_zero [] = true
words_zero (w ∷ ws) = eqb w 0 && words_zero ws

-- by 2, 4 and 5, which every write has had; `otherwise` where none of them applies
abbrev pub judged : Model → (record_number : ℕ) → (block : List ℕ) → (otherwise : ℕ) → ℕ
judged x i b otherwise =
    elim (eqb (length b) x.s) [
      | true ↦ elim (ltb i (2 ^ x.k)) [ true ↦ elim (words_fit b) [ true ↦ otherwise | false ↦ 5 ] | false ↦ 4 ]
      | false ↦ 2
    ]

-- by 4 alone: a strike has a record number, and no block
abbrev pub strike_judged : Model → (record_number : ℕ) → ℕ
strike_judged x i = elim (ltb i (2 ^ x.k)) [ true ↦ 0 | false ↦ 4 ]

-- by 2 and 12: the scratch for taking back is twice recovery's, and the round has a write to take back
abbrev pub back_judged : Model → (scratch : List ℕ) → ℕ
back_judged x scratch =
    elim (eqb (length scratch) (2 * (2 ^ x.k * suc x.s + 4 * 2 ^ x.k))) [ true ↦ elim (eqb (writes x) 0) [ true ↦ 12 | false ↦ 0 ] | false ↦ 2 ]

-- the number that the table gives to an event, judged from k, s, its record number and its block: a write's by today's table, an earlier write's by the table
-- without 11; a strike's from k and its record number; a taking-back's from k, s, the count and its scratch
abbrev pub table_number : Model → Event → ℕ
table_number x (write i b) = judged x i b (elim (words_zero b) [ true ↦ 11 | false ↦ 0 ])
table_number x (earlier i b) = judged x i b 0
table_number x (strike i) = strike_judged x i
table_number x (take_back scratch) = back_judged x scratch

-- a block's words in place of record i; the count grows by 1, and at n it becomes 0
abbrev pub put : Model → (number : ℕ) → (block : List ℕ) → Model
put x i b = record {
  k = x.k;
  s = x.s;
  records = take (i * x.s) x.records ++ (b ++ drop (suc i * x.s) x.records);
  written = elim (eqb (suc (writes x)) (2 ^ x.k)) [ true ↦ [] | false ↦ x.written ++ (record { number = i; block = b } ∷ []) ];
  before = elim (eqb (suc (writes x)) (2 ^ x.k)) [ true ↦ [] | false ↦ x.records ∷ x.before ];
}

-- what a strike puts there: 65536 in the place of each data word
abbrev pub struck : Model → List ℕ
struck x = replicate x.s 65536

-- the last write of the round cancelled, or the last strike: the records are those before it
abbrev pub cancelled : Model → Model
cancelled x = record {
  k = x.k;
  s = x.s;
  records = get_or x.before 0 x.records;
  written = take (writes x - 1) x.written;
  before = drop 1 x.before;
}

-- what an event that the table takes does to the model
abbrev pub entered : Model → Event → Model
entered x (write i b) = put x i b
entered x (earlier i b) = put x i b
entered x (strike i) = put x i (struck x)
entered x (take_back scratch) = cancelled x

-- an event that the table refuses leaves the model as it is
abbrev pub fed : Model → Event → Model
fed x next = elim (eqb (table_number x next) 0) [ true ↦ entered x next | false ↦ x ]

unfoldable pub fed_all : Model → List Event → Model
fed_all x [] = x
fed_all x (next ∷ es) = fed_all (fed x next) es

-- it begins as the opened records, with count 0
abbrev pub opened_model : Opening → Model
opened_model o = record { k = o.k; s = o.s; records = o.raw; written = []; before = [] }

abbrev pub model_of : Opening → List Event → Model
model_of o es = fed_all (opened_model o) es

-- THE LAST WRITE of the round to record i is write t, counted from 0; or the round has none
abbrev pub written_at : Model → (t : ℕ) → Entry
written_at x t = get_or x.written t (record { number = 0; block = [] })

pub record LastWrite (x : Model) (i t : ℕ) : Type 0 where
  pub among : t < writes x
  pub to : (written_at x t).number ≡ i
  pub last : (u : ℕ) → t < u → u < writes x → (written_at x u).number ≡ i → ⊥

abbrev pub NoWrite : Model → (number : ℕ) → Type 0
NoWrite x i = (u : ℕ) → u < writes x → (written_at x u).number ≡ i → ⊥
