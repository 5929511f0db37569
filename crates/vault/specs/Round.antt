-- A round: k and s, the records when the full stripe was last built, and the blocks written since. It stands between the model and the buffers: it fixes the
-- model, and what it represents are the buffers' words as docs/FORMAT.md fixes them (sections 3 to 5). Assumes nothing: these are definitions.
use Rattle.std.specs.Prelude.{true, false, List, [], ◌∷◌, ◌++◌, ℕ, zero, suc, ◌-◌, ◌^◌, eqb, length, take, drop, replicate}
use Rattle.code.specs.Stripe.{coded_rows}
use Rattle.layout.specs.declared.Header.{Header}
use Rattle.layout.specs.Header.{header_of, prime_of, vault_root, width, is_filled, first_of, stripe_size}
use Rattle.layout.specs.Records.{struck_data, replaced}
use Rattle.store.specs.Buffers.{full_stripe, Buffers, buffers}
use Rattle.vault.specs.Event.{Opening, Entry, Event, write, earlier, strike, take_back}
use Rattle.vault.specs.Model.{Model, table_number}

pub record Round : Type 0 where
  pub k : ℕ
  pub s : ℕ
  pub base : List ℕ
  pub since : List Entry

-- the raw records after some writes, the oldest first
unfoldable pub put_all : (s : ℕ) → (raw : List ℕ) → List Entry → List ℕ
put_all s r [] = r
put_all s r (x ∷ xs) = put_all s (replaced s r x.number x.block) xs

-- the raw records before each of them, the newest first
unfoldable pub before_each : (s : ℕ) → (raw : List ℕ) → List Entry → List (List ℕ)
before_each s r [] = []
before_each s r (x ∷ xs) = before_each s (replaced s r x.number x.block) xs ++ (r ∷ [])

-- the rows that some writes are coded as
unfoldable pub rows_of : List Entry → List ℕ
rows_of [] = []
rows_of (x ∷ xs) = (x.number ∷ x.block) ++ rows_of xs

-- THE MODEL of a round
abbrev pub records_in : Round → List ℕ
records_in a = put_all a.s a.base a.since

abbrev pub model_in : Round → Model
model_in a = record { k = a.k; s = a.s; records = records_in a; written = a.since; before = before_each a.s a.base a.since }

-- WHAT AN EVENT DOES to a round. A write is entered, and so is a strike; the n-th one ends the round, and its records start the next. A taking-back cuts the
-- last one off
abbrev pub start_of : (k s : ℕ) → (raw : List ℕ) → Round
start_of k s r = record { k = k; s = s; base = r; since = [] }

abbrev pub grown : Round → Entry → Round
grown a x =
    elim (eqb (suc (length a.since)) (2 ^ a.k)) [
      | true ↦ start_of a.k a.s (put_all a.s a.base (a.since ++ (x ∷ [])))
      | false ↦ record { k = a.k; s = a.s; base = a.base; since = a.since ++ (x ∷ []) }
    ]

abbrev pub cut : Round → Round
cut a = record { k = a.k; s = a.s; base = a.base; since = take (length a.since - 1) a.since }

abbrev pub advanced : Round → Event → Round
advanced a (write i b) = grown a (record { number = i; block = b })
advanced a (earlier i b) = grown a (record { number = i; block = b })
advanced a (strike i) = grown a (record { number = i; block = struck_data a.s })
advanced a (take_back scratch) = cut a

-- one that the table refuses leaves it as it is
abbrev pub turn_round : Round → Event → Round
turn_round a next = elim (eqb (table_number (model_in a) next) 0) [ true ↦ advanced a next | false ↦ a ]

unfoldable pub round_after : Round → List Event → Round
round_after a [] = a
round_after a (next ∷ es) = round_after (turn_round a next) es

abbrev pub opened_round : Opening → Round
opened_round o = start_of o.k o.s o.raw

abbrev pub round_of : Opening → List Event → Round
round_of o es = round_after (opened_round o) es

-- THE WORDS that a round represents: c counts the writes since; each filled level codes its writes in order of time, an empty level is zeros
abbrev pub round_header : Round → Header
round_header a = header_of a.k a.s (length a.since)

-- of the writes since: those that a level holds
abbrev pub level_entries : Header → (since : List Entry) → (level : ℕ) → List Entry
level_entries h xs l = take (2 ^ l) (drop (first_of h l) xs)

abbrev pub level_words : Header → (since : List Entry) → (level : ℕ) → List ℕ
level_words h xs l =
    elim (is_filled h l) [
      | true ↦ coded_rows (prime_of h) (vault_root h) h.k l (first_of h l) (width h) (rows_of (level_entries h xs l))
      | false ↦ replicate (stripe_size h l) 0
    ]

-- levels 0 to n - 1, one after the other
unfoldable pub log_words : Header → (since : List Entry) → (n : ℕ) → List ℕ
log_words h xs zero = []
log_words h xs (suc l) = log_words h xs l ++ level_words h xs l

abbrev pub represent : Round → Buffers
represent a =
    let h = round_header a in
    buffers (records_in a) (full_stripe h a.base) (log_words h a.since a.k)
