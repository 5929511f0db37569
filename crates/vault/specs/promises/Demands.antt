-- WHAT THE VAULT PROMISES: the three demands, as lines that can be shown. The rooms beside this file have the words that these lines use, and what else is
-- promised: Decoding has Readable, Codes, HoldRecords, Decodes and Fails; Losses has Survives, SameRemains and Recovers; then Histories, Explaining, Blanks,
-- Strikes, Boundary and Openings. What these say by marks, lengths and numbers is said by bytes and by the rows of the table of refusals in Erasures, Table,
-- Numbers, Leaving, Recovering, Coding, Writing, TakingBack and TwoReadings; Answers has what is read off an answer of the code. All has the record of
-- everything, whose one proof is `proved` of proofs/Proved. Assumes nothing.
--
-- SIGNS. First `f a`, h.k and ^ bind; then *, / and %; then + and -; then ∷ and ++; then ≡, ≤, <; then ×, ⊎, ↔; then →; and `let` what follows it
--   (`→` groups from the right, the others from the left)
--   f a z             f of a and z, as f(a, z) elsewhere   h.k              the field k of h
--   a ≡ z             a equals z                           a - z            a less z, and 0 where z is above a
--   A × B             A and B                              (a : T) × A      there is an a of type T with A
--   A ⊎ B             A or B                               A ↔ B            A if and only if B
--   A → B             if A, then B                         (a z : T) → A    for every a and every z of type T: A
--   ⊥                 what is never true                   A → ⊥            not A
--   Unit {0}          what is always true                  eqb a z          true if a equals z, else false
--   a / z             a divided by z, rounded down         a % z            the remainder of a divided by z
--   elim w [ true ↦ a | false ↦ z ]    a if w is true, z if it is false
--   let name = a in A    A, where `name` is short for a    A : Type 0       A is a statement
--   ℕ                 the numbers 0, 1, 2, ..              suc a            a + 1 (and 2 ^ suc l is twice 2 ^ l)
--   Bool              true or false                        List T           a list of things of type T
--   [] , list ++ more   the empty list; a list and more    a ∷ []           a alone, as a list
--   length list       how many entries it has              get_or list q a  entry q of the list, counted from 0; a if it has none
--   take a list       its first a entries                  drop a list      the others
--   replicate a z     a times z                            record           a statement with several parts, a `pub` line for each
--   abbrev, unfoldable   a name for what follows           use              where names that a file uses are from
--   data              a type by the ways in which its things are made. What speaks of all statements is of Type 1, and of Type 0 what does not
--
-- LETTERS of the rooms, each with one meaning; other names are words
--   o, o'     an opening: k, s, the raw records, and the buffers `full` and `log` that it is lent
--   es, es'   the events after it; `next` one more
--   v, v'     a vault: any header and any buffers; `held` are its buffers
--   x, x'     a model: its `records`, and the writes of the round
--   h         a header (docs/FORMAT.md, section 1): its numbers are k, s and c, 2^k records of s words, and c writes since the full stripe was last built
--   i         a record's number
--   b         the data words of a block for it
--   t, t'     a write of the round, counted from 0
--   low       the lowest filled level of a header
--   l, l'     a stripe (shelf): a level below k, or k for the full stripe; it has 2^l blocks and 2^(l+1) positions
--   q, q'     a place in a list of words, counted from 0
--   j, j'     a block of a stripe, or a word of a record or of a block, counted from 0
--   n, n'     a number of the table of refusals
--   A, T      a statement; a type
--   ts        the tests of a call, in the order in which it makes them
--   d         a number of positions
--   m, m'     an image, as bytes; of two readings the first's and the second's
--   e, e'     an erasure list (gap list), as bytes; likewise
--   ms, ws    marks of a stripe's positions, true where one is erased; words of a stripe
--   bs, cs    blocks of 1 + s words, a record's number and its data, one block after the other
--   xs        the counts, or the origins, that explaining leaves
--   out, counts, origins, scratch   the buffers that a call is lent; they may hold anything
--
-- FROM THIS CRATE
--   Event      Opening, Event: what a history is made of. An event is `write i b` or `earlier i b`: the block b for record i, written by today's table of
--              refusals, or by an earlier vault, whose table had no 11; or `strike i`: record i struck; or `take_back scratch`: the last write or strike of the
--              round taken back, with the scratch lent for it. What is said of all events es is said of all kinds, in any order and number. A write's entry has
--              a `number` and a `block`
--   History    Opens o: the call takes the opening, that is, gives 0. vault_after o es: header and buffers as the calls leave them; header_after,
--              image_after: its header and its image. number_on v next: the number that the call gives to an event; to an earlier write, the call as it was.
--              step v next: header and buffers as that call leaves them
--   Model      model_of o es: what the model (record book) says, from k, s, the opened records and the events alone. writes: its count. table_number: the
--              table's number: a write's by today's table, an earlier one's by the table without 11, a strike's by its record number, a taking-back's by
--              the count and its scratch.
--              written_at x t: the entry of write t of the round. LastWrite x i t: write t is the last of the round to record i. NoWrite x i: the round has
--              none to it. A strike is a write here, and one that is taken back is none of the round's
--   Standing   standing o es: the writes and strikes of the whole history that the table takes, without those taken back, the newest first. LastTo ws i next:
--              of these events `next` is the newest to record i. NoneTo ws i: none is to it
--   Boundary   read_start, read_count: what the boundary for C hands out of a reading; shelf_of: of a stripe that is named, or no_shelf where none is
--   Worked     Holds: that each entry of a table of examples is so
--   Round      round_of o es: the round that a history ends in: the records when the full stripe was last built, `base`, and the writes since, `since`, the
--              oldest first. represent: the buffers' words as docs/FORMAT.md fixes them (sections 3 to 5). model_in: the model of a round. put_all s raw
--              writes: raw records with the writes put in. level_entries h since l: the writes that level l holds. rows_of: writes as blocks
--
-- FROM OTHER CRATES
--   layout     header_of k s c: the header of these numbers. header_fits h: k is 1 to 10, s 1 to 128, c below n. raw_size, full_size, log_size, out_size,
--              scratch_size, image_size: the lengths of docs/FORMAT.md, section 3. width h: 1 + s. is_full h l: l is k. is_filled h l: bit l of c is 1.
--              first_of h l: t0, the write that the first block of a level is. stripe_at h l: the word of the image at which the stripe begins; stripe_size h
--              l: how many it has. stripe_of h l: the stripe's numbers: l, k, its t0, and 1 + s. record_in s raw i: record i of raw records
--              Tests: `test holds n ts`, or `done`: tests with their numbers. refusal ts: the number of the first that does not hold, 0 if all do
--   field      root_of fermat k: the root of a vault of 2^k records, modulo 65537
--   code       coded p w k l t0 column: the words that a column of blocks' words codes to, X then Y. coded_rows p w k l t0 width blocks: those of blocks of
--              `width` words, column by column
--   decoder    survivors l ms: the positions of stripe l that are not erased
--   store      open_answer, open_leaves: what the call `open` answers, a number and a header, and what it leaves. strike_answer, strike_leaves: those of the
--              call `strike`. read_number, read_gives: the number that the call `read` gives, and the part. blocks_of h raw: raw records as blocks, in number
--              order. full_stripe h raw: the full stripe of raw records. buffers raw full log: these three buffers
--   taking_back   stripe_held h full log l: the words of a stripe, the full one's or those of the log from the level's place on. decode_held: what they
--              decode to, none erased. take_back_answer, take_back_leaves, take_back_scratch: what the call answers, and what it leaves in its buffers
--              and in the scratch
--   image      word_at m q: word q of an image. words_of bytes: the words of some bytes. stripe_in h m l: the bytes of a stripe in an image. erasures_in e: the
--              pairs of a list. erasures_fit h e: it is well formed, number 3 does not apply. marks_of h pairs l: for each position of a stripe whether a pair
--              touches one of its bytes; true is erased. image_number, image_leaves: the number that the call `image` gives, and what it leaves
--   judging    of a stripe's numbers, its marks ms and its words ws, whatever stands at erased positions. Its specs/Promises has: Codes: some blocks are 2^l
--              blocks of words of the field that code, by the published scheme, to all words that survive; InField: all of these are words of the field, below
--              65537; OutOfField: one is not. Its specs/Decoding has: `decoded bs` or `failed` with a number: what a stripe decodes to; are_records: blocks are
--              records, number 10 does not apply; decode_rows: what words and marks decode to; decoded_number: the number of that, 0 where it is blocks
--   stripe_decoding   decode_stripe h m pairs l: what a stripe of an image decodes to. decode_early: the number of the call `decode` by its tests 1 to 6.
--              decode_number, decode_leaves, decode_scratch: the number that it gives, and what it leaves in the output and in the scratch
--   recovery   recover_answer, recover_leaves, recover_scratch: what the call `recover` answers and leaves. unnamed n: the number n, and no stripe is named.
--              at_fault n l: the number n, and stripe l is named. Both are a Verdict: a `number`, whether a stripe is `named`, and the `stripe`.
--              origins_size: how long the origins are, a pair of words for each record
--   explanation   explain_early: the number of the call `explain` by its tests 1 to 3. explain_answer, explain_counts, explain_origins, explain_scratch: what
--              it answers, and what it leaves in its buffers. counts_size: how long the counts are, a pair of words for each stripe from 0 to k
--   two_readings   decoding_of_two h m e m' e' l: what a stripe decodes to in the one of two readings that it is taken from. recover_two_early: the number of
--              the call `recover_two` by its tests 1, 2, 3 and 13. recover_two_answer, recover_two_leaves, recover_two_scratch: what it answers and leaves.
--              shelf_of_two_number, shelf_of_two_part: the number that the call `shelf_of_two` gives, and the part. place_of_two: where that stands
--   power_table   powers_number, powers_leaves: the number that the call `powers` gives, and what it leaves
use Rattle.std.specs.Prelude.{◌≡◌, true, false, ◌↔◌, List, ℕ}
use Rattle.layout.specs.declared.Header.{Header}
use Rattle.layout.specs.Header.{header_of}
use Rattle.vault.specs.Event.{Opening, Event}
use Rattle.vault.specs.Model.{writes, table_number, model_of}
use Rattle.vault.specs.History.{Vault, number_on, step, Opens, vault_after, header_after}
use Rattle.vault.specs.Round.{round_of, represent}
use Rattle.vault.specs.promises.Decoding.{Readable, Codes, HoldRecords, Decodes, Fails}
use Rattle.vault.specs.promises.Losses.{Survives, SameRemains, Recovers}

pub record Demands : Type 0 where
  -- DEMAND 1. Every call takes or refuses what it is given, whatever it is, by a number of the table, always ends, and it is settled what every lent buffer
  -- holds afterwards. For each call and every input that is its contract in src/calls.rt, which has no precondition. In any history the number of an event is
  -- the table's, judged from the model and the event alone; and an event that is refused, by any number, on any header and any buffers, leaves these as they
  -- are
  pub numbers_are : (o : Opening) (es : List Event) (next : Event) → Opens o → number_on (vault_after o es) next ≡ table_number (model_of o es) next
  pub refused_stays : (v : Vault) (next : Event) → (number_on v next ≡ 0 → ⊥) → step v next ≡ v
  -- DEMAND 2. After any history the header is the model's, and the words are the published scheme's: raw copy, full stripe and every level
  pub header_is : (o : Opening) (es : List Event) → Opens o → header_after o es ≡ header_of (model_of o es).k (model_of o es).s (writes (model_of o es))
  pub words_are : (o : Opening) (es : List Event) → Opens o → (vault_after o es).held ≡ represent (round_of o es)
  -- decoding a stripe that keeps at least half its positions, none with a word above 65536 (`Readable`), gives the one list of blocks that codes to all
  -- surviving words, where each of them is a record
  pub decodes_iff : (h : Header) (m e : List ℕ) (l : ℕ) (bs : List ℕ) → Readable h m e l → Decodes h m e l bs ↔ (Codes h m e l bs × HoldRecords h l bs true)
  pub one_list : (h : Header) (m e : List ℕ) (l : ℕ) (bs cs : List ℕ) → Readable h m e l → Codes h m e l bs → Codes h m e l cs → bs ≡ cs
  -- and refuses exactly if there is none, by 9, or one of its blocks is no record, by 10. Of a stripe that is not readable, 7 and 8: the room Decoding
  pub nine_iff : (h : Header) (m e : List ℕ) (l : ℕ) → Readable h m e l → Fails h m e l 9 ↔ ((bs : List ℕ) → Codes h m e l bs → ⊥)
  pub ten_iff : (h : Header) (m e : List ℕ) (l : ℕ) → Readable h m e l → Fails h m e l 10 ↔ ((bs : List ℕ) × Codes h m e l bs × HoldRecords h l bs false)
  -- DEMAND 3. For every history and every well-formed erasure list that leaves at least half of each needed stripe, recovery is taken and gives exactly every
  -- record as last written, whatever stands in the gaps; and no other history with the same header and surviving words ends with other records, nor with
  -- another model
  pub recovers_all : (o : Opening) (es : List Event) (m e : List ℕ) → Opens o → Survives o es m e → Recovers (header_after o es) m e (model_of o es).records
  pub no_other : (o o' : Opening) (es es' : List Event) (e : List ℕ) → Opens o → Opens o' → SameRemains o es o' es' e → model_of o es ≡ model_of o' es'
