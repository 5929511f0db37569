-- What taking back the last write of a round comes to (docs/FORMAT.md, section 9), from what each stripe decodes to: the lowest filled level holds that write
-- as its last block, and the record's write before is sought there, in the filled levels above, and at last on the full stripe. Assumes nothing: these are
-- definitions.
use Rattle.std.specs.Prelude.{Bool, true, false, List, ℕ, zero, suc, ◌-◌, ◌^◌, eqb, take, drop, replicate, Option, Some, None}
use Rattle.layout.specs.declared.Header.{Header}
use Rattle.layout.specs.Header.{width, is_full, is_filled, level_at, stripe_size, stripe_of}
use Rattle.layout.specs.Records.{replaced}
use Rattle.judging.specs.Decoding.{Decoded, failed, decoded, decode_rows, block_number, block_data}
use Rattle.store.specs.Buffers.{Buffers, buffers}
use Rattle.splitting.specs.Splitting.{lowest_of, log_before}

-- A STRIPE OF THE BUFFERS: the full one, or a level; and what it decodes to. None of its positions is erased
abbrev pub stripe_held : Header → (full log : List ℕ) → (stripe : ℕ) → List ℕ
stripe_held h f g l = elim (is_full h l) [ true ↦ f | false ↦ take (stripe_size h l) (drop (level_at h l) g) ]

abbrev pub none_erased : List Bool
none_erased = replicate 2048 false

abbrev pub decode_held : Header → (full log : List ℕ) → (stripe : ℕ) → Decoded
decode_held h f g l = decode_rows (stripe_of h l) none_erased (stripe_held h f g l)

-- THE LAST of the first n blocks that is record i's, if one is
unfoldable pub last_of : (width : ℕ) → (blocks : List ℕ) → (i n : ℕ) → Option ℕ
last_of width bs i zero = None
last_of width bs i (suc j) = elim (eqb (block_number width bs j) i) [ true ↦ Some j | false ↦ last_of width bs i j ]

-- THE RECORD BEFORE: its data, or the number of the first stripe that fails. No stripe behind the one where it is found is looked at
pub data Before : Type 0 where
  fails : (number : ℕ) → Before
  found : (words : List ℕ) → Before

abbrev pub then_find : Decoded → (List ℕ → Before) → Before
then_find (failed n) next = fails n
then_find (decoded bs) next = next bs

abbrev pub found_at : (width : ℕ) → (blocks : List ℕ) → Option ℕ → (otherwise : Before) → Before
found_at width bs (Some j) o = found (block_data width bs j)
found_at width bs None o = o

-- in the filled levels from level l on, of which `levels` are left, and then on the full stripe
unfoldable pub find_from : (levels : ℕ) → Header → (decoding : ℕ → Decoded) → (i level : ℕ) → Before
find_from zero h d i l = then_find (d h.k) (λ (bs : List ℕ). found (block_data (width h) bs i))
find_from (suc n) h d i l =
    elim (is_filled h l) [
      | true ↦ then_find (d l) (λ (bs : List ℕ). found_at (width h) bs (last_of (width h) bs i (2 ^ l)) (find_from n h d i (suc l)))
      | false ↦ find_from n h d i (suc l)
    ]

-- of the lowest filled level's blocks the last is the write taken back; it is left out where its record's write before is sought
abbrev pub last_block : Header → ℕ
last_block h = 2 ^ lowest_of h - 1

abbrev pub record_taken : Header → (blocks : List ℕ) → ℕ
record_taken h bs = block_number (width h) bs (last_block h)

abbrev pub find_before : Header → (decoding : ℕ → Decoded) → (blocks : List ℕ) → Before
find_before h d bs =
    let i = record_taken h bs in
    let l = suc (lowest_of h) in
    found_at (width h) bs (last_of (width h) bs i (last_block h)) (find_from (h.k - l) h d i l)

-- WHAT TAKING BACK COMES TO: the number of the first stripe that fails; or the lowest level's blocks, and the data that the record gets
pub data TakenBack : Type 0 where
  stopped : (number : ℕ) → TakenBack
  goes : (blocks words : List ℕ) → TakenBack

abbrev pub with_words : (blocks : List ℕ) → Before → TakenBack
with_words bs (fails n) = stopped n
with_words bs (found ws) = goes bs ws

abbrev pub with_blocks : Header → (decoding : ℕ → Decoded) → Decoded → TakenBack
with_blocks h d (failed n) = stopped n
with_blocks h d (decoded bs) = with_words bs (find_before h d bs)

abbrev pub goes_back : Header → (decoding : ℕ → Decoded) → TakenBack
goes_back h d = with_blocks h d (d (lowest_of h))

-- its number; and the buffers afterwards: of raw that record alone is replaced, and nothing of raw is read
abbrev pub number_back : TakenBack → ℕ
number_back (stopped n) = n
number_back (goes bs ws) = 0

abbrev pub buffers_back : Header → Buffers → TakenBack → Buffers
buffers_back h u (stopped n) = u
buffers_back h u (goes bs ws) = buffers (replaced h.s u.raw (record_taken h bs) ws) u.full (log_before h u.log (lowest_of h) bs)
