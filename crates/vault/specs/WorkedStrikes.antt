-- EXAMPLES OF STRUCK RECORDS by literal words and bytes, as those of WorkedBytes: no byte is made by a definition that is tried, and every output and scratch
-- is lent full of ones. `worked_strikes` to `worked_eight` of proofs/Worked prove that each entry holds.
-- Assumes nothing: these are definitions.
use Rattle.std.specs.Prelude.{List, [], ◌∷◌, ◌++◌, map, ℕ, ◌+◌, ◌*◌, ◌-◌, suc, get_or, take, drop, replicate}
use Rattle.layout.specs.declared.Header.{Header}
use Rattle.layout.specs.Header.{header_of}
use Rattle.image.specs.Image.{image_of}
use Rattle.store.specs.Buffers.{buffers}
use Rattle.store.specs.StoreCalls.{open_answer, open_leaves, strike_answer, strike_leaves, read_number, read_gives}
use Rattle.vault.specs.Boundary.{read_start, read_count}
use Rattle.vault.specs.Event.{Opening, Event, write, earlier, strike, take_back}
use Rattle.vault.specs.Model.{Model, writes, table_number, model_of, written_at}
use Rattle.vault.specs.History.{Vault, vault, number_on, image_left, after, opened_vault}
use Rattle.vault.specs.Round.{Round, model_in, round_of, round_header, represent}
use Rattle.vault.specs.Standing.{standing}
use Rattle.vault.specs.Worked.{Table, end, entry, zeros, zero_records, opening, recovery, explaining}
use Rattle.vault.specs.WorkedBytes.{ones, header_words, full_given, decoding_of, recovery_of, explaining_of}
use Rattle.vault.specs.WorkedBack.{back_in, back_of, model_words}
use Rattle.vault.specs.WorkedTwo.{gap, lent_two}

-- what the calls answer, and then what they leave or give
abbrev pub striking : Header → (raw full log : List ℕ) → (number : ℕ) → List ℕ
striking h raw full log i =
    let a = strike_answer h (buffers raw full log) i in
    let left = strike_leaves h (buffers raw full log) i in
    a.number ∷ (header_words a.header ++ (left.raw ++ (left.full ++ left.log)))

abbrev pub reading : Header → (raw : List ℕ) → (number : ℕ) → List ℕ
reading h raw i = read_number h raw i ∷ read_start h raw i ∷ read_count h raw i ∷ read_gives h raw i

-- of an opening of k = 1, which is lent ones
abbrev pub opening_number : (s : ℕ) → (raw : List ℕ) → ℕ
opening_number s raw = (open_answer 1 s raw (ones (4 * suc s)) (ones (2 * suc s))).number

abbrev pub opening_refused : (raw : List ℕ) → List ℕ
opening_refused raw =
    let a = open_answer 1 2 raw (ones 12) (ones 6) in
    let left = open_leaves 1 2 raw (ones 12) (ones 6) in
    a.number ∷ (header_words a.header ++ (left.raw ++ (left.full ++ left.log)))

-- the first q words of record 0, of 128, are 65536, and all others 0
abbrev pub struck_from_the_start : (q : ℕ) → ℕ
struck_from_the_start q = opening_number 128 (replicate q 65536 ++ zeros (256 - q))

-- a write, an earlier write and a strike of two words: what they answer at k = 1, and what the model says
abbrev pub over : List Event
over =
    write 0 (65536 ∷ 65536 ∷ []) ∷ earlier 0 (65536 ∷ 65536 ∷ []) ∷ write 0 (65536 ∷ 7 ∷ []) ∷ write 0 (7 ∷ 65536 ∷ []) ∷ earlier 1 (7 ∷ 65536 ∷ []) ∷
    write 0 (65536 ∷ []) ∷ write 2 (65536 ∷ 65536 ∷ []) ∷ strike 0 ∷ strike 1 ∷ strike 2 ∷ strike 4294967295 ∷ []

abbrev pub zero_pairs : Opening
zero_pairs = record { k = 1; s = 2; raw = zeros 4; full = ones 12; log = ones 6 }

-- the last record of k = 3, and numbers that there are not, one of them 0 in its low 16 bits; and blocks of three words, 65536 in the middle, or in each
abbrev pub far : List Event
far = strike 7 ∷ strike 8 ∷ strike 65536 ∷ []

abbrev pub eight : Opening
eight = record { k = 3; s = 1; raw = zeros 8; full = ones 32; log = ones 28 }

abbrev pub over_three : List Event
over_three =
    write 0 (7 ∷ 65536 ∷ 7 ∷ []) ∷ earlier 0 (7 ∷ 65536 ∷ 7 ∷ []) ∷ write 1 (65536 ∷ 65536 ∷ 65536 ∷ []) ∷ write 0 (7 ∷ 65535 ∷ 7 ∷ []) ∷ []

abbrev pub threes : Opening
threes = record { k = 1; s = 3; raw = zeros 6; full = ones 16; log = ones 8 }

-- STRIKES: at c = 0; where level 1 is rebuilt; the fourth of a round, on a log of any words; with two words, as write 2, where level 1 stays; and of a record
-- that is struck. Refused: k, c, each length, and the record number. Then writes of such words. Then strikes on buffers that no opening made: the words below
-- count modulo 65537, Y apart from X, and all others stay; three words; s = 0, and lengths on the other side; numbers at k = 3; and three words with one over
abbrev pub strike_examples : Table
strike_examples =
    entry (striking (header_of 2 1 0) (1 ∷ 2 ∷ 3 ∷ 4 ∷ []) (ones 16) (zeros 12) 2)
    (0 ∷ 2 ∷ 1 ∷ 1 ∷ 1 ∷ 2 ∷ 65536 ∷ 4 ∷ (ones 16 ++ (2 ∷ 65536 ∷ 2 ∷ 65536 ∷ zeros 8)))
    (entry (striking (header_of 2 1 1) (1 ∷ 0 ∷ 0 ∷ 0 ∷ []) (ones 16) (0 ∷ 1 ∷ 0 ∷ 1 ∷ zeros 8) 2)
    (0 ∷ 2 ∷ 1 ∷ 2 ∷ 1 ∷ 0 ∷ 65536 ∷ 0 ∷ (ones 16 ++ (zeros 4 ++ (2 ∷ 0 ∷ 65535 ∷ 2 ∷ 65025 ∷ 257 ∷ 512 ∷ 65282 ∷ []))))
    (entry (striking (header_of 2 1 3) (1 ∷ 2 ∷ 3 ∷ 4 ∷ []) (ones 16) (replicate 12 70000) 2)
    (0 ∷ 2 ∷ 1 ∷ 0 ∷ 1 ∷ 2 ∷ 65536 ∷ 4 ∷ 6 ∷ 6 ∷ 255 ∷ 1279 ∷ 65533 ∷ 0 ∷ 65280 ∷ 64256 ∷ 7984 ∷ 60994 ∷ 12576 ∷ 16881 ∷
    57041 ∷ 3521 ∷ 53473 ∷ 49682 ∷ zeros 12)
    (entry (striking (header_of 2 2 2) (replicate 8 5) (ones 24) (zeros 6 ++ ones 12) 3)
    (0 ∷ 2 ∷ 2 ∷ 3 ∷ 5 ∷ 5 ∷ 5 ∷ 5 ∷ 5 ∷ 5 ∷ 65536 ∷ 65536 ∷ (ones 24 ++ (3 ∷ 65536 ∷ 65536 ∷ 12288 ∷ 61441 ∷ 61441 ∷ ones 12)))
    (entry (striking (header_of 2 1 0) (1 ∷ 2 ∷ 65536 ∷ 4 ∷ []) (ones 16) (zeros 12) 2)
    (0 ∷ 2 ∷ 1 ∷ 1 ∷ 1 ∷ 2 ∷ 65536 ∷ 4 ∷ (ones 16 ++ (2 ∷ 65536 ∷ 2 ∷ 65536 ∷ zeros 8)))
    (entry (striking (header_of 2 1 3) (ones 4) (ones 16) (ones 12) 4) (4 ∷ 2 ∷ 1 ∷ 3 ∷ ones 32)
    (entry (striking (header_of 2 1 4) (ones 4) (ones 16) (ones 12) 0) (1 ∷ 2 ∷ 1 ∷ 4 ∷ ones 32)
    (entry (striking (header_of 11 1 0) (ones 3) (ones 16) (ones 12) 4) (1 ∷ 11 ∷ 1 ∷ 0 ∷ ones 31)
    (entry (striking (header_of 2 1 3) (ones 3) (ones 16) (ones 12) 4) (2 ∷ 2 ∷ 1 ∷ 3 ∷ ones 31)
    (entry (striking (header_of 2 1 3) (ones 4) (ones 17) (ones 12) 0) (2 ∷ 2 ∷ 1 ∷ 3 ∷ ones 33)
    (entry (striking (header_of 2 1 3) (ones 4) (ones 16) (ones 11) 0) (2 ∷ 2 ∷ 1 ∷ 3 ∷ ones 31)
    (entry (map (number_on (vault (header_of 1 2 0) (buffers (ones 4) (ones 12) (ones 6)))) over) (5 ∷ 5 ∷ 5 ∷ 5 ∷ 5 ∷ 2 ∷ 4 ∷ 0 ∷ 0 ∷ 4 ∷ 4 ∷ [])
    (entry (map (table_number (model_of zero_pairs [])) over) (5 ∷ 5 ∷ 5 ∷ 5 ∷ 5 ∷ 2 ∷ 4 ∷ 0 ∷ 0 ∷ 4 ∷ 4 ∷ [])
    (entry (striking (header_of 2 1 1) (replicate 4 70000) (replicate 16 70000) (70000 ∷ 65542 ∷ 3 ∷ 65536 ∷ replicate 8 70000) 1)
    (0 ∷ 2 ∷ 1 ∷ 2 ∷ 70000 ∷ 65536 ∷ 70000 ∷ 70000 ∷ (replicate 16 70000 ++ (zeros 4 ++ (4464 ∷ 4 ∷ 4462 ∷ 6 ∷ 65284 ∷ 255 ∷ 259 ∷ 65280 ∷ []))))
    (entry (striking (header_of 2 1 0) (replicate 4 70000) (replicate 16 70000) (replicate 12 70000) 0)
    (0 ∷ 2 ∷ 1 ∷ 1 ∷ 65536 ∷ 70000 ∷ 70000 ∷ 70000 ∷ (replicate 16 70000 ++ (0 ∷ 65536 ∷ 0 ∷ 65536 ∷ replicate 8 70000)))
    (entry (striking (header_of 1 3 0) (zeros 6) (ones 16) (ones 8) 1)
    (0 ∷ 1 ∷ 3 ∷ 1 ∷ 0 ∷ 0 ∷ 0 ∷ 65536 ∷ 65536 ∷ 65536 ∷ (ones 16 ++ (1 ∷ 65536 ∷ 65536 ∷ 65536 ∷ 1 ∷ 65536 ∷ 65536 ∷ 65536 ∷ [])))
    (entry (striking (header_of 2 0 0) [] (ones 8) (ones 6) 0) (1 ∷ 2 ∷ 0 ∷ 0 ∷ ones 14)
    (entry (striking (header_of 2 1 3) (ones 5) (ones 16) (ones 12) 0) (2 ∷ 2 ∷ 1 ∷ 3 ∷ ones 33)
    (entry (striking (header_of 2 1 3) (ones 4) (ones 15) (ones 12) 0) (2 ∷ 2 ∷ 1 ∷ 3 ∷ ones 31)
    (entry (striking (header_of 2 1 3) (ones 4) (ones 16) (ones 13) 0) (2 ∷ 2 ∷ 1 ∷ 3 ∷ ones 33)
    (entry (map (number_on (vault (header_of 3 1 0) (buffers (ones 8) (ones 32) (ones 28)))) far) (0 ∷ 4 ∷ 4 ∷ [])
    (entry (map (table_number (model_of eight [])) far) (0 ∷ 4 ∷ 4 ∷ [])
    (entry (map (number_on (vault (header_of 1 3 0) (buffers (ones 6) (ones 16) (ones 8)))) over_three) (5 ∷ 5 ∷ 5 ∷ 0 ∷ [])
    (entry (map (table_number (model_of threes [])) over_three) (5 ∷ 5 ∷ 5 ∷ 0 ∷ [])
    (entry (map (number_on (vault (header_of 1 1 0) (buffers (ones 3) (ones 8) (ones 4)))) (write 0 (1 ∷ []) ∷ earlier 0 (1 ∷ []) ∷ strike 0 ∷ []))
    (2 ∷ 2 ∷ 2 ∷ [])
    end))))))))))))))))))))))))

-- READINGS of struck records, and of others, with the place of the part; and openings. Then 65536 in all but one of three words; words that are
-- 65536 in their low 17 bits, or 0 in their low 16; numbers at k = 3; 2 before 4, and 1 by k and by s; and openings: 65536 in some words of 3 and of 128;
-- lengths, and 65536 in the last word alone of 16; and what a refused one answers and leaves
abbrev pub read_examples : Table
read_examples =
    entry (reading (header_of 1 2 0) (65536 ∷ 65536 ∷ 7 ∷ 8 ∷ []) 0) (14 ∷ 0 ∷ 0 ∷ [])
    (entry (reading (header_of 1 2 0) (65536 ∷ 65536 ∷ 7 ∷ 8 ∷ []) 1) (0 ∷ 2 ∷ 2 ∷ 7 ∷ 8 ∷ [])
    (entry (reading (header_of 1 2 0) (65536 ∷ 65536 ∷ 7 ∷ 8 ∷ []) 2) (4 ∷ 0 ∷ 0 ∷ [])
    (entry (reading (header_of 1 2 2) (65536 ∷ 65536 ∷ 7 ∷ 8 ∷ []) 0) (1 ∷ 0 ∷ 0 ∷ [])
    (entry (reading (header_of 1 2 0) (65536 ∷ 65536 ∷ 65536 ∷ []) 0) (2 ∷ 0 ∷ 0 ∷ [])
    (entry (reading (header_of 1 2 0) (65536 ∷ 7 ∷ 7 ∷ 65536 ∷ []) 0) (0 ∷ 0 ∷ 2 ∷ 65536 ∷ 7 ∷ [])
    (entry (reading (header_of 1 2 0) (65536 ∷ 7 ∷ 7 ∷ 65536 ∷ []) 1) (0 ∷ 2 ∷ 2 ∷ 7 ∷ 65536 ∷ [])
    (entry (reading (header_of 1 2 0) (131073 ∷ 131073 ∷ 65535 ∷ 65535 ∷ []) 0) (0 ∷ 0 ∷ 2 ∷ 131073 ∷ 131073 ∷ [])
    (entry (reading (header_of 1 1 0) (5 ∷ 65536 ∷ []) 1) (14 ∷ 0 ∷ 0 ∷ [])
    (entry (opening_number 2 (65536 ∷ 65536 ∷ 0 ∷ 0 ∷ []) ∷ opening_number 2 (0 ∷ 7 ∷ 65536 ∷ 65536 ∷ []) ∷ opening_number 2 (replicate 4 65536) ∷ [])
    (0 ∷ 0 ∷ 0 ∷ [])
    (entry (map (opening_number 2) ((65536 ∷ 0 ∷ 0 ∷ 0 ∷ []) ∷ (0 ∷ 0 ∷ 7 ∷ 65536 ∷ []) ∷ (0 ∷ 65536 ∷ 65536 ∷ 0 ∷ []) ∷ [])) (5 ∷ 5 ∷ 5 ∷ [])
    (entry (opening_number 2 (131073 ∷ 131073 ∷ 0 ∷ 0 ∷ []) ∷ opening_number 2 (65537 ∷ 65537 ∷ 0 ∷ 0 ∷ []) ∷ []) (5 ∷ 5 ∷ [])
    (entry (opening_number 1 (65536 ∷ 7 ∷ []) ∷ opening_number 1 (7 ∷ 131073 ∷ []) ∷ []) (0 ∷ 5 ∷ [])
    (entry (open_leaves 1 2 (5 ∷ 6 ∷ 65536 ∷ 65536 ∷ []) (ones 12) (ones 6)).full
    (1 ∷ 4 ∷ 5 ∷ 65536 ∷ 6 ∷ 7 ∷ 65281 ∷ 261 ∷ 262 ∷ 256 ∷ 65286 ∷ 65287 ∷ [])
    (entry (map (read_number (header_of 2 3 0) (65536 ∷ 5 ∷ 65536 ∷ 65536 ∷ 65536 ∷ 5 ∷ 65536 ∷ 65536 ∷ 65536 ∷ 5 ∷ 65536 ∷ 65536 ∷ [])) (0 ∷ 1 ∷ 2 ∷ 3 ∷ []))
    (0 ∷ 0 ∷ 14 ∷ 0 ∷ [])
    (entry (map (read_number (header_of 1 2 0) (196608 ∷ 196608 ∷ 131072 ∷ 131072 ∷ [])) (0 ∷ 1 ∷ [])) (0 ∷ 0 ∷ [])
    (entry (map (read_number (header_of 3 1 0) (ones 8)) (7 ∷ 8 ∷ 65536 ∷ [])) (0 ∷ 4 ∷ 4 ∷ [])
    (entry (read_number (header_of 1 2 0) (ones 3) 2 ∷ read_number (header_of 1 2 0) (ones 5) 0 ∷ []) (2 ∷ 2 ∷ [])
    (entry (read_number (header_of 11 1 0) [] 0 ∷ read_number (header_of 1 0 0) [] 0 ∷ read_number (header_of 1 129 0) [] 0 ∷ []) (1 ∷ 1 ∷ 1 ∷ [])
    (entry (map (opening_number 2) ((196608 ∷ 196608 ∷ 0 ∷ 0 ∷ []) ∷ (0 ∷ 0 ∷ 131072 ∷ 131072 ∷ []) ∷ [])) (5 ∷ 5 ∷ [])
    (entry (map (opening_number 3) ((0 ∷ 65536 ∷ zeros 4) ∷ (zeros 3 ++ (65536 ∷ 0 ∷ 65536 ∷ [])) ∷ (replicate 3 65536 ++ ones 3) ∷ [])) (5 ∷ 5 ∷ 0 ∷ [])
    (entry (map struck_from_the_start (1 ∷ 4 ∷ 8 ∷ 16 ∷ 32 ∷ 64 ∷ 127 ∷ 128 ∷ [])) (5 ∷ 5 ∷ 5 ∷ 5 ∷ 5 ∷ 5 ∷ 5 ∷ 0 ∷ [])
    (entry (map (opening_number 2) ((65536 ∷ 7 ∷ 7 ∷ []) ∷ (65536 ∷ 7 ∷ 7 ∷ 7 ∷ 7 ∷ []) ∷ [])) (2 ∷ 2 ∷ [])
    (entry ((open_answer 1 2 (zeros 4) (ones 11) (ones 6)).number ∷ (open_answer 1 2 (zeros 4) (ones 12) (ones 7)).number ∷
    (open_answer 3 2 (zeros 15 ++ (65536 ∷ [])) (ones 48) (ones 42)).number ∷ []) (2 ∷ 2 ∷ 5 ∷ [])
    (entry (opening_refused (65536 ∷ 0 ∷ 0 ∷ 0 ∷ [])) (5 ∷ 0 ∷ 0 ∷ 0 ∷ 65536 ∷ 0 ∷ 0 ∷ 0 ∷ ones 18)
    end))))))))))))))))))))))))

-- IMAGES of k = 1. Full stripes of s = 2 with the data 65536 65536 and 7 8; 65536 7 and 7 8; 7 8 and 7 65536. Level 0 with the block 1 and 65536 65536,
-- 7 65536, or 65536 7. The image of s = 1 with the data 65536 and 7, and on level 0 65536 for record 1; and level 0 of s = 3 with 65536 0 65536, or 65536 in
-- each place
abbrev pub struck_full : List ℕ
struck_full =
    1 ∷ 0 ∷ 0 ∷ 0 ∷ 6 ∷ 0 ∷ 0 ∷ 0 ∷ 7 ∷ 0 ∷ 0 ∷ 0 ∷ 0 ∷ 0 ∷ 1 ∷ 0 ∷ 249 ∷ 255 ∷ 0 ∷ 0 ∷ 248 ∷ 255 ∷ 0 ∷ 0 ∷
    1 ∷ 255 ∷ 0 ∷ 0 ∷ 0 ∷ 249 ∷ 0 ∷ 0 ∷ 0 ∷ 248 ∷ 0 ∷ 0 ∷ 0 ∷ 1 ∷ 0 ∷ 0 ∷ 255 ∷ 6 ∷ 0 ∷ 0 ∷ 255 ∷ 7 ∷ 0 ∷ 0 ∷ []

abbrev pub first_in_full : List ℕ
first_in_full =
    1 ∷ 0 ∷ 0 ∷ 0 ∷ 6 ∷ 0 ∷ 0 ∷ 0 ∷ 15 ∷ 0 ∷ 0 ∷ 0 ∷ 0 ∷ 0 ∷ 1 ∷ 0 ∷ 249 ∷ 255 ∷ 0 ∷ 0 ∷ 0 ∷ 0 ∷ 1 ∷ 0 ∷
    1 ∷ 255 ∷ 0 ∷ 0 ∷ 0 ∷ 249 ∷ 0 ∷ 0 ∷ 8 ∷ 248 ∷ 0 ∷ 0 ∷ 0 ∷ 1 ∷ 0 ∷ 0 ∷ 255 ∷ 6 ∷ 0 ∷ 0 ∷ 7 ∷ 8 ∷ 0 ∷ 0 ∷ []

abbrev pub last_in_full : List ℕ
last_in_full =
    1 ∷ 0 ∷ 0 ∷ 0 ∷ 14 ∷ 0 ∷ 0 ∷ 0 ∷ 7 ∷ 0 ∷ 0 ∷ 0 ∷ 0 ∷ 0 ∷ 1 ∷ 0 ∷ 0 ∷ 0 ∷ 0 ∷ 0 ∷ 9 ∷ 0 ∷ 0 ∷ 0 ∷
    1 ∷ 255 ∷ 0 ∷ 0 ∷ 8 ∷ 249 ∷ 0 ∷ 0 ∷ 8 ∷ 1 ∷ 0 ∷ 0 ∷ 0 ∷ 1 ∷ 0 ∷ 0 ∷ 7 ∷ 7 ∷ 0 ∷ 0 ∷ 9 ∷ 255 ∷ 0 ∷ 0 ∷ []

abbrev pub struck_level : List ℕ
struck_level =
    1 ∷ 0 ∷ 0 ∷ 0 ∷ 0 ∷ 0 ∷ 1 ∷ 0 ∷ 0 ∷ 0 ∷ 1 ∷ 0 ∷ 1 ∷ 0 ∷ 0 ∷ 0 ∷ 0 ∷ 0 ∷ 1 ∷ 0 ∷ 0 ∷ 0 ∷ 1 ∷ 0 ∷ []

abbrev pub last_in_level : List ℕ
last_in_level = 1 ∷ 0 ∷ 0 ∷ 0 ∷ 7 ∷ 0 ∷ 0 ∷ 0 ∷ 0 ∷ 0 ∷ 1 ∷ 0 ∷ 1 ∷ 0 ∷ 0 ∷ 0 ∷ 7 ∷ 0 ∷ 0 ∷ 0 ∷ 0 ∷ 0 ∷ 1 ∷ 0 ∷ []

abbrev pub first_in_level : List ℕ
first_in_level = 1 ∷ 0 ∷ 0 ∷ 0 ∷ 0 ∷ 0 ∷ 1 ∷ 0 ∷ 7 ∷ 0 ∷ 0 ∷ 0 ∷ 1 ∷ 0 ∷ 0 ∷ 0 ∷ 0 ∷ 0 ∷ 1 ∷ 0 ∷ 7 ∷ 0 ∷ 0 ∷ 0 ∷ []

abbrev pub lone_bytes : List ℕ
lone_bytes =
    1 ∷ 0 ∷ 0 ∷ 0 ∷ 6 ∷ 0 ∷ 0 ∷ 0 ∷ 0 ∷ 0 ∷ 1 ∷ 0 ∷ 249 ∷ 255 ∷ 0 ∷ 0 ∷ 1 ∷ 255 ∷ 0 ∷ 0 ∷ 0 ∷ 249 ∷ 0 ∷ 0 ∷
    0 ∷ 1 ∷ 0 ∷ 0 ∷ 255 ∷ 6 ∷ 0 ∷ 0 ∷ 1 ∷ 0 ∷ 0 ∷ 0 ∷ 0 ∷ 0 ∷ 1 ∷ 0 ∷ 1 ∷ 0 ∷ 0 ∷ 0 ∷ 0 ∷ 0 ∷ 1 ∷ 0 ∷ []

abbrev pub ends_of_three : List ℕ
ends_of_three =
    1 ∷ 0 ∷ 0 ∷ 0 ∷ 0 ∷ 0 ∷ 1 ∷ 0 ∷ 0 ∷ 0 ∷ 0 ∷ 0 ∷ 0 ∷ 0 ∷ 1 ∷ 0 ∷ 1 ∷ 0 ∷ 0 ∷ 0 ∷ 0 ∷ 0 ∷ 1 ∷ 0 ∷ 0 ∷ 0 ∷ 0 ∷ 0 ∷ 0 ∷ 0 ∷ 1 ∷ 0 ∷ []

abbrev pub all_of_three : List ℕ
all_of_three =
    1 ∷ 0 ∷ 0 ∷ 0 ∷ 0 ∷ 0 ∷ 1 ∷ 0 ∷ 0 ∷ 0 ∷ 1 ∷ 0 ∷ 0 ∷ 0 ∷ 1 ∷ 0 ∷ 1 ∷ 0 ∷ 0 ∷ 0 ∷ 0 ∷ 0 ∷ 1 ∷ 0 ∷ 0 ∷ 0 ∷ 1 ∷ 0 ∷ 0 ∷ 0 ∷ 1 ∷ 0 ∷ []

-- struck blocks with the number 2, which is none, on level 0, and out of place on the full stripe
abbrev pub no_record_struck : List ℕ
no_record_struck = 2 ∷ 0 ∷ 0 ∷ 0 ∷ 0 ∷ 0 ∷ 1 ∷ 0 ∷ 0 ∷ 0 ∷ 1 ∷ 0 ∷ 2 ∷ 0 ∷ 0 ∷ 0 ∷ 0 ∷ 0 ∷ 1 ∷ 0 ∷ 0 ∷ 0 ∷ 1 ∷ 0 ∷ []

abbrev pub struck_exchanged : List ℕ
struck_exchanged =
    1 ∷ 0 ∷ 0 ∷ 0 ∷ 6 ∷ 0 ∷ 0 ∷ 0 ∷ 7 ∷ 0 ∷ 0 ∷ 0 ∷ 1 ∷ 0 ∷ 0 ∷ 0 ∷ 249 ∷ 255 ∷ 0 ∷ 0 ∷ 248 ∷ 255 ∷ 0 ∷ 0 ∷
    1 ∷ 0 ∷ 0 ∷ 0 ∷ 0 ∷ 249 ∷ 0 ∷ 0 ∷ 0 ∷ 248 ∷ 0 ∷ 0 ∷ 1 ∷ 0 ∷ 0 ∷ 0 ∷ 255 ∷ 6 ∷ 0 ∷ 0 ∷ 255 ∷ 7 ∷ 0 ∷ 0 ∷ []

-- and the words of the first full stripe, and level 0 with the block 1 and 65536 65536, and with 0 and 5 6
abbrev pub full_words : List ℕ
full_words = 1 ∷ 6 ∷ 7 ∷ 65536 ∷ 65529 ∷ 65528 ∷ 65281 ∷ 63744 ∷ 63488 ∷ 256 ∷ 1791 ∷ 2047 ∷ []

abbrev pub level_words : List ℕ
level_words = 1 ∷ 65536 ∷ 65536 ∷ 1 ∷ 65536 ∷ 65536 ∷ []

-- DECODED, recovered, also from half of each stripe, explained, and read twice; 65536 in one of two words, first or last, on the full stripe and on a level,
-- and in two of three; a lone word; and a strike taken back, a write over a struck record, a strike of one word, and a write after a strike
abbrev pub struck_examples : Table
struck_examples =
    entry (decoding_of (header_of 1 2 0) (struck_full ++ zeros 24) [] 1 6 14) (0 ∷ 0 ∷ 65536 ∷ 65536 ∷ 1 ∷ 7 ∷ 8 ∷ zeros 14)
    (entry (decoding_of (header_of 1 2 1) (zeros 48 ++ struck_level) [] 0 6 14) (0 ∷ 1 ∷ 65536 ∷ 65536 ∷ zeros 17)
    (entry (recovery_of (header_of 1 2 1) (struck_full ++ struck_level) [] 4 14) (0 ∷ 0 ∷ 0 ∷ 65536 ∷ 65536 ∷ 65536 ∷ 65536 ∷ zeros 14)
    (entry (recovery_of (header_of 1 2 1) (zeros 24 ++ (drop 24 struck_full ++ (zeros 12 ++ drop 12 struck_level))) (gap 0 24 ++ gap 48 12) 4 14)
    (0 ∷ 0 ∷ 0 ∷ 65536 ∷ 65536 ∷ 65536 ∷ 65536 ∷ zeros 14)
    (entry (recovery_of (header_of 1 2 0) (struck_full ++ struck_level) [] 4 14) (0 ∷ 0 ∷ 0 ∷ 65536 ∷ 65536 ∷ 7 ∷ 8 ∷ zeros 14)
    (entry (explaining_of (header_of 1 2 1) (struck_full ++ struck_level) [] 4 4 14) (0 ∷ 0 ∷ 0 ∷ 2 ∷ 0 ∷ 4 ∷ 0 ∷ 1 ∷ 0 ∷ 0 ∷ 0 ∷ zeros 14)
    (entry (lent_two (header_of 1 2 1) (struck_full ++ struck_level) (gap 0 36) (struck_full ++ struck_level) (gap 48 24) 4 14)
    (0 ∷ 0 ∷ 0 ∷ 65536 ∷ 65536 ∷ 65536 ∷ 65536 ∷ zeros 14)
    (entry (decoding_of (header_of 1 2 0) (first_in_full ++ zeros 24) [] 1 6 14) (10 ∷ zeros 20)
    (entry (decoding_of (header_of 1 2 0) (last_in_full ++ zeros 24) [] 1 6 14) (10 ∷ zeros 20)
    (entry (decoding_of (header_of 1 2 1) (zeros 48 ++ last_in_level) [] 0 6 14) (10 ∷ zeros 20)
    (entry (decoding_of (header_of 1 2 1) (zeros 48 ++ first_in_level) [] 0 6 14) (10 ∷ zeros 20)
    (entry (decoding_of (header_of 1 2 1) (zeros 48 ++ no_record_struck) [] 0 6 14) (10 ∷ zeros 20)
    (entry (decoding_of (header_of 1 2 0) (struck_exchanged ++ zeros 24) [] 1 6 14) (10 ∷ zeros 20)
    (entry (recovery_of (header_of 1 2 1) (first_in_full ++ struck_level) [] 4 14) (10 ∷ 1 ∷ 1 ∷ zeros 18)
    (entry (recovery_of (header_of 1 2 1) (struck_full ++ first_in_level) [] 4 14) (10 ∷ 1 ∷ 0 ∷ zeros 18)
    (entry (decoding_of (header_of 1 3 1) (zeros 64 ++ ends_of_three) [] 0 8 16) (10 ∷ zeros 24)
    (entry (decoding_of (header_of 1 3 1) (zeros 64 ++ all_of_three) [] 0 8 16) (0 ∷ 1 ∷ 65536 ∷ 65536 ∷ 65536 ∷ zeros 20)
    (entry (recovery_of (header_of 1 1 1) lone_bytes [] 2 12) (0 ∷ 0 ∷ 0 ∷ 65536 ∷ 65536 ∷ zeros 12)
    (entry (recovery_of (header_of 1 1 0) lone_bytes [] 2 12) (0 ∷ 0 ∷ 0 ∷ 65536 ∷ 7 ∷ zeros 12)
    (entry (back_in (header_of 1 2 1) (buffers (9 ∷ 9 ∷ 65536 ∷ 65536 ∷ []) full_words level_words) 28)
    (0 ∷ 1 ∷ 2 ∷ 0 ∷ 9 ∷ 9 ∷ 7 ∷ 8 ∷ (full_words ++ zeros 34))
    (entry (back_in (header_of 1 2 1) (buffers (5 ∷ 6 ∷ 7 ∷ 8 ∷ []) full_words (0 ∷ 5 ∷ 6 ∷ 0 ∷ 5 ∷ 6 ∷ [])) 28)
    (0 ∷ 1 ∷ 2 ∷ 0 ∷ 65536 ∷ 65536 ∷ 7 ∷ 8 ∷ (full_words ++ zeros 34))
    (entry (back_of 2 1 (ones 4) full_given (2 ∷ 65536 ∷ 2 ∷ 65536 ∷ zeros 8) 48) (0 ∷ 2 ∷ 1 ∷ 0 ∷ 1 ∷ 1 ∷ 0 ∷ 1 ∷ (full_given ++ zeros 60))
    (entry (back_of 2 2 (ones 4) full_given (zeros 4 ++ (1 ∷ 0 ∷ 1 ∷ 65535 ∷ 1 ∷ 65280 ∷ 1 ∷ 255 ∷ [])) 48)
    (0 ∷ 2 ∷ 1 ∷ 1 ∷ 0 ∷ 1 ∷ 1 ∷ 1 ∷ (full_given ++ (1 ∷ 65536 ∷ 1 ∷ 65536 ∷ zeros 56)))
    end))))))))))))))))))))))

-- BLOCKS, as words but for the first two: of level 0 with 65536 in each place, the number's too, and 1 and 5 65536 7; of level 1 with 1 5 6 and 2 65536 5; of
-- level 2 of k = 3 with 1 5 6, 2 65536 65536, 0 7 65536 and 3 1 2, and with 1 5 6, 2 3 4, 0 65536 65536 and 2 8 9; full stripes whose last or third record is
-- 65536 7 or 7 65536, and whose last is struck; a block with 65536 in four of six words, and in half of 128; and of level 1 of s = 1 with 0 65536 and 2 1,
-- and with 0 9 and 2 65536
abbrev pub struck_throughout : List ℕ
struck_throughout = 0 ∷ 0 ∷ 1 ∷ 0 ∷ 0 ∷ 0 ∷ 1 ∷ 0 ∷ 0 ∷ 0 ∷ 1 ∷ 0 ∷ 0 ∷ 0 ∷ 1 ∷ 0 ∷ 0 ∷ 0 ∷ 1 ∷ 0 ∷ 0 ∷ 0 ∷ 1 ∷ 0 ∷ []

abbrev pub middle_of_three : List ℕ
middle_of_three =
    1 ∷ 0 ∷ 0 ∷ 0 ∷ 5 ∷ 0 ∷ 0 ∷ 0 ∷ 0 ∷ 0 ∷ 1 ∷ 0 ∷ 7 ∷ 0 ∷ 0 ∷ 0 ∷ 1 ∷ 0 ∷ 0 ∷ 0 ∷ 5 ∷ 0 ∷ 0 ∷ 0 ∷ 0 ∷ 0 ∷ 1 ∷ 0 ∷ 7 ∷ 0 ∷ 0 ∷ 0 ∷ []

abbrev pub last_of_two : List ℕ
last_of_two = 3 ∷ 4 ∷ 11 ∷ 65536 ∷ 6 ∷ 1 ∷ 65026 ∷ 261 ∷ 64263 ∷ 513 ∷ 65286 ∷ 1286 ∷ []

abbrev pub third_of_four : List ℕ
third_of_four =
    6 ∷ 12 ∷ 6 ∷ 767 ∷ 64007 ∷ 775 ∷ 0 ∷ 65533 ∷ 4 ∷ 64768 ∷ 1542 ∷ 64776 ∷ 65074 ∷ 28949 ∷ 61735 ∷ 12801 ∷
    3957 ∷ 7926 ∷ 64978 ∷ 37110 ∷ 4326 ∷ 53762 ∷ 61078 ∷ 57111 ∷ []

abbrev pub third_struck : List ℕ
third_struck =
    5 ∷ 15 ∷ 18 ∷ 511 ∷ 2306 ∷ 2562 ∷ 1 ∷ 1 ∷ 2 ∷ 65024 ∷ 63235 ∷ 62979 ∷ 65058 ∷ 60806 ∷ 60567 ∷ 8705 ∷
    33525 ∷ 37878 ∷ 64994 ∷ 3205 ∷ 2934 ∷ 57858 ∷ 33558 ∷ 29719 ∷ []

abbrev pub last_of_full : List ℕ
last_of_full =
    6 ∷ 8 ∷ 19 ∷ 255 ∷ 63999 ∷ 254 ∷ 65533 ∷ 0 ∷ 65530 ∷ 65280 ∷ 1534 ∷ 65279 ∷ 7984 ∷ 19697 ∷ 23666 ∷ 12576 ∷
    62290 ∷ 29794 ∷ 57041 ∷ 44306 ∷ 39827 ∷ 53473 ∷ 4785 ∷ 37795 ∷ []

abbrev pub third_of_full : List ℕ
third_of_full =
    6 ∷ 16 ∷ 11 ∷ 255 ∷ 65023 ∷ 1790 ∷ 65533 ∷ 65529 ∷ 1 ∷ 65280 ∷ 510 ∷ 63743 ∷ 7984 ∷ 27985 ∷ 60515 ∷ 12576 ∷
    21361 ∷ 25586 ∷ 57041 ∷ 36018 ∷ 2978 ∷ 53473 ∷ 45714 ∷ 42003 ∷ []

abbrev pub last_struck : List ℕ
last_struck =
    6 ∷ 8 ∷ 11 ∷ 255 ∷ 63999 ∷ 63743 ∷ 65533 ∷ 0 ∷ 1 ∷ 65280 ∷ 1534 ∷ 1790 ∷ 7984 ∷ 19697 ∷ 23538 ∷ 12576 ∷
    62290 ∷ 62563 ∷ 57041 ∷ 44306 ∷ 39955 ∷ 53473 ∷ 4785 ∷ 5026 ∷ []

abbrev pub four_of_six : List ℕ
four_of_six = 1 ∷ 65536 ∷ 65536 ∷ 65536 ∷ 65536 ∷ 7 ∷ 7 ∷ []

abbrev pub half_of_all : List ℕ
half_of_all = 1 ∷ (replicate 64 65536 ++ replicate 64 7)

abbrev pub struck_above : List ℕ
struck_above = 2 ∷ 0 ∷ 65535 ∷ 65535 ∷ 65025 ∷ 65280 ∷ 512 ∷ 255 ∷ []

abbrev pub written_above : List ℕ
written_above = 2 ∷ 8 ∷ 65535 ∷ 10 ∷ 65025 ∷ 265 ∷ 512 ∷ 65290 ∷ []

-- the number alone that taking back gives; where the lowest level is at fault, the full stripe has words above 65536
abbrev pub judged_back : Header → (full log : List ℕ) → (raw scratch : ℕ) → List ℕ
judged_back h full log raw scratch = take 1 (back_in h (buffers (ones raw) full log) scratch)

-- REFUSED where a block is no record, whichever block of its stripe it is; and a write over a strike, and a strike over a write, of its own level and of the
-- level above
abbrev pub struck_blocks : Table
struck_blocks =
    entry (decoding_of (header_of 1 2 1) (zeros 48 ++ struck_throughout) [] 0 6 14) (10 ∷ zeros 20)
    (entry (decoding_of (header_of 1 3 1) (zeros 64 ++ middle_of_three) [] 0 8 16) (10 ∷ zeros 24)
    (entry (judged_back (header_of 2 2 2) (replicate 24 70000) (zeros 6 ++ last_of_two) 8 56) (10 ∷ [])
    (entry (judged_back (header_of 3 2 4) (replicate 48 70000) (zeros 18 ++ third_of_four) 16 112) (10 ∷ [])
    (entry (judged_back (header_of 2 2 1) last_of_full (0 ∷ 1 ∷ 1 ∷ 0 ∷ 1 ∷ 1 ∷ zeros 12) 8 56) (10 ∷ [])
    (entry (judged_back (header_of 2 2 1) third_of_full (0 ∷ 1 ∷ 1 ∷ 0 ∷ 1 ∷ 1 ∷ zeros 12) 8 56) (10 ∷ [])
    (entry (judged_back (header_of 1 6 1) (replicate 28 70000) (four_of_six ++ four_of_six) 12 44) (10 ∷ [])
    (entry (judged_back (header_of 1 128 1) (replicate 516 70000) (half_of_all ++ half_of_all) 256 532) (10 ∷ [])
    (entry (back_in (header_of 3 2 4) (buffers (ones 16) (ones 48) (zeros 18 ++ third_struck)) 112)
    (0 ∷ 3 ∷ 2 ∷ 3 ∷ 1 ∷ 1 ∷ 1 ∷ 1 ∷ 3 ∷ 4 ∷ (ones 10 ++ (ones 48 ++
    (0 ∷ 65536 ∷ 65536 ∷ 0 ∷ 61441 ∷ 61441 ∷ 3 ∷ 8 ∷ 10 ∷ 65536 ∷ 2 ∷ 2 ∷ 65026 ∷ 64774 ∷ 64519 ∷ 513 ∷ 773 ∷ 1030 ∷ zeros 136))))
    (entry (back_in (header_of 2 2 1) (buffers (ones 8) last_struck (3 ∷ 1 ∷ 1 ∷ 3 ∷ 1 ∷ 1 ∷ zeros 12)) 56)
    (0 ∷ 2 ∷ 2 ∷ 0 ∷ (ones 6 ++ (65536 ∷ 65536 ∷ (last_struck ++ zeros 74))))
    (entry (back_of 2 2 (ones 4) (ones 16) (zeros 4 ++ (0 ∷ 4 ∷ 0 ∷ 65531 ∷ 0 ∷ 64256 ∷ 0 ∷ 1279 ∷ [])) 48)
    (0 ∷ 2 ∷ 1 ∷ 1 ∷ 65536 ∷ 1 ∷ 1 ∷ 1 ∷ (ones 16 ++ (0 ∷ 65536 ∷ 0 ∷ 65536 ∷ zeros 56)))
    (entry (back_of 2 2 (ones 4) (ones 16) (zeros 4 ++ (0 ∷ 4 ∷ 0 ∷ 6 ∷ 0 ∷ 261 ∷ 0 ∷ 65286 ∷ [])) 48)
    (0 ∷ 2 ∷ 1 ∷ 1 ∷ 5 ∷ 1 ∷ 1 ∷ 1 ∷ (ones 16 ++ (0 ∷ 5 ∷ 0 ∷ 5 ∷ zeros 56)))
    (entry (back_of 2 3 (ones 4) (ones 16) (0 ∷ 7 ∷ 0 ∷ 28672 ∷ struck_above) 48)
    (0 ∷ 2 ∷ 1 ∷ 2 ∷ 65536 ∷ 1 ∷ 1 ∷ 1 ∷ (ones 16 ++ (zeros 4 ++ (struck_above ++ zeros 48))))
    (entry (back_of 2 3 (ones 4) (ones 16) (0 ∷ 65536 ∷ 0 ∷ 61441 ∷ written_above) 48)
    (0 ∷ 2 ∷ 1 ∷ 2 ∷ 9 ∷ 1 ∷ 1 ∷ 1 ∷ (ones 16 ++ (zeros 4 ++ (written_above ++ zeros 48))))
    end)))))))))))))

-- IN HISTORIES of zero records, k = 2 and s = 1: what the model says; what is recovered, explained and read; and what stands, the newest first: i for a write
-- to record i, 10 + i for an earlier write, 20 + i for a strike
abbrev pub strikes : List Event
strikes = write 0 (5 ∷ []) ∷ strike 0 ∷ strike 4 ∷ write 1 (65536 ∷ []) ∷ strike 2 ∷ []

abbrev pub struck_round : List Event
struck_round = earlier 0 (0 ∷ []) ∷ strike 1 ∷ strike 1 ∷ strike 3 ∷ take_back (ones 48) ∷ write 3 (9 ∷ []) ∷ []

abbrev pub back : Event
back = take_back (ones 48)

abbrev pub told : Event → ℕ
told (write i b) = i
told (earlier i b) = 10 + i
told (strike i) = 20 + i
told (take_back scratch) = 30

abbrev pub stands : List Event → List ℕ
stands es = map told (standing zero_records es)

abbrev pub reads : Vault → List ℕ
reads v = map (read_number v.header v.held.raw) (0 ∷ 1 ∷ 2 ∷ 3 ∷ [])

-- the events of docs/FORMAT.md, section 12, k = 2 and s = 2: the first three, and all to the strike that ends the round
abbrev pub struck_four : Opening
struck_four = record { k = 2; s = 2; raw = 10 ∷ 11 ∷ 65536 ∷ 65536 ∷ 30 ∷ 31 ∷ 40 ∷ 65535 ∷ []; full = ones 24; log = ones 18 }

abbrev pub first_three : List Event
first_three = strike 2 ∷ write 1 (1 ∷ 2 ∷ []) ∷ strike 2 ∷ []

abbrev pub to_its_end : List Event
to_its_end =
    first_three ++
    (write 0 (65536 ∷ 65536 ∷ []) ∷ write 0 (65536 ∷ 7 ∷ []) ∷ earlier 0 (65536 ∷ 65536 ∷ []) ∷ strike 4 ∷ strike 4294967295 ∷ take_back (ones 56) ∷
    take_back (ones 56) ∷ take_back (ones 56) ∷ take_back (ones 56) ∷ strike 3 ∷ write 3 (5 ∷ 5 ∷ []) ∷ strike 3 ∷ strike 0 ∷ [])

abbrev pub round_words : Round → List ℕ
round_words a = let u = represent a in u.raw ++ (u.full ++ u.log)

abbrev pub vault_words : Vault → List ℕ
vault_words v = header_words v.header ++ (v.held.raw ++ (v.held.full ++ v.held.log))

-- raw, full and log: after the first three, and after the round's end and a write of 1 1 to record 0
abbrev pub struck_words : List ℕ
struck_words =
    10 ∷ 11 ∷ 1 ∷ 2 ∷ 65536 ∷ 65536 ∷ 40 ∷ 65535 ∷ 6 ∷ 79 ∷ 39 ∷ 255 ∷ 2571 ∷ 57101 ∷ 65533 ∷ 65476 ∷ 65518 ∷
    65280 ∷ 62988 ∷ 8460 ∷ 7984 ∷ 58249 ∷ 61674 ∷ 12576 ∷ 33000 ∷ 57596 ∷ 57041 ∷ 7820 ∷ 4397 ∷ 53473 ∷ 32045 ∷ 7451 ∷
    2 ∷ 65536 ∷ 65536 ∷ 8192 ∷ 61441 ∷ 61441 ∷ 3 ∷ 0 ∷ 1 ∷ 1 ∷ 65535 ∷ 65534 ∷ 65283 ∷ 65280 ∷ 65024 ∷ 258 ∷ 255 ∷ 511 ∷ []

abbrev pub next_words : List ℕ
next_words =
    1 ∷ 1 ∷ 65536 ∷ 65536 ∷ 30 ∷ 31 ∷ 65536 ∷ 65536 ∷ 6 ∷ 27 ∷ 28 ∷ 255 ∷ 57601 ∷ 57345 ∷ 65533 ∷ 65506 ∷ 65505 ∷
    65280 ∷ 7936 ∷ 8192 ∷ 7984 ∷ 57582 ∷ 61678 ∷ 12576 ∷ 61664 ∷ 61680 ∷ 57041 ∷ 8465 ∷ 4369 ∷ 53473 ∷ 3359 ∷ 3343 ∷
    0 ∷ 1 ∷ 1 ∷ 0 ∷ 1 ∷ 1 ∷ zeros 12

-- the model's records, the blocks of the round's writes, and the records before each, the newest first
abbrev pub kept : Model → List ℕ
kept x =
    x.records ++
    (((written_at x 0).block ++ ((written_at x 1).block ++ (written_at x 2).block)) ++
    (get_or x.before 0 [] ++ (get_or x.before 1 [] ++ get_or x.before 2 [])))

abbrev pub kept_words : List ℕ
kept_words =
    10 ∷ 11 ∷ 1 ∷ 2 ∷ 65536 ∷ 65536 ∷ 40 ∷ 65535 ∷ 65536 ∷ 65536 ∷ 1 ∷ 2 ∷ 65536 ∷ 65536 ∷ 10 ∷ 11 ∷ 1 ∷ 2 ∷ 65536 ∷ 65536 ∷ 40 ∷ 65535 ∷
    10 ∷ 11 ∷ 65536 ∷ 65536 ∷ 65536 ∷ 65536 ∷ 40 ∷ 65535 ∷ 10 ∷ 11 ∷ 65536 ∷ 65536 ∷ 30 ∷ 31 ∷ 40 ∷ 65535 ∷ []

abbrev pub words_told : Event → ℕ
words_told (write i b) = get_or b 0 1
words_told (earlier i b) = get_or b 0 1
words_told (strike i) = 0
words_told (take_back scratch) = 0

abbrev pub strike_histories : Table
strike_histories =
    entry (model_words strikes) (3 ∷ 65536 ∷ 0 ∷ 65536 ∷ 0 ∷ 0 ∷ 0 ∷ 2 ∷ [])
    (entry (model_words (strikes ++ (back ∷ []))) (2 ∷ 65536 ∷ 0 ∷ 0 ∷ 0 ∷ 0 ∷ 0 ∷ [])
    (entry (model_words (strikes ++ (back ∷ back ∷ []))) (1 ∷ 5 ∷ 0 ∷ 0 ∷ 0 ∷ 0 ∷ [])
    (entry (model_words struck_round) (1 ∷ 0 ∷ 65536 ∷ 0 ∷ 9 ∷ 3 ∷ [])
    (entry (recovery (after opening strikes) []) (0 ∷ 0 ∷ 0 ∷ 65536 ∷ 0 ∷ 65536 ∷ 0 ∷ [])
    (entry (explaining (after opening strikes) []) (0 ∷ 0 ∷ 0 ∷ 2 ∷ 0 ∷ 4 ∷ 0 ∷ 8 ∷ 0 ∷ 1 ∷ 1 ∷ 2 ∷ 0 ∷ 0 ∷ 2 ∷ 2 ∷ 0 ∷ [])
    (entry (recovery (after opening struck_round) []) (0 ∷ 0 ∷ 0 ∷ 0 ∷ 65536 ∷ 0 ∷ 9 ∷ [])
    (entry (represent (round_of zero_records strikes)).log
    (2 ∷ 65536 ∷ 8192 ∷ 61441 ∷ 0 ∷ 4 ∷ 0 ∷ 6 ∷ 0 ∷ 261 ∷ 0 ∷ 65286 ∷ [])
    (entry (image_left (after opening strikes)) (image_of full_given
    (2 ∷ 65536 ∷ 8192 ∷ 61441 ∷ 0 ∷ 4 ∷ 0 ∷ 6 ∷ 0 ∷ 261 ∷ 0 ∷ 65286 ∷ []))
    (entry (reads (after opening strikes)) (14 ∷ 0 ∷ 14 ∷ 0 ∷ [])
    (entry (reads (after opening (strikes ++ (back ∷ back ∷ [])))) (0 ∷ 0 ∷ 0 ∷ 0 ∷ [])
    (entry (reads (after opening struck_round)) (0 ∷ 14 ∷ 0 ∷ 0 ∷ [])
    (entry (stands strikes) (22 ∷ 20 ∷ 0 ∷ [])
    (entry (stands (strikes ++ (back ∷ back ∷ []))) (0 ∷ [])
    (entry (stands struck_round) (3 ∷ 23 ∷ 21 ∷ 21 ∷ 10 ∷ [])
    (entry (vault_words (after (opened_vault struck_four) first_three)) (2 ∷ 2 ∷ 3 ∷ struck_words)
    (entry (round_words (round_of struck_four first_three)) struck_words
    (entry (let v = after (opened_vault struck_four) first_three in explaining_of v.header (image_left v) [] 6 8 28)
    (0 ∷ 0 ∷ 0 ∷ 2 ∷ 0 ∷ 4 ∷ 0 ∷ 8 ∷ 0 ∷ 2 ∷ 0 ∷ 1 ∷ 1 ∷ 0 ∷ 2 ∷ 2 ∷ 0 ∷ zeros 28)
    (entry (kept (model_of struck_four first_three)) kept_words
    (entry (kept (model_in (round_of struck_four first_three))) kept_words
    (entry (let x = model_of struck_four to_its_end in writes x ∷ x.records) (0 ∷ 65536 ∷ 65536 ∷ 65536 ∷ 65536 ∷ 30 ∷ 31 ∷ 65536 ∷ 65536 ∷ [])
    (entry (round_words (round_of struck_four (to_its_end ++ (write 0 (1 ∷ 1 ∷ []) ∷ [])))) next_words
    (entry (vault_words (after (opened_vault struck_four) (to_its_end ++ (write 0 (1 ∷ 1 ∷ []) ∷ [])))) (2 ∷ 2 ∷ 1 ∷ next_words)
    (entry (reads (after (opened_vault struck_four) to_its_end) ++ reads (after (opened_vault struck_four) (to_its_end ++ (write 0 (1 ∷ 1 ∷ []) ∷ []))))
    (14 ∷ 14 ∷ 0 ∷ 14 ∷ 0 ∷ 14 ∷ 0 ∷ 14 ∷ [])
    (entry (let es = earlier 1 (7 ∷ []) ∷ strike 0 ∷ write 0 (9 ∷ []) ∷ [] in
    stands (es ++ (back ∷ [])) ++ map words_told (standing zero_records es)) (20 ∷ 11 ∷ 9 ∷ 0 ∷ 7 ∷ [])
    end))))))))))))))))))))))))

-- OF EIGHT RECORDS, k = 3 and s = 1: a round of seven, with strikes on each level; and the eighth, which ends it. Then a scratch by 2^k; and two records of 128
-- words, with 65536 in all but the last, or the first, or in each
abbrev pub seven : List Event
seven =
    write 0 (1 ∷ []) ∷ strike 3 ∷ write 0 (2 ∷ []) ∷ strike 0 ∷ write 5 (7 ∷ []) ∷ strike 5 ∷ strike 6 ∷ []

abbrev pub seven_log : List ℕ
seven_log =
    6 ∷ 65536 ∷ 65513 ∷ 4 ∷ 10 ∷ 6 ∷ 0 ∷ 8 ∷ 49474 ∷ 16832 ∷ 16703 ∷ 49601 ∷
    3 ∷ 1 ∷ 65534 ∷ 64771 ∷ 3 ∷ 65536 ∷ 65534 ∷ 770 ∷ 64769 ∷ 8433 ∷ 768 ∷ 61218 ∷ 64769 ∷ 57618 ∷ 768 ∷ 3809 ∷ []

abbrev pub eight_examples : Table
eight_examples =
    entry (after (opened_vault eight) seven).held.log seven_log
    (entry (represent (round_of eight seven)).log seven_log
    (entry (let v = after (opened_vault eight) seven in recovery_of v.header (image_left v) [] 8 48)
    (0 ∷ 0 ∷ 0 ∷ 65536 ∷ 0 ∷ 0 ∷ 65536 ∷ 0 ∷ 65536 ∷ 65536 ∷ 0 ∷ zeros 48)
    (entry (let v = after (opened_vault eight) seven in explaining_of v.header (image_left v) [] 8 16 48)
    (0 ∷ 0 ∷ 0 ∷ 2 ∷ 0 ∷ 4 ∷ 0 ∷ 8 ∷ 0 ∷ 16 ∷ 0 ∷ 2 ∷ 3 ∷ 3 ∷ 0 ∷ 3 ∷ 0 ∷ 2 ∷ 1 ∷ 3 ∷ 0 ∷ 1 ∷ 5 ∷ 0 ∷ 6 ∷ 3 ∷ 0 ∷ zeros 48)
    (entry (let x = model_of eight seven in writes x ∷ x.records) (7 ∷ 65536 ∷ 0 ∷ 0 ∷ 65536 ∷ 0 ∷ 65536 ∷ 65536 ∷ 0 ∷ [])
    (entry (header_words (strike_answer (header_of 3 1 5) (buffers (ones 8) (ones 32) (ones 28)) 0).header ++
    header_words (strike_answer (header_of 3 1 7) (buffers (ones 8) (ones 32) (ones 28)) 0).header) (3 ∷ 1 ∷ 6 ∷ 3 ∷ 1 ∷ 0 ∷ [])
    (entry (writes (model_of eight (seven ++ (strike 1 ∷ []))) ∷ (round_header (round_of eight (seven ++ (strike 1 ∷ [])))).c ∷ []) (0 ∷ 0 ∷ [])
    (entry (map (table_number (model_of eight seven)) (take_back (ones 96) ∷ take_back (ones 72) ∷ [])) (0 ∷ 2 ∷ [])
    (entry (map (read_number (header_of 1 128 0) (replicate 127 65536 ++ (5 ∷ 5 ∷ replicate 127 65536))) (0 ∷ 1 ∷ []) ++
    map (read_number (header_of 1 128 0) (replicate 255 65536 ++ (5 ∷ []))) (0 ∷ 1 ∷ [])) (0 ∷ 0 ∷ 14 ∷ 0 ∷ [])
    end))))))))
