-- EXAMPLES OF TAKING BACK, by literal words, beside those of specs/WorkedBytes: every scratch is lent full of ones, and s is 1 where it is not named.
-- `worked_back` of proofs/Worked proves that each entry holds. Assumes nothing: these are definitions.
use Rattle.std.specs.Prelude.{List, [], ◌∷◌, ◌++◌, map, ℕ, drop, replicate}
use Rattle.layout.specs.declared.Header.{Header}
use Rattle.layout.specs.Header.{header_of}
use Rattle.store.specs.Buffers.{Buffers, buffers}
use Rattle.splitting.specs.Splitting.{lowest_of}
use Rattle.taking_back.specs.TakeBackCall.{take_back_answer, take_back_leaves, take_back_scratch}
use Rattle.vault.specs.Event.{Opening, Entry, Event, write, earlier, take_back}
use Rattle.vault.specs.Model.{writes, table_number, model_of}
use Rattle.vault.specs.History.{vault, number_on, after}
use Rattle.vault.specs.Round.{round_of, represent}
use Rattle.vault.specs.Worked.{Table, end, entry, zeros, zero_records, opening, recovery, explaining}
use Rattle.vault.specs.WorkedBytes.{ones, three_writes, full_given, log_given, header_words}

-- what the call answers, its number and header, and then what it leaves: raw, full, log and scratch
abbrev pub back_in : Header → Buffers → (scratch : ℕ) → List ℕ
back_in h u n =
    let a = take_back_answer h u (ones n) in
    let left = take_back_leaves h u (ones n) in
    a.number ∷ (header_words a.header ++ (left.raw ++ (left.full ++ (left.log ++ take_back_scratch h u (ones n)))))

abbrev pub back_of : (k c : ℕ) → (raw full log : List ℕ) → (scratch : ℕ) → List ℕ
back_of k c raw full log n = back_in (header_of k 1 c) (buffers raw full log) n

-- WORDS. Level 1 of the three writes of docs/FORMAT.md, section 13
abbrev pub level_one : List ℕ
level_one = drop 4 log_given

-- logs of k = 2: writes of 1 and 2 to record 0; writes of 5, 6 and 7 to record 2; levels of k = 3: writes of 1, 2, 5 and 4 to the records 0, 1, 3 and 1, and
-- after these of 7 and 8 to record 6, or of 7 to record 6 and 9 to record 1; the full stripe and level 1 of docs/FORMAT.md, section 12, of s = 2; and the full
-- stripe of zero records with blocks 0 and 1 exchanged
abbrev pub two_same : List ℕ
two_same = zeros 4 ++ (0 ∷ 3 ∷ 0 ∷ 65536 ∷ 0 ∷ 65026 ∷ 0 ∷ 513 ∷ [])

abbrev pub three_same : List ℕ
three_same = 2 ∷ 7 ∷ 8192 ∷ 28672 ∷ 4 ∷ 11 ∷ 0 ∷ 65536 ∷ 65027 ∷ 64006 ∷ 514 ∷ 1541 ∷ []

abbrev pub level_two : List ℕ
level_two = 5 ∷ 12 ∷ 65024 ∷ 65280 ∷ 65534 ∷ 65531 ∷ 511 ∷ 255 ∷ 12048 ∷ 20033 ∷ 4400 ∷ 16977 ∷ 52977 ∷ 44482 ∷ 61649 ∷ 49586 ∷ []

abbrev pub level_of_six : List ℕ
level_of_six = 12 ∷ 15 ∷ 0 ∷ 65536 ∷ 33154 ∷ 450 ∷ 33151 ∷ 446 ∷ []

abbrev pub full_wide : List ℕ
full_wide =
    6 ∷ 100 ∷ 61 ∷ 255 ∷ 2550 ∷ 57079 ∷ 65533 ∷ 65497 ∷ 3 ∷ 65280 ∷ 62967 ∷ 8438 ∷
    7984 ∷ 52873 ∷ 56042 ∷ 12576 ∷ 38376 ∷ 63228 ∷ 57041 ∷ 2444 ∷ 64302 ∷ 53473 ∷ 37421 ∷ 13083 ∷ []

abbrev pub level_wide : List ℕ
level_wide = 5 ∷ 4 ∷ 6 ∷ 65536 ∷ 65535 ∷ 65535 ∷ 64771 ∷ 64770 ∷ 64515 ∷ 770 ∷ 769 ∷ 1026 ∷ []

abbrev pub level_of_two : List ℕ
level_of_two = 7 ∷ 16 ∷ 5 ∷ 65535 ∷ 49537 ∷ 49603 ∷ 16768 ∷ 16830 ∷ []

abbrev pub exchanged : List ℕ
exchanged = 6 ∷ 0 ∷ 257 ∷ 0 ∷ 65533 ∷ 0 ∷ 65282 ∷ 0 ∷ 8241 ∷ 0 ∷ 12321 ∷ 0 ∷ 57298 ∷ 0 ∷ 53218 ∷ 0 ∷ []

-- TAKEN: back to the round's start, and no further; to an earlier write of the same level, and to the newest one of a level above, with a full stripe that no
-- records code to, and raw words of which none is read; levels below that get blocks in order of time, by the numbers of their writes; a write before two
-- levels above, with an empty level between that holds anything, one in its own level under a level that holds anything, and one of two levels; and records of
-- two words
abbrev pub back_examples : Table
back_examples =
    entry (back_of 2 3 (1 ∷ 2 ∷ 3 ∷ 0 ∷ []) full_given log_given 48) (0 ∷ 2 ∷ 1 ∷ 2 ∷ 1 ∷ 2 ∷ 0 ∷ 0 ∷ (full_given ++ (zeros 4 ++ (level_one ++ zeros 48))))
    (entry (back_of 2 2 (1 ∷ 2 ∷ 0 ∷ 0 ∷ []) full_given (zeros 4 ++ level_one) 48)
    (0 ∷ 2 ∷ 1 ∷ 1 ∷ 1 ∷ 0 ∷ 0 ∷ 0 ∷ (full_given ++ (0 ∷ 1 ∷ 0 ∷ 1 ∷ zeros 56)))
    (entry (back_of 2 1 (1 ∷ 0 ∷ 0 ∷ 0 ∷ []) full_given (0 ∷ 1 ∷ 0 ∷ 1 ∷ zeros 8) 48) (0 ∷ 2 ∷ 1 ∷ 0 ∷ (zeros 4 ++ (full_given ++ zeros 60)))
    (entry (back_of 2 0 (zeros 4) full_given (zeros 12) 48) (12 ∷ 2 ∷ 1 ∷ 0 ∷ (zeros 4 ++ (full_given ++ (zeros 12 ++ ones 48))))
    (entry (back_of 2 2 (2 ∷ 70000 ∷ 70001 ∷ 70002 ∷ []) (replicate 16 70000) two_same 48)
    (0 ∷ 2 ∷ 1 ∷ 1 ∷ 1 ∷ 70000 ∷ 70001 ∷ 70002 ∷ (replicate 16 70000 ++ (0 ∷ 1 ∷ 0 ∷ 1 ∷ zeros 56)))
    (entry (back_of 2 3 (0 ∷ 0 ∷ 7 ∷ 0 ∷ []) (ones 16) three_same 48)
    (0 ∷ 2 ∷ 1 ∷ 2 ∷ 0 ∷ 0 ∷ 6 ∷ 0 ∷ (ones 16 ++ (zeros 4 ++ (drop 4 three_same ++ zeros 48))))
    (entry (back_of 3 4 (1 ∷ 4 ∷ 0 ∷ 5 ∷ zeros 4) (ones 32) (zeros 12 ++ level_two) 96)
    (0 ∷ 3 ∷ 1 ∷ 3 ∷ 1 ∷ 2 ∷ 0 ∷ 5 ∷ (zeros 4 ++ (ones 32 ++ (3 ∷ 5 ∷ 12288 ∷ 20480 ∷ 1 ∷ 3 ∷ 65536 ∷ 65536 ∷ 65281 ∷ 65026 ∷ 256 ∷ 513 ∷ zeros 112))))
    (entry (back_of 3 6 (1 ∷ 4 ∷ 0 ∷ 5 ∷ 0 ∷ 0 ∷ 8 ∷ 0 ∷ []) (ones 32) (zeros 4 ++ (level_of_six ++ level_two)) 96)
    (0 ∷ 3 ∷ 1 ∷ 5 ∷ 1 ∷ 4 ∷ 0 ∷ 5 ∷ 0 ∷ 0 ∷ 7 ∷ 0 ∷ (ones 32 ++ (6 ∷ 7 ∷ 384 ∷ 448 ∷ (zeros 8 ++ (level_two ++ zeros 96)))))
    (entry (back_of 3 5 (1 ∷ 9 ∷ 0 ∷ 5 ∷ zeros 4) (ones 32) (1 ∷ 9 ∷ 64 ∷ 576 ∷ (replicate 8 70000 ++ level_two)) 96)
    (0 ∷ 3 ∷ 1 ∷ 4 ∷ 1 ∷ 4 ∷ 0 ∷ 5 ∷ (zeros 4 ++ (ones 32 ++ (zeros 4 ++ (replicate 8 70000 ++ (level_two ++ zeros 96))))))
    (entry (back_of 3 6 (1 ∷ 4 ∷ 0 ∷ 5 ∷ 0 ∷ 0 ∷ 8 ∷ 0 ∷ []) (ones 32) (zeros 4 ++ (level_of_six ++ replicate 16 70000)) 96)
    (0 ∷ 3 ∷ 1 ∷ 5 ∷ 1 ∷ 4 ∷ 0 ∷ 5 ∷ 0 ∷ 0 ∷ 7 ∷ 0 ∷ (ones 32 ++ (6 ∷ 7 ∷ 384 ∷ 448 ∷ (zeros 8 ++ (replicate 16 70000 ++ zeros 96)))))
    (entry (back_of 3 7 (1 ∷ 3 ∷ 0 ∷ 5 ∷ 0 ∷ 0 ∷ 7 ∷ 0 ∷ []) (ones 32) (1 ∷ 3 ∷ 65533 ∷ 65525 ∷ (level_of_two ++ level_two)) 96)
    (0 ∷ 3 ∷ 1 ∷ 6 ∷ 1 ∷ 9 ∷ 0 ∷ 5 ∷ 0 ∷ 0 ∷ 7 ∷ 0 ∷ (ones 32 ++ (zeros 4 ++ (level_of_two ++ (level_two ++ zeros 96)))))
    (entry (back_in (header_of 2 2 3) (buffers (10 ∷ 11 ∷ 20 ∷ 21 ∷ 5 ∷ 65535 ∷ 3 ∷ 4 ∷ []) full_wide (2 ∷ 5 ∷ 65535 ∷ 8192 ∷ 20480 ∷ 57345 ∷ level_wide)) 56)
    (0 ∷ 2 ∷ 2 ∷ 2 ∷ 10 ∷ 11 ∷ 20 ∷ 21 ∷ 1 ∷ 2 ∷ 3 ∷ 4 ∷ (full_wide ++ (zeros 6 ++ (level_wide ++ zeros 56))))
    (entry (back_in (header_of 2 2 2) (buffers (10 ∷ 11 ∷ 20 ∷ 21 ∷ 1 ∷ 2 ∷ 3 ∷ 4 ∷ []) full_wide (zeros 6 ++ level_wide)) 56)
    (0 ∷ 2 ∷ 2 ∷ 1 ∷ 10 ∷ 11 ∷ 20 ∷ 21 ∷ 1 ∷ 2 ∷ 40 ∷ 65535 ∷ (full_wide ++ (2 ∷ 1 ∷ 2 ∷ 2 ∷ 1 ∷ 2 ∷ zeros 68)))
    end))))))))))))

-- REFUSED: a word of the lowest filled level above 65536, two that code no word, the number 4, which is none, and 65536 in one of two words; then a level above
-- that no blocks code to, whatever the full stripe is, and a full stripe with a word above 65536; and lengths, and headers out of range. Where a stripe is at
-- fault the scratch alone is changed. Then which level is the lowest filled one at k = 3, for c from 1 to 7; first blocks that are no records; full stripes
-- with two blocks exchanged, and that no blocks code to; a fault of the lowest level before one of the next; and one more word, or one less, than a length
abbrev pub faulty : (log : List ℕ) → List ℕ
faulty log = back_of 2 1 (ones 4) full_given log 48

abbrev pub back_faults : Table
back_faults =
    entry (faulty (2 ∷ 65537 ∷ 2 ∷ 0 ∷ zeros 8)) (8 ∷ 2 ∷ 1 ∷ 1 ∷ (ones 4 ++ (full_given ++ (2 ∷ 65537 ∷ 2 ∷ 0 ∷ zeros 56))))
    (entry (faulty (2 ∷ 3 ∷ 2 ∷ 4 ∷ zeros 8)) (9 ∷ 2 ∷ 1 ∷ 1 ∷ (ones 4 ++ (full_given ++ (2 ∷ 3 ∷ 2 ∷ 4 ∷ zeros 56))))
    (entry (faulty (4 ∷ 3 ∷ 4 ∷ 3 ∷ zeros 8)) (10 ∷ 2 ∷ 1 ∷ 1 ∷ (ones 4 ++ (full_given ++ (4 ∷ 3 ∷ 4 ∷ 3 ∷ zeros 56))))
    (entry (back_in (header_of 2 2 1) (buffers (ones 8) full_wide (2 ∷ 65536 ∷ 5 ∷ 2 ∷ 65536 ∷ 5 ∷ zeros 12)) 56)
    (10 ∷ 2 ∷ 2 ∷ 1 ∷ (ones 8 ++ (full_wide ++ (2 ∷ 65536 ∷ 5 ∷ 2 ∷ 65536 ∷ 5 ∷ zeros 68))))
    (entry (back_of 2 3 (zeros 4) (replicate 16 70000) (2 ∷ 3 ∷ 8192 ∷ 12288 ∷ 1 ∷ 2 ∷ zeros 6) 48)
    (9 ∷ 2 ∷ 1 ∷ 3 ∷ (zeros 4 ++ (replicate 16 70000 ++ (2 ∷ 3 ∷ 8192 ∷ 12288 ∷ 1 ∷ 2 ∷ zeros 54))))
    (entry (back_of 2 3 (zeros 4) (replicate 16 70000) log_given 48) (8 ∷ 2 ∷ 1 ∷ 3 ∷ (zeros 4 ++ (replicate 16 70000 ++ (log_given ++ zeros 48))))
    (entry (back_of 2 3 (zeros 4) full_given log_given 24) (2 ∷ 2 ∷ 1 ∷ 3 ∷ (zeros 4 ++ (full_given ++ (log_given ++ ones 24))))
    (entry (back_of 2 0 (zeros 4) full_given log_given 47) (2 ∷ 2 ∷ 1 ∷ 0 ∷ (zeros 4 ++ (full_given ++ (log_given ++ ones 47))))
    (entry (back_of 2 3 (zeros 3) full_given log_given 48) (2 ∷ 2 ∷ 1 ∷ 3 ∷ (zeros 3 ++ (full_given ++ (log_given ++ ones 48))))
    (entry (back_of 2 4 (zeros 4) full_given log_given 47) (1 ∷ 2 ∷ 1 ∷ 4 ∷ (zeros 4 ++ (full_given ++ (log_given ++ ones 47))))
    (entry (map (λ (c : ℕ). lowest_of (header_of 3 1 c)) (1 ∷ 2 ∷ 3 ∷ 4 ∷ 5 ∷ 6 ∷ 7 ∷ [])) (0 ∷ 1 ∷ 0 ∷ 2 ∷ 0 ∷ 1 ∷ 0 ∷ [])
    (entry (back_of 2 2 (ones 4) full_given (zeros 4 ++ (4 ∷ 4 ∷ 4 ∷ 2 ∷ 4 ∷ 65284 ∷ 4 ∷ 259 ∷ [])) 48)
    (10 ∷ 2 ∷ 1 ∷ 2 ∷ (ones 4 ++ (full_given ++ (zeros 4 ++ (4 ∷ 4 ∷ 4 ∷ 2 ∷ 4 ∷ 65284 ∷ 4 ∷ 259 ∷ zeros 48)))))
    (entry (back_in (header_of 2 2 2) (buffers (ones 8) full_wide (zeros 6 ++ (1 ∷ 0 ∷ 6 ∷ 1 ∷ 65535 ∷ 4 ∷ 1 ∷ 65280 ∷ 65286 ∷ 1 ∷ 255 ∷ 261 ∷ []))) 56)
    (10 ∷ 2 ∷ 2 ∷ 2 ∷ (ones 8 ++ (full_wide ++ (zeros 6 ++ (1 ∷ 0 ∷ 6 ∷ 1 ∷ 65535 ∷ 4 ∷ 1 ∷ 65280 ∷ 65286 ∷ 1 ∷ 255 ∷ 261 ∷ zeros 56)))))
    (entry (back_of 2 1 (ones 4) exchanged (0 ∷ 1 ∷ 0 ∷ 1 ∷ zeros 8) 48) (10 ∷ 2 ∷ 1 ∷ 1 ∷ (ones 4 ++ (exchanged ++ (0 ∷ 1 ∷ 0 ∷ 1 ∷ zeros 56))))
    (entry (back_of 2 1 (ones 4) (7 ∷ drop 1 full_given) (0 ∷ 1 ∷ 0 ∷ 1 ∷ zeros 8) 48)
    (9 ∷ 2 ∷ 1 ∷ 1 ∷ (ones 4 ++ (7 ∷ (drop 1 full_given ++ (0 ∷ 1 ∷ 0 ∷ 1 ∷ zeros 56)))))
    (entry (back_of 2 3 (ones 4) full_given (4 ∷ 3 ∷ 16384 ∷ 12288 ∷ replicate 8 70000) 48)
    (10 ∷ 2 ∷ 1 ∷ 3 ∷ (ones 4 ++ (full_given ++ (4 ∷ 3 ∷ 16384 ∷ 12288 ∷ (replicate 8 70000 ++ zeros 48)))))
    (entry (back_of 2 3 (zeros 4) full_given log_given 49) (2 ∷ 2 ∷ 1 ∷ 3 ∷ (zeros 4 ++ (full_given ++ (log_given ++ ones 49))))
    (entry (back_of 2 3 (zeros 4) (ones 15) log_given 48) (2 ∷ 2 ∷ 1 ∷ 3 ∷ (zeros 4 ++ (ones 15 ++ (log_given ++ ones 48))))
    (entry (back_of 2 3 (zeros 4) full_given (drop 1 log_given) 48) (2 ∷ 2 ∷ 1 ∷ 3 ∷ (zeros 4 ++ (full_given ++ (drop 1 log_given ++ ones 48))))
    (entry (number_on (vault (header_of 2 1 1) (buffers (ones 4) full_given (2 ∷ 65537 ∷ 2 ∷ 0 ∷ zeros 8))) (take_back (ones 48)) ∷ []) (8 ∷ [])
    (entry (back_of 3 1 (ones 8) (ones 32) (2 ∷ 65537 ∷ 2 ∷ 0 ∷ zeros 24) 96) (8 ∷ 3 ∷ 1 ∷ 1 ∷ (ones 8 ++ (ones 32 ++ (2 ∷ 65537 ∷ 2 ∷ 0 ∷ zeros 120))))
    end))))))))))))))))))))

-- IN HISTORIES of zero records: what the model says of takings-back, and what it is after some: its records, its count, the numbers of the records that the
-- round's writes are to, and the words of the round that it is; and what is recovered and explained then
abbrev pub undone : List Event
undone = write 0 (1 ∷ []) ∷ write 0 (2 ∷ []) ∷ write 3 (9 ∷ []) ∷ take_back (ones 48) ∷ take_back (ones 48) ∷ []

abbrev pub model_words : List Event → List ℕ
model_words es = let x = model_of zero_records es in writes x ∷ (x.records ++ map (λ (e : Entry). e.number) x.written)

abbrev pub round_end : List Event
round_end = write 0 (1 ∷ []) ∷ write 1 (2 ∷ []) ∷ earlier 2 (0 ∷ []) ∷ write 3 (4 ∷ []) ∷ take_back (ones 48) ∷ []

abbrev pub two_wide : Opening
two_wide = record { k = 1; s = 2; raw = zeros 4; full = []; log = [] }

abbrev pub back_histories : Table
back_histories =
    entry (map (table_number (model_of zero_records [])) (take_back (ones 48) ∷ take_back (ones 47) ∷ [])) (12 ∷ 2 ∷ [])
    (entry (map (table_number (model_of zero_records three_writes)) (take_back (ones 48) ∷ take_back (ones 24) ∷ take_back [] ∷ [])) (0 ∷ 2 ∷ 2 ∷ [])
    (entry (map (number_on (after opening three_writes)) (take_back (ones 48) ∷ take_back (ones 24) ∷ take_back [] ∷ [])) (0 ∷ 2 ∷ 2 ∷ [])
    (entry (model_words undone) (1 ∷ 1 ∷ 0 ∷ 0 ∷ 0 ∷ 0 ∷ [])
    (entry (model_words (undone ++ (take_back (ones 47) ∷ write 2 (0 ∷ []) ∷ write 2 (5 ∷ []) ∷ []))) (2 ∷ 1 ∷ 0 ∷ 5 ∷ 0 ∷ 0 ∷ 2 ∷ [])
    (entry (model_words (undone ++ (take_back (ones 48) ∷ take_back (ones 48) ∷ []))) (0 ∷ zeros 4)
    (entry (model_words round_end) (0 ∷ 1 ∷ 2 ∷ 0 ∷ 4 ∷ [])
    (entry (recovery (after opening undone) []) (0 ∷ 0 ∷ 0 ∷ 1 ∷ 0 ∷ 0 ∷ 0 ∷ [])
    (entry (explaining (after opening undone) []) (0 ∷ 0 ∷ 0 ∷ 2 ∷ 0 ∷ 0 ∷ 0 ∷ 8 ∷ 0 ∷ 0 ∷ 0 ∷ 2 ∷ 0 ∷ 2 ∷ 0 ∷ 2 ∷ 0 ∷ [])
    (entry (header_words (after opening undone).header ++ ((represent (round_of zero_records undone)).full ++ (represent (round_of zero_records undone)).log))
    (2 ∷ 1 ∷ 1 ∷ (full_given ++ (0 ∷ 1 ∷ 0 ∷ 1 ∷ zeros 8)))
    (entry (map (table_number (model_of two_wide (write 0 (1 ∷ 2 ∷ []) ∷ []))) (take_back (ones 28) ∷ take_back (ones 29) ∷ take_back (ones 24) ∷ []))
    (0 ∷ 2 ∷ 2 ∷ [])
    end))))))))))
