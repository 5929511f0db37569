-- EXAMPLES OF TWO READINGS by literal bytes, as those of WorkedBytes: no byte is made by a definition that is tried. The rack is that of docs/FORMAT.md,
-- section 13, k = 2, s = 1 and c = 3: C has the bytes 0 to 63, level 0 those from 64, level 1 those from 80, a position 8. `worked_two`, `worked_two_faults`
-- and `worked_shelves` of proofs/Worked prove that each entry holds. Assumes nothing: these are definitions.
use Rattle.std.specs.Prelude.{List, [], ◌∷◌, ◌++◌, ℕ, suc, take, drop}
use Rattle.layout.specs.declared.Header.{Header}
use Rattle.layout.specs.Header.{header_of}
use Rattle.two_readings.specs.RecoverTwoCall.{recover_two_answer, recover_two_leaves, recover_two_scratch}
use Rattle.two_readings.specs.ShelfOfTwoCall.{shelf_of_two_number, shelf_of_two_part, place_of_two}
use Rattle.vault.specs.Worked.{Table, end, entry, zeros, named}
use Rattle.vault.specs.WorkedBytes.{ones, image_bytes, place_words}

-- an image with one byte changed, and a pair of an erasure list of numbers below 256
abbrev pub changed : (image : List ℕ) → (at byte : ℕ) → List ℕ
changed m at byte = take at m ++ (byte ∷ drop (suc at) m)

abbrev pub gap : (offset size : ℕ) → List ℕ
gap o n = o ∷ 0 ∷ 0 ∷ 0 ∷ n ∷ 0 ∷ 0 ∷ 0 ∷ []

-- what the calls answer, and then what they leave; every output and scratch is lent full of ones
abbrev pub lent_two : Header → (image erasures image' erasures' : List ℕ) → (out scratch : ℕ) → List ℕ
lent_two h m e m' e' o s =
    named (recover_two_answer h m e m' e' (ones o) (ones s)) ++
    (recover_two_leaves h m e m' e' (ones o) (ones s) ++ recover_two_scratch h m e m' e' (ones o) (ones s))

abbrev pub of_two : (image erasures image' erasures' : List ℕ) → List ℕ
of_two m e m' e' = lent_two (header_of 2 1 3) m e m' e' 4 24

abbrev pub shelf_in : (c : ℕ) → (image erasures image' erasures' : List ℕ) → (stripe : ℕ) → List ℕ
shelf_in c m e m' e' l =
    let h = header_of 2 1 c in
    (shelf_of_two_number h m e m' e' l ∷ place_words (place_of_two h m e m' e' l)) ++ shelf_of_two_part h m e m' e' l

-- all records; and a refusal that changes nothing
abbrev pub taken : List ℕ
taken = 0 ∷ 0 ∷ 0 ∷ 1 ∷ 2 ∷ 3 ∷ 0 ∷ zeros 24

abbrev pub unchanged : (number : ℕ) → List ℕ
unchanged number = number ∷ 0 ∷ 0 ∷ ones 28

-- the 72 bytes of an opening of zero records, k = 1 and s = 2
abbrev pub small_bytes : List ℕ
small_bytes =
    (1 ∷ 0 ∷ 0 ∷ 0 ∷ zeros 8) ++ ((0 ∷ 0 ∷ 1 ∷ 0 ∷ zeros 8) ++ ((1 ∷ 255 ∷ 0 ∷ 0 ∷ zeros 8) ++ (0 ∷ 1 ∷ 0 ∷ 0 ∷ zeros 32)))

-- RECOVERY
abbrev pub two_examples : Table
two_examples =
    entry (of_two image_bytes [] image_bytes []) taken
    -- the first keeps three positions of C, the second none of level 0 and one of level 1; exchanged; and both keep three of C
    (entry (of_two image_bytes (gap 0 40) image_bytes (gap 64 40)) taken
    (entry (of_two image_bytes (gap 64 40) image_bytes (gap 0 40)) taken
    (entry (of_two image_bytes (gap 0 40) image_bytes (gap 24 40)) (7 ∷ 1 ∷ 2 ∷ zeros 28)
    -- a byte of C 1 is another: its lowest, its highest, that of its second word; and the last byte of level 1
    (entry (of_two image_bytes [] (changed image_bytes 8 254) []) (unchanged 13)
    (entry (of_two (changed image_bytes 11 1) [] image_bytes []) (unchanged 13)
    (entry (of_two image_bytes [] (changed image_bytes 12 7) []) (unchanged 13)
    (entry (of_two image_bytes [] (changed image_bytes 111 9) []) (unchanged 13)
    -- the same stray in both
    (entry (of_two (changed image_bytes 11 1) [] (changed image_bytes 11 1) []) (8 ∷ 1 ∷ 2 ∷ zeros 28)
    -- C 1 is lost in the first, so that C is taken from the second; and in the second, where it is another
    (entry (of_two image_bytes (gap 8 8) (changed image_bytes 8 254) []) (9 ∷ 1 ∷ 2 ∷ zeros 28)
    (entry (of_two image_bytes [] (changed image_bytes 8 254) (gap 15 1)) taken
    (entry (of_two (changed image_bytes 8 254) (gap 15 1) image_bytes []) taken
    -- seven positions of C each: from the first, where C 0 is lost; and where the second's C 0 is the first's, which is another
    (entry (of_two image_bytes (gap 0 8) (changed image_bytes 0 7) (gap 8 8)) taken
    (entry (of_two (changed image_bytes 0 7) (gap 8 8) image_bytes (gap 0 8)) (9 ∷ 1 ∷ 2 ∷ zeros 28)
    -- the first has more positions left in all, the second more of C; C 0 is another in the first
    (entry (of_two (changed image_bytes 0 7) (gap 8 16) image_bytes (gap 0 8 ++ gap 80 16)) taken
    -- the second has more positions left in all, the first more of level 1; 1 0 is another in the second
    (entry (of_two image_bytes (gap 0 32) (changed image_bytes 80 7) (gap 80 8)) taken
    -- level 0 is another, and empty with c = 2
    (entry (of_two image_bytes [] (changed image_bytes 64 7) []) (unchanged 13)
    (entry (lent_two (header_of 2 1 2) image_bytes [] (changed image_bytes 64 7) [] 4 24) (0 ∷ 0 ∷ 0 ∷ 1 ∷ 2 ∷ 0 ∷ 0 ∷ zeros 24)
    -- 65792 for 255, which is 65537 more; and two strays that are not the same
    (entry (of_two image_bytes [] (changed (changed (changed image_bytes 8 0) 9 1) 10 1) []) (unchanged 13)
    (entry (of_two (changed image_bytes 11 1) [] (changed image_bytes 11 2) []) (unchanged 13)
    -- seven positions of C each, a stray in the first at C 0, which the second has lost
    (entry (of_two (changed image_bytes 3 1) (gap 56 8) image_bytes (gap 0 8)) (8 ∷ 1 ∷ 2 ∷ zeros 28)
    -- k = 1, s = 2, c = 0: the third word of C 0 is another; and a byte of level 0, which is empty
    (entry (lent_two (header_of 1 2 0) small_bytes [] (changed small_bytes 8 1) [] 4 14) (13 ∷ 0 ∷ 0 ∷ ones 18)
    (entry (lent_two (header_of 1 2 0) small_bytes [] (changed small_bytes 48 1) [] 4 14) (0 ∷ 0 ∷ 0 ∷ zeros 18)
    end))))))))))))))))))))))

-- REFUSED: 13 before 7; 3 before 13, by either list
abbrev pub two_faults : Table
two_faults =
    entry (of_two image_bytes (gap 0 40) (changed image_bytes 56 7) (gap 0 40)) (unchanged 13)
    (entry (of_two image_bytes (gap 0 0) (changed image_bytes 56 7) []) (unchanged 3)
    (entry (of_two image_bytes [] (changed image_bytes 56 7) (gap 0 0)) (unchanged 3)
    -- a byte too few, in either image; an output and a scratch of another length; c = 4
    (entry (of_two (take 111 image_bytes) [] image_bytes (gap 0 0)) (unchanged 2)
    (entry (of_two image_bytes (gap 0 0) (take 111 image_bytes) []) (unchanged 2)
    (entry (lent_two (header_of 2 1 3) image_bytes [] image_bytes (gap 0 0) 3 24) (2 ∷ 0 ∷ 0 ∷ ones 27)
    (entry (lent_two (header_of 2 1 3) image_bytes [] image_bytes (gap 0 0) 4 24) (unchanged 3)
    (entry (lent_two (header_of 2 1 3) image_bytes [] image_bytes [] 4 23) (2 ∷ 0 ∷ 0 ∷ ones 27)
    (entry (lent_two (header_of 2 1 4) image_bytes [] [] [] 4 24) (unchanged 1)
    end))))))))

-- ONE STRIPE: the number; the reading, its first byte and how many; and the bytes
abbrev pub shelf_examples : Table
shelf_examples =
    entry (shelf_in 3 image_bytes [] image_bytes [] 0) (0 ∷ 0 ∷ 64 ∷ 16 ∷ 2 ∷ 0 ∷ 0 ∷ 0 ∷ 3 ∷ 0 ∷ 0 ∷ 0 ∷ 0 ∷ 32 ∷ 0 ∷ 0 ∷ 0 ∷ 48 ∷ 0 ∷ 0 ∷ [])
    (entry (take 4 (shelf_in 3 image_bytes [] image_bytes [] 1)) (0 ∷ 0 ∷ 80 ∷ 32 ∷ [])
    (entry (take 12 (shelf_in 3 image_bytes (gap 0 8) image_bytes [] 2)) (0 ∷ 1 ∷ 0 ∷ 64 ∷ 6 ∷ 0 ∷ 0 ∷ 0 ∷ 0 ∷ 0 ∷ 0 ∷ 0 ∷ [])
    -- 0 0 is lost in the first, and another in the second; on a tie; and where more of another stripe is lost
    (entry (shelf_in 3 image_bytes (gap 64 8) (changed image_bytes 64 7) [] 0)
    (0 ∷ 1 ∷ 64 ∷ 16 ∷ 7 ∷ 0 ∷ 0 ∷ 0 ∷ 3 ∷ 0 ∷ 0 ∷ 0 ∷ 0 ∷ 32 ∷ 0 ∷ 0 ∷ 0 ∷ 48 ∷ 0 ∷ 0 ∷ [])
    (entry (take 5 (shelf_in 3 image_bytes (gap 64 8) (changed image_bytes 64 7) (gap 72 8) 0)) (0 ∷ 0 ∷ 64 ∷ 16 ∷ 2 ∷ [])
    (entry (take 5 (shelf_in 3 image_bytes (gap 0 32) (changed image_bytes 64 7) (gap 64 8) 0)) (0 ∷ 0 ∷ 64 ∷ 16 ∷ 2 ∷ [])
    -- nothing is left of either: 7 is not tested
    (entry (take 4 (shelf_in 3 image_bytes (gap 0 112) image_bytes (gap 0 112) 2)) (0 ∷ 0 ∷ 0 ∷ 64 ∷ [])
    -- no such stripe, and level 0 with c = 2; 13 before 6
    (entry (shelf_in 3 image_bytes [] image_bytes [] 3) (6 ∷ 0 ∷ 0 ∷ 0 ∷ [])
    (entry (shelf_in 2 image_bytes [] (changed image_bytes 64 7) [] 0) (6 ∷ 0 ∷ 0 ∷ 0 ∷ [])
    (entry (shelf_in 3 image_bytes [] (changed image_bytes 8 254) [] 3) (13 ∷ 0 ∷ 0 ∷ 0 ∷ [])
    (entry (shelf_in 3 image_bytes [] (changed image_bytes 8 254) (gap 0 1) 0) (13 ∷ 0 ∷ 0 ∷ 0 ∷ [])
    -- refused, and the second has more positions left
    (entry (shelf_in 3 image_bytes (gap 0 8) (changed image_bytes 8 254) [] 2) (13 ∷ 0 ∷ 0 ∷ 0 ∷ [])
    -- 3 by either list, 2 by either image, 1
    (entry (shelf_in 3 image_bytes (gap 0 0) (changed image_bytes 8 254) [] 3) (3 ∷ 0 ∷ 0 ∷ 0 ∷ [])
    (entry (shelf_in 3 image_bytes [] image_bytes (gap 0 0) 3) (3 ∷ 0 ∷ 0 ∷ 0 ∷ [])
    (entry (shelf_in 3 (take 111 image_bytes) [] image_bytes (gap 0 0) 3) (2 ∷ 0 ∷ 0 ∷ 0 ∷ [])
    (entry (shelf_in 3 image_bytes (gap 0 0) (take 111 image_bytes) [] 3) (2 ∷ 0 ∷ 0 ∷ 0 ∷ [])
    (entry (shelf_in 4 image_bytes [] [] [] 3) (1 ∷ 0 ∷ 0 ∷ 0 ∷ [])
    end))))))))))))))))
