-- Records in a raw buffer, and which data a record may hold. Assumes nothing: these are definitions.
use Rattle.std.specs.Prelude.{Bool, true, ◌&&◌, ◌||◌, List, ℕ, zero, suc, ◌*◌, leb, eqb, take, drop, replicate}
use Rattle.std.proofs.lemmas.List.Edits.{sets}
use Rattle.field.specs.Words.{every}

-- a data word is 0 to 65535
abbrev pub is_data : ℕ → Bool
is_data x = leb x 65535

-- whether these are data words, which is what a write may enter
abbrev pub are_data : List ℕ → Bool
are_data b = every is_data b

-- whether a record is STRUCK: 65536 stands in the place of each of its data words
abbrev pub is_struck_word : ℕ → Bool
is_struck_word x = eqb x 65536

abbrev pub is_struck : List ℕ → Bool
is_struck b = every is_struck_word b

-- what a struck record of s words holds
abbrev pub struck_data : (s : ℕ) → List ℕ
struck_data s = replicate s 65536

-- whether these may be the data of one record: data words, or those of a struck one. It is the only definition that says which data a record may hold
abbrev pub record_fits : List ℕ → Bool
record_fits b = are_data b || is_struck b

-- whether a block is blank: each of its data words is 0. A record may be so, but writing refuses such a block
abbrev pub is_zero : ℕ → Bool
is_zero x = eqb x 0

abbrev pub is_blank : List ℕ → Bool
is_blank b = every is_zero b

-- record i, and the raw records with another in its place
abbrev pub record_in : (s : ℕ) → (raw : List ℕ) → (i : ℕ) → List ℕ
record_in s r i = take s (drop (i * s) r)

abbrev pub replaced : (s : ℕ) → (raw : List ℕ) → (i : ℕ) → (block : List ℕ) → List ℕ
replaced s r i b = sets r (i * s) b

-- whether each of the first n records holds such data
unfoldable pub records_fit : (s : ℕ) → (raw : List ℕ) → (n : ℕ) → Bool
records_fit s r zero = true
records_fit s r (suc n) = records_fit s r n && record_fits (record_in s r n)
