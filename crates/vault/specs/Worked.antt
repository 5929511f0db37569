-- The worked examples P1 to P12 of docs/FORMAT.md, section 12, k = 2 and s = 1, as entries of one table: what a definition gives, and what is said there; and
-- examples of blank blocks as those of another. `worked` and `worked_blanks` of proofs/Worked prove that each entry holds. Assumes nothing: these are
-- definitions.
use Rattle.std.specs.Prelude.{◌≡◌, Bool, true, false, List, [], ◌∷◌, ◌++◌, ℕ, get_or, replicate}
use Rattle.field.specs.Field.{fermat, root_of}
use Rattle.code.specs.Stripe.{coded}
use Rattle.decoder.specs.Decoding.{decoded_column}
use Rattle.recovery.specs.Verdicts.{Verdict}
use Rattle.layout.specs.Header.{header_of, first_of}
use Rattle.image.specs.Image.{little, image_of}
use Rattle.stripe_decoding.specs.StripeCall.{decode_number, decode_leaves, decode_scratch}
use Rattle.recovery.specs.RecoveryCall.{recover_answer, recover_leaves}
use Rattle.explanation.specs.ExplainCall.{explain_answer, explain_counts, explain_origins}
use Rattle.vault.specs.Event.{Opening, Event, write, earlier}
use Rattle.vault.specs.Model.{model_of}
use Rattle.vault.specs.History.{Vault, image_left, number_on, after, opened_vault}

-- an entry: what is given, and what docs/FORMAT.md says
pub data Table : Type 0 where
  end : Table
  entry : (given said : List ℕ) → Table → Table

abbrev pub Holds : Table → Type 0
Holds end = Unit {0}
Holds (entry given said rest) = (given ≡ said) × Holds rest

abbrev pub root4 : ℕ
root4 = root_of fermat 2

abbrev pub zeros : ℕ → List ℕ
zeros n = replicate n 0

-- zero records, and a vault just opened with them
abbrev pub zero_records : Opening
zero_records = record { k = 2; s = 1; raw = zeros 4; full = zeros 16; log = zeros 12 }

abbrev pub opening : Vault
opening = opened_vault zero_records

-- one pair of an erasure list, as bytes
abbrev pub pair : (offset size : ℕ) → List ℕ
pair o n = little 4 o ++ little 4 n

-- an image whose level 0 has these words
abbrev pub level_zero : (words : List ℕ) → List ℕ
level_zero ws = image_of (zeros 16) (ws ++ zeros 8)

-- recovery's number, whether it names a stripe, and which; then the output
abbrev pub flag : Bool → ℕ
flag true = 1
flag false = 0

abbrev pub named : Verdict → List ℕ
named a = a.number ∷ flag a.named ∷ a.stripe ∷ []

abbrev pub recovery : Vault → (erasures : List ℕ) → List ℕ
recovery v e =
    let h = v.header in
    named (recover_answer h (image_left v) e (zeros 4) (zeros 24)) ++ recover_leaves h (image_left v) e (zeros 4) (zeros 24)

-- stripe 0 decoded at c = 3 from lent buffers of ones: the number, then the output and the scratch
abbrev pub decoding : (image erasures : List ℕ) → List ℕ
decoding m e =
    let h = header_of 2 1 3 in
    let o : List ℕ = replicate 8 1 in
    let s : List ℕ = replicate 24 1 in
    (decode_number h m e 0 o s ∷ []) ++ (decode_leaves h m e 0 o s ++ decode_scratch h m e 0 o s)

-- whether an erasure list is taken: recovery of zero records just opened gives 3 if it is not
abbrev pub taken : (erasures : List ℕ) → List ℕ
taken e = (recover_answer opening.header (image_left opening) e (zeros 4) (zeros 24)).number ∷ []

-- explaining, from lent buffers of ones: its number, whether it names a stripe, and which; then the counts, and the origins
abbrev pub explaining : Vault → (erasures : List ℕ) → List ℕ
explaining v e =
    let h = v.header in
    let n : List ℕ = replicate 6 1 in
    let o : List ℕ = replicate 8 1 in
    let s : List ℕ = replicate 24 1 in
    named (explain_answer h (image_left v) e n o s) ++ (explain_counts h (image_left v) e n o s ++ explain_origins h (image_left v) e n o s)

-- the model's records after some writes to zero records, and those before the last write and before the one before it
abbrev pub going_back : List Event → List ℕ
going_back es =
    let m = model_of zero_records es in
    m.records ++ (get_or m.before 0 [] ++ get_or m.before 1 [])

-- P1 to P12 in order; P7, P8, P9 and P12 have two entries each. The last four have no number: the model goes back, and a round's end is as far as it goes; and
-- explaining says where each record is, and how many positions a stripe lacks
abbrev pub examples : Table
examples =
    entry (coded 65537 root4 2 1 0 (1 ∷ 2 ∷ [])) (3 ∷ 65536 ∷ 65026 ∷ 513 ∷ [])
    (entry (coded 65537 root4 2 0 2 (3 ∷ [])) (3 ∷ 12288 ∷ [])
    (entry (coded 65537 root4 2 2 0 (1 ∷ 2 ∷ 3 ∷ 4 ∷ [])) (10 ∷ 255 ∷ 65533 ∷ 65280 ∷ 11841 ∷ 16945 ∷ 52674 ∷ 49618 ∷ [])
    (entry (decoded_column 65537 root4 2 1 0 (true ∷ true ∷ false ∷ false ∷ []) (0 ∷ 0 ∷ 65026 ∷ 513 ∷ [])) (1 ∷ 2 ∷ [])
    (entry (first_of (header_of 2 1 3) 1 ∷ first_of (header_of 2 1 3) 0 ∷ []) (0 ∷ 2 ∷ [])
    (entry (recovery (after opening (write 0 (1 ∷ []) ∷ write 0 (2 ∷ []) ∷ [])) []) (0 ∷ 0 ∷ 0 ∷ 2 ∷ 0 ∷ 0 ∷ 0 ∷ [])
    (entry (recovery opening (pair 0 32)) (0 ∷ 0 ∷ 0 ∷ 0 ∷ 0 ∷ 0 ∷ 0 ∷ [])
    (entry (recovery opening (pair 0 33)) (7 ∷ 1 ∷ 2 ∷ 0 ∷ 0 ∷ 0 ∷ 0 ∷ [])
    (entry (taken (pair 0 8 ++ pair 9 8)) (0 ∷ [])
    (entry (taken (pair 0 8 ++ pair 8 8)) (3 ∷ [])
    (entry (taken (pair 104 8)) (0 ∷ [])
    (entry (taken (pair 104 9)) (3 ∷ [])
    (entry (decoding (level_zero (2 ∷ 3 ∷ 8192 ∷ 12289 ∷ [])) []) (9 ∷ zeros 32)
    (entry (decoding (level_zero (4 ∷ 3 ∷ 16384 ∷ 12288 ∷ [])) []) (10 ∷ zeros 32)
    (entry (number_on opening (write 0 (65535 ∷ [])) ∷ []) (0 ∷ [])
    (entry (number_on opening (write 0 (65536 ∷ [])) ∷ []) (5 ∷ [])
    (entry (going_back (write 0 (1 ∷ []) ∷ write 0 (2 ∷ []) ∷ [])) (2 ∷ 0 ∷ 0 ∷ 0 ∷ 1 ∷ 0 ∷ 0 ∷ 0 ∷ 0 ∷ 0 ∷ 0 ∷ 0 ∷ [])
    (entry (going_back (write 0 (1 ∷ []) ∷ write 1 (2 ∷ []) ∷ write 2 (3 ∷ []) ∷ write 3 (4 ∷ []) ∷ [])) (1 ∷ 2 ∷ 3 ∷ 4 ∷ [])
    (entry (explaining (after opening (write 0 (1 ∷ []) ∷ write 0 (2 ∷ []) ∷ [])) [])
    (0 ∷ 0 ∷ 0 ∷ 0 ∷ 0 ∷ 4 ∷ 0 ∷ 8 ∷ 0 ∷ 1 ∷ 1 ∷ 2 ∷ 0 ∷ 2 ∷ 0 ∷ 2 ∷ 0 ∷ [])
    (entry (explaining opening (pair 0 33)) (7 ∷ 1 ∷ 2 ∷ 0 ∷ 0 ∷ 0 ∷ 0 ∷ 3 ∷ 1 ∷ zeros 8)
    end)))))))))))))))))))

-- a record is written, and another; an earlier write makes the first one blank, and a write that would make the second one so is refused
abbrev pub with_blanks : List Event
with_blanks = write 0 (1 ∷ []) ∷ write 1 (2 ∷ []) ∷ earlier 0 (0 ∷ []) ∷ write 1 (0 ∷ []) ∷ []

-- a blank block is refused 11, after 2 and 4, where it is written, and taken where it was written earlier. What was so written is recovered, is in the model,
-- and is explained
abbrev pub blank_examples : Table
blank_examples =
    entry (number_on opening (write 0 (0 ∷ [])) ∷ number_on opening (write 4 (0 ∷ [])) ∷ number_on opening (write 0 (0 ∷ 0 ∷ [])) ∷ []) (11 ∷ 4 ∷ 2 ∷ [])
    (entry (number_on opening (earlier 0 (0 ∷ [])) ∷ number_on opening (earlier 4 (0 ∷ [])) ∷ number_on opening (earlier 0 (0 ∷ 0 ∷ [])) ∷ []) (0 ∷ 4 ∷ 2 ∷ [])
    (entry (recovery (after opening with_blanks) []) (0 ∷ 0 ∷ 0 ∷ 0 ∷ 2 ∷ 0 ∷ 0 ∷ [])
    (entry (going_back with_blanks) (0 ∷ 2 ∷ 0 ∷ 0 ∷ 1 ∷ 2 ∷ 0 ∷ 0 ∷ 1 ∷ 0 ∷ 0 ∷ 0 ∷ [])
    (entry (explaining (after opening with_blanks) []) (0 ∷ 0 ∷ 0 ∷ 2 ∷ 0 ∷ 4 ∷ 0 ∷ 8 ∷ 0 ∷ 0 ∷ 2 ∷ 1 ∷ 1 ∷ 2 ∷ 0 ∷ 2 ∷ 0 ∷ [])
    end))))
