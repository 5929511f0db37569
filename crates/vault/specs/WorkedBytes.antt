-- EXAMPLES BY LITERAL BYTES AND WORDS, beside P1 to P12 (specs/Worked): no byte of an image or of an erasure list is made by a definition that is tried, and
-- no result is said by one. Every output, and every scratch, is lent full of ones, so that what is left shows. `worked_bytes` to `worked_answers` of
-- proofs/Worked prove that each entry holds. Assumes nothing: these are definitions.
use Rattle.std.specs.Prelude.{true, false, List, [], ◌∷◌, ◌++◌, map, ℕ, get_or, take, drop, replicate, Option, Some, None, Ok, Err}
use Rattle.std.specs.Borrow.{Bor}
use Rattle.field.specs.Field.{fermat, root_of, power_table}
use Rattle.code.specs.Stripe.{coded, coded_rows}
use Rattle.decoder.specs.Decoding.{decoded_column}
use Rattle.layout.specs.declared.Header.{Header}
use Rattle.layout.specs.Header.{header_of, raw_size, full_size, log_size, out_size, scratch_size, image_size, level_for}
use Rattle.layout.specs.declared.refusal.Refusal.{Refusal}
use Rattle.layout.specs.declared.refusal.Refusal.TheVariants.{HeaderRange, Length, ErasureList, RecordNumber, DataWord, NoStripe}
use Rattle.layout.specs.declared.refusal.Refusal.TheVariants.{TooFew, OutOfField, Inconsistent, NotRecords, Blank, RoundStart, ReadingsDiffer, Struck}
use Rattle.layout.specs.Refusals.{number_of, answer_number, read_part}
use Rattle.store.specs.Buffers.{buffers}
use Rattle.store.specs.StoreCalls.{open_answer, opened_as, written_as, read_number, read_gives}
use Rattle.image.specs.ImageCall.{image_number, image_leaves}
use Rattle.stripe_decoding.specs.StripeCall.{decode_number, decode_leaves, decode_scratch}
use Rattle.recovery.specs.declared.fault.Fault.{Fault}
use Rattle.recovery.specs.Verdicts.{verdict_of}
use Rattle.recovery.specs.Origins.{origins_size}
use Rattle.recovery.specs.RecoveryCall.{recover_answer, recover_leaves, recover_scratch}
use Rattle.explanation.specs.Counts.{counts_size}
use Rattle.explanation.specs.ExplainCall.{explain_answer, explain_counts, explain_origins, explain_scratch}
use Rattle.two_readings.specs.declared.choosing.Place.{Place}
use Rattle.two_readings.specs.ShelfOfTwoCall.{place_given}
use Rattle.power_table.specs.PowersCall.{powers_number, powers_leaves}
use Rattle.vault.specs.Boundary.{read_start, read_count, shelf_of}
use Rattle.vault.specs.Event.{Opening, Event, write}
use Rattle.vault.specs.Model.{table_number, model_of}
use Rattle.vault.specs.History.{Vault, vault, number_on, step, image_left, after, opened_vault}
use Rattle.vault.specs.Round.{round_of, represent}
use Rattle.vault.specs.Worked.{Table, end, entry, zeros, zero_records, opening, named}

abbrev pub ones : ℕ → List ℕ
ones n = replicate n 1

-- what the calls answer, and then what they leave
abbrev pub decoding_of : Header → (image erasures : List ℕ) → (stripe out scratch : ℕ) → List ℕ
decoding_of h m e l o s =
    (decode_number h m e l (ones o) (ones s) ∷ []) ++ (decode_leaves h m e l (ones o) (ones s) ++ decode_scratch h m e l (ones o) (ones s))

abbrev pub recovery_of : Header → (image erasures : List ℕ) → (out scratch : ℕ) → List ℕ
recovery_of h m e o s =
    named (recover_answer h m e (ones o) (ones s)) ++ (recover_leaves h m e (ones o) (ones s) ++ recover_scratch h m e (ones o) (ones s))

-- the words of docs/FORMAT.md, section 13: k = 2, s = 1, three writes of 1, 2 and 3 to the records 0, 1 and 2, and so c = 3; and the 112 bytes of their image
abbrev pub three_writes : List Event
three_writes = write 0 (1 ∷ []) ∷ write 1 (2 ∷ []) ∷ write 2 (3 ∷ []) ∷ []

abbrev pub full_given : List ℕ
full_given = 6 ∷ 0 ∷ 255 ∷ 0 ∷ 65533 ∷ 0 ∷ 65280 ∷ 0 ∷ 7984 ∷ 0 ∷ 12576 ∷ 0 ∷ 57041 ∷ 0 ∷ 53473 ∷ 0 ∷ []

abbrev pub log_given : List ℕ
log_given = 2 ∷ 3 ∷ 8192 ∷ 12288 ∷ 1 ∷ 3 ∷ 65536 ∷ 65536 ∷ 65281 ∷ 65026 ∷ 256 ∷ 513 ∷ []

abbrev pub image_bytes : List ℕ
image_bytes =
    6 ∷ 0 ∷ 0 ∷ 0 ∷ 0 ∷ 0 ∷ 0 ∷ 0 ∷ 255 ∷ 0 ∷ 0 ∷ 0 ∷ 0 ∷ 0 ∷ 0 ∷ 0 ∷
    253 ∷ 255 ∷ 0 ∷ 0 ∷ 0 ∷ 0 ∷ 0 ∷ 0 ∷ 0 ∷ 255 ∷ 0 ∷ 0 ∷ 0 ∷ 0 ∷ 0 ∷ 0 ∷
    48 ∷ 31 ∷ 0 ∷ 0 ∷ 0 ∷ 0 ∷ 0 ∷ 0 ∷ 32 ∷ 49 ∷ 0 ∷ 0 ∷ 0 ∷ 0 ∷ 0 ∷ 0 ∷
    209 ∷ 222 ∷ 0 ∷ 0 ∷ 0 ∷ 0 ∷ 0 ∷ 0 ∷ 225 ∷ 208 ∷ 0 ∷ 0 ∷ 0 ∷ 0 ∷ 0 ∷ 0 ∷
    2 ∷ 0 ∷ 0 ∷ 0 ∷ 3 ∷ 0 ∷ 0 ∷ 0 ∷ 0 ∷ 32 ∷ 0 ∷ 0 ∷ 0 ∷ 48 ∷ 0 ∷ 0 ∷
    1 ∷ 0 ∷ 0 ∷ 0 ∷ 3 ∷ 0 ∷ 0 ∷ 0 ∷ 0 ∷ 0 ∷ 1 ∷ 0 ∷ 0 ∷ 0 ∷ 1 ∷ 0 ∷
    1 ∷ 255 ∷ 0 ∷ 0 ∷ 2 ∷ 254 ∷ 0 ∷ 0 ∷ 0 ∷ 1 ∷ 0 ∷ 0 ∷ 1 ∷ 2 ∷ 0 ∷ 0 ∷ []

-- the numbers of positions left, and lacking, of stripes 0, 1 and 2
abbrev pub counts_under : (erasures : List ℕ) → List ℕ
counts_under e = explain_counts (header_of 2 1 3) image_bytes e (ones 6) (ones 8) (ones 24)

-- IMAGES, LISTS AND GAPS. An image is the full stripe and then the log, each word low byte first. A gap of one byte erases a position, whichever of its
-- bytes it is
abbrev pub byte_examples : Table
byte_examples =
    entry (image_left (after opening three_writes)) image_bytes
    (entry ((represent (round_of zero_records three_writes)).full ++ (represent (round_of zero_records three_writes)).log) (full_given ++ log_given)
    (entry (image_leaves (header_of 2 1 3) full_given log_given (ones 112)) image_bytes
    (entry (recovery_of (header_of 2 1 3) image_bytes [] 4 24) (0 ∷ 0 ∷ 0 ∷ 1 ∷ 2 ∷ 3 ∷ 0 ∷ zeros 24)
    (entry (recovery_of (header_of 2 1 3) image_bytes (0 ∷ 0 ∷ 0 ∷ 0 ∷ 32 ∷ 0 ∷ 0 ∷ 0 ∷ 64 ∷ 0 ∷ 0 ∷ 0 ∷ 8 ∷ 0 ∷ 0 ∷ 0 ∷ []) 4 24)
    (0 ∷ 0 ∷ 0 ∷ 1 ∷ 2 ∷ 3 ∷ 0 ∷ zeros 24)
    (entry (counts_under (64 ∷ 0 ∷ 0 ∷ 0 ∷ 1 ∷ 0 ∷ 0 ∷ 0 ∷ [])) (1 ∷ 0 ∷ 4 ∷ 0 ∷ 8 ∷ 0 ∷ [])
    (entry (counts_under (67 ∷ 0 ∷ 0 ∷ 0 ∷ 1 ∷ 0 ∷ 0 ∷ 0 ∷ [])) (1 ∷ 0 ∷ 4 ∷ 0 ∷ 8 ∷ 0 ∷ [])
    (entry (counts_under (71 ∷ 0 ∷ 0 ∷ 0 ∷ 1 ∷ 0 ∷ 0 ∷ 0 ∷ [])) (1 ∷ 0 ∷ 4 ∷ 0 ∷ 8 ∷ 0 ∷ [])
    (entry (counts_under (63 ∷ 0 ∷ 0 ∷ 0 ∷ 1 ∷ 0 ∷ 0 ∷ 0 ∷ [])) (2 ∷ 0 ∷ 4 ∷ 0 ∷ 7 ∷ 0 ∷ [])
    (entry (counts_under (71 ∷ 0 ∷ 0 ∷ 0 ∷ 2 ∷ 0 ∷ 0 ∷ 0 ∷ [])) (0 ∷ 1 ∷ 4 ∷ 0 ∷ 8 ∷ 0 ∷ [])
    (entry (counts_under (80 ∷ 0 ∷ 0 ∷ 0 ∷ 1 ∷ 0 ∷ 0 ∷ 0 ∷ [])) (2 ∷ 0 ∷ 3 ∷ 0 ∷ 8 ∷ 0 ∷ [])
    (entry (counts_under (0 ∷ 0 ∷ 0 ∷ 0 ∷ 8 ∷ 0 ∷ 0 ∷ 0 ∷ 80 ∷ 0 ∷ 0 ∷ 0 ∷ 8 ∷ 0 ∷ 0 ∷ 0 ∷ [])) (2 ∷ 0 ∷ 3 ∷ 0 ∷ 7 ∷ 0 ∷ [])
    -- a pair of length 0; nine bytes; twelve; an offset of 8 and a length of 2^32 less 8, whose sum is 0 in 32 bits;
    -- an offset of 300, which is 44 and 1 times 256, in an image of 360 bytes, up to its end and beyond
    (entry (recovery_of (header_of 2 1 3) image_bytes (8 ∷ 0 ∷ 0 ∷ 0 ∷ 0 ∷ 0 ∷ 0 ∷ 0 ∷ []) 4 24) (3 ∷ 0 ∷ 0 ∷ ones 28)
    (entry (recovery_of (header_of 2 1 3) image_bytes (8 ∷ 0 ∷ 0 ∷ 0 ∷ 8 ∷ 0 ∷ 0 ∷ 0 ∷ 0 ∷ []) 4 24) (3 ∷ 0 ∷ 0 ∷ ones 28)
    (entry (recovery_of (header_of 2 1 3) image_bytes (8 ∷ 0 ∷ 0 ∷ 0 ∷ 8 ∷ 0 ∷ 0 ∷ 0 ∷ 32 ∷ 0 ∷ 0 ∷ 0 ∷ []) 4 24) (3 ∷ 0 ∷ 0 ∷ ones 28)
    (entry (recovery_of (header_of 2 1 3) image_bytes (8 ∷ 0 ∷ 0 ∷ 0 ∷ 248 ∷ 255 ∷ 255 ∷ 255 ∷ []) 4 24) (3 ∷ 0 ∷ 0 ∷ ones 28)
    (entry (recovery_of (header_of 3 2 0) (zeros 360) (44 ∷ 1 ∷ 0 ∷ 0 ∷ 60 ∷ 0 ∷ 0 ∷ 0 ∷ []) 16 56) (10 ∷ 1 ∷ 3 ∷ zeros 72)
    (entry (recovery_of (header_of 3 2 0) (zeros 360) (44 ∷ 1 ∷ 0 ∷ 0 ∷ 61 ∷ 0 ∷ 0 ∷ 0 ∷ []) 16 56) (3 ∷ 0 ∷ 0 ∷ ones 72)
    end)))))))))))))))))

-- STRIPES. Images of k = 1: full stripes of s = 1 with the numbers 1 and 0, and with 0 and 1, and of s = 2 with the data 5 and 65536, and 5 and 65535; and
-- bytes of level 0 of s = 2, with the data 5 and 65536, 65536 and 5, and 5 and 65535. Of k = 2: level 0 with the number 4, which is none, and a
-- data column that no word codes to. Of k = 4 and s = 3: levels 0 and 1
abbrev pub exchanged_bytes : List ℕ
exchanged_bytes =
    1 ∷ 0 ∷ 0 ∷ 0 ∷ 0 ∷ 0 ∷ 0 ∷ 0 ∷ 1 ∷ 0 ∷ 0 ∷ 0 ∷ 0 ∷ 0 ∷ 0 ∷ 0 ∷
    1 ∷ 0 ∷ 0 ∷ 0 ∷ 0 ∷ 0 ∷ 0 ∷ 0 ∷ 1 ∷ 0 ∷ 0 ∷ 0 ∷ 0 ∷ 0 ∷ 0 ∷ 0 ∷ zeros 16

abbrev pub ordered_bytes : List ℕ
ordered_bytes =
    1 ∷ 0 ∷ 0 ∷ 0 ∷ 0 ∷ 0 ∷ 0 ∷ 0 ∷ 0 ∷ 0 ∷ 1 ∷ 0 ∷ 0 ∷ 0 ∷ 0 ∷ 0 ∷
    1 ∷ 255 ∷ 0 ∷ 0 ∷ 0 ∷ 0 ∷ 0 ∷ 0 ∷ 0 ∷ 1 ∷ 0 ∷ 0 ∷ 0 ∷ 0 ∷ 0 ∷ 0 ∷ zeros 16

abbrev pub over_bytes : List ℕ
over_bytes =
    1 ∷ 0 ∷ 0 ∷ 0 ∷ 5 ∷ 0 ∷ 0 ∷ 0 ∷ 0 ∷ 0 ∷ 1 ∷ 0 ∷ 0 ∷ 0 ∷ 1 ∷ 0 ∷ 5 ∷ 0 ∷ 0 ∷ 0 ∷ 0 ∷ 0 ∷ 1 ∷ 0 ∷
    1 ∷ 255 ∷ 0 ∷ 0 ∷ 5 ∷ 0 ∷ 0 ∷ 0 ∷ 0 ∷ 0 ∷ 1 ∷ 0 ∷ 0 ∷ 1 ∷ 0 ∷ 0 ∷ 5 ∷ 0 ∷ 0 ∷ 0 ∷ 0 ∷ 0 ∷ 1 ∷ 0 ∷ zeros 24

abbrev pub limit_bytes : List ℕ
limit_bytes =
    1 ∷ 0 ∷ 0 ∷ 0 ∷ 5 ∷ 0 ∷ 0 ∷ 0 ∷ 255 ∷ 255 ∷ 0 ∷ 0 ∷ 0 ∷ 0 ∷ 1 ∷ 0 ∷ 5 ∷ 0 ∷ 0 ∷ 0 ∷ 255 ∷ 255 ∷ 0 ∷ 0 ∷
    1 ∷ 255 ∷ 0 ∷ 0 ∷ 5 ∷ 0 ∷ 0 ∷ 0 ∷ 255 ∷ 255 ∷ 0 ∷ 0 ∷ 0 ∷ 1 ∷ 0 ∷ 0 ∷ 5 ∷ 0 ∷ 0 ∷ 0 ∷ 255 ∷ 255 ∷ 0 ∷ 0 ∷ zeros 24

abbrev pub last_over : List ℕ
last_over =
    0 ∷ 0 ∷ 0 ∷ 0 ∷ 5 ∷ 0 ∷ 0 ∷ 0 ∷ 0 ∷ 0 ∷ 1 ∷ 0 ∷ 0 ∷ 0 ∷ 0 ∷ 0 ∷ 5 ∷ 0 ∷ 0 ∷ 0 ∷ 0 ∷ 0 ∷ 1 ∷ 0 ∷ []

abbrev pub first_over : List ℕ
first_over =
    0 ∷ 0 ∷ 0 ∷ 0 ∷ 0 ∷ 0 ∷ 1 ∷ 0 ∷ 5 ∷ 0 ∷ 0 ∷ 0 ∷ 0 ∷ 0 ∷ 0 ∷ 0 ∷ 0 ∷ 0 ∷ 1 ∷ 0 ∷ 5 ∷ 0 ∷ 0 ∷ 0 ∷ []

abbrev pub none_over : List ℕ
none_over =
    0 ∷ 0 ∷ 0 ∷ 0 ∷ 5 ∷ 0 ∷ 0 ∷ 0 ∷ 255 ∷ 255 ∷ 0 ∷ 0 ∷ 0 ∷ 0 ∷ 0 ∷ 0 ∷ 5 ∷ 0 ∷ 0 ∷ 0 ∷ 255 ∷ 255 ∷ 0 ∷ 0 ∷ []

abbrev pub both_wrong : List ℕ
both_wrong =
    4 ∷ 0 ∷ 0 ∷ 0 ∷ 3 ∷ 0 ∷ 0 ∷ 0 ∷ 0 ∷ 64 ∷ 0 ∷ 0 ∷ 1 ∷ 48 ∷ 0 ∷ 0 ∷ []

abbrev pub wide_bytes : List ℕ
wide_bytes =
    7 ∷ 0 ∷ 0 ∷ 0 ∷ 100 ∷ 0 ∷ 0 ∷ 0 ∷ 200 ∷ 0 ∷ 0 ∷ 0 ∷ 255 ∷ 255 ∷ 0 ∷ 0 ∷
    0 ∷ 112 ∷ 0 ∷ 0 ∷ 250 ∷ 63 ∷ 0 ∷ 0 ∷ 244 ∷ 127 ∷ 0 ∷ 0 ∷ 1 ∷ 224 ∷ 0 ∷ 0 ∷
    11 ∷ 0 ∷ 0 ∷ 0 ∷ 5 ∷ 0 ∷ 0 ∷ 0 ∷ 7 ∷ 0 ∷ 0 ∷ 0 ∷ 9 ∷ 0 ∷ 0 ∷ 0 ∷
    0 ∷ 0 ∷ 1 ∷ 0 ∷ 254 ∷ 255 ∷ 0 ∷ 0 ∷ 254 ∷ 255 ∷ 0 ∷ 0 ∷ 254 ∷ 255 ∷ 0 ∷ 0 ∷
    6 ∷ 250 ∷ 0 ∷ 0 ∷ 2 ∷ 252 ∷ 0 ∷ 0 ∷ 3 ∷ 251 ∷ 0 ∷ 0 ∷ 4 ∷ 250 ∷ 0 ∷ 0 ∷
    5 ∷ 6 ∷ 0 ∷ 0 ∷ 1 ∷ 4 ∷ 0 ∷ 0 ∷ 2 ∷ 5 ∷ 0 ∷ 0 ∷ 3 ∷ 6 ∷ 0 ∷ 0 ∷ []

-- no stripe; stripes that decode; numbers out of place; and 65536 in one of two data words
abbrev pub stripe_examples : Table
stripe_examples =
    entry (decoding_of (header_of 2 1 2) image_bytes [] 0 8 24) (6 ∷ ones 32)
    (entry (decoding_of (header_of 2 1 3) image_bytes [] 3 8 24) (6 ∷ ones 32)
    (entry (decoding_of (header_of 2 1 3) image_bytes [] 0 8 24) (0 ∷ 2 ∷ 3 ∷ zeros 30)
    (entry (decoding_of (header_of 2 1 3) image_bytes [] 1 8 24) (0 ∷ 0 ∷ 1 ∷ 1 ∷ 2 ∷ zeros 28)
    (entry (decoding_of (header_of 1 1 0) exchanged_bytes [] 1 4 12) (10 ∷ zeros 16)
    (entry (decoding_of (header_of 1 1 0) ordered_bytes [] 1 4 12) (0 ∷ 0 ∷ 0 ∷ 1 ∷ 0 ∷ zeros 12)
    (entry (decoding_of (header_of 1 2 0) over_bytes [] 1 6 14) (10 ∷ zeros 20)
    (entry (decoding_of (header_of 1 2 0) limit_bytes [] 1 6 14) (0 ∷ 0 ∷ 5 ∷ 65535 ∷ 1 ∷ zeros 16)
    (entry (decoding_of (header_of 1 2 1) (zeros 48 ++ last_over) [] 0 6 14) (10 ∷ zeros 20)
    (entry (decoding_of (header_of 1 2 1) (zeros 48 ++ first_over) [] 0 6 14) (10 ∷ zeros 20)
    (entry (decoding_of (header_of 1 2 1) (zeros 48 ++ none_over) [] 0 6 14) (0 ∷ 0 ∷ 5 ∷ 65535 ∷ zeros 17)
    (entry (decoding_of (header_of 2 1 3) (zeros 64 ++ (both_wrong ++ zeros 32)) [] 0 8 24) (9 ∷ zeros 32)
    (entry (decoding_of (header_of 4 3 3) (zeros 512 ++ (wide_bytes ++ zeros 384)) [] 0 64 128) (0 ∷ 7 ∷ 100 ∷ 200 ∷ 65535 ∷ zeros 188)
    (entry (decoding_of (header_of 4 3 3) (zeros 512 ++ (wide_bytes ++ zeros 384)) [] 1 64 128) (0 ∷ 5 ∷ 1 ∷ 2 ∷ 3 ∷ 6 ∷ 4 ∷ 5 ∷ 6 ∷ zeros 184)
    end)))))))))))))

-- WORDS THAT ARE NOT OF THE FIELD, on level 0 of k = 1 and s = 2: 2^24, and 65537; the same where its position is erased; and on a full stripe of which one
-- position is left, which is too few, whatever its words are
abbrev pub high_stray : List ℕ
high_stray =
    0 ∷ 0 ∷ 0 ∷ 0 ∷ 5 ∷ 0 ∷ 0 ∷ 0 ∷ 7 ∷ 0 ∷ 0 ∷ 0 ∷ 0 ∷ 0 ∷ 0 ∷ 1 ∷ 5 ∷ 0 ∷ 0 ∷ 0 ∷ 7 ∷ 0 ∷ 0 ∷ 0 ∷ []

abbrev pub low_stray : List ℕ
low_stray =
    0 ∷ 0 ∷ 0 ∷ 0 ∷ 5 ∷ 0 ∷ 0 ∷ 0 ∷ 7 ∷ 0 ∷ 0 ∷ 0 ∷ 0 ∷ 0 ∷ 0 ∷ 0 ∷ 1 ∷ 0 ∷ 1 ∷ 0 ∷ 7 ∷ 0 ∷ 0 ∷ 0 ∷ []

abbrev pub stray_examples : Table
stray_examples =
    entry (decoding_of (header_of 1 2 1) (zeros 48 ++ high_stray) [] 0 6 14) (8 ∷ zeros 20)
    (entry (decoding_of (header_of 1 2 1) (zeros 48 ++ low_stray) [] 0 6 14) (8 ∷ zeros 20)
    (entry (decoding_of (header_of 1 2 1) (zeros 48 ++ low_stray) (60 ∷ 0 ∷ 0 ∷ 0 ∷ 12 ∷ 0 ∷ 0 ∷ 0 ∷ []) 0 6 14) (0 ∷ 0 ∷ 5 ∷ 7 ∷ zeros 17)
    (entry (decoding_of (header_of 1 1 0) (1 ∷ 0 ∷ 1 ∷ 0 ∷ 0 ∷ 0 ∷ 0 ∷ 0 ∷ zeros 40) (8 ∷ 0 ∷ 0 ∷ 0 ∷ 24 ∷ 0 ∷ 0 ∷ 0 ∷ []) 1 4 12) (7 ∷ zeros 16)
    end)))

-- RECOVERIES AND EXPLANATIONS, refused and taken. The last word of level 0 is 12289 in place of 12288, so that it is inconsistent (9)
abbrev pub spoiled_bytes : List ℕ
spoiled_bytes = take 76 image_bytes ++ (1 ∷ drop 77 image_bytes)

abbrev pub explaining_of : Header → (image erasures : List ℕ) → (counts origins scratch : ℕ) → List ℕ
explaining_of h m e n o s =
    named (explain_answer h m e (ones n) (ones o) (ones s))
    ++ (explain_counts h m e (ones n) (ones o) (ones s)
    ++ (explain_origins h m e (ones n) (ones o) (ones s) ++ explain_scratch h m e (ones n) (ones o) (ones s)))

abbrev pub fault_examples : Table
fault_examples =
    entry (recovery_of (header_of 2 1 3) spoiled_bytes [] 4 24) (9 ∷ 1 ∷ 0 ∷ zeros 28)
    (entry (explaining_of (header_of 2 1 3) spoiled_bytes [] 6 8 24) (9 ∷ 1 ∷ 0 ∷ 2 ∷ 0 ∷ 4 ∷ 0 ∷ 8 ∷ 0 ∷ zeros 32)
    (entry (explaining_of (header_of 2 1 3) image_bytes (8 ∷ []) 6 8 24) (3 ∷ 0 ∷ 0 ∷ ones 38)
    (entry (explaining_of (header_of 2 1 3) image_bytes [] 6 8 24) (0 ∷ 0 ∷ 0 ∷ 2 ∷ 0 ∷ 4 ∷ 0 ∷ 8 ∷ 0 ∷ 1 ∷ 0 ∷ 1 ∷ 1 ∷ 0 ∷ 2 ∷ 2 ∷ 0 ∷ zeros 24)
    -- two stripes lack positions: level 0 and level 1; level 0 and the full stripe
    (entry (recovery_of (header_of 2 1 3) image_bytes (64 ∷ 0 ∷ 0 ∷ 0 ∷ 40 ∷ 0 ∷ 0 ∷ 0 ∷ []) 4 24) (7 ∷ 1 ∷ 1 ∷ zeros 28)
    (entry (recovery_of (header_of 2 1 3) image_bytes (0 ∷ 0 ∷ 0 ∷ 0 ∷ 40 ∷ 0 ∷ 0 ∷ 0 ∷ 64 ∷ 0 ∷ 0 ∷ 0 ∷ 16 ∷ 0 ∷ 0 ∷ 0 ∷ []) 4 24) (7 ∷ 1 ∷ 2 ∷ zeros 28)
    -- c = 2: level 0 is empty, whatever stands there
    (entry (recovery_of (header_of 2 1 2) image_bytes [] 4 24) (0 ∷ 0 ∷ 0 ∷ 1 ∷ 2 ∷ 0 ∷ 0 ∷ zeros 24)
    (entry (explaining_of (header_of 2 1 2) image_bytes [] 6 8 24) (0 ∷ 0 ∷ 0 ∷ 0 ∷ 0 ∷ 4 ∷ 0 ∷ 8 ∷ 0 ∷ 1 ∷ 0 ∷ 1 ∷ 1 ∷ 2 ∷ 0 ∷ 2 ∷ 0 ∷ zeros 24)
    end)))))))

-- HISTORIES. An opening that is lent ones; a round of four writes, which ends in a full stripe and an empty log. Single writes of 9 to record 1 on buffers that
-- no opening made, whose words count modulo 65537: at c = 1 level 1 is rebuilt, also of a level 0 with zeros in its Y, and at k = 3 and c = 3 level 2 from two
-- levels; at c = 0 level 0, and level 1 stays. Then a record that is read, and one that is none
abbrev pub ones_lent : Opening
ones_lent = record { k = 2; s = 1; raw = zeros 4; full = ones 16; log = ones 12 }

abbrev pub round : Vault
round = after opening (write 0 (1 ∷ []) ∷ write 1 (2 ∷ []) ∷ write 2 (3 ∷ []) ∷ write 3 (4 ∷ []) ∷ [])

abbrev pub round_bytes : List ℕ
round_bytes =
    6 ∷ 0 ∷ 0 ∷ 0 ∷ 10 ∷ 0 ∷ 0 ∷ 0 ∷ 255 ∷ 0 ∷ 0 ∷ 0 ∷ 255 ∷ 0 ∷ 0 ∷ 0 ∷
    253 ∷ 255 ∷ 0 ∷ 0 ∷ 253 ∷ 255 ∷ 0 ∷ 0 ∷ 0 ∷ 255 ∷ 0 ∷ 0 ∷ 0 ∷ 255 ∷ 0 ∷ 0 ∷
    48 ∷ 31 ∷ 0 ∷ 0 ∷ 65 ∷ 46 ∷ 0 ∷ 0 ∷ 32 ∷ 49 ∷ 0 ∷ 0 ∷ 49 ∷ 66 ∷ 0 ∷ 0 ∷
    209 ∷ 222 ∷ 0 ∷ 0 ∷ 194 ∷ 205 ∷ 0 ∷ 0 ∷ 225 ∷ 208 ∷ 0 ∷ 0 ∷ 210 ∷ 193 ∷ 0 ∷ 0 ∷ zeros 48

abbrev pub foreign : (c : ℕ) → Vault
foreign c =
    step (vault (header_of 2 1 c) (buffers (ones 4) (ones 16) (70000 ∷ 65542 ∷ 3 ∷ 65536 ∷ replicate 8 70000))) (write 1 (9 ∷ []))

-- writes to record 4, which there is not, of 65536 and of two words; to record 3 of 65536, blank, and one that is taken: judged by the call, and by the model
abbrev pub five_writes : List Event
five_writes = write 4 (65536 ∷ []) ∷ write 4 (0 ∷ 0 ∷ []) ∷ write 3 (65536 ∷ []) ∷ write 3 (0 ∷ []) ∷ write 3 (1 ∷ []) ∷ []

abbrev pub foreign_log : List ℕ
foreign_log = 70000 ∷ 1 ∷ 2 ∷ 65537 ∷ 10 ∷ 20 ∷ 30 ∷ 40 ∷ 65540 ∷ 60 ∷ 70 ∷ 80 ∷ 7 ∷ 7 ∷ 7 ∷ 7 ∷ 7 ∷ 7 ∷ 7 ∷ 7 ∷ 7 ∷ 7 ∷ 7 ∷ 7 ∷ 7 ∷ 7 ∷ 7 ∷ 7 ∷ []

abbrev pub history_examples : Table
history_examples =
    entry (image_left (opened_vault ones_lent)) (take 64 image_bytes ++ zeros 48)
    (entry (image_left round) round_bytes
    (entry (round.header.c ∷ recovery_of round.header round_bytes [] 4 24) (0 ∷ 0 ∷ 0 ∷ 0 ∷ 1 ∷ 2 ∷ 3 ∷ 4 ∷ zeros 24)
    (entry ((foreign 1).header.c ∷ (foreign 1).held.log) (2 ∷ 0 ∷ 0 ∷ 0 ∷ 0 ∷ 4464 ∷ 14 ∷ 4462 ∷ 65533 ∷ 65284 ∷ 63232 ∷ 259 ∷ 2303 ∷ [])
    (entry ((foreign 1).held.raw ++ (foreign 1).held.full) (1 ∷ 9 ∷ ones 18)
    (entry (step (vault (header_of 2 1 1) (buffers (ones 4) (ones 16) (5 ∷ 6 ∷ zeros 10))) (write 1 (9 ∷ []))).held.log
    (0 ∷ 0 ∷ 0 ∷ 0 ∷ 6 ∷ 15 ∷ 4 ∷ 65534 ∷ 65281 ∷ 63233 ∷ 256 ∷ 2304 ∷ [])
    (entry (step (vault (header_of 3 1 3) (buffers (ones 8) (ones 32) foreign_log)) (write 1 (9 ∷ []))).held.log
    (zeros 12 ++ (4474 ∷ 30 ∷ 37424 ∷ 2088 ∷ 61083 ∷ 10 ∷ 28173 ∷ 63529 ∷ 21 ∷ 204 ∷ 3654 ∷ 36944 ∷ 65522 ∷ 65453 ∷ 62023 ∷ 28753 ∷ []))
    (entry ((foreign 0).header.c ∷ (foreign 0).held.log) (1 ∷ 1 ∷ 9 ∷ 1 ∷ 9 ∷ replicate 8 70000)
    (entry (map (number_on opening) five_writes) (4 ∷ 2 ∷ 5 ∷ 11 ∷ 0 ∷ [])
    (entry (map (table_number (model_of zero_records [])) five_writes) (4 ∷ 2 ∷ 5 ∷ 11 ∷ 0 ∷ [])
    (entry (read_gives (header_of 2 2 0) (10 ∷ 11 ∷ 20 ∷ 21 ∷ 30 ∷ 31 ∷ 40 ∷ 41 ∷ []) 2) (30 ∷ 31 ∷ [])
    (entry (read_gives (header_of 2 2 0) (10 ∷ 11 ∷ 20 ∷ 21 ∷ 30 ∷ 31 ∷ 40 ∷ 41 ∷ []) 4) []
    end)))))))))))

-- HALVES. The full stripe of k = 3, s = 1, whose records are 10 to 17, with ones in its X, which is erased: Y alone gives the blocks. Level 0 of k = 2
-- with t0 = 2 and the block 2, 3. A column of level 3 in a vault of k = 5, whose first write is 16, also from its Y; and one of level 4
abbrev pub y_bytes : List ℕ
y_bytes =
    26 ∷ 252 ∷ 0 ∷ 0 ∷ 29 ∷ 61 ∷ 0 ∷ 0 ∷ 146 ∷ 91 ∷ 0 ∷ 0 ∷ 150 ∷ 91 ∷ 0 ∷ 0 ∷
    118 ∷ 197 ∷ 0 ∷ 0 ∷ 59 ∷ 112 ∷ 0 ∷ 0 ∷ 142 ∷ 98 ∷ 0 ∷ 0 ∷ 83 ∷ 118 ∷ 0 ∷ 0 ∷
    71 ∷ 66 ∷ 0 ∷ 0 ∷ 150 ∷ 46 ∷ 0 ∷ 0 ∷ 174 ∷ 6 ∷ 0 ∷ 0 ∷ 253 ∷ 91 ∷ 0 ∷ 0 ∷
    44 ∷ 248 ∷ 0 ∷ 0 ∷ 60 ∷ 248 ∷ 0 ∷ 0 ∷ 51 ∷ 63 ∷ 0 ∷ 0 ∷ 68 ∷ 254 ∷ 0 ∷ 0 ∷ []

abbrev pub half_examples : Table
half_examples =
    entry (decoding_of (header_of 3 1 0) (ones 64 ++ (y_bytes ++ zeros 112)) (0 ∷ 0 ∷ 0 ∷ 0 ∷ 64 ∷ 0 ∷ 0 ∷ 0 ∷ []) 3 16 48)
    (0 ∷ 0 ∷ 10 ∷ 1 ∷ 11 ∷ 2 ∷ 12 ∷ 3 ∷ 13 ∷ 4 ∷ 14 ∷ 5 ∷ 15 ∷ 6 ∷ 16 ∷ 7 ∷ 17 ∷ zeros 48)
    (entry (coded_rows 65537 4096 2 0 2 2 (2 ∷ 3 ∷ [])) (2 ∷ 3 ∷ 8192 ∷ 12288 ∷ [])
    (entry (coded 65537 8224 5 3 16 (1 ∷ 2 ∷ 3 ∷ 4 ∷ 5 ∷ 6 ∷ 7 ∷ 8 ∷ []))
    (36 ∷ 61680 ∷ 1020 ∷ 61168 ∷ 65521 ∷ 4367 ∷ 64509 ∷ 3855 ∷ 45786 ∷ 59088 ∷ 22094 ∷ 21606 ∷ 4555 ∷ 54485 ∷ 26255 ∷ 28534 ∷ [])
    (entry (coded 65537 65529 4 4 0 (1 ∷ 2 ∷ 3 ∷ 4 ∷ 5 ∷ 6 ∷ 7 ∷ 8 ∷ 9 ∷ 10 ∷ 11 ∷ 12 ∷ 13 ∷ 14 ∷ 15 ∷ 16 ∷ []))
    (136 ∷ 11443 ∷ 50109 ∷ 13107 ∷ 4080 ∷ 21843 ∷ 48061 ∷ 19155 ∷ 65473 ∷ 46380 ∷ 17468 ∷ 43692 ∷ 61425 ∷ 52428 ∷ 15420 ∷ 54092 ∷
    33002 ∷ 38781 ∷ 53994 ∷ 15459 ∷ 38398 ∷ 20147 ∷ 43075 ∷ 42522 ∷ 7651 ∷ 47426 ∷ 3420 ∷ 62228 ∷ 33850 ∷ 26963 ∷ 44670 ∷ 12726 ∷ [])
    (entry (decoded_column 65537 8224 5 3 16 (replicate 8 true ++ replicate 8 false)
    (zeros 8 ++ (45786 ∷ 59088 ∷ 22094 ∷ 21606 ∷ 4555 ∷ 54485 ∷ 26255 ∷ 28534 ∷ [])))
    (1 ∷ 2 ∷ 3 ∷ 4 ∷ 5 ∷ 6 ∷ 7 ∷ 8 ∷ [])
    end))))

-- NUMBERS OF A HEADER: the roots of k = 1, 2, 3 and 10; the sizes at k = 3 and s = 2; what is out of range by one, with no buffer of its length, and at k = 2
-- and s = 1 a count or a record number that is; the level that a write rebuilds at k = 3, for c from 0 to 5; and the first two powers of the table
abbrev pub opening_of : (k s : ℕ) → ℕ
opening_of k s = (open_answer k s [] [] []).number

abbrev pub reading_of : (c : ℕ) → (raw : List ℕ) → (number : ℕ) → ℕ
reading_of c raw i = read_number (header_of 2 1 c) raw i

abbrev pub number_examples : Table
number_examples =
    entry (root_of fermat 1 ∷ root_of fermat 2 ∷ root_of fermat 3 ∷ root_of fermat 10 ∷ []) (65281 ∷ 4096 ∷ 64 ∷ 61869 ∷ [])
    (entry (let h = header_of 3 2 0 in raw_size h ∷ full_size h ∷ log_size h ∷ out_size h ∷ scratch_size h ∷ image_size h ∷ counts_size h ∷ origins_size h ∷ [])
    (16 ∷ 48 ∷ 42 ∷ 24 ∷ 56 ∷ 360 ∷ 8 ∷ 16 ∷ [])
    (entry (opening_of 0 1 ∷ opening_of 11 1 ∷ opening_of 1 0 ∷ opening_of 1 129 ∷ []) (1 ∷ 1 ∷ 1 ∷ 1 ∷ [])
    (entry (opening_of 1 1 ∷ opening_of 10 128 ∷ []) (2 ∷ 2 ∷ [])
    (entry (reading_of 4 [] 0 ∷ reading_of 3 [] 0 ∷ reading_of 3 (ones 4) 4 ∷ reading_of 3 (ones 4) 3 ∷ []) (1 ∷ 2 ∷ 4 ∷ 0 ∷ [])
    (entry (map (λ (c : ℕ). level_for (header_of 3 1 c)) (0 ∷ 1 ∷ 2 ∷ 3 ∷ 4 ∷ 5 ∷ [])) (0 ∷ 1 ∷ 0 ∷ 2 ∷ 0 ∷ 1 ∷ [])
    (entry (get_or power_table 0 0 ∷ get_or power_table 1 0 ∷ []) (1 ∷ 61869 ∷ [])
    (entry (powers_number (ones 2047) ∷ powers_number (ones 2049) ∷ powers_leaves (ones 3)) (2 ∷ 2 ∷ ones 3)
    (entry (image_number (header_of 2 1 3) full_given log_given (ones 111) ∷ image_leaves (header_of 2 1 3) full_given log_given (ones 3)) (2 ∷ ones 3)
    end))))))))

-- ANSWERS: the numbers of all refusals; and what an answer says, taken and refused, where it has a header, a part, or names a stripe or none
abbrev pub header_words : Header → List ℕ
header_words h = h.k ∷ h.s ∷ h.c ∷ []

abbrev pub fault : Refusal → Option ℕ → Fault
fault e l = record { refusal = e; stripe = l }

abbrev pub lent : List ℕ → Bor (List ℕ)
lent words = record { ref_ptr = (0, 0); now = words }

abbrev pub place_words : Place → List ℕ
place_words p = p.reading ∷ p.start ∷ p.count ∷ []

abbrev pub answer_examples : Table
answer_examples =
    entry
    (map number_of
    (HeaderRange ∷ Length ∷ ErasureList ∷ RecordNumber ∷ DataWord ∷ NoStripe ∷ TooFew ∷ OutOfField ∷ Inconsistent ∷ NotRecords ∷ Blank ∷ RoundStart ∷
    ReadingsDiffer ∷ Struck ∷ []))
    (1 ∷ 2 ∷ 3 ∷ 4 ∷ 5 ∷ 6 ∷ 7 ∷ 8 ∷ 9 ∷ 10 ∷ 11 ∷ 12 ∷ 13 ∷ 14 ∷ [])
    (entry (answer_number {A = ℕ} (Ok 5) ∷ answer_number {A = ℕ} (Err NoStripe) ∷ []) (0 ∷ 6 ∷ [])
    (entry ((opened_as (Ok (header_of 2 1 0))).number ∷ header_words (opened_as (Ok (header_of 2 1 0))).header) (0 ∷ 2 ∷ 1 ∷ 0 ∷ [])
    (entry ((opened_as (Err DataWord)).number ∷ header_words (opened_as (Err DataWord)).header) (5 ∷ 0 ∷ 0 ∷ 0 ∷ [])
    (entry (let a = written_as (header_of 2 1 3) (Ok (header_of 2 1 0)) in a.number ∷ header_words a.header) (0 ∷ 2 ∷ 1 ∷ 0 ∷ [])
    (entry (let a = written_as (header_of 2 1 3) (Err Blank) in a.number ∷ header_words a.header) (11 ∷ 2 ∷ 1 ∷ 3 ∷ [])
    (entry (read_part (Ok (lent (30 ∷ 31 ∷ [])))) (30 ∷ 31 ∷ [])
    (entry (read_part (Err RecordNumber)) []
    (entry (place_words (place_given (Ok (record { reading = 1; start = 80; count = 32 })))) (1 ∷ 80 ∷ 32 ∷ [])
    (entry (place_words (place_given (Err NoStripe))) (0 ∷ 0 ∷ 0 ∷ [])
    (entry (read_start (header_of 2 2 0) (ones 8) 3 ∷ read_count (header_of 2 2 0) (ones 8) 3 ∷ []) (6 ∷ 2 ∷ [])
    (entry (read_start (header_of 2 2 0) (ones 8) 4 ∷ read_count (header_of 2 2 0) (ones 8) 4 ∷ []) (0 ∷ 0 ∷ [])
    (entry (shelf_of (verdict_of {A = ℕ} (Ok 5)) ∷ shelf_of (verdict_of {A = ℕ} (Err (fault Inconsistent (Some 1)))) ∷ []) (4294967295 ∷ 1 ∷ [])
    (entry (named (verdict_of {A = ℕ} (Ok 5))) (0 ∷ 0 ∷ 0 ∷ [])
    (entry (named (verdict_of {A = ℕ} (Err (fault Length None)))) (2 ∷ 0 ∷ 0 ∷ [])
    (entry (named (verdict_of {A = ℕ} (Err (fault Inconsistent (Some 1))))) (9 ∷ 1 ∷ 1 ∷ [])
    end)))))))))))))))
