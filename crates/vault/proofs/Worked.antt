-- Every entry of the tables of worked examples holds, by computing. Assumes nothing.
use mathlib.Core.Path.{refl as is}
use Rattle.field.specs.Residue.{plus, minus, times}
use Rattle.field.specs.Power.{power_from, power, inverse}
use Rattle.field.specs.Polynomial.{lift, slopes, interpolate}
use Rattle.field.specs.Field.{root_of, powers_of}
use Rattle.field.specs.Words as Words
use Rattle.field.specs.Words.{every}
use Rattle.code.specs.Transform.{sum_at, difference_at, mixed, transform, scaled, reversed, turned, bit_reversed}
use Rattle.code.specs.Rows.{column, columns_from, row_of, rows_from, lifted}
use Rattle.code.specs.Stripe.{coded, coded_rows}
use Rattle.decoder.specs.Decoding.{survivors_from, point_at, value_at, decoded_column, agrees, consistent_column, consistent_to, decoded_rows}
use Rattle.layout.specs.Records.{records_fit}
use Rattle.store.specs.Buffers.{reduced, blocks_from}
use Rattle.layout.specs.Header.{first_empty}
use Rattle.store.specs.Writing.{rebuilt_half}
use Rattle.image.specs.Image.{little, bytes_of, number_of}
use Rattle.image.specs.Erasures.{erasures_from, erasures_rise, touched, flags_from, mark_at}
use Rattle.image.specs.Loading.{surviving_at}
use Rattle.judging.specs.Decoding.{are_records}
use Rattle.range_laying.specs.Laid.{laid, pairs_to, origins_laid}
use Rattle.recovery.specs.Recovery.{levels_over}
use Rattle.explanation.specs.Counts.{left, shortfall}
use Rattle.layout.specs.Refusals.{refusal}
use Rattle.splitting.specs.Splitting.{first_filled, levels_before}
use Rattle.taking_back.specs.TakingBack.{last_of, find_from}
use Rattle.two_readings.specs.Agreeing.{all_below, same_word, position_agrees, agrees_if_needed}
use Rattle.vault.specs.History.{after}
use Rattle.vault.specs.Model.{words_fit, words_zero, fed_all}
use Rattle.vault.specs.Worked.{Holds, examples, blank_examples}
use Rattle.vault.specs.Standing.{standing_from}
use Rattle.vault.specs.Round.{put_all, before_each, round_after, log_words, rows_of}
use Rattle.vault.specs.WorkedBytes.{byte_examples, stripe_examples, stray_examples, fault_examples, history_examples}
use Rattle.vault.specs.WorkedBytes.{half_examples, number_examples, answer_examples}
use Rattle.vault.specs.WorkedBack.{back_examples, back_faults, back_histories}
use Rattle.vault.specs.WorkedTwo.{two_examples, two_faults, shelf_examples}
use Rattle.vault.specs.WorkedStrikes.{strike_examples, read_examples, struck_examples, strike_histories, struck_blocks, eight_examples}

all_worked :
    Holds examples × Holds blank_examples × Holds byte_examples × Holds stripe_examples × Holds stray_examples ×
    Holds fault_examples × Holds history_examples × Holds half_examples × Holds number_examples × Holds answer_examples ×
    Holds back_examples × Holds back_faults × Holds back_histories × Holds two_examples × Holds two_faults × Holds shelf_examples ×
    Holds strike_examples × Holds read_examples × Holds struck_examples × Holds strike_histories × Holds struck_blocks ×
    Holds eight_examples
unfolding plus minus times power_from power inverse lift slopes interpolate root_of Words.table sum_at difference_at mixed transform scaled reversed turned
    column columns_from row_of rows_from lifted coded coded_rows survivors_from point_at value_at bit_reversed decoded_column agrees consistent_column
    consistent_to decoded_rows every records_fit reduced blocks_from first_empty rebuilt_half little bytes_of number_of erasures_from erasures_rise touched
    flags_from mark_at surviving_at are_records laid levels_over powers_of
    refusal after words_fit words_zero fed_all pairs_to left shortfall origins_laid put_all before_each round_after log_words rows_of
    first_filled levels_before last_of find_from all_below same_word position_agrees agrees_if_needed standing_from
all_worked = (
  (is, (is, (is, (is, (is, (is, (is, (is, (is, (is, (is, (is, (is, (is, (is, (is, (is, (is, (is, (is, tt)))))))))))))))))))),
  (is, (is, (is, (is, (is, tt))))),
  (is, (is, (is, (is, (is, (is, (is, (is, (is, (is, (is, (is, (is, (is, (is, (is, (is, (is, tt)))))))))))))))))),
  (is, (is, (is, (is, (is, (is, (is, (is, (is, (is, (is, (is, (is, (is, tt)))))))))))))),
  (is, (is, (is, (is, tt)))),
  (is, (is, (is, (is, (is, (is, (is, (is, tt)))))))),
  (is, (is, (is, (is, (is, (is, (is, (is, (is, (is, (is, (is, tt)))))))))))),
  (is, (is, (is, (is, (is, tt))))),
  (is, (is, (is, (is, (is, (is, (is, (is, (is, tt))))))))),
  (is, (is, (is, (is, (is, (is, (is, (is, (is, (is, (is, (is, (is, (is, (is, (is, tt)))))))))))))))),
  (is, (is, (is, (is, (is, (is, (is, (is, (is, (is, (is, (is, (is, tt))))))))))))),
  (is, (is, (is, (is, (is, (is, (is, (is, (is, (is, (is, (is, (is, (is, (is, (is, (is, (is, (is, (is, (is, tt))))))))))))))))))))),
  (is, (is, (is, (is, (is, (is, (is, (is, (is, (is, (is, tt))))))))))),
  (is, (is, (is, (is, (is, (is, (is, (is, (is, (is, (is, (is, (is, (is, (is, (is, (is, (is, (is, (is, (is, (is, (is, tt))))))))))))))))))))))),
  (is, (is, (is, (is, (is, (is, (is, (is, (is, tt))))))))),
  (is, (is, (is, (is, (is, (is, (is, (is, (is, (is, (is, (is, (is, (is, (is, (is, (is, tt))))))))))))))))),
  (is, (is, (is, (is, (is, (is, (is, (is, (is, (is, (is, (is, (is, (is, (is, (is, (is, (is, (is, (is, (is, (is, (is, (is, (is, tt))))))))))))))))))))))))),
  (is, (is, (is, (is, (is, (is, (is, (is, (is, (is, (is, (is, (is, (is, (is, (is, (is, (is, (is, (is, (is, (is, (is, (is, (is, tt))))))))))))))))))))))))),
  (is, (is, (is, (is, (is, (is, (is, (is, (is, (is, (is, (is, (is, (is, (is, (is, (is, (is, (is, (is, (is, (is, (is, tt))))))))))))))))))))))),
  (is, (is, (is, (is, (is, (is, (is, (is, (is, (is, (is, (is, (is, (is, (is, (is, (is, (is, (is, (is, (is, (is, (is, (is, (is, tt))))))))))))))))))))))))),
  (is, (is, (is, (is, (is, (is, (is, (is, (is, (is, (is, (is, (is, (is, tt)))))))))))))),
  (is, (is, (is, (is, (is, (is, (is, (is, (is, tt))))))))),
)

pub worked : Holds examples
worked = all_worked.0

pub worked_blanks : Holds blank_examples
worked_blanks = all_worked.1

pub worked_bytes : Holds byte_examples
worked_bytes = all_worked.2

pub worked_stripes : Holds stripe_examples
worked_stripes = all_worked.3

pub worked_strays : Holds stray_examples
worked_strays = all_worked.4

pub worked_faults : Holds fault_examples
worked_faults = all_worked.5

pub worked_histories : Holds history_examples
worked_histories = all_worked.6

pub worked_halves : Holds half_examples
worked_halves = all_worked.7

pub worked_numbers : Holds number_examples
worked_numbers = all_worked.8

pub worked_answers : Holds answer_examples
worked_answers = all_worked.9

pub worked_back : Holds back_examples
worked_back = all_worked.10

pub worked_back_faults : Holds back_faults
worked_back_faults = all_worked.11

pub worked_back_histories : Holds back_histories
worked_back_histories = all_worked.12

pub worked_two : Holds two_examples
worked_two = all_worked.13

pub worked_two_faults : Holds two_faults
worked_two_faults = all_worked.14

pub worked_shelves : Holds shelf_examples
worked_shelves = all_worked.15

pub worked_strikes : Holds strike_examples
worked_strikes = all_worked.16

pub worked_reads : Holds read_examples
worked_reads = all_worked.17

pub worked_struck : Holds struck_examples
worked_struck = all_worked.18

pub worked_strike_histories : Holds strike_histories
worked_strike_histories = all_worked.19

pub worked_struck_blocks : Holds struck_blocks
worked_struck_blocks = all_worked.20

pub worked_eight : Holds eight_examples
worked_eight = all_worked.21
