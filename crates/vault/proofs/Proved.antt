-- ALL PROMISES of specs/promises/All, each proved, in one term. Assumes nothing.
use Rattle.vault.specs.promises.All.{Promises}
use Rattle.vault.proofs.Histories.{header_is, sizes_begin, sizes_kept, sizes_stay, records_long_lem, numbers_are, words_are, raw_is, model_is, before_is}
use Rattle.vault.proofs.ModelSteps.{model_begins, model_kept, model_puts}
use Rattle.vault.proofs.StripeDecoding.{words_stand, decodes_iff, nine_iff, ten_iff, one_list}
use Rattle.vault.proofs.StripeCall.{gives_seven, gives_eight, gives_nine, gives_ten, gives_zero, leaves_blocks, leaves_zeros}
use Rattle.vault.proofs.Demand3.{image_long, recovers_all, no_other, levels_decode, full_decodes_lem}
use Rattle.vault.proofs.Erasures.{word_is, well_formed_iff, marked_iff, survives_iff, survivors_rise, same_words_iff, same_outside}
use Rattle.vault.proofs.Table.{refusal_is, fits_iff, needed_iff}
use Rattle.vault.proofs.Numbers.{open_numbers, write_numbers, earlier_numbers, strike_numbers, table_numbers, earlier_table, strike_table, same_table}
use Rattle.vault.proofs.Numbers.{read_numbers, image_numbers, powers_numbers}
use Rattle.vault.proofs.ImageNumbers.{recover_numbers, explain_numbers, explain_asked_iff}
use Rattle.vault.proofs.DecodeNumbers.{stripe_numbers, fails_iff, decode_numbers, asked_iff}
use Rattle.vault.proofs.Leaving.{open_refused, open_taken, read_refused, read_taken, reads_model, image_refused, image_taken, images_history}
use Rattle.vault.proofs.Leaving.{powers_refused, powers_taken}
use Rattle.vault.proofs.LeavingStripes.{decode_refused, decode_failed, decode_taken}
use Rattle.vault.proofs.LeavingLayers.{recover_refused, recover_failed, recover_taken, explain_refused, explain_failed, explain_taken}
use Rattle.vault.proofs.CodeGrowth.{code_begins, code_mixes}
use Rattle.vault.proofs.Coding.{codes_iff, blocks_are, full_codes}
use Rattle.vault.proofs.AnswerLaws.{number_read, opening_read, write_read, part_read, verdict_read, place_read, header_has, buffers_have}
use Rattle.vault.proofs.AnswerLaws.{open_answers, write_answers, strike_answers, back_answers}
use Rattle.vault.proofs.Writing.{write_puts, write_counts, write_keeps, write_reduces, write_ends}
use Rattle.vault.proofs.RebuiltLevels.{write_rebuilds}
use Rattle.vault.proofs.LastBlocks.{recover_holds, explain_holds}
use Rattle.vault.proofs.Recovering.{answers_say, stops_iff, taken_iff, explain_stops_iff, explain_taken_iff}
use Rattle.vault.proofs.SomeLast.{each_has_last}
use Rattle.vault.proofs.Explaining.{agrees, counts_are, counts_sharp, explain_leaves}
use Rattle.vault.proofs.ExplainedRounds.{explains_why}
use Rattle.vault.proofs.LastWrites.{last_is_record, else_at_start}
use Rattle.vault.proofs.Origins.{origins_true, one_origin}
use Rattle.vault.proofs.Blanks.{gives_eleven, else_as_earlier, five_not_blank, refused_stays, opens_iff, zeros_open, blank_refused, blank_kept}
use Rattle.vault.proofs.Strikes.{strike_taken, still_five, standing_begins, standing_grows, as_last_written, last_or_none, reads_struck, strike_explained}
use Rattle.vault.proofs.Boundary.{part_is, part_at, shelf_is, none_named, none_explained, none_named_of_two}
use Rattle.vault.proofs.TwoAgreeing.{differ_iff}
use Rattle.vault.proofs.TwoExchanged.{choice_is, exchanged_shelf, exchanged_stripe, exchanged, twice_is_once}
use Rattle.vault.proofs.TwoHistories.{two_recover, two_no_other, never_differ, shelf_after}
use Rattle.vault.proofs.TwoLeaving.{two_refused, two_failed, two_taken}
use Rattle.vault.proofs.TwoNumbers.{recover_two_numbers, two_asked_iff, shelf_of_two_numbers}
use Rattle.vault.proofs.TwoRecovering.{two_stops_iff, two_taken_iff, seven_of_two, two_has_last, two_holds}
use Rattle.vault.proofs.TwoShelves.{shelf_bytes, shelf_decodes, shelf_refused, place_is, place_at}
use Rattle.vault.proofs.Openings.{header_as_opened, records_as_opened, before_as_opened, last_as_opened, start_as_opened, refused_as_opened, kept_as_opened}
use Rattle.vault.proofs.Openings.{struck_as_opened}
use Rattle.vault.proofs.Worked.{worked, worked_blanks, worked_bytes, worked_stripes, worked_strays, worked_faults, worked_histories}
use Rattle.vault.proofs.Worked.{worked_halves, worked_numbers, worked_answers, worked_back, worked_back_faults, worked_back_histories}
use Rattle.vault.proofs.Worked.{worked_two, worked_two_faults, worked_shelves}
use Rattle.vault.proofs.Worked.{worked_strikes, worked_reads, worked_struck, worked_strike_histories, worked_struck_blocks, worked_eight}
use Rattle.vault.proofs.TakingBackHistories.{back_after, model_takes, back_undoes, back_again, back_to_start}
use Rattle.vault.proofs.BackLeaves.{back_scratch, back_puts, back_log}
use Rattle.vault.proofs.BackNumbers.{back_numbers}
use Rattle.vault.proofs.BackOrder.{back_stops_iff, back_goes_iff}
use Rattle.vault.proofs.BackReading.{back_reads}
use Rattle.vault.proofs.HeldStripes.{held_is, held_fails_iff, held_numbers, held_blocks_iff}
use Rattle.vault.proofs.Numbers.{back_table, same_counted}

pub proved : Promises
proved = record {
  demands = record {
    numbers_are = numbers_are;
    refused_stays = refused_stays;
    header_is = header_is;
    words_are = words_are;
    decodes_iff = decodes_iff;
    one_list = one_list;
    nine_iff = nine_iff;
    ten_iff = ten_iff;
    recovers_all = recovers_all;
    no_other = no_other;
  };
  taking_back = record {
    back_after = back_after;
    back_undoes = back_undoes;
    back_again = back_again;
    back_to_start = back_to_start;
    held_is = held_is;
    held_numbers = held_numbers;
    held_fails_iff = held_fails_iff;
    held_blocks_iff = held_blocks_iff;
    back_stops_iff = back_stops_iff;
    back_goes_iff = back_goes_iff;
    back_puts = back_puts;
    back_log = back_log;
    back_reads = back_reads;
    back_scratch = back_scratch;
  };
  histories = record {
    sizes_begin = sizes_begin;
    model_begins = model_begins;
    sizes_kept = sizes_kept;
    sizes_stay = sizes_stay;
    records_long = records_long_lem;
    raw_is = raw_is;
    model_is = model_is;
    before_is = before_is;
    model_kept = model_kept;
    model_puts = model_puts;
    model_takes = model_takes;
    image_long = image_long;
  };
  decoding = record {
    words_stand = words_stand;
    gives_seven = gives_seven;
    gives_eight = gives_eight;
    gives_nine = gives_nine;
    gives_ten = gives_ten;
    gives_zero = gives_zero;
    leaves_blocks = leaves_blocks;
    leaves_zeros = leaves_zeros;
  };
  losses = record { levels_decode = levels_decode; full_decodes = full_decodes_lem };
  erasures = record {
    word_is = word_is;
    well_formed_iff = well_formed_iff;
    marked_iff = marked_iff;
    survives_iff = survives_iff;
    survivors_rise = survivors_rise;
    same_words_iff = same_words_iff;
    same_outside = same_outside;
  };
  table = record { refusal_is = refusal_is; fits_iff = fits_iff; needed_iff = needed_iff };
  numbers = record {
    open_numbers = open_numbers;
    write_numbers = write_numbers;
    earlier_numbers = earlier_numbers;
    strike_numbers = strike_numbers;
    table_numbers = table_numbers;
    earlier_table = earlier_table;
    strike_table = strike_table;
    same_table = same_table;
    back_table = back_table;
    same_counted = same_counted;
    back_numbers = back_numbers;
    read_numbers = read_numbers;
    image_numbers = image_numbers;
    stripe_numbers = stripe_numbers;
    fails_iff = fails_iff;
    decode_numbers = decode_numbers;
    asked_iff = asked_iff;
    recover_numbers = recover_numbers;
    explain_numbers = explain_numbers;
    explain_asked_iff = explain_asked_iff;
    recover_two_numbers = recover_two_numbers;
    two_asked_iff = two_asked_iff;
    shelf_of_two_numbers = shelf_of_two_numbers;
    powers_numbers = powers_numbers;
  };
  leaving = record {
    open_refused = open_refused;
    open_taken = open_taken;
    read_refused = read_refused;
    read_taken = read_taken;
    reads_model = reads_model;
    image_refused = image_refused;
    image_taken = image_taken;
    images_history = images_history;
    decode_refused = decode_refused;
    decode_failed = decode_failed;
    decode_taken = decode_taken;
    recover_refused = recover_refused;
    recover_failed = recover_failed;
    recover_taken = recover_taken;
    two_refused = two_refused;
    two_failed = two_failed;
    two_taken = two_taken;
    shelf_refused = shelf_refused;
    explain_refused = explain_refused;
    explain_failed = explain_failed;
    explain_taken = explain_taken;
    powers_refused = powers_refused;
    powers_taken = powers_taken;
  };
  recovering = record {
    answers_say = answers_say;
    stops_iff = stops_iff;
    taken_iff = taken_iff;
    explain_stops_iff = explain_stops_iff;
    explain_taken_iff = explain_taken_iff;
    each_has_last = each_has_last;
    recover_holds = recover_holds;
    explain_holds = explain_holds;
  };
  coding = record {
    code_begins = code_begins;
    code_mixes = code_mixes;
    codes_iff = codes_iff;
    blocks_are = blocks_are;
    full_codes = full_codes;
  };
  writing = record {
    write_puts = write_puts;
    write_counts = write_counts;
    write_keeps = write_keeps;
    write_reduces = write_reduces;
    write_rebuilds = write_rebuilds;
    write_ends = write_ends;
  };
  answers = record {
    number_read = number_read;
    opening_read = opening_read;
    write_read = write_read;
    part_read = part_read;
    place_read = place_read;
    verdict_read = verdict_read;
    header_has = header_has;
    buffers_have = buffers_have;
    open_answers = open_answers;
    write_answers = write_answers;
    strike_answers = strike_answers;
    back_answers = back_answers;
  };
  explaining = record {
    agrees = agrees;
    counts_are = counts_are;
    counts_sharp = counts_sharp;
    explain_leaves = explain_leaves;
    explains_why = explains_why;
    origins_true = origins_true;
    one_origin = one_origin;
    last_is_record = last_is_record;
    else_at_start = else_at_start;
  };
  blanks = record {
    gives_eleven = gives_eleven;
    else_as_earlier = else_as_earlier;
    five_not_blank = five_not_blank;
    opens_iff = opens_iff;
    zeros_open = zeros_open;
    blank_refused = blank_refused;
    blank_kept = blank_kept;
  };
  strikes = record {
    strike_taken = strike_taken;
    still_five = still_five;
    standing_begins = standing_begins;
    standing_grows = standing_grows;
    as_last_written = as_last_written;
    last_or_none = last_or_none;
    reads_struck = reads_struck;
    strike_explained = strike_explained;
  };
  boundary = record {
    part_is = part_is;
    part_at = part_at;
    place_is = place_is;
    place_at = place_at;
    shelf_is = shelf_is;
    none_named = none_named;
    none_explained = none_explained;
    none_named_of_two = none_named_of_two;
  };
  two_readings = record {
    two_recover = two_recover;
    two_no_other = two_no_other;
    never_differ = never_differ;
    shelf_after = shelf_after;
    differ_iff = differ_iff;
    choice_is = choice_is;
    two_stops_iff = two_stops_iff;
    two_taken_iff = two_taken_iff;
    seven_of_two = seven_of_two;
    two_has_last = two_has_last;
    two_holds = two_holds;
    exchanged_shelf = exchanged_shelf;
    exchanged_stripe = exchanged_stripe;
    exchanged = exchanged;
    twice_is_once = twice_is_once;
    shelf_bytes = shelf_bytes;
    shelf_decodes = shelf_decodes;
  };
  openings = record {
    header_as_opened = header_as_opened;
    records_as_opened = records_as_opened;
    before_as_opened = before_as_opened;
    last_as_opened = last_as_opened;
    start_as_opened = start_as_opened;
    refused_as_opened = refused_as_opened;
    kept_as_opened = kept_as_opened;
    struck_as_opened = struck_as_opened;
  };
  worked = worked;
  worked_blanks = worked_blanks;
  worked_bytes = worked_bytes;
  worked_stripes = worked_stripes;
  worked_strays = worked_strays;
  worked_faults = worked_faults;
  worked_histories = worked_histories;
  worked_halves = worked_halves;
  worked_numbers = worked_numbers;
  worked_answers = worked_answers;
  worked_back = worked_back;
  worked_back_faults = worked_back_faults;
  worked_back_histories = worked_back_histories;
  worked_two = worked_two;
  worked_two_faults = worked_two_faults;
  worked_shelves = worked_shelves;
  worked_strikes = worked_strikes;
  worked_reads = worked_reads;
  worked_struck = worked_struck;
  worked_strike_histories = worked_strike_histories;
  worked_struck_blocks = worked_struck_blocks;
  worked_eight = worked_eight;
}
