-- The examples of specs/Worked hold, by computing. Assumes nothing.
use mathlib.Core.Path.{refl as is}
use Rattle.field.specs.Residue.{plus, minus, times}
use Rattle.field.specs.Power.{power_from, power}
use Rattle.field.specs.Field.{root_of}
use Rattle.field.specs.Words as Words
use Rattle.field.specs.Words.{every}
use Rattle.code.specs.Transform.{sum_at, difference_at, mixed, transform, scaled, reversed, turned, bit_reversed}
use Rattle.code.specs.Rows.{column, columns_from, row_of, rows_from, lifted}
use Rattle.code.specs.Stripe.{coded, coded_rows}
use Rattle.layout.specs.Records.{records_fit}
use Rattle.layout.specs.Header.{first_empty}
use Rattle.layout.specs.Refusals.{refusal}
use Rattle.store.specs.Buffers.{reduced, blocks_from}
use Rattle.store.specs.Writing.{rebuilt_half}
use Rattle.print_lines.specs.Text.{decimal_from, decimal}
use Rattle.listing.specs.Listing.{pairs, written, write_of, write_all, words, positions, level_text, levels_text}
use Rattle.listing.specs.Worked.{Holds, examples}

pub worked : Holds examples
unfolding plus minus times power_from power root_of Words.table sum_at difference_at mixed transform scaled reversed turned bit_reversed
    column columns_from row_of rows_from lifted coded coded_rows every records_fit first_empty refusal reduced blocks_from rebuilt_half decimal_from decimal
    pairs written write_of write_all words positions level_text levels_text
worked = (is, (is, (is, (is, (is, (is, (is, (is, (is, (is, (is, (is, (is, (is, (is, (is, (is, (is, (is, (is, (is, (is, tt))))))))))))))))))))))
