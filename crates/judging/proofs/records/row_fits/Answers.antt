-- `judging::records::row_fits` meets its contract, by the laws of proofs/Judging. Assumes nothing.
use Rattle.std.proofs.Common.{sym, ◌∙◌}
use Rattle.layout.specs.Records.{is_data, is_struck_word}
use Rattle.judging.proofs.Judging.{row_later, first_fits, first_refused}
use Rattle.judging.proofs.records.row_fits.Goals as goal

pub returns-then-from-gt0-clause-plain : goal.returns-then-from-gt0-clause-plain
returns-then-from-gt0-clause-plain c = c.words_fit.ensures.0 ∙ sym (row_later is_data _ _ _ _ c.if-from-gt0.true)

pub returns-then-from-gt0-clause-struck : goal.returns-then-from-gt0-clause-struck
returns-then-from-gt0-clause-struck c = c.words_fit.ensures.1 ∙ sym (row_later is_struck_word _ _ _ _ c.if-from-gt0.true)

pub returns-then-not-number_fits-clause-plain : goal.returns-then-not-number_fits-clause-plain
returns-then-not-number_fits-clause-plain c =
    sym (first_refused is_data _ _ _ _ _ c.requires.records c.if-from-gt0.false (sym c.number_fits.ensures ∙ c.if-not-number_fits.true))

pub returns-then-not-number_fits-clause-struck : goal.returns-then-not-number_fits-clause-struck
returns-then-not-number_fits-clause-struck c =
    sym (first_refused is_struck_word _ _ _ _ _ c.requires.records c.if-from-gt0.false (sym c.number_fits.ensures ∙ c.if-not-number_fits.true))

pub returns-clause-plain : goal.returns-clause-plain
returns-clause-plain c =
    c.words_fit-2.ensures.0
    ∙ sym (first_fits is_data _ _ _ _ _ c.requires.records c.if-from-gt0.false (sym c.number_fits.ensures ∙ c.if-not-number_fits.false))

pub returns-clause-struck : goal.returns-clause-struck
returns-clause-struck c =
    c.words_fit-2.ensures.1
    ∙ sym (first_fits is_struck_word _ _ _ _ _ c.requires.records c.if-from-gt0.false (sym c.number_fits.ensures ∙ c.if-not-number_fits.false))
