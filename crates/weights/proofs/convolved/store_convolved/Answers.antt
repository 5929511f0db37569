-- `weights::convolved::store_convolved` meets its contract: the part holds the mixed marks and the array the logarithms so far (`Holds` of specs/steps/Digits),
-- and with the third digit these are the logarithms (proofs/DigitSums). Assumes nothing.
use Rattle.std.proofs.Common.{◌≡◌, Bool, List, ◌++◌, ℕ, suc, ◌%◌, ◌^◌, take, drop, refl, sym, ap, ap₂, subst, ◌∙◌}
use lib.ListN.{take-append-drop}
use Rattle.field.specs.Words.{Words, table}
use Rattle.code.specs.steps.Storing.{always}
use Rattle.weights.specs.steps.Digits.{Holds, mixed_flags, powers_to, with_sums}
use Rattle.weights.proofs.ColumnLaws.{flags_column, loaded_column, mixed_column_lem}
use Rattle.weights.proofs.PartLaws.{holds_next, sums_below, start_below}
use Rattle.weights.proofs.DigitSums.{logs_are}
use Rattle.weights.proofs.convolved.store_convolved.Goals as goal

-- the arrays v and w once each digit is added
module _ (l : ℕ) (ms : List Bool) where
  -- the words at the positions before the first digit
  abbrev shared : List ℕ
  shared = table (2 ^ suc l) (always (powers_to l ms (2 ^ suc l) % 65536))

  -- the mixed marks
  abbrev a : List ℕ
  a = mixed_flags l ms

  module _ {v w xs rest : List ℕ} (h : Holds l v w a xs rest) where
    -- what a digit requires
    marks_words : Words 65537 (take (2 ^ suc l) w)
    marks_words = subst (Words 65537) (sym h.mixed) (mixed_column_lem l (loaded_column l (flags_column l ms) refl) refl).words

    -- the array is whole
    whole : v ≡ xs ++ rest
    whole = sym (take-append-drop (2 ^ suc l) v) ∙ ap₂ ◌++◌ h.begins h.ends

  shared_words : {v w rest : List ℕ} → Holds l v w a shared rest → Words 65536 (take (2 ^ suc l) v)
  shared_words h = subst (Words 65536) (sym h.begins) (start_below (2 ^ suc l) (powers_to l ms (2 ^ suc l)))

  sums_words : (unit : ℕ) (xs : List ℕ) {v w rest : List ℕ} → Holds l v w a (with_sums l unit a xs) rest → Words 65536 (take (2 ^ suc l) v)
  sums_words unit xs h = subst (Words 65536) (sym h.begins) (sums_below l unit a xs)

pub add_digit-requires-clause-words : goal.add_digit-requires-clause-words
add_digit-requires-clause-words c = marks_words c.args.marks.at.level c.args.marks.erased.now c.start.ensures

pub add_digit-requires-clause-words_2 : goal.add_digit-requires-clause-words_2
add_digit-requires-clause-words_2 c = shared_words c.args.marks.at.level c.args.marks.erased.now c.start.ensures

pub add_digit-requires-2-clause-words : goal.add_digit-requires-2-clause-words
add_digit-requires-2-clause-words c =
    marks_words c.args.marks.at.level c.args.marks.erased.now (holds_next c.args.marks.at.level 1 c.start.ensures c.add_digit.ensures)

pub add_digit-requires-2-clause-words_2 : goal.add_digit-requires-2-clause-words_2
add_digit-requires-2-clause-words_2 c =
    sums_words c.args.marks.at.level c.args.marks.erased.now 1 _ (holds_next c.args.marks.at.level 1 c.start.ensures c.add_digit.ensures)

pub add_digit-requires-3-clause-words : goal.add_digit-requires-3-clause-words
add_digit-requires-3-clause-words c =
    let h = holds_next c.args.marks.at.level 1 c.start.ensures c.add_digit.ensures in
    marks_words c.args.marks.at.level c.args.marks.erased.now (holds_next c.args.marks.at.level 64 h c.add_digit-2.ensures)

pub add_digit-requires-3-clause-words_2 : goal.add_digit-requires-3-clause-words_2
add_digit-requires-3-clause-words_2 c =
    let h = holds_next c.args.marks.at.level 1 c.start.ensures c.add_digit.ensures in
    sums_words c.args.marks.at.level c.args.marks.erased.now 64 _ (holds_next c.args.marks.at.level 64 h c.add_digit-2.ensures)

pub returns : goal.returns
returns c =
    let l = c.args.marks.at.level in
    let h₁ = holds_next l 1 c.start.ensures c.add_digit.ensures in
    let h₂ = holds_next l 64 h₁ c.add_digit-2.ensures in
    whole l c.args.marks.erased.now (holds_next l 4096 h₂ c.add_digit-3.ensures)
    ∙ ap (λ (xs : List ℕ). xs ++ drop (2 ^ suc l) c.args.logs.now) (logs_are l c.args.marks.erased.now c.args.marks.at.few c.requires.half)
