-- `weights::sums::start` meets its contract: the first words are the marks, then the mixed marks, and the words at the positions are filled. Assumes nothing.
use Rattle.std.proofs.Common.{◌≡◌, Bool, List, ◌++◌, ℕ, suc, ◌%◌, ◌^◌, ◌≤◌, length, take, drop, sym, ap, ap₂, subst, ◌∙◌, arith}
use lib.ListN.{take-append-drop}
use lib.Seq.{length-take-le}
use Rattle.field.specs.Words.{Words, table}
use Rattle.code.specs.Rows.{Column}
use Rattle.code.specs.Transform.{bit_reversed}
use Rattle.code.specs.steps.Storing.{stored, always}
use Rattle.code.proofs.RowLaws.{Parts, lent_front, put_front, stored_fill}
use Rattle.weights.specs.steps.Digits.{Holds, flags, mixed_column, mixed_flags, powers_to}
use Rattle.weights.proofs.ColumnLaws.{flags_column, loaded_column, mixed_column_lem}
use Rattle.weights.proofs.PartLaws.{first_stored, rest_stored}
use Rattle.weights.proofs.sums.start.Goals as goal

-- the part u after each call: the marks x in front, then y, the mixed marks
module _ (l n : ℕ) (ms : List Bool) (u x : List ℕ) (count : n ≡ 2 ^ suc l) (room : 2 ^ suc l ≤ length u) (ex : x ≡ bit_reversed (suc l) (flags l ms)) where
  whole : Parts n u (take n u) (drop n u)
  whole = record { is = sym (take-append-drop n u); long = length-take-le n u (omega arith) }

  loaded_is : Column 65537 (2 ^ suc l) x
  loaded_is = loaded_column l (flags_column l ms) ex

  loaded_parts : Parts n (x ++ drop n u) x (drop n u)
  loaded_parts = put_front whole (loaded_is.long ∙ sym count)

  mix_words : Words 65537 (take n (x ++ drop n u))
  mix_words = subst (Words 65537) (sym (lent_front loaded_parts)) loaded_is.words

  module _ (y : List ℕ) (ey : y ≡ mixed_column l (take n (x ++ drop n u))) where
    abbrev after_mix : List ℕ
    after_mix = y ++ drop n (x ++ drop n u)

    mixed_from : y ≡ mixed_column l x
    mixed_from = ey ∙ ap (mixed_column l) (lent_front loaded_parts)

    mixed_parts : Parts n after_mix y (drop n u)
    mixed_parts = put_front loaded_parts ((mixed_column_lem l loaded_is mixed_from).long ∙ sym count)

    started : (w : List ℕ) {s : ℕ} {v : List ℕ} → s ≡ powers_to l ms (2 ^ suc l) → n ≤ length w → v ≡ stored 0 (always (s % 65536)) n w
        → Holds l v after_mix (mixed_flags l ms) (table (2 ^ suc l) (always (powers_to l ms (2 ^ suc l) % 65536))) (drop (2 ^ suc l) w)
    started w {s} {v} es long ev = record {
      mixed = ap (λ (m : ℕ). take m after_mix) (sym count) ∙ lent_front mixed_parts ∙ mixed_from ∙ ap (mixed_column l) ex;
      begins = ap (λ (m : ℕ). take m v) (sym count) ∙ first_stored n (always (s % 65536)) w v long ev
          ∙ ap₂ (λ (m x : ℕ). table m (always (x % 65536))) count es;
      ends = ap (λ (m : ℕ). drop m v) (sym count) ∙ rest_stored n (always (s % 65536)) w v long ev ∙ ap (λ (m : ℕ). drop m w) count;
    }

pub cross-requires-clause-words : goal.cross-requires-clause-words
cross-requires-clause-words c =
    mix_words c.args.marks.at.level c.count-count.result c.args.marks.erased.now c.args.part.now c.load_flags.new.column c.count-count.ensures
    c.requires.room c.load_flags.ensures

pub returns : goal.returns
returns c =
    started c.args.marks.at.level c.count-count.result c.args.marks.erased.now c.args.part.now c.load_flags.new.column c.count-count.ensures
    c.requires.room c.load_flags.ensures c.cross.new.column c.cross.ensures c.args.logs.now c.powers_sum.ensures
    (omega (arith, c.count-count.ensures, c.requires.logs_len))
    (stored_fill c.count-count.result (c.powers_sum.result % 65536) c.args.logs.now (omega (arith, c.count-count.ensures, c.requires.logs_len))
    (c.fill.ensures.after (λ y e. e)))
