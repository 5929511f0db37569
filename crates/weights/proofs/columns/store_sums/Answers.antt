-- `weights::columns::store_sums` meets its contract: the marks stay, and the column behind them is loaded, mixed, multiplied and unmixed. Assumes nothing.
use Rattle.std.proofs.Common.{◌≡◌, List, ◌++◌, ℕ, suc, ◌^◌, length, take, ap, ap₂, ◌∙◌}
use Rattle.field.specs.Words.{Words}
use Rattle.code.specs.Rows.{Column}
use Rattle.code.specs.Transform.{bit_reversed}
use Rattle.code.specs.Convolution.{products}
use Rattle.weights.specs.steps.Digits.{digits, mixed_column, unmixed_column, sum_rows}
use Rattle.weights.proofs.ColumnLaws.{digits_column, loaded_column, mixed_column_lem, product_column}
use Rattle.weights.proofs.columns.store_sums.Goals as goal

-- the marks a, which the part u begins with
marks_are : (l : ℕ) (u : List ℕ) {n : ℕ} {a : List ℕ} → n ≡ 2 ^ suc l → a ≡ take n u → a ≡ take (2 ^ suc l) u
marks_are l u en ea = ea ∙ ap (λ (m : ℕ). take m u) en

-- the column behind them: x, loaded, then y, mixed, then v, the products, then z, unmixed
module _ (l unit : ℕ) {x : List ℕ} (ex : x ≡ bit_reversed (suc l) (digits l unit)) where
  loaded : Column 65537 (2 ^ suc l) x
  loaded = loaded_column l (digits_column l unit) ex

  module _ {y : List ℕ} (ey : y ≡ mixed_column l x) where
    mixed : Column 65537 (2 ^ suc l) y
    mixed = mixed_column_lem l loaded ey

    module _ (a : List ℕ) {v : List ℕ} (ev : v ≡ products 65537 (length y) a y) where
      product_words : Words 65537 v
      product_words = rw ev (product_column (length y) a y).words

      sums_are : {z : List ℕ} → z ≡ unmixed_column l v → z ≡ sum_rows l unit a
      unfolding sum_rows
      sums_are ez =
          ez ∙ ap (unmixed_column l) (ev ∙ ap₂ (λ (n : ℕ) (w : List ℕ). products 65537 n a w) mixed.long (ey ∙ ap (mixed_column l) ex))

pub cross-requires-clause-words : goal.cross-requires-clause-words
cross-requires-clause-words c = (loaded c.args.at.level c.args.digit.unit c.load_digits.ensures).words

pub multiply-requires-clause-words : goal.multiply-requires-clause-words
multiply-requires-clause-words c = (mixed c.args.at.level c.args.digit.unit c.load_digits.ensures c.cross.ensures).words

pub multiply-requires-clause-words_2 : goal.multiply-requires-clause-words_2
multiply-requires-clause-words_2 c =
    rw (marks_are c.args.at.level c.args.part.now c.count.ensures c.split_at_mut-marks.ensures.front) c.requires.words

pub cross-requires-2-clause-words : goal.cross-requires-2-clause-words
cross-requires-2-clause-words c =
    product_words c.args.at.level c.args.digit.unit c.load_digits.ensures c.cross.ensures c.split_at_mut-marks.result.0.now c.multiply.ensures

pub returns : goal.returns
returns c =
    let a = c.split_at_mut-marks.result.0.now in
    ap (λ (z : List ℕ). a ++ z) (sums_are c.args.at.level c.args.digit.unit c.load_digits.ensures c.cross.ensures a c.multiply.ensures c.cross-2.ensures)
    ∙ ap (λ (b : List ℕ). b ++ sum_rows c.args.at.level c.args.digit.unit b)
    (marks_are c.args.at.level c.args.part.now c.count.ensures c.split_at_mut-marks.ensures.front)
