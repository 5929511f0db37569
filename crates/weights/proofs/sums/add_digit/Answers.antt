-- `weights::sums::add_digit` meets its contract: the sums are stored behind the mixed marks and then added (proofs/PartLaws). Assumes nothing.
use Rattle.std.proofs.Common.{ℕ, ◌*◌, ap}
use Rattle.weights.proofs.PartLaws.{sums_words, digit_added}
use Rattle.weights.proofs.sums.add_digit.Goals as goal

pub add_sums-requires-clause-words : goal.add_sums-requires-clause-words
add_sums-requires-clause-words c =
    sums_words c.args.at.level c.args.digit.unit c.args.part.now c.store_sums.new.part c.requires.room
    (ap (λ (n : ℕ). 2 * n) c.count-both.ensures) c.store_sums.ensures

pub returns : goal.returns
returns c =
    digit_added c.args.at.level c.args.digit.unit c.args.part.now c.store_sums.new.part c.requires.room
    (ap (λ (n : ℕ). 2 * n) c.count-both.ensures) c.store_sums.ensures c.args.logs.now c.add_sums.new.logs c.requires.logs_len
    c.add_sums.ensures
