-- `weights::direct::store_direct` meets its contract: the sums start from none, all rows are added, and with what all share they are the logarithms
-- (proofs/DirectLaws). Assumes nothing.
use Rattle.std.proofs.Common.{◌≡◌, ℕ, ◌+◌, ◌*◌, ◌≤◌, length, ap, ◌∙◌, arith}
use Rattle.code.specs.steps.Storing.{stored, always, word_from}
use Rattle.code.proofs.RowLaws.{length_stored, stored_fill, stored_within}
use Rattle.weights.proofs.DirectLaws.{sums_start, words_fit, logs_direct}
use Rattle.weights.proofs.direct.store_direct.Goals as goal

pub add_rows-requires-clause-sums : goal.add_rows-requires-clause-sums
add_rows-requires-clause-sums c =
    let n = c.count-count.result in
    let room : 3 * n ≤ length c.args.part.now = omega (arith, c.count-count.ensures, c.requires.room) in
    let zeros = stored_fill n 0 c.args.part.now (omega arith) (c.fill.ensures.after (λ y e. e)) in
    let long : length c.load_terms.new.part ≡ length c.args.part.now =
    c.load_terms.auto.part ∙ ap length zeros ∙ length_stored 0 (always 0) n c.args.part.now in
    sums_start c.args.marks.at.level c.args.marks.erased.now c.args.part.now _ c.load_terms.new.part _ c.requires.room c.count-count.ensures
    zeros c.load_terms.ensures
    (c.copy_within.ensures.after ∙ stored_within (2 * n) n n c.load_terms.new.part (omega arith) (omega arith) (omega arith)
    ∙ ap (λ (m : ℕ). stored m (word_from c.load_terms.new.part n) n c.load_terms.new.part) {x = 2 * n} {y = n + n} (omega arith))

pub store_words-requires-clause-by_index : goal.store_words-requires-clause-by_index
store_words-requires-clause-by_index c = words_fit c.add_rows.ensures c.powers_sum.ensures c.args.marks.at.few

pub returns : goal.returns
returns c = logs_direct c.add_rows.ensures c.powers_sum.ensures c.args.logs.now c.requires.logs_len c.store_words.ensures
