-- `encoder::turn` meets its contract: a turn stores a row, times its factor, in its place, and all rows so stored are turned (proofs/Turning). Assumes nothing.
use Rattle.std.proofs.Common.{◌≡◌, ◌⊎◌, ◌≤◌, List, ℕ, ◌*◌, take, ap, ◌∙◌}
use Rattle.std.proofs.lemmas.List.Edits.{sets}
use Rattle.std.proofs.Math.Nat.{add-zero, zero-mul, add_assoc}
use lib.Arith.{digits_div}
use Rattle.field.specs.Residue.{times}
use Rattle.field.specs.Field.{fermat, root_of}
use Rattle.code.specs.Rows.{lifted}
use Rattle.code.specs.Transform.{turned}
use Rattle.code.specs.steps.Storing.{stored, scaled_word}
use Rattle.code.proofs.Lifting.{row_next}
use Rattle.code.proofs.RowLaws.{StoringRows, storing_rows_start, storing_rows_turn, storing_rows_done, scaled_rows_word}
use Rattle.mixing.specs.steps.Words.{root_for}
use Rattle.encoder.proofs.Turning.{factor, turning_factor_is, reversed_few, as_it_was, row_words, turned_rows}
use Rattle.encoder.proofs.turn.Goals as goal

-- the words of as many rows as there are blocks
words_of : {m n : ℕ} (width : ℕ) → m ≡ n → m * width ≡ n * width
words_of width e = ap (λ (x : ℕ). x * width) e

-- all rows turned
all_turned : (first k width w to : ℕ) {m n : ℕ} {u v : List ℕ} {at j : ℕ}
    → StoringRows to (scaled_rows_word 65537 width (factor w k first) u) m width u v at j → m ≤ j → m ≡ n
    → v ≡ sets u to (lifted width n n (turned 65537 w k first) (take (n * width) u))
unfolding stored
all_turned first k width w to {m} {u = u} h b e =
    storing_rows_done h b ∙ ap (sets u to) (turned_rows m first k width w u)
    ∙ ap (λ (x : ℕ). sets u to (lifted width x x (turned 65537 w k first) (take (x * width) u))) e

pub loop-j-init : goal.loop-j-init
loop-j-init g c = rw (zero-mul c.args.st.stripe.width, add-zero c.args.to) (storing_rows_start _ _ _ _ _)

pub of-requires : goal.of-requires
of-requires g c = reversed_few _ c.reversed-e.ensures c.powers-powers.ensures.0

pub scale_row_over-requires-clause-by_index : goal.scale_row_over-requires-clause-by_index
scale_row_over-requires-clause-by_index g c =
    let width = c.args.st.stripe.width in
    let same = words_of width c.block_count-rows.ensures in
    let place : (c.block_count-rows.result * width ≤ c.args.to) ⊎ (c.args.to ≡ 0) = rw same c.requires.place in
    row_words {f = scaled_rows_word 65537 width _ c.args.part.now} c.loop-j.invariant c.loop-j-test.true place (rw same c.requires.words)

pub loop-j-preserved : goal.loop-j-preserved
unfolding scaled_word scaled_rows_word
loop-j-preserved g c =
    let st = c.args.st.stripe in
    let width = st.width in
    let f = scaled_rows_word 65537 width (factor (root_for g.D.Direction.unmixing 65537 (root_of fermat st.k)) st.k st.first) c.args.part.now in
    let place : (c.block_count-rows.result * width ≤ c.args.to) ⊎ (c.args.to ≡ 0) =
    rw (words_of width c.block_count-rows.ensures) c.requires.place in
    let is = turning_factor_is g.D.Direction.unmixing c.args.st.numbers c.block_count-rows.ensures c.loop-j-test.true c.powers-powers.ensures.1
    c.reversed-e.ensures (rw c.powers-powers.ensures.2 at c.of.ensures) in
    rw (row_next c.loop-j.j width, ← add_assoc c.args.to (c.loop-j.j * width) width)
    (storing_rows_turn {f = f} c.loop-j.invariant (scaled_word 65537 (c.loop-j.j * width) c.of.result.g c.loop-j.part) c.loop-j-test.true
    c.scale_row_over.ensures
    (λ j t. rw (digits_div c.loop-j.j t, is) (ap (times 65537 _) (as_it_was {f = f} c.loop-j.invariant c.loop-j-test.true place j t))))

pub returns : goal.returns
returns g c =
    all_turned c.args.st.stripe.first c.args.st.stripe.k c.args.st.stripe.width _ c.args.to c.loop-j.invariant c.loop-j-test.false c.block_count-rows.ensures
