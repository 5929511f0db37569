-- `two_readings::agreeing::same_words` meets its contract. Assumes nothing.
use Rattle.std.proofs.Common.{◌+◌, ◌∙◌, arith}
use borrow.Author.Tests.{eq-eqb, ne_eqb}
use Rattle.image.proofs.StripeLoads.{words_at}
use Rattle.two_readings.specs.Agreeing.{same_word}
use Rattle.two_readings.proofs.AllBelow.{all_start, all_holds, all_fails, all_end}
use Rattle.two_readings.proofs.agreeing.same_words.Goals as goal
use Rattle.two_readings.proofs.agreeing.same_words.Goals.{then-word, else-word}

pub loop-j-init : goal.loop-j-init
loop-j-init c = all_start (same_word c.args.first.now c.args.second.now c.args.at)

pub loop-j-preserved : goal.loop-j-preserved
unfolding same_word
loop-j-preserved c =
    let m = c.args.first.now in
    let m' = c.args.second.now in
    let j = c.loop-j.j in
    let x = c.word.ensures ∙ words_at m (c.args.at + j) in
    let y = c.word-in-loop-j.ensures ∙ words_at m' (c.args.at + j) in
    let f = same_word m m' c.args.at in
    elim c.if-word.branch [
      | then-word w ↦ w.same-is ∙ all_fails f j (rw (← x, ← y) (ne_eqb _ _ w.if-word.true))
      | else-word w ↦ w.same-is ∙ all_holds f j c.loop-j.invariant (rw (← x, ← y) (eq-eqb _ _ w.if-word.false))
    ]

pub returns : goal.returns
returns c = all_end (same_word c.args.first.now c.args.second.now c.args.at) c.loop-j.j c.args.count c.loop-j.invariant (omega arith)
