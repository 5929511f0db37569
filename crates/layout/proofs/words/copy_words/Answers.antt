-- `layout::words::copy_words` meets its contract: where as many words are stored as there is room for, they are all there is. Assumes nothing.
use Rattle.std.proofs.Common.{◌≡◌, ◌+◌, ◌<◌, ℕ, List, get_or, set, length, sym, ap, ◌∙◌, zero-add}
use Rattle.code.specs.steps.Storing.{word_from}
use Rattle.code.proofs.RowLaws.{Storing, storing_start, storing_turn, storing_done}
use Rattle.layout.proofs.CopiedWords.{stored_all}
use Rattle.layout.proofs.words.copy_words.Goals as goal

-- a turn of the loop, whose first word stands at 0
turn : (ws : List ℕ) {l₀ l : List ℕ} {j : ℕ} → Storing 0 (word_from ws 0) (length ws) l₀ l j → j < length ws
    → Storing 0 (word_from ws 0) (length ws) l₀ (set l j (get_or ws j 0)) (j + 1)
unfolding word_from
turn ws {j = j} h b =
    let z : 0 + j ≡ j = zero-add j in
    rw z at (storing_turn {x = get_or ws j 0} h b (ap (λ (k : ℕ). get_or ws k 0) (sym z)))

pub loop-j-init : goal.loop-j-init
loop-j-init c = storing_start _ _ _ _

pub loop-j-preserved : goal.loop-j-preserved
loop-j-preserved c = turn c.args.words.now c.loop-j.invariant (rw c.requires at c.loop-j-test.true)

pub returns : goal.returns
unfolding word_from
returns c =
    storing_done c.loop-j.invariant (rw c.requires at c.loop-j-test.false)
    ∙ stored_all (word_from c.args.words.now 0) c.args.words.now c.args.out.now c.requires
    (λ i b. ap (λ (k : ℕ). get_or c.args.words.now k 0) (sym (zero-add i)))
