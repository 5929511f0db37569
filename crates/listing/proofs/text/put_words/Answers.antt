-- `listing::text::put_words` meets its contract: each turn puts a space and a word. Assumes nothing.
use Rattle.std.proofs.Common.{refl, List, ℕ, [], ◌∷◌, ◌++◌, ◌+◌, get_or, drop}
use Rattle.print_lines.specs.Text.{decimal}
use Rattle.print_lines.proofs.PutTexts.{left_all, left_turn, none_end, none_now, put_stays}
use Rattle.listing.specs.Listing.{words}
use Rattle.listing.proofs.Lines.{words_next, words_done}
use Rattle.listing.proofs.text.put_words.Goals as goal

pub loop-word-init : goal.loop-word-init
loop-word-init c = left_all (words c.args.row.now) c.requires

pub put-to-requires : goal.put-to-requires
put-to-requires c = c.loop-word.invariant.inside

pub put_number-to-requires : goal.put_number-to-requires
put_number-to-requires c = put_stays c.loop-word.out c.loop-word.to (32 ∷ []) c.loop-word.invariant.inside c.put-to.ensures.value c.put-to.ensures.out_after

pub loop-word-preserved : goal.loop-word-preserved
loop-word-preserved c =
    let row = c.args.row.now in
    let i = c.loop-word.word-index in
    let x = get_or row i 0 in
    let behind : List ℕ = words (drop (i + 1) row) in
    let p = c.put-to.ensures in
    let q = c.put_number-to.ensures in
    let one = left_turn c.loop-word.invariant (32 ∷ []) (decimal x ++ behind) (words_next row i c.loop-word-test.true) p.value p.out_after in
    left_turn one (decimal x) behind refl q.value q.out_after

pub returns-clause-value : goal.returns-clause-value
returns-clause-value c = none_end c.loop-word.invariant (words_done c.args.row.now c.loop-word.word-index c.loop-word-test.false)

pub returns-clause-out_after : goal.returns-clause-out_after
returns-clause-out_after c = none_now c.loop-word.invariant (words_done c.args.row.now c.loop-word.word-index c.loop-word-test.false)
