-- `taking_back::finding::last_of` meets its contract, by the laws of proofs/BlockSearch. Assumes nothing.
use Rattle.taking_back.proofs.BlockSearch.{search_start, search_found, search_turn, search_none}
use Rattle.taking_back.proofs.finding.last_of.Goals as goal

pub loop-j-init : goal.loop-j-init
loop-j-init c = search_start c.args.width c.args.blocks.now c.args.record c.args.n

pub returns-then-blocks-j : goal.returns-then-blocks-j
returns-then-blocks-j c = search_found c.loop-j.invariant c.loop-j-test.true c.if-blocks-j.true

pub loop-j-preserved : goal.loop-j-preserved
loop-j-preserved c = search_turn c.loop-j.invariant c.loop-j-test.true c.if-blocks-j.false

pub returns : goal.returns
returns c = search_none c.loop-j.invariant c.loop-j-test.false
