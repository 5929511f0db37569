-- `encoder::scale_row_over` meets its contract: a word that is read is as it was, since those that are stored stand behind its row, or before the word. Assumes
-- nothing.
use Rattle.std.proofs.Common.{◌≡◌, List, ℕ, ◌+◌, ◌≤◌, ◌<◌, ◌⊎◌, ⊎_elim, get_or, ap, ◌∙◌, arith}
use Rattle.field.specs.Residue.{times}
use Rattle.code.specs.steps.Storing.{scaled_word}
use Rattle.code.proofs.RowLaws.{Storing, storing_start, storing_front, storing_rest, storing_turn}
use Rattle.encoder.proofs.scale_row_over.Goals as goal

as_it_was : {to from n i : ℕ} {f : ℕ → ℕ} {u v : List ℕ} → Storing to f n u v i → i < n → (from + n ≤ to) ⊎ (to ≤ from)
    → get_or v (from + i) 0 ≡ get_or u (from + i) 0
as_it_was {from = from} {i = i} h b =
    ⊎_elim (λ l. storing_front h (from + i) (omega arith)) (λ l. storing_rest h (from + i) (omega arith))

pub loop-j-init : goal.loop-j-init
loop-j-init g c = storing_start _ _ _ _

pub product-requires : goal.product-requires
product-requires g c = rw (as_it_was c.loop-j.invariant c.loop-j-test.true c.requires.apart) (c.requires.by_index c.loop-j.j c.loop-j-test.true)

pub loop-j-preserved : goal.loop-j-preserved
unfolding scaled_word
loop-j-preserved g c =
    storing_turn c.loop-j.invariant c.loop-j-test.true
    (c.product.ensures ∙ ap (times 65537 (g.F.Factor.value c.args.g)) (as_it_was c.loop-j.invariant c.loop-j-test.true c.requires.apart))
