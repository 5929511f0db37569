-- The invariant of `decoder::decoding::weigh`: the first i rows are weighed. Assumes nothing.
use mathlib.Core.Path.{◌≡◌, sym, ◌∙◌}
use mathlib.Core.Bool.{Bool, true, false}
use mathlib.Core.List.{List}
use Prim.Native.Nat.{ℕ, ◌*◌, ◌<◌}
use lib.ListN.{get_or}
use Rattle.code.specs.declared.Stripe.{Stripe}
use Rattle.code.specs.Stripe.{modulus_of, generator_of, position_count}
use Rattle.code.proofs.RowLaws.{StoringRows, scaled_rows_word}
use Rattle.decoder.specs.steps.Decoder.{raised, factor_from}
use Rattle.decoder.proofs.DecoderShapes.{raised_at_lem}
use Rattle.decoder.proofs.DecodeSteps.{factor_or}
use Rattle.decoder.proofs.decoding.weigh.Given as goal

-- what the rows are multiplied by: the factors of their words, and 0 at erased positions
abbrev pub multipliers : (st : Stripe) → (marks : List Bool) → (ws : List ℕ) → ℕ → ℕ
multipliers st ms ws i = factor_or ms (raised (modulus_of st) (generator_of st) st.level ws) i

module _ (st : Stripe) (ms : List Bool) (ws : List ℕ) (i : ℕ) {g : ℕ} where
  pub erased : get_or ms i false ≡ true → g ≡ 0 → g ≡ multipliers st ms ws i
  unfolding factor_or
  erased m e = e ∙ rw (m, factor_or)

  pub survives : i < position_count st → get_or ms i false ≡ false → g ≡ factor_from st (get_or ws i 0) → g ≡ multipliers st ms ws i
  unfolding factor_or
  survives l m e = e ∙ sym (raised_at_lem (modulus_of st) (generator_of st) st.level ws i l) ∙ rw (m, factor_or)

abbrev pub invariant-loop-i : goal.invariant-loop-i
invariant-loop-i l =
    let m = l.marked in
    StoringRows 0 (scaled_rows_word (modulus_of l.st.stripe) l.width (multipliers l.st.stripe m.marks.now m.factors.now) l.fn.part) l.rows l.width l.fn.part
    l.part (l.i * l.width) l.i
