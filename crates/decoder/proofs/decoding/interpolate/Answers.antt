-- `decoder::decoding::interpolate` meets its contract: each step is done to the columns that the one before it left. Assumes nothing.
use Rattle.std.proofs.Common.{◌≡◌, ◌++◌, ◌∙◌, List, Bool, ℕ, length, take, drop}
use lib.Dec.{lit<}
use lib.Seq.{take_at}
use Rattle.field.specs.Power.{inverse}
use Rattle.code.specs.declared.Stripe.{Stripe}
use Rattle.code.specs.Rows.{lifted}
use Rattle.code.specs.Stripe.{root_in, block_count, position_count, block_words, stripe_words}
use Rattle.code.specs.Transform.{untransform}
use Rattle.code.proofs.Lifting.{length_lifted}
use Rattle.code.proofs.Shapes.{length_untransform, words_untransform}
use Rattle.decoder.specs.steps.Decoder.{raised, derived, evaluated, selected, interpolated}
use Rattle.decoder.proofs.DecoderShapes.{length_derived, length_evaluated, length_selected, words_derived, words_evaluated, words_selected}
use Rattle.decoder.proofs.DecodeRows.{Holds, holds_start, holds_length, holds_words, holds_next}
use Rattle.decoder.proofs.decoding.interpolate.Goals as goal

-- THE PART after each step: its rows are m rows now, f of each column
module _ (st : Stripe) (ms : List Bool) (ws rows : List ℕ) (long : length rows ≡ stripe_words st) where
  abbrev Now : (m : ℕ) → (f : List ℕ → List ℕ) → List ℕ → Type 0
  Now m f x = Holds 65537 st.width (position_count st) m rows f x

  abbrev factors : List ℕ
  factors = raised 65537 3 st.level ws

  derive_holds : {d : List ℕ} → d ≡ lifted st.width (position_count st) (position_count st) (derived 65537 st.level) rows
      → Now (position_count st) (derived 65537 st.level) d
  derive_holds =
      holds_next (holds_start 65537 st.width (position_count st) rows long) (length_derived 65537 st.level)
      (λ c u. words_derived 65537 (lit< tt) st.level u)

  module _ {d : List ℕ} (D : Now (position_count st) (derived 65537 st.level) d) where
    evaluate_holds : {v : List ℕ} → v ≡ lifted st.width (position_count st) (position_count st) (evaluated 65537 (root_in st) st.k st.level) d
        → Now (position_count st) (λ c. evaluated 65537 (root_in st) st.k st.level (derived 65537 st.level c)) v
    evaluate_holds =
        holds_next D (length_evaluated 65537 st.level (root_in st) st.k) (λ c u. words_evaluated 65537 (lit< tt) st.level (root_in st) st.k u)

  module _ {v : List ℕ} (V : Now (position_count st) (λ c. evaluated 65537 (root_in st) st.k st.level (derived 65537 st.level c)) v) where
    select_holds : {o : List ℕ} {half : ℕ} → half ≡ block_words st
        → o ≡ lifted st.width (position_count st) (block_count st) (selected 65537 st.level ms factors) v ++ drop (block_words st) v
        → Now (block_count st) (λ c. selected 65537 st.level ms factors (evaluated 65537 (root_in st) st.k st.level (derived 65537 st.level c))) (take half o)
    select_holds eh eo =
        let f = selected 65537 st.level ms factors in
        let x = lifted st.width (position_count st) (block_count st) f v in
        holds_next V (λ c _. length_selected 65537 st.level ms factors c) (λ c _. words_selected 65537 (lit< tt) st.level ms factors c)
        (rw (eh, eo) (take_at x (drop (block_words st) v) (block_words st) (length_lifted st.width (position_count st) (block_count st) f v)))

  module _ {o : List ℕ}
      (O : Now (block_count st) (λ c. selected 65537 st.level ms factors (evaluated 65537 (root_in st) st.k st.level (derived 65537 st.level c))) o) where
    unmix_holds : {u : List ℕ} → u ≡ lifted st.width (block_count st) (block_count st) (untransform 65537 (inverse 65537 (root_in st)) st.k st.level) o
        → Now (block_count st) (interpolated 65537 (root_in st) st.k st.level ms factors) u
    unmix_holds =
        let w = inverse 65537 (root_in st) in
        holds_next O (length_untransform 65537 w st.k st.level) (λ c u. words_untransform 65537 (lit< tt) w st.k st.level u)

pub evaluate-requires-clause-words : goal.evaluate-requires-clause-words
evaluate-requires-clause-words c =
    let m = c.args.marked in
    holds_words (derive_holds m.st.stripe m.marks.now m.factors.now c.args.part.now c.requires.part_len c.derive.ensures) (lit< tt) c.requires.words

pub select_values-requires-clause-words : goal.select_values-requires-clause-words
select_values-requires-clause-words c =
    let m = c.args.marked in
    let D = derive_holds m.st.stripe m.marks.now m.factors.now c.args.part.now c.requires.part_len c.derive.ensures in
    holds_words (evaluate_holds m.st.stripe m.marks.now m.factors.now c.args.part.now c.requires.part_len D c.evaluate.ensures) (lit< tt) c.requires.words

pub cross_half-requires-clause-words : goal.cross_half-requires-clause-words
cross_half-requires-clause-words c =
    let m = c.args.marked in
    let D = derive_holds m.st.stripe m.marks.now m.factors.now c.args.part.now c.requires.part_len c.derive.ensures in
    let V = evaluate_holds m.st.stripe m.marks.now m.factors.now c.args.part.now c.requires.part_len D c.evaluate.ensures in
    let O = select_holds m.st.stripe m.marks.now m.factors.now c.args.part.now c.requires.part_len V c.half_size-half.ensures c.select_values.ensures in
    holds_words O (lit< tt) c.requires.words

pub returns : goal.returns
returns c =
    let m = c.args.marked in
    let D = derive_holds m.st.stripe m.marks.now m.factors.now c.args.part.now c.requires.part_len c.derive.ensures in
    let V = evaluate_holds m.st.stripe m.marks.now m.factors.now c.args.part.now c.requires.part_len D c.evaluate.ensures in
    let O = select_holds m.st.stripe m.marks.now m.factors.now c.args.part.now c.requires.part_len V c.half_size-half.ensures c.select_values.ensures in
    let U = unmix_holds m.st.stripe m.marks.now m.factors.now c.args.part.now c.requires.part_len O c.cross_half.ensures in
    take_at c.cross_half.new.half _ (block_words m.st.stripe) (holds_length U) ∙ U.is
