-- The invariant of `decoder::decoding::select_values`: the first i rows are written. Assumes nothing.
use mathlib.Core.Path.{◌≡◌, sym, ap, ap₂, ◌∙◌}
use mathlib.Core.Bool.{Bool, true, false}
use mathlib.Core.List.{List}
use Prim.Native.Nat.{ℕ, ◌+◌, ◌*◌, ◌^◌, ◌≤◌, ◌<◌}
use native.Mathlib.Omega.{arith}
use lib.Arith.{digits_div}
use lib.Dec.{lit<}
use lib.ListN.{length, get_or}
use Rattle.field.specs.Residue.{times}
use Rattle.field.specs.Power.{inverse}
use Rattle.field.specs.Words.{Words}
use Rattle.field.proofs.Laws.{times_lt}
use Rattle.field.proofs.Powers.{power_times}
use Rattle.code.specs.declared.Stripe.{Stripe}
use Rattle.code.specs.Stripe.{modulus_of, generator_of, block_count, block_words, stripe_words}
use Rattle.code.specs.steps.Storing.{stored, scaled_word, scale_row}
use Rattle.code.proofs.Lifting.{two_halves, row_in, row_next}
use Rattle.code.proofs.RowLaws.{StoringRows, storing_rows_rest, storing_rows_words, storing_rows_turn}
use Rattle.decoder.specs.steps.Decoder.{raised, factor_from, divisor_at}
use Rattle.decoder.proofs.DecoderShapes.{raised_at_lem}
use Rattle.decoder.proofs.DecodeSteps.{select_word}
use Rattle.decoder.proofs.decoding.select_values.Given as goal

-- the factors that the words stand for
abbrev pub divisors : (st : Stripe) → (ws : List ℕ) → List ℕ
divisors st ws = raised (modulus_of st) (generator_of st) st.level ws

pub record Inv (st : Stripe) (ms : List Bool) (ws part₀ part : List ℕ) (over i : ℕ) : Type 0 where
  pub long : length part₀ ≡ stripe_words st
  pub over_is : over ≡ inverse (modulus_of st) (times (modulus_of st) (block_count st) (block_count st))
  pub words₀ : Words (modulus_of st) part₀
  pub storing : StoringRows 0 (select_word (modulus_of st) st.level st.width ms (divisors st ws) part₀) (block_count st) st.width part₀ part (i * st.width) i

-- a word of the row that the mark chooses
abbrev picked : (st : Stripe) → (ms : List Bool) → (part₀ : List ℕ) → (i c : ℕ) → ℕ
picked st ms part₀ i c =
    elim (get_or ms i false) [ true ↦ get_or part₀ (block_words st + (i * st.width + c)) 0 | false ↦ get_or part₀ (i * st.width + c) 0 ]

module _ {st : Stripe} {ms : List Bool} {ws part₀ part : List ℕ} {over i : ℕ} (h : Inv st ms ws part₀ part over i) where
  pub words : Words 65537 part
  unfolding select_word
  words = storing_rows_words h.storing (lit< tt) h.words₀ (λ q. times_lt 65537 (lit< tt) _ _)

  module _ (l : i < block_count st) where
    -- row i of either half ends inside
    pub room : block_words st + i * st.width + st.width ≤ length part₀
    room = omega (arith, h.long, row_in st.width l, two_halves st.level st.width)

    -- the inverse of what the position's row is divided by
    pub divides : {d g : ℕ} → d ≡ inverse (modulus_of st) (factor_from st (get_or ws i 0)) → g ≡ times 65537 over d
        → g ≡ inverse 65537 (divisor_at 65537 st.level (divisors st ws) i)
    unfolding divisor_at inverse
    divides ed eg =
        eg ∙ ap₂ (times 65537) h.over_is (ed ∙ ap (inverse 65537) (sym (raised_at_lem 65537 3 st.level ws i (omega arith))))
        ∙ sym (power_times 65537 (lit< tt) (times 65537 (2 ^ st.level) (2 ^ st.level)) (get_or (divisors st ws) i 0) 65535)

    -- row i stored: `from` is where the row begins that is multiplied
    turn : (from : ℕ) {g : ℕ} {part' : List ℕ} → ((c : ℕ) → c < st.width → get_or part (from + c) 0 ≡ picked st ms part₀ i c)
        → g ≡ inverse 65537 (divisor_at 65537 st.level (divisors st ws) i) → part' ≡ stored (i * st.width) (scaled_word 65537 from g part) st.width part
        → Inv st ms ws part₀ part' over (i + 1)
    unfolding scaled_word select_word
    turn from read eg e = record {
      long = h.long;
      over_is = h.over_is;
      words₀ = h.words₀;
      storing = rw (row_next i st.width) (storing_rows_turn h.storing _ l e
          (λ c t. rw (digits_div i t, eg) (ap (times 65537 (inverse 65537 (divisor_at 65537 st.level (divisors st ws) i))) (read c t))));
    }

    pub erased : {from g : ℕ} {part' : List ℕ} → get_or ms i false ≡ true → from ≡ block_words st + i * st.width
        → g ≡ inverse 65537 (divisor_at 65537 st.level (divisors st ws) i) → part' ≡ stored (i * st.width) (scaled_word 65537 from g part) st.width part
        → Inv st ms ws part₀ part' over (i + 1)
    erased {from} m ef = turn from (λ c t. rw (picked, m) (storing_rows_rest h.storing (from + c) (omega arith)
        ∙ ap (λ (q : ℕ). get_or part₀ q 0) {x = from + c} {y = block_words st + (i * st.width + c)} (omega arith)))

    pub survives : {g : ℕ} {part' : List ℕ} → get_or ms i false ≡ false
        → g ≡ inverse 65537 (divisor_at 65537 st.level (divisors st ws) i) → part' ≡ scale_row 65537 st.width (i * st.width) g part
        → Inv st ms ws part₀ part' over (i + 1)
    unfolding scale_row
    survives m = turn (i * st.width) (λ c t. rw (picked, m) (storing_rows_rest h.storing (i * st.width + c) (omega arith)))

abbrev pub invariant-loop-i : goal.invariant-loop-i
invariant-loop-i l = Inv l.st.stripe l.marked.marks.now l.marked.factors.now l.fn.part l.part l.over l.i
