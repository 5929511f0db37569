-- The invariant of `decoder::decoding::derive`: the first j rows of the second half are written. Assumes nothing.
use mathlib.Core.Path.{◌≡◌}
use mathlib.Core.List.{List}
use Prim.Native.Nat.{ℕ, ◌+◌, ◌*◌, ◌^◌, ◌<◌}
use native.Mathlib.Nat.{add_assoc}
use native.Mathlib.Omega.{arith}
use lib.Arith.{digits_div}
use lib.Dec.{lit<}
use lib.ListN.{length, get_or}
use Rattle.field.specs.Residue.{plus}
use Rattle.field.specs.Words.{Words}
use Rattle.code.specs.Transform as Transform
use Rattle.decoder.specs.steps.Decoder.{half_of}
use Rattle.code.specs.steps.Storing.{stored}
use Rattle.decoder.specs.steps.RowTests.{derive_at}
use Rattle.field.proofs.Laws.{minus_lt}
use Rattle.code.proofs.Lifting.{row_next, row_in}
use Rattle.code.proofs.RowLaws.{StoringRows, storing_rows_front, storing_rows_rest, storing_rows_words}
use Rattle.code.proofs.RowLaws.{storing_rows_turn}
use Rattle.decoder.proofs.DecodeSteps.{derive_word}
use Rattle.decoder.proofs.decoding.derive.Given as goal

pub record Inv (part₀ : List ℕ) (level width rows half b : ℕ) (part : List ℕ) (j : ℕ) : Type 0 where
  pub rows_is : rows ≡ 2 ^ level
  pub half_is : half ≡ 2 ^ level * width
  pub long : length part₀ ≡ half + half
  pub b_is : b ≡ half_of 65537 level
  pub storing : StoringRows half (derive_word 65537 level width part₀) rows width part₀ part (half + j * width) j

module _ {part₀ : List ℕ} {level width rows half b : ℕ} {part : List ℕ} {j : ℕ} (h : Inv part₀ level width rows half b part j) where
  pub words : Words 65537 part₀ → Words 65537 part
  unfolding derive_word
  words u = storing_rows_words h.storing (lit< tt) u (λ q. minus_lt 65537 (lit< tt) _ _)

  -- a word of the row that is written
  pub word : {a : ℕ} → j < rows → a ≡ plus 65537 (Transform.reversed level j) b → (c : ℕ) → c < width
      → derive_at 65537 (j * width) (half + j * width) a b part c ≡ derive_word 65537 level width part₀ (j * width + c)
  unfolding derive_at derive_word
  word l e c t =
      let high = half + j * width in
      let r = row_in width (rw h.rows_is at l) in
      let x : get_or part (j * width + c) 0 ≡ get_or part₀ (j * width + c) 0 = storing_rows_front h.storing (j * width + c) (omega (arith, r)) in
      let y : get_or part (high + c) 0 ≡ get_or part₀ (high + c) 0 = storing_rows_rest h.storing (high + c) (omega arith) in
      let m : high + c ≡ 2 ^ level * width + (j * width + c) = omega arith in
      rw (x, y, m, e, digits_div j t, h.b_is)

  pub turn : {a : ℕ} {part' : List ℕ} → j < rows → a ≡ plus 65537 (Transform.reversed level j) b
      → part' ≡ stored (half + j * width) (derive_at 65537 (j * width) (half + j * width) a b part) width part
      → Inv part₀ level width rows half b part' (j + 1)
  turn l e p = record {
    rows_is = h.rows_is;
    half_is = h.half_is;
    long = h.long;
    b_is = h.b_is;
    storing = rw (row_next j width, ← add_assoc half (j * width) width) (storing_rows_turn h.storing _ l p (word l e));
  }

abbrev pub invariant-loop-j : goal.invariant-loop-j
invariant-loop-j l = Inv l.fn.part l.fn.st.stripe.level l.width l.rows l.half l.b l.part l.j
