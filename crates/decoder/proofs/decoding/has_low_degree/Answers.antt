-- `decoder::decoding::has_low_degree` meets its contract. Assumes nothing.
use Rattle.std.proofs.Common.{rules, refl, ◌≡◌, ◌+◌, ◌*◌, ◌^◌, ◌≤◌, ◌<◌, ◌||◌, ltb, suc, ℕ, List, Bool, true, false, arith}
use Rattle.std.proofs.lemmas.Iterator.{cases_from_all, YieldsList-from_range, serves_from_Range}
use borrow.Author.Tests.{tests}
use Rattle.code.specs.Transform.{reversed}
use Rattle.code.proofs.Lifting.{two_halves, row_in}
use Rattle.decoder.specs.steps.RowTests.{all_to, same_at, low_row_at, low_rows}
use Rattle.decoder.proofs.AllTo.{all_told}
use Rattle.decoder.proofs.decoding.has_low_degree.Goals as goal

-- the test of a pair of rows, and that all of them are the definition's
abbrev tested : (level erased width half : ℕ) → (part : List ℕ) → (j : ℕ) → Bool
tested l e w h r j = ltb (reversed l j) e || all_to w (same_at (j * w) (h + j * w) r)

low_told : (l e w : ℕ) (r : List ℕ) {n h : ℕ} {b : Bool} → n ≡ 2 ^ l → h ≡ 2 ^ l * w → b ≡ all_to n (tested l e w h r) → b ≡ low_rows l e w r
unfolding low_row_at
low_told l e w r s t b = rw (s, t) at b

-- row j of either half ends inside
room : (l w : ℕ) {n h m j : ℕ} → n ≡ 2 ^ l → h ≡ 2 ^ l * w → m ≡ 2 ^ suc l * w → j < n → h + j * w + w ≤ m
room l w s t e b = omega (arith, row_in w (rw s at b), two_halves l w)

pub all-requires-clause-callable : goal.all-requires-clause-callable
all-requires-clause-callable c =
    let st = c.args.st.stripe in
    serves_from_Range (λ j q k. search rules) (λ j a b. omega (arith, room st.level st.width c.block_count-rows.ensures c.half_size-half.ensures c.requires b))

pub returns : goal.returns
returns c =
    let st = c.args.st.stripe in
    let n = c.block_count-rows.result in
    let f = tested st.level c.args.erased st.width c.half_size-half.result c.args.part.now in
    low_told st.level c.args.erased st.width c.args.part.now c.block_count-rows.ensures c.half_size-half.ensures
    (all_told n f (cases_from_all _ _ _ (λ j. f j ≡ true) (λ j. f j ≡ false) c.all.ensures.ran (YieldsList-from_range 0 n n refl (omega arith))
    (λ j q k. search (rules, tests)) (λ j q k. search (rules, tests))))
