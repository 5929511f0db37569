-- Decoding of blocks follows from decoding of columns: `FindsBlocks` and `FoundBlocks` of specs/Promises. Assumes nothing.
use mathlib.Core.Path.{◌≡◌, refl, sym, ap, ◌∙◌}
use mathlib.Core.Bool.{Bool, true, ◌&&◌}
use mathlib.Core.List.{List}
use Prim.Native.Nat.{ℕ, zero, suc, ◌*◌, ◌^◌, ◌<◌}
use native.Mathlib.Omega.{arith}
use lib.ListN.{get_or}
use Rattle.code.specs.Rows.{column, lifted, Column}
use Rattle.code.specs.Stripe.{coded, coded_rows}
use Rattle.decoder.specs.Decoding.{decoded_column, consistent_column, consistent_to, consistent, decoded_rows}
use Rattle.decoder.specs.steps.RowTests.{all_to}
use Rattle.decoder.specs.Promises.{Parameters, Enough, Agrees, AgreesRows, FindsBlocks, FoundBlocks}
use Rattle.decoder.proofs.AllTo.{all_to_all, all_to_each}
use Rattle.decoder.proofs.Columns.{finds_column, found_column_lem}
use Rattle.code.proofs.Lifting.{length_column, column_at, words_column, length_lifted, lifted_at, is_lifted, column_lifted, words_lifted}

-- rows are consistent where each column is
module _ (p w k l t width : ℕ) (ms : List Bool) (rows : List ℕ) where
  abbrev test : ℕ → Bool
  test j = consistent_column p w k l t ms (column width (2 ^ suc l) j rows)

  pub consistent_all : (n : ℕ) → consistent_to p w k l t width ms rows n ≡ all_to n test
  unfolding consistent_to all_to
  consistent_all zero = refl
  consistent_all (suc n) = ap (λ (b : Bool). test n && b) (consistent_all n)

  pub each_consistent : consistent p w k l t width ms rows ≡ true → (j : ℕ) → j < width → test j ≡ true
  each_consistent e = all_to_each width test (sym (consistent_all width) ∙ e)

module _ (p w k l t width : ℕ) (ms : List Bool) (rows bs : List ℕ) (S : Parameters p w k l t) (enough : Enough l ms) where
  column_of : Column p (2 ^ l * width) bs → (j : ℕ) → Column p (2 ^ l) (column width (2 ^ l) j bs)
  column_of C j = record { long = length_column width (2 ^ l) j bs; words = words_column p width (2 ^ l) j C.words }

  column_agrees : AgreesRows ms (2 ^ suc l) width (coded_rows p w k l t width bs) rows → (j : ℕ) → j < width
      → Agrees ms (2 ^ suc l) (coded p w k l t (column width (2 ^ l) j bs)) (column width (2 ^ suc l) j rows)
  unfolding coded_rows
  column_agrees A j b = record {
    same = λ i h m.
        sym (lifted_at width (2 ^ l) (2 ^ suc l) (coded p w k l t) bs i j h b) ∙ A.same i j h b m ∙ sym (column_at width (2 ^ suc l) j rows i h);
  }

  each_found : Column p (2 ^ l * width) bs → AgreesRows ms (2 ^ suc l) width (coded_rows p w k l t width bs) rows → (j : ℕ) → j < width
      → (consistent_column p w k l t ms (column width (2 ^ suc l) j rows) ≡ true) ×
      (decoded_column p w k l t ms (column width (2 ^ suc l) j rows) ≡ column width (2 ^ l) j bs)
  each_found C A j b = finds_column p w k l t ms (column width (2 ^ suc l) j rows) (column width (2 ^ l) j bs) S enough (column_of C j) (column_agrees A j b)

each_codes : (p w k l t width : ℕ) (ms : List Bool) (rows : List ℕ) → Parameters p w k l t → Enough l ms → Column p (2 ^ suc l * width) rows
    → consistent p w k l t width ms rows ≡ true → (j : ℕ) → j < width
    → Column p (2 ^ l) (decoded_column p w k l t ms (column width (2 ^ suc l) j rows))
    × Agrees ms (2 ^ suc l) (coded p w k l t (decoded_column p w k l t ms (column width (2 ^ suc l) j rows))) (column width (2 ^ suc l) j rows)
each_codes p w k l t width ms rows S enough C e j b =
    found_column_lem p w k l t ms (column width (2 ^ suc l) j rows) S enough
    (record { long = length_column width (2 ^ suc l) j rows; words = words_column p width (2 ^ suc l) j C.words })
    (each_consistent p w k l t width ms rows e j b)

pub finds_blocks_lem : FindsBlocks
unfolding decoded_rows
finds_blocks_lem p w k l t width ms rows bs S enough C long A = (
  consistent_all p w k l t width ms rows width
      ∙ all_to_all width (test p w k l t width ms rows) (λ j b. (each_found p w k l t width ms rows bs S enough C A j b).0),
  sym (is_lifted width (2 ^ suc l) (2 ^ l) (decoded_column p w k l t ms) rows bs C.long
      (λ i j h b. sym (column_at width (2 ^ l) j bs i h) ∙ ap (λ (c : List ℕ). get_or c i 0) (sym (each_found p w k l t width ms rows bs S enough C A j b).1))),
)

pub found_blocks_lem : FoundBlocks
unfolding decoded_rows coded_rows
found_blocks_lem p w k l t width ms rows S enough C e =
    let f = decoded_column p w k l t ms in (
      record {
        long = length_lifted width (2 ^ suc l) (2 ^ l) f rows;
        words = words_lifted p width (2 ^ suc l) (2 ^ l) f rows (omega (arith, S.prime.big))
            (λ j b. (each_codes p w k l t width ms rows S enough C e j b).0.words);
      },
      record {
        same = λ i j h b m.
            lifted_at width (2 ^ l) (2 ^ suc l) (coded p w k l t) (lifted width (2 ^ suc l) (2 ^ l) f rows) i j h b
            ∙ ap (λ (c : List ℕ). get_or (coded p w k l t c) i 0)
            (column_lifted width (2 ^ suc l) (2 ^ l) f rows j b (each_codes p w k l t width ms rows S enough C e j b).0.long)
            ∙ (each_codes p w k l t width ms rows S enough C e j b).1.same i h m ∙ column_at width (2 ^ suc l) j rows i h;
      },
    )
