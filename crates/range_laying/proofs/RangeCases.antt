-- What a range of a stripe's columns lays, case by case. Assumes nothing.
use mathlib.Core.Path.{◌≡◌, refl}
use mathlib.Core.Bool.{true, false}
use mathlib.Core.List.{List, ◌++◌}
use Prim.Native.Nat.{ℕ, pred, ◌*◌}
use borrow.Author.Tests.{eq-eqb, ne_eqb}
use lib.ListN.{drop}
use Rattle.code.specs.declared.Stripe.{Stripe}
use Rattle.code.specs.declared.Range.{Range}
use Rattle.code.specs.Stripe.{block_count}
use Rattle.range_laying.specs.Laid.{laid, origins_laid, pairs_to}
use Rattle.range_laying.specs.declared.Content.TheVariants.{Blocks, Records, Origins}
use Rattle.range_laying.specs.steps.Blocks.{is_whole, copied_columns, laid_range}

pub is_whole_lem : (st : Stripe) → st.level ≡ st.k → is_whole st ≡ true
is_whole_lem st e = eq-eqb st.level st.k e

pub not_whole : (st : Stripe) → (st.level ≡ st.k → ⊥) → is_whole st ≡ false
not_whole st d = ne_eqb st.level st.k d

module _ (st : Stripe) (range : Range) (l o : List ℕ) where
  pub lays_blocks : laid_range Blocks st range l o ≡ copied_columns st range 0 l o
  unfolding laid_range
  lays_blocks = refl

  module _ (e : st.level ≡ st.k) where
    pub lays_data : laid_range Records st range l o ≡ copied_columns st range 1 l o
    unfolding laid_range
    lays_data = rw (laid_range, is_whole_lem st e) refl

    pub names_none : laid_range Origins st range l o ≡ pairs_to (λ i. st.k) (λ i. 0) (block_count st) ++ drop (block_count st * 2) o
    unfolding laid_range
    names_none = rw (laid_range, is_whole_lem st e) refl

  module _ (d : st.level ≡ st.k → ⊥) where
    pub lays_records : laid_range Records st range l o ≡ laid (pred st.width) l (block_count st) o
    unfolding laid_range
    lays_records = rw (laid_range, not_whole st d) refl

    pub names_writes : laid_range Origins st range l o ≡ origins_laid st.width st.level st.first l (block_count st) o
    unfolding laid_range
    names_writes = rw (laid_range, not_whole st d) refl
