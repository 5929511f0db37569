-- Blocks that some words begin with, and the search for the last of them that is a record's. Assumes nothing.
use mathlib.Core.Path.{◌≡◌, refl, sym, ap, ap₂, ◌∙◌}
use mathlib.Core.Bool.{Bool, true, false}
use mathlib.Core.List.{List, ◌++◌}
use Prim.Native.Nat.{ℕ, zero, suc, pred, ◌*◌, ◌-◌, ◌≤◌, ◌<◌}
use native.Mathlib.Omega.{arith}
use borrow.Author.Tests.{eqb-true, eq-eqb, ne_eqb}
use lib.Dec.{eqb}
use lib.ListN.{length, take, drop, get_or-append}
use lib.Seq.{take_at}
use Rattle.std.specs.Prelude.{Option, Some, None}
use Rattle.field.proofs.WordLists.{part_inside}
use Rattle.judging.specs.Decoding.{block_number, block_data}
use Rattle.taking_back.specs.TakingBack.{last_of}

some_same : {a b : ℕ} → Some a ≡ Some b → a ≡ b
some_same e = cc

none_some : {a : ℕ} → None ≡ Some a → ⊥
none_some e = cc

-- ONE BLOCK MORE: it is the record's, or it is not
module _ (w : ℕ) (bs : List ℕ) (i j : ℕ) where
  pub last_here : block_number w bs j ≡ i → last_of w bs i (suc j) ≡ Some j
  unfolding last_of
  last_here e = rw (eq-eqb (block_number w bs j) i e, last_of)

  pub last_before : (block_number w bs j ≡ i → ⊥) → last_of w bs i (suc j) ≡ last_of w bs i j
  unfolding last_of
  last_before d = rw (ne_eqb (block_number w bs j) i d, last_of)

-- BEFORE A TURN: the last of the first n is the last of the first j
pub record Searched (w : ℕ) (bs : List ℕ) (i n j : ℕ) : Type 0 where
  pub within : j ≤ n
  pub rest : last_of w bs i n ≡ last_of w bs i j

pub search_start : (w : ℕ) (bs : List ℕ) (i n : ℕ) → Searched w bs i n n
search_start w bs i n = record { within = omega arith; rest = refl }

module _ {w : ℕ} {bs : List ℕ} {i n j : ℕ} (S : Searched w bs i n j) where
  at_turn : 0 < j → last_of w bs i n ≡ last_of w bs i (suc (j - 1))
  at_turn b = S.rest ∙ ap (last_of w bs i) {x = j} {y = suc (j - 1)} (omega arith)

  pub search_found : 0 < j → block_number w bs (j - 1) ≡ i → Some (j - 1) ≡ last_of w bs i n
  search_found b e = sym (at_turn b ∙ last_here w bs i (j - 1) e)

  pub search_turn : 0 < j → (block_number w bs (j - 1) ≡ i → ⊥) → Searched w bs i n (j - 1)
  search_turn b d = record { within = omega (arith, S.within); rest = at_turn b ∙ last_before w bs i (j - 1) d }

  pub search_none : j ≤ 0 → None ≡ last_of w bs i n
  unfolding last_of
  search_none b = let e : j ≡ 0 = omega arith in sym (S.rest ∙ ap (last_of w bs i) e)

-- what is found is one of them
pub last_within : (w : ℕ) (bs : List ℕ) (i n : ℕ) {j : ℕ} → last_of w bs i n ≡ Some j → j < n
unfolding last_of
last_within w bs i zero e = absurd (none_some e)
last_within w bs i (suc n) {j} e = go (eqb (block_number w bs n) i) refl (last_within w bs i n {j = j})
  where
    go : (b : Bool) → eqb (block_number w bs n) i ≡ b → (last_of w bs i n ≡ Some j → j < n) → j < suc n
    go true q rest = let same : n ≡ j = some_same (sym (last_here w bs i n (eqb-true (block_number w bs n) i q)) ∙ e) in omega arith
    go false q rest = let l : j < n = rest (sym (rw (q, last_of) refl) ∙ e) in omega arith

-- THE FRONT: what stands behind the blocks changes none of them
module _ (w : ℕ) (bs r : List ℕ) (some : 0 < w) where
  pub number_front : (j : ℕ) → suc j * w ≤ length bs → block_number w (bs ++ r) j ≡ block_number w bs j
  number_front j b = get_or-append bs r 0 (j * w) (omega arith)

  pub data_front : (j : ℕ) → suc j * w ≤ length bs → block_data w (bs ++ r) j ≡ block_data w bs j
  data_front j b =
      sym (part_inside (suc (j * w)) (pred w) (length bs) (bs ++ r) (omega arith))
      ∙ ap (λ (x : List ℕ). take (pred w) (drop (suc (j * w)) x)) (take_at bs r (length bs) refl)

  pub last_front : (i n : ℕ) → n * w ≤ length bs → last_of w (bs ++ r) i n ≡ last_of w bs i n
  unfolding last_of
  last_front i zero b = refl
  last_front i (suc n) b =
      ap₂ (λ (x : ℕ) (y : Option ℕ). elim (eqb x i) [ true ↦ Some n | false ↦ y ]) (number_front n (omega arith)) (last_front i n (omega arith))
