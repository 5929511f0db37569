-- What is taken out of the code of a level's blocks is the levels of one write less: each is the code of its own blocks. Assumes nothing.
use mathlib.Core.Path.{◌≡◌, refl, sym, ap, ap₂, ◌∙◌}
use mathlib.Core.List.{List, ◌++◌}
use Prim.Native.Nat.{ℕ, zero, suc, ◌+◌, ◌-◌, ◌*◌, ◌^◌, ◌≤◌, ◌<◌}
use native.Mathlib.Nat.{zero-mul}
use native.Mathlib.Omega.{arith}
use lib.Dec.{lit<}
use lib.Pow.{pow_mono}
use lib.ListN.{length, take, drop, length-drop}
use lib.Seq.{drop-drop}
use Rattle.field.specs.Field.{fermat, root_of}
use Rattle.field.proofs.WordLists.{words_drop}
use Rattle.code.specs.Rows.{Column}
use Rattle.code.proofs.CodedRows.{half_rows, coded_halves}
use Rattle.layout.specs.declared.Header.{Header}
use Rattle.layout.specs.Header.{width, first_of}
use Rattle.splitting.specs.Splitting.{header_before, blocks_before, levels_before}
use Rattle.splitting.specs.steps.Unfolding.{older, newer, levels_out}
use Rattle.splitting.proofs.HalfBack.{back, older_half, newer_half}
use Rattle.splitting.proofs.Lowest.{Lowest, first_apart}

module _ (h : Header) (l : ℕ) (bs : List ℕ) (few : h.k ≤ 10) (w : Lowest h l) (C : Column 65537 (2 ^ l * width h) bs) where
  -- the blocks of the levels below level n, and the first one's write number
  abbrev left : (n : ℕ) → List ℕ
  left n = drop ((2 ^ l - 2 ^ n) * width h) bs

  abbrev first : (n : ℕ) → ℕ
  first n = first_of h l + (2 ^ l - 2 ^ n)

  abbrev half : (which level t : ℕ) → List ℕ → List ℕ
  half y j t r = half_rows 65537 (root_of fermat h.k) h.k (width h) y j t r

  length_left : (n : ℕ) → n ≤ l → length (left n) ≡ 2 ^ n * width h
  length_left n b =
      length-drop ((2 ^ l - 2 ^ n) * width h) bs
      ∙ ap (λ (m : ℕ). m - (2 ^ l - 2 ^ n) * width h) (C.long ∙ ap (λ (m : ℕ). m * width h) {x = 2 ^ l} {y = 2 ^ l - 2 ^ n + 2 ^ n}
      (omega (arith, pow_mono {i = n} {j = l} b)))
      ∙ omega arith

  module _ (j : ℕ) (b : j < l) where
    rises : 2 ^ suc j ≤ 2 ^ l
    rises = pow_mono {i = suc j} {j = l} b

    next_first : first (suc j) + 2 ^ j ≡ first j
    next_first = omega (arith, rises)

    next_left : drop (2 ^ j * width h) (left (suc j)) ≡ left j
    next_left =
        drop-drop (2 ^ j * width h) ((2 ^ l - 2 ^ suc j) * width h) bs
        ∙ ap (λ (i : ℕ). drop i bs) {x = (2 ^ l - 2 ^ suc j) * width h + 2 ^ j * width h} {y = (2 ^ l - 2 ^ j) * width h}
        (sym (ap (λ (i : ℕ). i * width h) {x = 2 ^ l - 2 ^ j} {y = 2 ^ l - 2 ^ suc j + 2 ^ j} (omega (arith, rises)) ∙ omega arith))

    older_is : (y : ℕ) → older 65537 32769 (2 ^ j * width h) (half y (suc j) (first (suc j)) (left (suc j)))
        ≡ half y j (first_of (header_before h) j) (blocks_before h l bs j)
    older_is y =
        let f : first_of (header_before h) j ≡ first (suc j) = first_apart w j b in
        let d : first_of (header_before h) j - first_of h l ≡ 2 ^ l - 2 ^ suc j = omega (arith, f) in
        older_half h.k few (width h) y j (first (suc j)) (omega (arith, w.within)) (left (suc j)) (length_left (suc j) b)
        (words_drop 65537 (lit< tt) ((2 ^ l - 2 ^ suc j) * width h) C.words)
        ∙ ap₂ (λ (t i : ℕ). half y j t (take (2 ^ j * width h) (drop (i * width h) bs))) (sym f) (sym d)

    newer_is : (y : ℕ) → newer 65537 32769 (back j) (width h) (2 ^ j * width h) (half y (suc j) (first (suc j)) (left (suc j))) ≡ half y j (first j) (left j)
    newer_is y =
        newer_half h.k few (width h) y j (first (suc j)) (omega (arith, w.within)) (left (suc j)) (length_left (suc j) b)
        (words_drop 65537 (lit< tt) ((2 ^ l - 2 ^ suc j) * width h) C.words)
        ∙ ap₂ (half y j) next_first next_left

  levels_are : (n : ℕ) → n ≤ l
      → levels_out 65537 32769 back (width h) n (half 0 n (first n) (left n)) (half 1 n (first n) (left n)) ≡ levels_before h l bs n
  unfolding levels_out levels_before
  levels_are zero b = refl
  levels_are (suc j) b =
      ap₂ ◌++◌ (ap₂ (levels_out 65537 32769 back (width h) j) (newer_is j b 0) (newer_is j b 1) ∙ levels_are j (omega arith))
      (ap₂ ◌++◌ (older_is j b 0) (older_is j b 1)
      ∙ sym (coded_halves 65537 (root_of fermat h.k) h.k (width h) j (first_of (header_before h) j) (blocks_before h l bs j)))

  -- ALL LEVELS BELOW, out of X and Y
  pub levels_below : {x y : List ℕ} → x ≡ half 0 l (first_of h l) bs → y ≡ half 1 l (first_of h l) bs
      → levels_out 65537 32769 back (width h) l x y ≡ levels_before h l bs l
  levels_below ex ey =
      let z : 2 ^ l - 2 ^ l ≡ 0 = omega arith in
      let same : (which : ℕ) → half which l (first_of h l) bs ≡ half which l (first l) (left l) = λ which.
      ap₂ (half which l) {x = first_of h l} {y = first l} {u = bs} {v = left l} (omega arith)
      (sym (ap (λ (i : ℕ). drop (i * width h) bs) z ∙ ap (λ (i : ℕ). drop i bs) (zero-mul (width h)))) in
      ap₂ (levels_out 65537 32769 back (width h) l) (ex ∙ same 0) (ey ∙ same 1) ∙ levels_are l (omega arith)
