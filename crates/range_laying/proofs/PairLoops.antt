-- Pairs of words, one after the other: which words are those of a pair, and the loops that store them, those of the origins of blocks too. Assumes nothing.
use mathlib.Core.Path.{◌≡◌, refl, sym, ap, ◌∙◌}
use mathlib.Core.Logic.{⊎_elim}
use mathlib.Core.List.{List, [], ◌∷◌, ◌++◌, append_assoc, append-nil}
use Prim.Native.Nat.{ℕ, zero, suc, ◌+◌, ◌*◌, ◌≤◌, ◌<◌}
use native.Mathlib.Nat.{add-zero, eq-or-lt_of_le, suc-le-suc_iff}
use native.Mathlib.Numerals.{add-one}
use native.Mathlib.Omega.{arith}
use lib.ListN.{length, get_or, drop, drop_of_length-le, length-append, length-drop, get_or-append}
use lib.Seq.{length-sets, take_at, drop-drop, drop-append-add, get_or-append-add}
use Rattle.layout.specs.Records.{record_in, replaced}
use Rattle.layout.proofs.RecordWords.{replaced_is, word_of_record}
use Rattle.range_laying.specs.Laid.{pairs_to, origins_laid}

module _ (f g : ℕ → ℕ) where
  pub length_pairs : (n : ℕ) → length (pairs_to f g n) ≡ n * 2
  unfolding pairs_to
  length_pairs zero = refl
  length_pairs (suc n) = length-append (pairs_to f g n) (f n ∷ g n ∷ []) ∙ omega (arith, length_pairs n)

  -- the words of pair i
  pair_word : (n i j : ℕ) → i < n → j < 2 → get_or (pairs_to f g n) (2 * i + j) 0 ≡ get_or (f i ∷ g i ∷ []) j 0
  unfolding pairs_to
  pair_word zero i j b c = absurd (omega arith)
  pair_word (suc n) i j b c =
      ⊎_elim last
      (λ q. get_or-append (pairs_to f g n) (f n ∷ g n ∷ []) 0 (2 * i + j) (omega (arith, length_pairs n)) ∙ pair_word n i j q c)
      (eq-or-lt_of_le (suc-le-suc_iff.0 b))
    where
      last : i ≡ n → get_or (pairs_to f g n ++ (f n ∷ g n ∷ [])) (2 * i + j) 0 ≡ get_or (f i ∷ g i ∷ []) j 0
      last q =
          let at : 2 * n + j ≡ length (pairs_to f g n) + j = omega (arith, length_pairs n) in
          rw (q, at) (get_or-append-add (pairs_to f g n) (f n ∷ g n ∷ []) j 0)

  pub pair_at : (n i : ℕ) → i < n → (get_or (pairs_to f g n) (2 * i) 0 ≡ f i) × (get_or (pairs_to f g n) (2 * i + 1) 0 ≡ g i)
  pair_at n i b = (rw add-zero at (pair_word n i 0 b (omega arith)), pair_word n i 1 b (omega arith))

  -- one pair more
  pair_more : (i : ℕ) (o : List ℕ) → suc i * 2 ≤ length o
      → replaced 2 (pairs_to f g i ++ drop (i * 2) o) i (f i ∷ g i ∷ []) ≡ pairs_to f g (suc i) ++ drop (suc i * 2) o
  unfolding pairs_to
  pair_more i o b =
      let x = pairs_to f g i in
      let t : length x ≡ i * 2 = length_pairs i in
      let d : drop (suc i * 2) (x ++ drop (i * 2) o) ≡ drop (suc i * 2) o =
      ap (λ (m : ℕ). drop m (x ++ drop (i * 2) o)) {x = suc i * 2} {y = length x + 2} (omega arith) ∙ drop-append-add x (drop (i * 2) o) 2
      ∙ drop-drop 2 (i * 2) o ∙ ap (λ (m : ℕ). drop m o) {x = i * 2 + 2} {y = suc i * 2} (omega arith) in
      let room : suc i * 2 ≤ length (x ++ drop (i * 2) o) = omega (arith, length-append x (drop (i * 2) o), length-drop (i * 2) o) in
      replaced_is 2 (x ++ drop (i * 2) o) i (f i ∷ g i ∷ []) refl room
      ∙ rw (take_at x (drop (i * 2) o) (i * 2) t, d) (sym (append_assoc x (f i ∷ g i ∷ []) (drop (suc i * 2) o)))

  -- THE LOOP after i of n pairs
  pub record Filling (n : ℕ) (o₀ o : List ℕ) (i : ℕ) : Type 0 where
    pub turns : i ≤ n
    pub same : length o ≡ length o₀
    pub now : o ≡ pairs_to f g i ++ drop (i * 2) o₀

  pub filling_start : (n : ℕ) (o : List ℕ) → Filling n o o 0
  unfolding pairs_to
  filling_start n o = record { turns = omega arith; same = refl; now = refl }

  pub filling_turn : {n i : ℕ} {o₀ o o' : List ℕ} → Filling n o₀ o i → i < n → n * 2 ≤ length o₀ → o' ≡ replaced 2 o i (f i ∷ g i ∷ [])
      → Filling n o₀ o' (i + 1)
  filling_turn {n} {i} {o₀} {o} {o'} F b room q = record {
    turns = omega arith;
    same = ap length q ∙ length-sets o (i * 2) (f i ∷ g i ∷ []) ∙ F.same;
    now = q ∙ ap (λ (x : List ℕ). replaced 2 x i (f i ∷ g i ∷ [])) F.now ∙ pair_more i o₀ (omega arith) ∙ rw add-one;
  }

  -- and nothing is left behind them
  pub filled_whole : (n : ℕ) (o₀ : List ℕ) {o : List ℕ} → length o₀ ≡ n * 2 → o ≡ pairs_to f g n ++ drop (n * 2) o₀ → o ≡ pairs_to f g n
  filled_whole n o₀ e q =
      q ∙ ap (λ (x : List ℕ). pairs_to f g n ++ x) (drop_of_length-le o₀ {i = n * 2} (omega arith)) ∙ append-nil (pairs_to f g n)

-- PAIRS of words that are the same as records of two words are so word by word
pub same_pair : (r r' : List ℕ) (i i' : ℕ) → record_in 2 r i ≡ record_in 2 r' i'
    → (get_or r (2 * i) 0 ≡ get_or r' (2 * i') 0) × (get_or r (2 * i + 1) 0 ≡ get_or r' (2 * i' + 1) 0)
same_pair r r' i i' e = (rw (add-zero (2 * i), add-zero (2 * i')) at (word 0 (omega arith)), word 1 (omega arith))
  where
    at : (r : List ℕ) (i j : ℕ) → j < 2 → get_or (record_in 2 r i) j 0 ≡ get_or r (2 * i + j) 0
    at r i j b =
        word_of_record 2 r i j b ∙ ap (λ (n : ℕ). get_or r n 0) {x = i * 2 + j} {y = 2 * i + j} (omega arith)

    word : (j : ℕ) → j < 2 → get_or r (2 * i + j) 0 ≡ get_or r' (2 * i' + j) 0
    word j b = sym (at r i j b) ∙ ap (λ (x : List ℕ). get_or x j 0) e ∙ at r' i' j b

-- THE ORIGINS of a level's blocks: the loop after j of them
pub record Naming (width l t : ℕ) (bs : List ℕ) (rows : ℕ) (r o : List ℕ) (j : ℕ) : Type 0 where
  pub turns : j ≤ rows
  pub same : length o ≡ length r
  pub now : o ≡ origins_laid width l t bs j r

pub naming_start : (width l t : ℕ) (bs : List ℕ) (rows : ℕ) (r : List ℕ) → Naming width l t bs rows r r 0
unfolding origins_laid
naming_start width l t bs rows r = record { turns = omega arith; same = refl; now = refl }

module _ {width l t : ℕ} {bs : List ℕ} {rows : ℕ} {r o : List ℕ} {j : ℕ} (N : Naming width l t bs rows r o j) where
  pub naming_turn : {o' : List ℕ} → j < rows → o' ≡ replaced 2 o (get_or bs (j * width) 0) (l ∷ (t + j) ∷ []) → Naming width l t bs rows r o' (j + 1)
  unfolding origins_laid
  naming_turn b q = record {
    turns = omega arith;
    same = ap length q ∙ length-sets o (get_or bs (j * width) 0 * 2) (l ∷ (t + j) ∷ []) ∙ N.same;
    now = q ∙ rw (add-one j, ← N.now);
  }
