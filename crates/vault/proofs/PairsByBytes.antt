-- Erasure lists by their bytes: the number of four bytes, what it is for the pairs to rise, and which pairs touch some bytes. Assumes nothing.
use mathlib.Core.Path.{◌≡◌, refl, sym, subst, ◌∙◌}
use mathlib.Core.Bool.{true, false, ◌&&◌, ◌||◌}
use mathlib.Core.List.{List, [], ◌∷◌}
use Prim.Native.Nat.{ℕ, zero, suc, ◌+◌, ◌*◌, ◌≤◌, ◌<◌}
use native.Mathlib.Nat.{add-zero}
use native.Mathlib.Decide.{dec_lt}
use native.Mathlib.Omega.{arith}
use lib.Dec.{ltb, leb}
use lib.ListN.{get_or, take, drop}
use lib.Seq.{take-nil, get_or-drop, drop-drop}
use borrow.Author.Tests.{lt-ltb, le-ltb, le-leb, ltb-true, leb-true, both_ways}
use Rattle.std.proofs.lemmas.Bool.{or_from, or_parts}
use Rattle.field.proofs.Booleans.{both_true, first_true, second_true, first_false, second_false}
use Rattle.image.specs.Image.{number_of, number_at}
use Rattle.image.specs.Erasures.{erasures_from, erasures_rise, touched}
use Rattle.vault.specs.promises.Erasures.{four_bytes}

-- FOUR BYTES, one by one: where the bytes have ended each counts as 0
first_byte : (n : ℕ) (bs : List ℕ) → number_of (take (suc n) bs) ≡ get_or bs 0 0 + 256 * number_of (take n (drop 1 bs))
unfolding number_of
first_byte n [] = rw take-nil
first_byte n (x ∷ xs) = refl

byte : (n : ℕ) (bs : List ℕ) (o j : ℕ) → o + 1 ≡ j → number_of (take (suc n) (drop o bs)) ≡ get_or bs o 0 + 256 * number_of (take n (drop j bs))
byte n bs o j e = first_byte n (drop o bs) ∙ rw (get_or-drop o bs 0 0, add-zero o, drop-drop 1 o bs, e)

no_byte : (bs : List ℕ) → number_of (take 0 bs) ≡ 0
unfolding number_of
no_byte bs = refl

pub number_by_bytes : (bs : List ℕ) (o : ℕ) → number_at bs o ≡ four_bytes bs o
number_by_bytes bs o =
    rw (
      byte 3 bs o (o + 1) (omega arith),
      byte 2 bs (o + 1) (o + 2) (omega arith),
      byte 1 bs (o + 2) (o + 3) (omega arith),
      byte 0 bs (o + 3) (o + 4) (omega arith),
      no_byte,
    ) (omega arith)

-- what holds here and of all behind holds from here on
pub from_here : (P : ℕ → Type 0) (i : ℕ) → P i → ((j : ℕ) → suc i ≤ j → P j) → (j : ℕ) → i ≤ j → P j
from_here P i here rest j a = at (dec_lt i j)
  where
    at : Dec (i < j) → P j
    at (yes b) = rest j b
    at (no b) = subst P {x = i} {y = j} (omega arith) here

-- NUMBERS o j AND s j, the offset and the size of pair j, for the n pairs from i on
module _ (o s : ℕ → ℕ) where
  -- they rise: the first is from `least` on, each is at least 1 long and ends at `end` or before, and each is behind the one before it
  pub record Rising (least end i n : ℕ) : Type 0 where
    pub first : 0 < n → least ≤ o i
    pub some : (j : ℕ) → i ≤ j → j < i + n → 1 ≤ s j
    pub inside : (j : ℕ) → i ≤ j → j < i + n → o j + s j ≤ end
    pub apart : (j : ℕ) → i ≤ j → suc j < i + n → o j + s j < o (suc j)

  -- they are clear of the bytes from a up to b: each begins at b or behind, or ends at a or before
  abbrev pub Clear : (a b i n : ℕ) → Type 0
  Clear a b i n = (j : ℕ) → i ≤ j → j < i + n → o j < b → a < o j + s j → ⊥

  -- they are those of a list
  pub record ArePairs (bs : List ℕ) : Type 0 where
    pub offset : (j : ℕ) → number_at bs (8 * j) ≡ o j
    pub size : (j : ℕ) → number_at bs (8 * j + 4) ≡ s j

module _ {bs : List ℕ} {o s : ℕ → ℕ} (are : ArePairs o s bs) where
  -- THE TEST OF A LIST is that its pairs rise
  rise_nil : (least end i : ℕ) → erasures_rise least end (erasures_from bs i 0) ≡ true
  unfolding erasures_rise erasures_from
  rise_nil least end i = refl

  rise_cons : (least end i n : ℕ) → erasures_rise least end (erasures_from bs i (suc n))
      ≡ (leb least (o i) && (ltb 0 (s i) && (leb (o i + s i) end && erasures_rise (suc (o i + s i)) end (erasures_from bs (suc i) n))))
  unfolding erasures_rise erasures_from
  rise_cons least end i n = rw (← are.offset i, ← are.size i)

  pub rise : (least end i n : ℕ) → Rising o s least end i n → erasures_rise least end (erasures_from bs i n) ≡ true
  rise least end i zero R = rise_nil least end i
  rise least end i (suc n) R =
      let rest : Rising o s (suc (o i + s i)) end (suc i) n =
      record {
        first = λ b. R.apart i (omega arith) (omega arith);
        some = λ j a b. R.some j (omega arith) (omega arith);
        inside = λ j a b. R.inside j (omega arith) (omega arith);
        apart = λ j a b. R.apart j (omega arith) (omega arith);
      } in
      rise_cons least end i n
      ∙ both_true (le-leb least (o i) (R.first (omega arith))) (both_true (lt-ltb 0 (s i) (R.some i (omega arith) (omega arith)))
      (both_true (le-leb (o i + s i) end (R.inside i (omega arith) (omega arith))) (rise (suc (o i + s i)) end (suc i) n rest)))

  pub risen : (least end i n : ℕ) → erasures_rise least end (erasures_from bs i n) ≡ true → Rising o s least end i n
  risen least end i zero e = record {
    first = λ b. absurd (omega arith);
    some = λ j a b. absurd (omega arith);
    inside = λ j a b. absurd (omega arith);
    apart = λ j a b. absurd (omega arith);
  }
  risen least end i (suc n) e =
      let t = sym (rise_cons least end i n) ∙ e in
      let t₂ = second_true _ _ t in
      let t₃ = second_true _ _ t₂ in
      one_more (leb-true least (o i) (first_true _ _ t)) (ltb-true 0 (s i) (first_true _ _ t₂)) (leb-true (o i + s i) end (first_true _ _ t₃))
      (risen (suc (o i + s i)) end (suc i) n (second_true _ _ t₃))
    where
      one_more : least ≤ o i → 0 < s i → o i + s i ≤ end → Rising o s (suc (o i + s i)) end (suc i) n → Rising o s least end i (suc n)
      one_more a b c R = record {
        first = λ x. a;
        some = from_here (λ (j : ℕ). j < i + suc n → 1 ≤ s j) i (λ x. b) (λ j u v. R.some j u (omega arith));
        inside = from_here (λ (j : ℕ). j < i + suc n → o j + s j ≤ end) i (λ x. c) (λ j u v. R.inside j u (omega arith));
        apart = from_here (λ (j : ℕ). suc j < i + suc n → o j + s j < o (suc j)) i (λ x. omega (arith, R.first)) (λ j u v. R.apart j u (omega arith));
      }

  -- A LIST TOUCHES one of the bytes from a up to b unless each pair is clear of them
  touched_nil : (a b i : ℕ) → touched a b (erasures_from bs i 0) ≡ false
  unfolding touched erasures_from
  touched_nil a b i = refl

  touched_cons : (a b i n : ℕ) → touched a b (erasures_from bs i (suc n))
      ≡ ((ltb (o i) b && ltb a (o i + s i)) || touched a b (erasures_from bs (suc i) n))
  unfolding touched erasures_from
  touched_cons a b i n = rw (← are.offset i, ← are.size i)

  touches_not : (a b i : ℕ) → (o i < b → a < o i + s i → ⊥) → (ltb (o i) b && ltb a (o i + s i)) ≡ false
  touches_not a b i f = at (dec_lt (o i) b) (dec_lt a (o i + s i))
    where
      at : Dec (o i < b) → Dec (a < o i + s i) → (ltb (o i) b && ltb a (o i + s i)) ≡ false
      at (yes u) (yes v) = absurd (f u v)
      at (yes u) (no v) = second_false (ltb (o i) b) (le-ltb a (o i + s i) (omega arith))
      at (no u) v = first_false (ltb a (o i + s i)) (le-ltb (o i) b (omega arith))

  pub touch_none : (a b i n : ℕ) → Clear o s a b i n → touched a b (erasures_from bs i n) ≡ false
  touch_none a b i zero f = touched_nil a b i
  touch_none a b i (suc n) f =
      touched_cons a b i n
      ∙ or_from _ _ (touches_not a b i (f i (omega arith) (omega arith))) (touch_none a b (suc i) n (λ j u v. f j (omega arith) (omega arith)))

  pub untouched : (a b i n : ℕ) → touched a b (erasures_from bs i n) ≡ false → Clear o s a b i n
  untouched a b i zero e = λ j u v x y. absurd (omega arith)
  untouched a b i (suc n) e =
      let t = or_parts _ _ (sym (touched_cons a b i n) ∙ e) in
      from_here (λ (j : ℕ). j < i + suc n → o j < b → a < o j + s j → ⊥) i
      (λ v x y. both_ways (ltb (o i) b && ltb a (o i + s i)) t.0 (both_true (lt-ltb (o i) b x) (lt-ltb a (o i + s i) y)))
      (λ j u v. untouched a b (suc i) n t.1 j u (omega arith))
