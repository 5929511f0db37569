-- SOME BLOCK IS THE LAST for each record, where recovery is taken: of the room Recovering of specs/promises, that each record has one. Assumes nothing.
use mathlib.Core.Path.{◌≡◌, refl, sym, ap, subst, ◌∙◌}
use mathlib.Core.Bool.{Bool, true, false, false≢true}
use mathlib.Core.Logic.{◌⊎◌, inl, inr, ⊎_elim}
use mathlib.Core.List.{List}
use Prim.Native.Nat.{ℕ, zero, suc, ◌^◌, ◌<◌}
use native.Mathlib.Nat.{eq-or-lt_of_le, suc-le-suc_iff, le_refl}
use native.Mathlib.Decide.{ℕ_discrete}
use native.Mathlib.Omega.{arith}
use borrow.Author.Tests.{eq-eqb}
use Rattle.layout.specs.declared.Header.{Header}
use Rattle.layout.specs.Header.{width, has_stripe}
use Rattle.image.proofs.ImageRefusals.{whole}
use Rattle.judging.specs.Decoding.{Decoded, block_number}
use Rattle.recovery.specs.Recovery.{Layer, records}
use Rattle.recovery.specs.RecoveryCall.{recover_early, unnamed}
use Rattle.vault.specs.promises.Losses.{Needed}
use Rattle.vault.specs.promises.Recovering.{in_image, AllDecode, LastBlock, EachHasLast}
use Rattle.vault.proofs.LastBlocks.{AreBlocks, decoded_blocks, blocks_of, is_decoded}
use Rattle.vault.proofs.LastWrites.{Last, None}
use Rattle.vault.proofs.Recovering.{call_answer, when_taken}
use Rattle.vault.proofs.StripeCall.{needed_passes, passes_needed}

-- OF n NUMBERS f 0, f 1, .. one is the last that is i, or none is i
pub last_or_none : (f : ℕ → ℕ) (n i : ℕ) → ((t : ℕ) × Last f n i t) ⊎ None f n i
last_or_none f zero i = inr (λ u b. absurd (omega arith))
last_or_none f (suc n) i = go (ℕ_discrete (f n) i) (last_or_none f n i)
  where
    still : (f n ≡ i → ⊥) → (u : ℕ) → u < suc n → f u ≡ i → u < n
    still d u lt q = let ne : u ≡ n → ⊥ = λ z. d (ap f (sym z) ∙ q) in omega arith

    go : Dec (f n ≡ i) → ((t : ℕ) × Last f n i t) ⊎ None f n i → ((t : ℕ) × Last f (suc n) i t) ⊎ None f (suc n) i
    go (yes q) _ = inl (n, record { among = omega arith; to = q; last = λ u lt lt'. absurd (omega arith) })
    go (no d) (inl (t, a)) =
        inl (t, record { among = omega (arith, a.among); to = a.to; last = λ u lt lt' q. a.last u lt (still d u lt' q) q })
    go (no d) (inr none) = inr (λ u lt q. none u (still d u lt q) q)

-- OF NUMBERS WITH A PROPERTY that is decided there is a least one, if there is one at all
module _ (P : ℕ → Type 0) (decided : (l : ℕ) → P l ⊎ (P l → ⊥)) where
  abbrev Least : ℕ → Type 0
  Least l = P l × ((l' : ℕ) → l' < l → P l' → ⊥)

  least_below : (n : ℕ) → ((l : ℕ) × Least l) ⊎ ((l : ℕ) → l < n → P l → ⊥)
  least_below zero = inr (λ l b. absurd (omega arith))
  least_below (suc n) = ⊎_elim (λ z. inl z) (λ none. ⊎_elim (λ p. inl (n, (p, none))) (λ not_it. inr (one_more none not_it)) (decided n)) (least_below n)
    where
      one_more : ((l : ℕ) → l < n → P l → ⊥) → (P n → ⊥) → (l : ℕ) → l < suc n → P l → ⊥
      one_more none not_it l b p = ⊎_elim (λ q. not_it (subst P q p)) (λ lt. none l lt p) (eq-or-lt_of_le (suc-le-suc_iff.0 b))

  least : (n : ℕ) → P n → (l : ℕ) × Least l
  least n p = ⊎_elim (λ z. z) (λ none. (n, (p, none))) (least_below n)

-- WHERE ALL STRIPES DECODE, the least stripe that has a block for a record has its last block for it
module _ (h : Header) (d : ℕ → Decoded) (i : ℕ) (are : AreBlocks h d) (all : AllDecode h d) (b : i < 2 ^ h.k) where
  abbrev blocks : ℕ → List ℕ
  blocks l = blocks_of (d l)

  abbrev numbered : (stripe j : ℕ) → ℕ
  numbered l = block_number (width h) (blocks l)

  abbrev Found : ℕ → Type 0
  Found l = Needed h l × ((j : ℕ) × Last (numbered l) (2 ^ l) i j)

  needed_or_not : (l : ℕ) → Needed h l ⊎ (Needed h l → ⊥)
  needed_or_not l = go (has_stripe h l) refl
    where
      go : (t : Bool) → has_stripe h l ≡ t → Needed h l ⊎ (Needed h l → ⊥)
      go true q = inl (passes_needed h l q)
      go false q = inr (λ n. false≢true (sym q ∙ needed_passes h l n))

  abbrev search_of : (l : ℕ) → ((j : ℕ) × Last (numbered l) (2 ^ l) i j) ⊎ None (numbered l) (2 ^ l) i
  search_of l = last_or_none (numbered l) (2 ^ l) i

  found_or_not : (l : ℕ) → Found l ⊎ (Found l → ⊥)
  found_or_not l =
      ⊎_elim
      (λ n. ⊎_elim (λ z. inl (n, z)) (λ none. inr (λ z. none z.1.0 z.1.1.among z.1.1.to)) (search_of l))
      (λ not_it. inr (λ z. not_it z.0)) (needed_or_not l)

  found_full : Found h.k
  found_full =
      let n : Needed h h.k = inl (eq-eqb h.k h.k refl) in
      let K = are h.k (blocks h.k) (le_refl h.k) (is_decoded h d all h.k n) in
      (n, ⊎_elim (λ z. z) (λ none. absurd (none i b (K.place refl i b))) (search_of h.k))

  last_of : (l : ℕ) × (j : ℕ) × (bs : List ℕ) × LastBlock h d i l bs j
  last_of =
      let L = least Found found_or_not h.k found_full in
      let l : ℕ = L.0 in
      let n : Needed h l = L.1.0.0 in
      let j : ℕ = L.1.0.1.0 in
      let a : Last (numbered l) (2 ^ l) i j = L.1.0.1.1 in (
        l,
        j,
        blocks l,
        record {
          needed = n;
          decodes = is_decoded h d all l n;
          among = a.among;
          number = a.to;
          last = a.last;
          lowest = λ l' j' cs n' lt p b' q.
              let same : blocks l' ≡ cs = ap blocks_of p in
              let here : numbered l' j' ≡ i = ap (λ (c : List ℕ). block_number (width h) c j') same ∙ q in
              ⊎_elim (λ z. L.1.1 l' lt (n', z)) (λ none. none j' b' here) (search_of l');
        },
      )

-- and they all do where a call is taken
pub has_last : (h : Header) (d : ℕ → Decoded) (y : Layer) (early : ℕ) {i : ℕ} → (early ≡ 0 → AreBlocks h d) → call_answer h d y early ≡ unnamed 0
    → i < 2 ^ h.k → (l : ℕ) × (j : ℕ) × (bs : List ℕ) × LastBlock h d i l bs j
has_last h d y early {i} are taken = let t = when_taken h d y early taken in last_of h d i (are t.0) t.1

pub each_has_last : EachHasLast
each_has_last h m e out scratch i =
    has_last h (in_image h m e) (records h) (recover_early h m e out scratch) (λ z. decoded_blocks h m e (whole h m e _ z).fits)
