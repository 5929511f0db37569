-- WHERE TAKING BACK FINDS the record's write before: the lowest filled level is where the search for the lowest bit ends, and what the promises call the write
-- before is what the search from there up comes to. Assumes nothing.
use mathlib.Core.Path.{◌≡◌, refl, ap, ap₂, ◌∙◌}
use mathlib.Core.Bool.{Bool, true, false}
use mathlib.Core.Logic.{inr, ⊎_elim}
use mathlib.Core.List.{List}
use Prim.Native.Nat.{ℕ, zero, suc, ◌+◌, ◌-◌, ◌/◌, ◌%◌, ◌^◌, ◌≤◌, ◌<◌}
use native.Mathlib.Nat.{pow-succ', div-div-eq-div-mul}
use native.Mathlib.Decide.{dec_lt}
use native.Mathlib.Omega.{arith}
use borrow.Author.Tests.{eqb-true, eq-eqb}
use Rattle.std.specs.Prelude.{Some, None}
use Rattle.layout.specs.declared.Header.{Header}
use Rattle.layout.specs.Header.{width, is_filled}
use Rattle.judging.specs.Decoding.{Decoded, decoded, block_data}
use Rattle.splitting.specs.Splitting.{first_filled, lowest_of}
use Rattle.splitting.proofs.FirstFilled.{filled_ends, filled_next}
use Rattle.taking_back.specs.TakingBack.{decode_held, last_of, found, found_at, find_from, find_before}
use Rattle.taking_back.proofs.BlockSearch.{last_here, last_before}
use Rattle.taking_back.proofs.FindingBack.{level_skip, level_looked, full_looked}
use Rattle.vault.specs.History.{Vault}
use Rattle.vault.specs.promises.Table.{IsStripe}
use Rattle.vault.specs.promises.TakingBack.{Lowest, number_at, taken_record, NoneFrom, Reached, WriteBefore, in_lowest, in_level, in_full}

-- THE LOWEST FILLED LEVEL
halved : (c l : ℕ) → c / 2 / 2 ^ l ≡ c / 2 ^ suc l
halved c l = rw pow-succ' (div-div-eq-div-mul c 2 (2 ^ l))

first_bit : (n a c l : ℕ) → l < n → c / 2 ^ l % 2 ≡ 1 → ((l' : ℕ) → l' < l → c / 2 ^ l' % 2 ≡ 0) → first_filled n a c ≡ a + l
first_bit zero a c l b o z = absurd (omega arith)
first_bit (suc n) a c zero b o z = filled_ends n a c (omega (arith, o)) ∙ omega arith
first_bit (suc n) a c (suc l) b o z =
    filled_next n a c (λ e. omega (arith, e, z 0 (omega arith)))
    ∙ first_bit n (suc a) (c / 2) l (omega arith) (rw halved o) (λ l' d. rw halved (z (suc l') (omega arith)))
    ∙ omega arith

pub lowest_is : (h : Header) (low : ℕ) → Lowest h low → lowest_of h ≡ low
lowest_is h low L = first_bit h.k 0 h.c low L.level L.filled L.below ∙ omega arith

-- THE LAST BLOCK of the first n that is record i's
module _ (h : Header) (bs : List ℕ) (i : ℕ) where
  pub last_none : (n : ℕ) → NoneFrom h bs i 0 n → last_of (width h) bs i n ≡ None
  unfolding last_of
  last_none zero f = refl
  last_none (suc n) f = last_before (width h) bs i n (f n (omega arith) (omega arith)) ∙ last_none n (λ j a b. f j a (omega arith))

  pub last_some : (n j : ℕ) → j < n → number_at h bs j ≡ i → NoneFrom h bs i (suc j) n → last_of (width h) bs i n ≡ Some j
  last_some zero j b e f = absurd (omega arith)
  last_some (suc n) j b e f = go (dec_lt j n) (λ d. last_some n j d e (λ x a c. f x a (omega arith)))
    where
      go : Dec (j < n) → (j < n → last_of (width h) bs i n ≡ Some j) → last_of (width h) bs i (suc n) ≡ Some j
      go (yes d) rest = last_before (width h) bs i n (f n (omega arith) (omega arith)) ∙ rest d
      go (no d) rest = let s : n ≡ j = omega arith in last_here (width h) bs i n (ap (number_at h bs) s ∙ e) ∙ ap (λ (x : ℕ). Some x) s

-- IN THE STRIPES ABOVE, from level a on: d is what each decodes to
module _ (h : Header) (d : ℕ → Decoded) (i : ℕ) where
  abbrev Passed : (stripe : ℕ) → Type 0
  Passed l = (cs : List ℕ) × (d l ≡ decoded cs) × NoneFrom h cs i 0 (2 ^ l)

  one_passed : (n a : ℕ) → (is_filled h a ≡ true → Passed a) → find_from (suc n) h d i a ≡ find_from n h d i (suc a)
  one_passed n a p = go (is_filled h a) refl
    where
      go : (b : Bool) → is_filled h a ≡ b → find_from (suc n) h d i a ≡ find_from n h d i (suc a)
      go false t = level_skip h d i n a t
      go true t = let c = p t in rw (level_looked h d i n a t, c.1, last_none h c.0 i (2 ^ a) c.2) refl

  pub all_passed : (m n a l : ℕ) → a + m ≡ l → l + n ≡ h.k → ((l' : ℕ) → a ≤ l' → l' < l → IsStripe h l' → Passed l')
      → find_from (h.k - a) h d i a ≡ find_from n h d i l
  all_passed zero n a l q e p = ap₂ (λ (x y : ℕ). find_from x h d i y) {x = h.k - a} {y = n} {u = a} {v = l} (omega arith) (omega arith)
  all_passed (suc m) n a l q e p =
      ap (λ (x : ℕ). find_from x h d i a) {x = h.k - a} {y = suc (h.k - suc a)} (omega arith)
      ∙ one_passed (h.k - suc a) a (λ t. p a (omega arith) (omega arith) (inr (omega arith, eqb-true (h.c / 2 ^ a % 2) 1 t)))
      ∙ all_passed m n (suc a) l (omega arith) e (λ l' c. p l' (omega arith))

-- THE SEARCH begins above the lowest filled level
module _ (v : Vault) (low : ℕ) (bs : List ℕ) where
  abbrev decoding : ℕ → Decoded
  decoding = decode_held v.header v.held.full v.held.log

  abbrev taken : ℕ
  taken = taken_record v.header low bs

  pub find_is : Lowest v.header low
      → find_before v.header decoding bs
      ≡ found_at (width v.header) bs (last_of (width v.header) bs taken (2 ^ low - 1)) (find_from (v.header.k - suc low) v.header decoding taken (suc low))
  find_is L = rw (lowest_is v.header low L) refl

  -- it comes to a stripe that is reached
  pub find_reaches : Lowest v.header low → (l n : ℕ) → l + n ≡ v.header.k → Reached v low bs l
      → find_before v.header decoding bs ≡ find_from n v.header decoding taken l
  find_reaches L l n e R =
      rw (find_is L, last_none v.header bs taken (2 ^ low - 1) R.not_there)
      (all_passed v.header decoding taken (l - suc low) n (suc low) l (omega (arith, R.above)) e (λ l' a b s. R.passed l' a b s))

pub before_found : (v : Vault) (low : ℕ) (bs : List ℕ) (j : ℕ) (cs : List ℕ) → Lowest v.header low → WriteBefore v low bs j cs
    → find_before v.header (decode_held v.header v.held.full v.held.log) bs ≡ found (block_data (width v.header) cs j)
before_found v low bs j cs L (in_lowest same b e f) =
    rw (find_is v low bs L, last_some v.header bs (taken v low bs) (2 ^ low - 1) j b e f, same) refl
before_found v low bs j cs L (in_level l R b is c e f) =
    let h = v.header in
    let n = h.k - suc l in
    let t : is_filled h l ≡ true = ⊎_elim (λ x. absurd (omega arith)) (λ x. eq-eqb (h.c / 2 ^ l % 2) 1 x.1) R.stripe in
    rw (find_reaches v low bs L l (suc n) (omega arith) R, level_looked h (decoding v low bs) (taken v low bs) n l t, is)
    (rw (last_some h cs (taken v low bs) (2 ^ l) j c e f) refl)
before_found v low bs j cs L (in_full R is e) =
    let h = v.header in
    rw (find_reaches v low bs L h.k 0 (omega arith) R, full_looked h (decoding v low bs) (taken v low bs) h.k, is, e) refl
