-- What the stripes of a round come to where they decode, for any layer: the full stripe gives the words of the round's start, and each filled level lays the
-- writes after those of the levels above it. So recovery gives the round's records. Assumes nothing.
use mathlib.Core.Path.{◌≡◌, refl, sym, ap, ◌∙◌}
use mathlib.Core.Bool.{Bool, true, false}
use mathlib.Core.List.{List, [], ◌++◌}
use Prim.Native.Nat.{ℕ, zero, suc, ◌+◌, ◌*◌, ◌-◌, ◌/◌, ◌%◌, ◌^◌, ◌≤◌, ◌<◌}
use native.Mathlib.Nat.{pow-succ', div-one, mul-one, zero-mul, mul_assoc, mul-le-mul_right, div-eq_of_lt, div-mul-le_self, le-div_iff_mul-le, le_refl}
use native.Mathlib.Omega.{arith}
use lib.Dec.{eqb}
use lib.Pow.{pow_pos, pow-add}
use lib.ListN.{length, take, drop, replicate, length-replicate}
use lib.Seq.{take_all, take-add}
use borrow.Author.Tests.{eqb-true, eqb-false}
use Rattle.layout.specs.declared.Header.{Header}
use Rattle.layout.specs.Header.{raw_size, is_filled}
use Rattle.store.specs.Buffers.{blocks_of}
use Rattle.judging.specs.Decoding.{Decoded, decoded}
use Rattle.range_laying.specs.Laid.{laid}
use Rattle.recovery.specs.Recovery.{Layer, Recovered, recovered, levels_over, stripes_over, records, recover}
use Rattle.vault.specs.Event.{Entry}
use Rattle.vault.specs.Round.{Round, put_all, rows_of, round_header, level_entries, records_in}
use Rattle.layout.proofs.Counting.{next_bit}
use Rattle.layout.proofs.StripePlaces.{first_level}
use Rattle.vault.proofs.Laying.{laid_put, put_all_lem}
use Rattle.vault.proofs.Rounds.{Good, put_append, length_entries}
use Rattle.vault.proofs.RoundDecoding.{start_taken, length_start, start_rows, level_taken, DecodesTo}

-- the multiple of 2^l below c is that of 2^(l+1), and 2^l more where bit l is 1
multiple : (c l : ℕ) → c / 2 ^ suc l * 2 ^ suc l + c / 2 ^ l % 2 * 2 ^ l ≡ c / 2 ^ l * 2 ^ l
multiple c l = rw (next_bit, pow-succ') (go (c / 2 ^ l) (2 ^ l))
  where
    go : (d m : ℕ) → d / 2 * (2 * m) + d % 2 * m ≡ d * m
    go d m = omega (arith, ap (λ (x : ℕ). x * m) {x = d} {y = d / 2 * 2 + d % 2} (omega arith))

-- it is no less than that of a higher power
pub multiple_falls : (c l m : ℕ) → l ≤ m → c / 2 ^ m * 2 ^ m ≤ c / 2 ^ l * 2 ^ l
multiple_falls c l m b =
    let e : 2 ^ (m - l) * 2 ^ l ≡ 2 ^ m = sym (pow-add 2 (m - l) l) ∙ ap (λ (x : ℕ). 2 ^ x) {x = m - l + l} {y = m} (omega arith) in
    let same : c / 2 ^ m * 2 ^ (m - l) * 2 ^ l ≡ c / 2 ^ m * 2 ^ m = mul_assoc (c / 2 ^ m) (2 ^ (m - l)) (2 ^ l) ∙ ap (λ (x : ℕ). c / 2 ^ m * x) e in
    let whole : c / 2 ^ m * 2 ^ (m - l) ≤ c / 2 ^ l = (le-div_iff_mul-le (pow_pos l)).1 (rw same (div-mul-le_self c (2 ^ m))) in
    rw same at (mul-le-mul_right (2 ^ l) whole)

pub multiple_filled : (c l : ℕ) → eqb (c / 2 ^ l % 2) 1 ≡ true → c / 2 ^ suc l * 2 ^ suc l + 2 ^ l ≡ c / 2 ^ l * 2 ^ l
multiple_filled c l e = omega (arith, multiple c l, ap (λ (x : ℕ). x * 2 ^ l) (eqb-true (c / 2 ^ l % 2) 1 e))

pub multiple_empty : (c l : ℕ) → eqb (c / 2 ^ l % 2) 1 ≡ false → c / 2 ^ suc l * 2 ^ suc l ≡ c / 2 ^ l * 2 ^ l
multiple_empty c l e =
    let z : c / 2 ^ l % 2 ≡ 0 = omega (arith, eqb-false (c / 2 ^ l % 2) 1 e) in
    omega (arith, multiple c l, ap (λ (x : ℕ). x * 2 ^ l) z)

-- it is c at level 0, and 0 at k
pub multiple_all : (c : ℕ) → c / 2 ^ 0 * 2 ^ 0 ≡ c
multiple_all c = mul-one (c / 1) ∙ div-one c

pub multiple_none : (c k : ℕ) → c < 2 ^ k → c / 2 ^ k * 2 ^ k ≡ 0
multiple_none c k b = ap (λ (n : ℕ). n * 2 ^ k) (div-eq_of_lt b) ∙ zero-mul (2 ^ k)

-- so the writes of the levels from l up are those of the levels above l, and then those that level l holds if it is filled
abbrev pub writes_from : Header → (since : List Entry) → (level : ℕ) → List Entry
writes_from h xs l = take (h.c / 2 ^ l * 2 ^ l) xs

pub writes_filled : (h : Header) (xs : List Entry) (l : ℕ) → l < h.k → is_filled h l ≡ true
    → writes_from h xs (suc l) ++ level_entries h xs l ≡ writes_from h xs l
writes_filled h xs l b f =
    let t = h.c / 2 ^ suc l * 2 ^ suc l in
    ap (λ (i : ℕ). take t xs ++ take (2 ^ l) (drop i xs)) (first_level h l (λ e. omega arith)) ∙ sym (take-add t (2 ^ l) xs)
    ∙ ap (λ (n : ℕ). take n xs) (multiple_filled h.c l f)

pub writes_empty : (h : Header) (xs : List Entry) (l : ℕ) → is_filled h l ≡ false → writes_from h xs (suc l) ≡ writes_from h xs l
writes_empty h xs l f = ap (λ (n : ℕ). take n xs) (multiple_empty h.c l f)

pub writes_all : (h : Header) (xs : List Entry) → length xs ≡ h.c → writes_from h xs 0 ≡ xs
writes_all h xs e = take_all (h.c / 2 ^ 0 * 2 ^ 0) xs (omega (arith, multiple_all h.c))

pub writes_none : (h : Header) (xs : List Entry) → h.c < 2 ^ h.k → writes_from h xs h.k ≡ []
writes_none h xs b = ap (λ (n : ℕ). take n xs) (multiple_none h.c h.k b)

-- WHERE THE FILLED LEVELS DECODE to some blocks: what holds of the words above them, and each level keeps as it is laid, holds of the words that they come to,
-- for any layer
module _ (h : Header) (d : ℕ → Decoded) (y : Layer) (blocks : ℕ → List ℕ) (P : ℕ → List ℕ → Type 0)
    (decodes : (l : ℕ) → l < h.k → is_filled h l ≡ true → d l ≡ decoded (blocks l))
    (over : (l : ℕ) (r : List ℕ) → l < h.k → is_filled h l ≡ true → P (suc l) r → P l (y.over l (blocks l) r))
    (past : (l : ℕ) (r : List ℕ) → is_filled h l ≡ false → P (suc l) r → P l r) where
  abbrev Comes : Recovered → Type 0
  Comes x = (r : List ℕ) × (x ≡ recovered r) × P 0 r

  pub levels_keep : (l : ℕ) (r : List ℕ) → l ≤ h.k → P l r → Comes (levels_over l h d y r)
  unfolding levels_over
  levels_keep zero r b p = (r, refl, p)
  levels_keep (suc l) r b p = go (is_filled h l) refl (λ x. levels_keep l x (omega arith))
    where
      go : (f : Bool) → is_filled h l ≡ f → ((x : List ℕ) → P l x → Comes (levels_over l h d y x)) → Comes (levels_over (suc l) h d y r)
      go true f rest = rw (f, levels_over, decodes l b f) (rest (y.over l (blocks l) r) (over l r b f p))
      go false f rest = rw (f, levels_over) (rest r (past l r f p))

module _ {a : Round} (good : Good a) where
  abbrev h : Header
  h = round_header a

  -- the records when all levels from l up are laid
  abbrev records_from : ℕ → List ℕ
  records_from l = put_all a.s a.base (writes_from h a.since l)

  pub lay_full : laid a.s (blocks_of h a.base) (2 ^ a.k) (replicate (raw_size h) 0) ≡ a.base
  lay_full =
      let z : List ℕ = replicate (raw_size h) 0 in
      ap (λ (x : List ℕ). laid a.s x (2 ^ a.k) z) (start_rows good) ∙ laid_put (start_taken good) z (2 ^ a.k) (length_start good)
      ∙ put_all_lem a.k a.s a.base good.base_long z (length-replicate (raw_size h) 0)

  lay_level : (l : ℕ) → l < a.k → is_filled h l ≡ true
      → laid a.s (rows_of (level_entries h a.since l)) (2 ^ l) (records_from (suc l)) ≡ records_from l
  lay_level l b f =
      laid_put (level_taken good l) (records_from (suc l)) (2 ^ l) (length_entries good l b f)
      ∙ sym (put_append a.s a.base (writes_from h a.since (suc l)) (level_entries h a.since l))
      ∙ ap (put_all a.s a.base) (writes_filled h a.since l b f)

  module _ {d : ℕ → Decoded} (D : DecodesTo h a d) where
    -- THE STRIPES OF A ROUND that decode: what holds of the words of its start, and the writes of each filled level keep, for any layer
    pub stripes_keep : (y : Layer) (P : ℕ → List ℕ → Type 0)
        → ((l : ℕ) (r : List ℕ) → l < a.k → is_filled h l ≡ true → P (suc l) r → P l (y.over l (rows_of (level_entries h a.since l)) r))
        → ((l : ℕ) (r : List ℕ) → is_filled h l ≡ false → P (suc l) r → P l r) → P a.k (y.full (blocks_of h a.base))
        → (r : List ℕ) × (stripes_over h d y ≡ recovered r) × P 0 r
    stripes_keep y P over past p =
        rw D.full
        (levels_keep h d y (λ (l : ℕ). rows_of (level_entries h a.since l)) P D.levels over past a.k (y.full (blocks_of h a.base)) (le_refl a.k) p)

    pub recover_round : recover h d ≡ recovered (records_in a)
    unfolding put_all
    recover_round =
        let puts = put_all a.s a.base in
        let t = stripes_keep (records h) (λ (l : ℕ) (r : List ℕ). r ≡ records_from l)
        (λ l r b f p. ap (laid a.s (rows_of (level_entries h a.since l)) (2 ^ l)) p ∙ lay_level l b f)
        (λ l r f p. p ∙ ap puts (writes_empty h a.since l f)) (lay_full ∙ ap puts (sym (writes_none h a.since good.few))) in
        t.1 ∙ ap recovered (t.2 ∙ ap puts (writes_all h a.since refl))
