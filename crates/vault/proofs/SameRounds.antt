-- What a round's stripes decode to fixes the round: the full stripe gives the records of its start, and the filled levels give the writes since. Assumes
-- nothing.
use mathlib.Core.Path.{◌≡◌, refl, sym, ap, ap₂, ◌∙◌, subst}
use mathlib.Core.Bool.{Bool, true, false}
use mathlib.Core.List.{List, ◌∷◌, ◌++◌}
use Prim.Native.Nat.{ℕ, zero, suc, ◌+◌, ◌^◌, ◌<◌}
use native.Mathlib.Omega.{arith}
use lib.ListN.{length, get_or, take, drop, replicate, length-drop}
use lib.Seq.{take_at, drop_at, length-take-le}
use Rattle.layout.specs.declared.Header.{Header}
use Rattle.layout.specs.Header.{raw_size, is_filled, first_of}
use Rattle.store.specs.Buffers.{blocks_of}
use Rattle.judging.specs.Decoding.{Decoded, decoded}
use Rattle.range_laying.specs.Laid.{laid}
use Rattle.vault.specs.Event.{Entry}
use Rattle.vault.specs.Round.{Round, rows_of, round_header, level_entries}
use Rattle.vault.proofs.Levels.{filled_in}
use Rattle.vault.proofs.Rounds.{AllTaken, none, more, Good, taken_take, taken_drop}
use Rattle.vault.proofs.RoundDecoding.{DecodesTo}
use Rattle.vault.proofs.RoundRecovery.{writes_from, writes_filled, writes_empty, writes_all, writes_none, lay_full}

-- the entry of a row, and the entries of rows
entry_in : List ℕ → Entry
entry_in row = record { number = get_or row 0 0; block = drop 1 row }

rows_same : {k s : ℕ} {xs ys : List Entry} → AllTaken k s xs → AllTaken k s ys → length xs ≡ length ys → rows_of xs ≡ rows_of ys → xs ≡ ys
unfolding rows_of entry_in
rows_same none none n e = refl
rows_same none (more f t) n e = absurd (omega arith)
rows_same (more f t) none n e = absurd (omega arith)
rows_same {s} (more {x = x} {xs = xs} f t) (more {x = y} {xs = ys} g u) n e =
    let row : List ℕ = x.number ∷ x.block in
    let row' : List ℕ = y.number ∷ y.block in
    let same : row ≡ row' =
    sym (take_at row (rows_of xs) (suc s) (ap suc f.long)) ∙ ap (take (suc s)) e ∙ take_at row' (rows_of ys) (suc s) (ap suc g.long) in
    let rest : rows_of xs ≡ rows_of ys =
    sym (drop_at row (rows_of xs) (suc s) (ap suc f.long)) ∙ ap (drop (suc s)) e ∙ drop_at row' (rows_of ys) (suc s) (ap suc g.long) in
    ap₂ ◌∷◌ (ap entry_in same) (rows_same t u (omega arith) rest)

module _ (h : Header) {xs ys : List Entry} (X : AllTaken h.k h.s xs) (Y : AllTaken h.k h.s ys) (long : length xs ≡ h.c) (long' : length ys ≡ h.c)
    (few : h.c < 2 ^ h.k) (rows : (l : ℕ) → l < h.k → is_filled h l ≡ true → rows_of (level_entries h xs l) ≡ rows_of (level_entries h ys l)) where
  level_same : (l : ℕ) → l < h.k → is_filled h l ≡ true → level_entries h xs l ≡ level_entries h ys l
  level_same l b f =
      rows_same (taken_take (2 ^ l) (taken_drop (first_of h l) X)) (taken_take (2 ^ l) (taken_drop (first_of h l) Y)) (size xs long ∙ sym (size ys long'))
      (rows l b f)
    where
      size : (zs : List Entry) → length zs ≡ h.c → length (level_entries h zs l) ≡ 2 ^ l
      size zs n = length-take-le (2 ^ l) (drop (first_of h l) zs) (rw length-drop (omega (arith, filled_in h l b f)))

  -- n levels from l on
  above_same : (n l : ℕ) → l + n ≡ h.k → writes_from h xs l ≡ writes_from h ys l
  above_same zero l e =
      let k : l ≡ h.k = omega arith in
      rw k (writes_none h xs few ∙ sym (writes_none h ys few))
  above_same (suc n) l e = go (is_filled h l) refl (above_same n (suc l) (omega arith))
    where
      go : (f : Bool) → is_filled h l ≡ f → writes_from h xs (suc l) ≡ writes_from h ys (suc l) → writes_from h xs l ≡ writes_from h ys l
      go true f up =
          let b : l < h.k = omega arith in
          sym (writes_filled h xs l b f) ∙ ap₂ ◌++◌ up (level_same l b f) ∙ writes_filled h ys l b f
      go false f up = sym (writes_empty h xs l f) ∙ up ∙ writes_empty h ys l f

  since_same : xs ≡ ys
  since_same = sym (writes_all h xs long) ∙ above_same h.k 0 (omega arith) ∙ writes_all h ys long'

-- a good round with this header, to whose blocks the stripes decode
pub record DecodesRound (h : Header) (d : ℕ → Decoded) (a : Round) : Type 0 where
  pub good : Good a
  pub header_is : h ≡ round_header a
  pub decodes : DecodesTo h a d

module _ {h : Header} {d : ℕ → Decoded} {a : Round} (D : DecodesRound h d a) where
  taken_in : AllTaken h.k h.s a.since
  taken_in = subst (λ (x : Header). AllTaken x.k x.s a.since) (sym D.header_is) D.good.taken

  few_in : h.c < 2 ^ h.k
  few_in = subst (λ (x : Header). x.c < 2 ^ x.k) (sym D.header_is) D.good.few

  long_in : length a.since ≡ h.c
  long_in = ap (λ (x : Header). x.c) (sym D.header_is)

  -- the records of its start are the blocks of the full stripe, laid over anything
  base_in : laid h.s (blocks_of h a.base) (2 ^ h.k) (replicate (raw_size h) 0) ≡ a.base
  base_in = subst (λ (x : Header). laid x.s (blocks_of x a.base) (2 ^ x.k) (replicate (raw_size x) 0) ≡ a.base) (sym D.header_is) (lay_full D.good)

-- there is only one
same_blocks : {d : Decoded} {bs cs : List ℕ} → d ≡ decoded bs → d ≡ decoded cs → bs ≡ cs
same_blocks p q = cc

round_with : (k s : ℕ) → (base : List ℕ) → (since : List Entry) → Round
round_with k s r xs = record { k = k; s = s; base = r; since = xs }

same_round : {a b : Round} → round_header a ≡ round_header b → a.base ≡ b.base → a.since ≡ b.since → a ≡ b
unfolding round_with
same_round {a} {b} p q r = ap (λ (h : Header). round_with h.k h.s a.base a.since) p ∙ ap₂ (round_with b.k b.s) q r

pub one_round : {h : Header} {d : ℕ → Decoded} {a b : Round} → DecodesRound h d a → DecodesRound h d b → a ≡ b
one_round {h} D E =
    let full = same_blocks D.decodes.full E.decodes.full in
    same_round (sym D.header_is ∙ E.header_is)
    (sym (base_in D) ∙ ap (λ (bs : List ℕ). laid h.s bs (2 ^ h.k) (replicate (raw_size h) 0)) full ∙ base_in E)
    (since_same h (taken_in D) (taken_in E) (long_in D) (long_in E) (few_in D)
    (λ l b filled. same_blocks (D.decodes.levels l b filled) (E.decodes.levels l b filled)))
