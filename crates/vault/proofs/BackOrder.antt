-- THE ORDER IN WHICH TAKING BACK LOOKS at the stripes: it ends at the first one that fails, with that number, or at the record's write before, and then it is
-- taken; and it depends on the stripes that are reached alone. The room TakingBack of specs/promises. Assumes nothing.
use mathlib.Core.Path.{◌≡◌, refl, sym, ap, ◌∙◌, subst}
use mathlib.Core.Bool.{Bool, true, false, false≢true}
use mathlib.Core.Logic.{◌⊎◌, inl, inr, ⊎_elim}
use mathlib.Core.List.{List}
use Prim.Native.Nat.{ℕ, zero, suc, ◌+◌, ◌-◌, ◌/◌, ◌%◌, ◌^◌, ◌<◌}
use native.Mathlib.Nat.{eq-or-lt_of_le, suc-le-suc_iff}
use native.Mathlib.Omega.{arith}
use borrow.Author.Tests.{eqb-true, eq-eqb}
use Rattle.layout.specs.declared.Header.{Header}
use Rattle.layout.specs.Header.{width, is_filled, stripe_of}
use Rattle.layout.proofs.Refusals.{if_taken_lem}
use Rattle.judging.specs.Decoding.{Decoded, failed, decoded, block_data}
use Rattle.store.specs.Buffers.{Buffers}
use Rattle.taking_back.specs.TakingBack.{stripe_held, none_erased, decode_held, fails, find_from}
use Rattle.taking_back.specs.TakingBack.{TakenBack, stopped, goes, with_words, with_blocks, number_back}
use Rattle.taking_back.specs.TakeBackCall.{take_back_early, take_back_comes}
use Rattle.vault.specs.Event.{take_back}
use Rattle.vault.specs.History.{Vault, vault, number_on}
use Rattle.vault.specs.promises.Table.{IsStripe, NoRow}
use Rattle.vault.specs.promises.Numbers.{BackRows}
use Rattle.vault.specs.promises.TakingBack.{Lowest, HeldDecodes, HeldFails, number_at, taken_record, NoneFrom, Reached}
use Rattle.vault.specs.promises.TakingBack.{WriteBefore, in_lowest, in_level, in_full, BackStopsIff, BackGoesIff}
use Rattle.vault.proofs.BackFinds.{lowest_is, find_reaches, before_found}
use Rattle.vault.proofs.BackNumbers.{back_early_iff}
use Rattle.vault.proofs.ImageNumbers.{FailsSo, rows_fail}
use Rattle.vault.proofs.SomeLast.{last_or_none}
use Rattle.vault.proofs.StripeCall.{needed_within}
use Rattle.vault.proofs.Table.{needed_iff}

-- what each stripe of a vault decodes to
abbrev decoding : Vault → ℕ → Decoded
decoding v = decode_held v.header v.held.full v.held.log

-- WHERE THE SEARCH ENDS, for the blocks bs of the lowest filled level
module _ (v : Vault) (low : ℕ) (bs : List ℕ) where
  abbrev taken : ℕ
  taken = taken_record v.header low bs

  abbrev Stops : Type 0
  Stops = (n : ℕ) × (l : ℕ) × Reached v low bs l × HeldFails v l n

  abbrev Finds : Type 0
  Finds = (j : ℕ) × (cs : List ℕ) × WriteBefore v low bs j cs

  -- of the stripes before l, from the one above the lowest filled level, none ends it
  abbrev PassedTo : ℕ → Type 0
  PassedTo l =
      (l' : ℕ) → low < l' → l' < l → IsStripe v.header l' → (cs : List ℕ) × HeldDecodes v l' cs × NoneFrom v.header cs taken 0 (2 ^ l')

  passed_more : (l : ℕ) → PassedTo l → (IsStripe v.header l → (cs : List ℕ) × HeldDecodes v l cs × NoneFrom v.header cs taken 0 (2 ^ l)) → PassedTo (suc l)
  passed_more l p here l' a b s =
      ⊎_elim (λ e. subst (λ (x : ℕ). IsStripe v.header x → (cs : List ℕ) × HeldDecodes v x cs × NoneFrom v.header cs taken 0 (2 ^ x)) (sym e) here s)
      (λ lt. p l' a lt s) (eq-or-lt_of_le (suc-le-suc_iff.0 b))

  module _ (clear : NoneFrom v.header bs taken 0 (2 ^ low - 1)) where
    reached : (l : ℕ) → low < l → IsStripe v.header l → PassedTo l → Reached v low bs l
    reached l a s p = record { above = a; stripe = s; not_there = clear; passed = p }

    at_full : Reached v low bs v.header.k → (x : Decoded) → decoding v v.header.k ≡ x → Stops ⊎ Finds
    at_full r (failed n) e = inl (n, v.header.k, r, e)
    at_full r (decoded cs) e = inr (taken, cs, in_full r e refl)

    at_level : (l : ℕ) → Reached v low bs l → l < v.header.k → (x : Decoded) → decoding v l ≡ x
        → ((cs : List ℕ) → HeldDecodes v l cs → NoneFrom v.header cs taken 0 (2 ^ l) → Stops ⊎ Finds) → Stops ⊎ Finds
    at_level l r b (failed n) e next = inl (n, l, r, e)
    at_level l r b (decoded cs) e next =
        ⊎_elim (λ t. inr (t.0, cs, in_level l r b e t.1.among t.1.to (λ j a c q. t.1.last j a c q)))
        (λ none. next cs e (λ j a c q. none j c q)) (last_or_none (number_at v.header cs) (2 ^ l) taken)

    from_level : (n l : ℕ) → l + n ≡ v.header.k → low < l → PassedTo l → Stops ⊎ Finds
    from_level zero l e a p =
        let q : l ≡ v.header.k = omega arith in
        at_full (reached v.header.k (omega arith) (inl refl) (subst PassedTo q p)) (decoding v v.header.k) refl
    from_level (suc n) l e a p = go (is_filled v.header l) refl (λ more. from_level n (suc l) (omega arith) (omega arith) more)
      where
        go : (z : Bool) → is_filled v.header l ≡ z → (PassedTo (suc l) → Stops ⊎ Finds) → Stops ⊎ Finds
        go true t rest =
            at_level l (reached l a (inr (omega arith, eqb-true (v.header.c / 2 ^ l % 2) 1 t)) p) (omega arith) (decoding v l) refl
            (λ cs q none. rest (passed_more l p (λ s. (cs, q, none))))
        go false t rest =
            rest (passed_more l p (λ s. absurd (⊎_elim (λ q. omega arith) (λ q. false≢true (sym t ∙ eq-eqb (v.header.c / 2 ^ l % 2) 1 q.1)) s)))

  ends : low < v.header.k → Stops ⊎ Finds
  ends b =
      ⊎_elim (λ t. inr (t.0, bs, in_lowest refl t.1.among t.1.to (λ j a c q. t.1.last j a c q)))
      (λ none. from_level (λ j a c q. none j c q) (v.header.k - suc low) (suc low) (omega arith) (omega arith) (λ l' a c s. absurd (omega arith)))
      (last_or_none (number_at v.header bs) (2 ^ low - 1) taken)

-- A STRIPE THAT IS REACHED AND FAILS ends it
module _ (h : Header) (d : ℕ → Decoded) (i l m : ℕ) (f : d l ≡ failed m) where
  fails_here : (n : ℕ) → l + n ≡ h.k → IsStripe h l → find_from n h d i l ≡ fails m
  unfolding find_from
  fails_here zero e s = let q : h.k ≡ l = omega arith in rw (q, f, find_from) refl
  fails_here (suc n) e s =
      let t : is_filled h l ≡ true = ⊎_elim (λ q. absurd (omega arith)) (λ q. eq-eqb (h.c / 2 ^ l % 2) 1 q.1) s in
      rw (t, f, find_from) refl

-- no number of a stripe is 0
fails_over : (v : Vault) (l : ℕ) {n : ℕ} → HeldFails v l n → 0 < n
fails_over v l {n} f =
    let h = v.header in
    let t : FailsSo (failed n) = subst FailsSo f (rows_fail (stripe_of h l) none_erased (stripe_held h v.held.full v.held.log l)) in
    omega (arith, t.0)

-- WHAT IT COMES TO
module _ (v : Vault) (low : ℕ) where
  abbrev comes : TakenBack
  comes = take_back_comes v.header v.held

  abbrev StopsWith : ℕ → Type 0
  StopsWith n = HeldFails v low n ⊎ ((bs : List ℕ) × (l : ℕ) × HeldDecodes v low bs × Reached v low bs l × HeldFails v l n)

  abbrev Goes : Type 0
  Goes = (bs : List ℕ) × (j : ℕ) × (cs : List ℕ) × HeldDecodes v low bs × WriteBefore v low bs j cs

  module _ (L : Lowest v.header low) where
    either_way : ((n : ℕ) × StopsWith n) ⊎ Goes
    either_way = go (decoding v low) refl
      where
        go : (x : Decoded) → decoding v low ≡ x → ((n : ℕ) × StopsWith n) ⊎ Goes
        go (failed n) e = inl (n, inl e)
        go (decoded bs) e = ⊎_elim (λ t. inl (t.0, inr (bs, t.1, e, t.2, t.3))) (λ t. inr (bs, t.0, t.1, e, t.2)) (ends v low bs L.level)

    comes_low : (x : Decoded) → decoding v low ≡ x → comes ≡ with_blocks v.header (decoding v) x
    comes_low x e = rw (lowest_is v.header low L, e) refl

    comes_stopped : (n : ℕ) → StopsWith n → comes ≡ stopped n
    comes_stopped n (inl f) = comes_low (failed n) f
    comes_stopped n (inr (bs, l, e, r, f)) =
        let h = v.header in
        let w = needed_within h l ((needed_iff h l).1 r.stripe) in
        comes_low (decoded bs) e
        ∙ ap (with_words bs) (find_reaches v low bs L l (h.k - l) (omega arith) r
        ∙ fails_here h (decoding v) (taken v low bs) l n f (h.k - l) (omega arith) r.stripe)

    pub comes_goes : (bs : List ℕ) (j : ℕ) (cs : List ℕ) → HeldDecodes v low bs → WriteBefore v low bs j cs
        → comes ≡ goes bs (block_data (width v.header) cs j)
    comes_goes bs j cs e w = comes_low (decoded bs) e ∙ ap (with_words bs) (before_found v low bs j cs L w)

pub number_comes : (v : Vault) (scratch : List ℕ) → NoRow (BackRows v scratch)
    → number_on v (take_back scratch) ≡ number_back (take_back_comes v.header v.held)
number_comes v scratch none = if_taken_lem _ (take_back_early v.header v.held scratch) ((back_early_iff v scratch).1 none)

pub back_stops_iff : BackStopsIff
back_stops_iff v scratch low n none L z =
    let e = number_comes v scratch none in (
      λ q. ⊎_elim (λ s. subst (StopsWith v low) (sym (ap number_back (comes_stopped v low L s.0 s.1)) ∙ sym e ∙ q) s.1)
          (λ g. absurd (omega (arith, e, q, ap number_back (comes_goes v low L g.0 g.1 g.2 g.3 g.4)))) (either_way v low L),
      λ s. e ∙ ap number_back (comes_stopped v low L n s),
    )

stops_over : (v : Vault) (low : ℕ) {n : ℕ} → StopsWith v low n → 0 < n
stops_over v low (inl f) = fails_over v low f
stops_over v low (inr (bs, l, e, r, f)) = fails_over v l f

pub back_goes_iff : BackGoesIff
back_goes_iff v scratch low none L =
    let e = number_comes v scratch none in (
      λ q. ⊎_elim (λ s. absurd (omega (arith, e, q, ap number_back (comes_stopped v low L s.0 s.1), stops_over v low s.1))) (λ g. g) (either_way v low L),
      λ g. e ∙ ap number_back (comes_goes v low L g.0 g.1 g.2 g.3 g.4),
    )

-- OTHER BUFFERS with the same header, whose stripes are the same where they are reached
module _ (v : Vault) (u : Buffers) (low : ℕ) where
  abbrev other : Vault
  other = vault v.header u

  abbrev pub Agree : ℕ → Type 0
  Agree l = decoding v l ≡ decoding other l

  module _ (bs : List ℕ) (same : (l : ℕ) → Reached v low bs l → Agree l) where
    -- the stripes before one that is reached are reached
    reached_before : (l l' : ℕ) → Reached v low bs l → low < l' → l' < l → IsStripe v.header l' → Reached v low bs l'
    reached_before l l' r a b s =
        record { above = a; stripe = s; not_there = r.not_there; passed = λ x c d t. r.passed x c (omega arith) t }

    reached_there : (l : ℕ) → Reached v low bs l → Reached other low bs l
    reached_there l r = record {
      above = r.above;
      stripe = r.stripe;
      not_there = r.not_there;
      passed = λ l' a b s. let t = r.passed l' a b s in (t.0, sym (same l' (reached_before l l' r a b s)) ∙ t.1, t.2);
    }

    pub found_there : (j : ℕ) (cs : List ℕ) → WriteBefore v low bs j cs → WriteBefore other low bs j cs
    found_there j cs (in_lowest e b t f) = in_lowest e b t f
    found_there j cs (in_level l r b e c t f) = in_level l (reached_there l r) b (sym (same l r) ∙ e) c t f
    found_there j cs (in_full r e t) = in_full (reached_there v.header.k r) (sym (same v.header.k r) ∙ e) t

  module _ (L : Lowest v.header low) (lowest : Agree low) (same : (bs : List ℕ) (l : ℕ) → HeldDecodes v low bs → Reached v low bs l → Agree l) where
    stops_there : (n : ℕ) → StopsWith v low n → StopsWith other low n
    stops_there n (inl f) = inl (sym lowest ∙ f)
    stops_there n (inr (bs, l, e, r, f)) =
        let a = λ (l : ℕ) (r : Reached v low bs l). same bs l e r in
        inr (bs, l, sym lowest ∙ e, reached_there bs a l r, sym (a l r) ∙ f)

    pub comes_same : comes v low ≡ comes other low
    comes_same =
        ⊎_elim (λ s. comes_stopped v low L s.0 s.1 ∙ sym (comes_stopped other low L s.0 (stops_there s.0 s.1)))
        (λ g. let there = found_there g.0 (λ l r. same g.0 l g.3 r) g.1 g.2 g.4 in
        comes_goes v low L g.0 g.1 g.2 g.3 g.4 ∙ sym (comes_goes other low L g.0 g.1 g.2 (sym lowest ∙ g.3) there)) (either_way v low L)
