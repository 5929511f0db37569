-- ORIGINS: the stripes of a round's image, laid one over the other, name for each record the last write of the round to it and the level that holds it, or the
-- full stripe where the round has none; and no record has two origins. Assumes nothing.
use mathlib.Core.Path.{◌≡◌, refl, sym, ap, ◌∙◌, subst, subst₂}
use mathlib.Core.Bool.{true}
use mathlib.Core.Logic.{inl, inr, ⊎_elim}
use mathlib.Core.List.{List, [], ◌∷◌}
use Prim.Native.Nat.{ℕ, zero, suc, ◌+◌, ◌*◌, ◌/◌, ◌^◌, ◌≤◌, ◌<◌}
use native.Mathlib.Nat.{add-zero, add-suc, le_refl}
use native.Mathlib.Omega.{arith}
use lib.ListN.{length, get_or, drop}
use lib.Seq.{get_or-take, get_or-drop}
use Rattle.layout.specs.declared.Header.{Header}
use Rattle.layout.specs.Header.{record_count, width, is_filled, first_of}
use Rattle.image.specs.Erasures.{erasures_in}
use Rattle.judging.specs.Decoding.{block_number}
use Rattle.stripe_decoding.specs.Decoding.{decode_stripe}
use Rattle.range_laying.specs.Laid.{origins_laid}
use Rattle.recovery.specs.Origins.{origins_size, full_origins, origins}
use Rattle.explanation.specs.ExplainCall.{explain_origins}
use Rattle.vault.specs.Event.{Entry}
use Rattle.vault.specs.Round.{Round, rows_of, model_in, round_header, level_entries}
use Rattle.vault.specs.promises.Losses.{KeepsHalf}
use Rattle.vault.specs.promises.Explaining.{HoldsWrite, Origin, OriginsTrue, OneOrigin}
use Rattle.layout.proofs.StripePlaces.{first_level}
use Rattle.range_laying.proofs.PairLoops.{length_pairs, pair_at, same_pair}
use Rattle.vault.proofs.Levels.{filled_in}
use Rattle.vault.proofs.Laying.{no_entry, entry_at, number_at}
use Rattle.vault.proofs.Rounds.{Good, length_entries}
use Rattle.vault.proofs.Histories.{model_is}
use Rattle.vault.proofs.RoundDecoding.{level_taken, takes_one, round_decodes}
use Rattle.vault.proofs.RoundRecovery.{multiple_falls, multiple_filled, multiple_empty, multiple_all, multiple_none, stripes_keep}
use Rattle.vault.proofs.ExplainedRounds.{OfRound, explained_header, explained_round}
use Rattle.vault.proofs.LastWrites.{Written, written_none, written_more, one_last, numbers, last_write}

-- ONE ORIGIN. Of two filled levels the lower one holds later writes
later : (h : Header) (l l' : ℕ) → l < l' → l' < h.k → is_filled h l' ≡ true → first_of h l' + 2 ^ l' ≤ first_of h l
later h l l' b b' f =
    rw (first_level h l (λ q. omega arith), first_level h l' (λ q. omega arith), multiple_filled h.c l' f) (multiple_falls h.c (suc l) l' b)

one_level : {h : Header} {l l' t : ℕ} → HoldsWrite h l t → HoldsWrite h l' t → l ≡ l'
one_level {h} {l} {l'} p q =
    let below : l < l' → ⊥ = λ b. omega (arith, p, q, later h l l' b q.level q.filled) in
    let above : l' < l → ⊥ = λ b. omega (arith, p, q, later h l' l b p.level p.filled) in
    omega arith

pub one_origin : OneOrigin
one_origin h x i l t l' t' (inl (a, b)) (inl (c, d)) = let e = one_last a c in (one_level b (subst (λ (u : ℕ). HoldsWrite h l' u) (sym e) d), e)
one_origin h x i l t l' t' (inl (a, b)) (inr none) = absurd (none.0 t a.among a.to)
one_origin h x i l t l' t' (inr none) (inl (c, d)) = absurd (none.0 t' c.among c.to)
one_origin h x i l t l' t' (inr (a, b, c)) (inr (d, e, f)) = (b ∙ sym e, c ∙ sym f)

-- THE LEVELS of a round, from k down: when those from l on are laid, the pairs are those of the writes below the multiple of 2^l
module _ {a : Round} (good : Good a) where
  abbrev h : Header
  h = round_header a

  -- the pairs of the first n writes: what write t leaves is a level that holds it, and t
  abbrev Named : (n : ℕ) → (pairs : List ℕ) → Type 0
  Named n o = Written 2 (record_count h) (numbers (model_in a)) (λ t x. (l : ℕ) × HoldsWrite h l t × (x ≡ l ∷ t ∷ [])) (full_origins h) n o

  -- a filled level lays its writes
  module _ (l : ℕ) (b : l < a.k) (filled : is_filled h l ≡ true) where
    abbrev laid : (n : ℕ) → (pairs : List ℕ) → List ℕ
    laid n o = origins_laid (width h) l (first_of h l) (rows_of (level_entries h a.since l)) n o

    number_of : (j : ℕ) → j < 2 ^ l → block_number (width h) (rows_of (level_entries h a.since l)) j ≡ numbers (model_in a) (first_of h l + j)
    number_of j lt =
        number_at (level_taken good l) j (rw (length_entries good l b filled) lt)
        ∙ ap (λ (x : Entry). x.number) (get_or-take (2 ^ l) (drop (first_of h l) a.since) j no_entry lt ∙ get_or-drop (first_of h l) a.since j no_entry)

    lay_blocks : (o : List ℕ) → Named (first_of h l) o → (j : ℕ) → j ≤ 2 ^ l → Named (first_of h l + j) (laid j o)
    unfolding origins_laid
    lay_blocks o w zero lt = rw add-zero w
    lay_blocks o w (suc j) lt =
        let u = first_of h l + j in
        rw (number_of j lt, add-suc)
        (written_more (l ∷ u ∷ []) (lay_blocks o w j (omega arith)) (entry_at good.taken u (omega (arith, filled_in h l b filled))).within refl
        (l, record { level = b; filled = filled; starts = omega arith; ends = omega arith }, refl))

    lay_level : (o : List ℕ) → Named (h.c / 2 ^ suc l * 2 ^ suc l) o → Named (h.c / 2 ^ l * 2 ^ l) (laid (2 ^ l) o)
    lay_level o w =
        let first = first_level h l (λ q. omega arith) in
        subst (λ (n : ℕ). Named n (laid (2 ^ l) o)) (ap (λ (t : ℕ). t + 2 ^ l) first ∙ multiple_filled h.c l filled)
        (lay_blocks o (rw first w) (2 ^ l) (le_refl (2 ^ l)))

  -- the pair of each record is then its origin
  origin_at : (xs : List ℕ) → Named h.c xs → (i : ℕ) → i < 2 ^ a.k → Origin h (model_in a) i (get_or xs (2 * i) 0) (get_or xs (2 * i + 1) 0)
  origin_at xs w i b =
      ⊎_elim
      (λ y.
      let x = same_pair xs (y.2.0 ∷ y.0 ∷ []) i 0 y.2.2 in
      subst₂ (λ (l t : ℕ). Origin h (model_in a) i l t) (sym x.0) (sym x.1) (inl (last_write y.1, y.2.1)))
      (λ y.
      let x = same_pair xs (full_origins h) i i y.1 in
      let z = pair_at (λ j. a.k) (λ j. 0) (2 ^ a.k) i b in
      inr (y.0, x.0 ∙ z.0, x.1 ∙ z.1))
      (w.holds i)

  -- WHERE ALL STRIPES KEEP HALF explaining gives them
  explained : {m e n g s : List ℕ} → OfRound a m e n g s → KeepsHalf h e →
      let xs = explain_origins h m e n g s in
      (length xs ≡ origins_size h) × ((i : ℕ) → i < 2 ^ a.k → Origin h (model_in a) i (get_or xs (2 * i) 0) (get_or xs (2 * i + 1) 0))
  explained {m} {e} R K =
      let D = round_decodes good (decode_stripe h m (erasures_in e)) (takes_one K R.same) in
      let r = stripes_keep good D (origins h) (λ (l : ℕ) (o : List ℕ). Named (h.c / 2 ^ l * 2 ^ l) o)
      (λ l o b f w. lay_level l b f o w) (λ l o f w. rw (multiple_empty h.c l f) at w)
      (rw (multiple_none h.c a.k good.few) (written_none (length_pairs (λ i. a.k) (λ i. 0) (2 ^ a.k)))) in
      let w : Named h.c r.0 = rw (multiple_all h.c) at r.2 in
      rw (R.taken, r.1) (w.long, origin_at r.0 w)

pub origins_true : OriginsTrue
origins_true o es m e n g s X =
    let R = explained_round X in
    rw (explained_header X, model_is o es X.opens) (explained R.good R)
