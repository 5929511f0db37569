-- EXPLAINING after any history: the image is that of a good round, and the call is taken. The number is 0 if every needed stripe keeps half, and else 7, with
-- the first that does not: a stripe that keeps half decodes, whatever is left of the others. Assumes nothing.
use mathlib.Core.Path.{◌≡◌, refl, sym, ap, ◌∙◌, subst}
use mathlib.Core.Bool.{Bool, true, false, false≢true}
use mathlib.Core.Logic.{◌⊎◌, inl, inr, ⊎_elim}
use mathlib.Core.List.{List}
use Prim.Native.Nat.{ℕ, zero, suc, ◌^◌, ◌≤◌, ◌<◌}
use native.Mathlib.Nat.{eq-or-lt_of_le, le_refl}
use native.Mathlib.Decide.{dec_lt}
use native.Mathlib.Omega.{arith}
use borrow.Author.Tests.{eqb-true, eq-eqb}
use lib.ListN.{length}
use Rattle.decoder.specs.Decoding.{survivors}
use Rattle.layout.specs.declared.Header.{Header}
use Rattle.layout.specs.Header.{scratch_size, image_size, is_filled, stripe_of}
use Rattle.store.specs.Buffers.{full_stripe, blocks_of}
use Rattle.image.specs.Image.{image_of}
use Rattle.image.specs.Erasures.{erasures_in, erasures_fit}
use Rattle.judging.specs.Decoding.{Decoded, failed, decoded}
use Rattle.judging.proofs.Proved as Decoding
use Rattle.stripe_decoding.specs.Decoding.{decode_stripe}
use Rattle.recovery.specs.Verdicts.{Verdict}
use Rattle.recovery.specs.Recovery.{Layer, Recovered, then_lay, levels_over, stripes_over}
use Rattle.recovery.specs.Origins.{origins_size, origins, explain}
use Rattle.recovery.specs.RecoveryCall.{unnamed, at_fault, answer_of}
use Rattle.explanation.specs.Counts.{counts_size}
use Rattle.explanation.specs.ExplainCall.{explain_early, explain_answer}
use Rattle.vault.specs.Event.{Opening, Event}
use Rattle.vault.specs.History.{Vault, vault_after, header_after, image_after}
use Rattle.vault.specs.Round.{Round, rows_of, round_of, round_header, level_entries, log_words}
use Rattle.vault.specs.promises.Decoding.{marks, words_in}
use Rattle.vault.specs.promises.Losses.{Needed, KeepsHalf, SameWords}
use Rattle.vault.specs.promises.Explaining.{FirstShort, Explained, ExplainsWhy}
use Rattle.field.proofs.Booleans.{both_true}
use Rattle.layout.proofs.Refusals.{test_holds, none_fails, equal_three, if_taken_lem}
use Rattle.vault.proofs.Rounds.{Good, header_fits_lem}
use Rattle.vault.proofs.Histories.{histories}
use Rattle.vault.proofs.StripeCall.{needed_within}
use Rattle.vault.proofs.RoundDecoding.{level_decodes, full_decodes}

-- an empty level is not needed
not_needed : (h : Header) (l : ℕ) → l < h.k → is_filled h l ≡ false → Needed h l → ⊥
not_needed h l b f (inl full) = omega (arith, eqb-true l h.k full)
not_needed h l b f (inr (lt, filled)) = false≢true (sym f ∙ filled)

-- WHY IT STOPS: what the promise says of an answer
abbrev Keeps : Header → (erasures : List ℕ) → (stripe : ℕ) → Type 0
Keeps h e l = 2 ^ l ≤ length (survivors l (marks h e l))

abbrev Why : Header → (erasures : List ℕ) → Verdict → Type 0
Why h e a = (KeepsHalf h e × (a ≡ unnamed 0)) ⊎ ((l : ℕ) × FirstShort h e l × (a ≡ at_fault 7 l))

-- where each needed stripe that keeps half decodes, and any other fails with 7; `above` says that all needed stripes before this one keep half
module _ (h : Header) (e : List ℕ) (d : ℕ → Decoded) (y : Layer) (decodes : (l : ℕ) → Needed h l → Keeps h e l → (bs : List ℕ) × (d l ≡ decoded bs))
    (fails : (l : ℕ) → length (survivors l (marks h e l)) < 2 ^ l → d l ≡ failed 7) where
  abbrev Above : ℕ → Type 0
  Above l = (j : ℕ) → Needed h j → l ≤ j → Keeps h e j

  then_why : (l : ℕ) → Needed h l → Above (suc l) → (next : List ℕ → Recovered) → ((bs : List ℕ) → Above l → Why h e (answer_of (next bs)))
      → Why h e (answer_of (then_lay l (d l) next))
  then_why l need above next rest = go (dec_lt (length (survivors l (marks h e l))) (2 ^ l))
    where
      go : Dec (length (survivors l (marks h e l)) < 2 ^ l) → Why h e (answer_of (then_lay l (d l) next))
      go (yes b) = rw (fails l b) (inr (l, record { needed = need; short = b; above = above }, refl))
      go (no b) =
          let keeps : Keeps h e l = omega arith in
          let t = decodes l need keeps in
          rw t.1 (rest t.0 (λ j n c. ⊎_elim (λ q. subst (λ (i : ℕ). Keeps h e i) q keeps) (above j n) (eq-or-lt_of_le c)))

  levels_why : (l : ℕ) (r : List ℕ) → l ≤ h.k → Above l → Why h e (answer_of (levels_over l h d y r))
  unfolding levels_over
  levels_why zero r b above = inl (record { half = λ j n. above j n (omega arith) }, refl)
  levels_why (suc l) r b above = go (is_filled h l) refl (λ x. levels_why l x (omega arith))
    where
      go : (f : Bool) → is_filled h l ≡ f → ((x : List ℕ) → Above l → Why h e (answer_of (levels_over l h d y x)))
          → Why h e (answer_of (levels_over (suc l) h d y r))
      go true f rest = rw (f, levels_over) (then_why l (inr (b, f)) above _ (λ bs. rest (y.over l bs r)))
      go false f rest =
          rw (f, levels_over)
          (rest r (λ j n c. ⊎_elim (λ q. absurd (not_needed h l b f (subst (λ (i : ℕ). Needed h i) (sym q) n))) (above j n) (eq-or-lt_of_le c)))

  stripes_why : Why h e (answer_of (stripes_over h d y))
  stripes_why =
      then_why h.k (inl (eq-eqb h.k h.k refl)) (λ j n b. absurd (omega (arith, needed_within h j n))) _
      (λ bs. levels_why h.k (y.full bs) (le_refl h.k))

-- WHAT IS EXPLAINED of a good round's image: the call is taken, and the image has the words that survive
pub record OfRound (a : Round) (m e n o s : List ℕ) : Type 0 where
  pub good : Good a
  pub taken : explain_early (round_header a) m e n o s ≡ 0
  pub same : SameWords (round_header a) e (image_of (full_stripe (round_header a) a.base) (log_words (round_header a) a.since a.k)) m

-- after any history it is that, and the header is the round's
module _ {o : Opening} {es : List Event} {m e n g s : List ℕ} (X : Explained o es m e n g s) where
  pub explained_header : header_after o es ≡ round_header (round_of o es)
  explained_header = ap (λ (v : Vault). v.header) (histories o es X.opens).vault_is

  pub explained_round : OfRound (round_of o es) m e n g s
  explained_round = go X.well_formed X.long X.words X.counts_long X.origins_long X.scratch_long
    where
      go : let h = header_after o es in erasures_fit h e ≡ true → length m ≡ image_size h → SameWords h e (image_after o es) m → length n ≡ counts_size h
          → length g ≡ origins_size h → length s ≡ scratch_size h → OfRound (round_of o es) m e n g s
      go =
          let t = histories o es X.opens in
          let h = round_header (round_of o es) in
          rw (header_after, image_after, vault_after, t.vault_is)
          (λ formed long same counted named room. record {
            good = t.good;
            taken =
                test_holds 1 _ (header_fits_lem t.good)
                ∙ test_holds 2 _ (both_true (eq-eqb (length m) (image_size h) long)
                (equal_three (length n) (counts_size h) (length g) (origins_size h) (length s) (scratch_size h) counted named room))
                ∙ test_holds 3 _ formed ∙ none_fails;
            same = same;
          })

-- its needed stripes decode where they keep half
module _ {a : Round} {m e n o s : List ℕ} (R : OfRound a m e n o s) where
  abbrev h : Header
  h = round_header a

  abbrev decoding : ℕ → Decoded
  decoding = decode_stripe h m (erasures_in e)

  needed_decodes : (l : ℕ) → Needed h l → Keeps h e l → (bs : List ℕ) × (decoding l ≡ decoded bs)
  needed_decodes l (inl full) half =
      let q : l ≡ a.k = eqb-true l a.k full in
      (blocks_of h a.base, rw q (full_decodes R.good e m (rw q at (R.same.same l (inl full))) (rw q at half)))
  needed_decodes l (inr (lt, filled)) half = (rows_of (level_entries h a.since l), level_decodes R.good e m l lt filled (R.same.same l (inr (lt, filled))) half)

  round_why : Why h e (explain_answer h m e n o s)
  round_why =
      rw (if_taken_lem (answer_of (explain h decoding)) (unnamed (explain_early h m e n o s)) R.taken)
      (stripes_why h e decoding (origins h) needed_decodes (λ l. ((Decoding.proved).seven_iff (stripe_of h l) (marks h e l) (words_in h m l)).1))

pub explains_why : ExplainsWhy
explains_why o es m e n g s X = rw (explained_header X) (round_why (explained_round X))
