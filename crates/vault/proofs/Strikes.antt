-- STRIKES after histories, the room Strikes of specs/promises: what a strike does, what a record is as last written, where it reads as struck, and a strike's
-- origin. Assumes nothing.
use mathlib.Core.Path.{◌≡◌, refl, sym, ap, ◌∙◌, subst}
use mathlib.Core.Bool.{true, false}
use mathlib.Core.Logic.{◌⊎◌, inl, inr}
use mathlib.Core.List.{List, [], ◌∷◌, ◌++◌}
use Prim.Native.Nat.{ℕ, zero, suc, ◌+◌, ◌*◌, ◌^◌, ◌≤◌, ◌<◌}
use native.Mathlib.Nat.{add-zero}
use native.Mathlib.Omega.{arith}
use lib.Dec.{eqb, ltb}
use lib.ListN.{length, get_or, replicate, length-append, length-replicate, get_or-replicate}
use lib.Seq.{get_or-append-add}
use borrow.Author.Tests.{ne_eqb, lt-ltb}
use Rattle.field.proofs.Booleans.{if_else_true, if_else_false}
use Rattle.layout.specs.declared.Header.{Header}
use Rattle.layout.specs.Records.{record_in}
use Rattle.layout.proofs.RecordWords.{data_words}
use Rattle.layout.proofs.Refusals.{if_taken_lem}
use Rattle.explanation.specs.ExplainCall.{explain_origins}
use Rattle.store.proofs.OpenRefusals.{open_taken}
use Rattle.vault.specs.Event.{Opening, Entry, Event, write, earlier, strike}
use Rattle.vault.specs.Model.{Model, writes, words_fit, judged, table_number, struck, entered, opened_model, model_of, LastWrite}
use Rattle.vault.specs.History.{Opens, header_after}
use Rattle.vault.specs.Standing.{with_next, standing_from, standing, NoneTo, LastTo}
use Rattle.vault.specs.promises.Explaining.{Origin, HoldsWrite}
use Rattle.vault.specs.promises.Histories.{Puts}
use Rattle.vault.specs.promises.Strikes.{StrikeTaken, StillFive, StandingBegins, StandingGrows, AsLastWritten, LastOrNone, ReadsStruck, StrikeExplained}
use Rattle.vault.specs.promises.Table.{IsStruck}
use Rattle.vault.proofs.Rounds.{fit_sizes}
use Rattle.vault.proofs.Histories.{data_fit, header_is, numbers_are, fed_more, sizes_kept}
use Rattle.vault.proofs.ModelSteps.{model_puts}
use Rattle.vault.proofs.Leaving.{reads_model}
use Rattle.vault.proofs.LastWrites.{one_last}
use Rattle.vault.proofs.Laying.{no_entry}
use Rattle.vault.proofs.Origins.{origins_true}
use Rattle.vault.proofs.Judged.{Entered, judged_words}
use Rattle.vault.proofs.Standing.{Stands, Keeps, keeps, stays_refused, grows_taken, puts_stands, strike_stands, last_or_none_to, last_stands}
use Rattle.vault.proofs.Standing.{last_holds, none_holds}

-- AS LAST WRITTEN, by what stands
module _ (o : Opening) (es : List Event) (O : Opens o) where
  long : length o.raw ≡ 2 ^ o.k * o.s
  long = (open_taken o.k o.s o.raw o.full o.log O).raw_long

  kept : Keeps o (model_of o es) (standing o es)
  kept = keeps o long es

  some_words : 1 ≤ (model_of o es).s
  some_words = rw kept.s_is ((fit_sizes o.k o.s 0 (open_taken o.k o.s o.raw o.full o.log O).fitting).s_low)

-- what stands, event by event
pub standing_begins : StandingBegins
unfolding standing_from
standing_begins o = refl

pub standing_grows : StandingGrows
standing_grows o es next = (
  stays_refused o es next,
  λ i b p e. grows_taken o es next e ∙ puts_stands (model_of o es).s next i b (standing o es) p,
  λ scratch q e. grows_taken o es next e ∙ ap (λ (x : Event). with_next x (standing o es)) q,
)

pub as_last_written : AsLastWritten
as_last_written o es i O b =
    let t = kept o es O in
    subst
    (λ (s : ℕ). ((next : Event) (b : List ℕ) → LastTo (standing o es) i next → Puts s next i b → record_in s (model_of o es).records i ≡ b) ×
    (NoneTo (standing o es) i → record_in s (model_of o es).records i ≡ record_in s o.raw i))
    (sym t.s_is) (last_holds (long o es O) t i, none_holds (long o es O) t i)

pub last_or_none : LastOrNone
last_or_none o es i O = last_or_none_to (model_of o es).s i (standing o es)

-- A STRIKE is taken, and is the last to its record then
strike_fits : (m : Model) (i : ℕ) → i < 2 ^ m.k → table_number m (strike i) ≡ 0
strike_fits m i b = if_else_true (ltb i (2 ^ m.k)) 0 4 (lt-ltb i (2 ^ m.k) b)

pub strike_taken : StrikeTaken
strike_taken o es i O b =
    let m = model_of o es in
    let then = es ++ (strike i ∷ []) in
    let z = strike_fits m i b in
    let same = sizes_kept o es (strike i) in
    let words = replicate (model_of o then).s 65536 in
    let puts = model_puts o es (strike i) i (replicate m.s 65536) O (inr (inr (refl, refl))) z in
    let held = (as_last_written o then i O (rw same.0 b)).0 (strike i) words (strike_stands o es i z) (inr (inr (refl, refl))) in (
      numbers_are o es (strike i) O ∙ z,
      z,
      subst (λ (s : ℕ). record_in s (model_of o then).records i ≡ replicate s 65536) same.1 held,
      puts.2,
      puts.3,
    )

-- A WRITE OF WHAT IT PUTS THERE has no data words
no_data : (s : ℕ) → 1 ≤ s → words_fit (replicate s 65536) ≡ false
unfolding words_fit
no_data zero h = absurd (omega arith)
no_data (suc s) h = refl

judged_five : (m : Model) (i n : ℕ) → 1 ≤ m.s → i < 2 ^ m.k → judged m i (replicate m.s 65536) n ≡ 5
judged_five m i n h b =
    let words : List ℕ = replicate m.s 65536 in
    judged_words m i words n (length-replicate m.s 65536) b ∙ if_else_false (words_fit words) n 5 (no_data m.s h)

pub still_five : StillFive
still_five o es i O b =
    let m = model_of o es in
    let words = replicate m.s 65536 in
    let some = some_words o es O in
    (numbers_are o es (write i words) O ∙ judged_five m i _ some b, numbers_are o es (earlier i words) O ∙ judged_five m i 0 some b)

-- READING: what is struck was not written, since what a write enters are data words
module _ (s : ℕ) (b r : List ℕ) (some : 1 ≤ s) (holds : r ≡ b) (all : IsStruck s (λ q. get_or r q 0)) where
  not_written : words_fit b ≡ true → ⊥
  not_written e = absurd (omega (arith, (data_words b (data_fit b ∙ e)).word 0, ap (λ (x : List ℕ). get_or x 0 0) holds, all 0 some))

  is_strike : (k i : ℕ) (next : Event) → Stands k s next → Puts s next i b → next ≡ strike i
  is_strike k i next a (inl q) = let e : Entered k s i b = subst (Stands k s) q a in absurd (not_written e.words)
  is_strike k i next a (inr (inl q)) = let e : Entered k s i b = subst (Stands k s) q a in absurd (not_written e.words)
  is_strike k i next a (inr (inr (q, e))) = q

module _ (o : Opening) (es : List Event) (i : ℕ) (O : Opens o) (b : i < 2 ^ (model_of o es).k) where
  abbrev m : Model
  m = model_of o es

  abbrev ws : List Event
  ws = standing o es

  abbrev word_of : (raw : List ℕ) → (q : ℕ) → ℕ
  word_of r q = get_or (record_in m.s r i) q 0

  abbrev LastStrike : Type 0
  LastStrike = LastTo ws i (strike i) ⊎ (NoneTo ws i × IsStruck m.s (word_of o.raw))

  struck_by : IsStruck m.s (word_of m.records) → LastStrike
  struck_by w = go (last_or_none o es i O)
    where
      t : Keeps o m ws
      t = kept o es O

      go : ((next : Event) × (b : List ℕ) × LastTo ws i next × Puts m.s next i b) ⊎ NoneTo ws i → LastStrike
      go (inl (next, b', l, p)) =
          let a = subst (λ (s : ℕ). Stands o.k s next) (sym t.s_is) (last_stands (long o es O) t i l) in
          let held = (as_last_written o es i O b).0 next b' l p in
          inl (subst (LastTo ws i) (is_strike m.s b' (record_in m.s m.records i) (some_words o es O) held w o.k i next a p) l)
      go (inr none) = inr (none, λ q lt. ap (λ (x : List ℕ). get_or x q 0) (sym ((as_last_written o es i O b).1 none)) ∙ w q lt)

  by_struck : LastStrike → IsStruck m.s (word_of m.records)
  by_struck (inl l) =
      let held = (as_last_written o es i O b).0 (strike i) (replicate m.s 65536) l (inr (inr (refl, refl))) in
      λ q lt. ap (λ (x : List ℕ). get_or x q 0) held ∙ get_or-replicate m.s q 65536 0 lt
  by_struck (inr (none, w)) = λ q lt. ap (λ (x : List ℕ). get_or x q 0) ((as_last_written o es i O b).1 none) ∙ w q lt

pub reads_struck : ReadsStruck
reads_struck o es i O b =
    let reads = (reads_model o es i O b).0 in
    (λ e. struck_by o es i O b (reads.0 e), λ x. reads.1 (by_struck o es i O b x))

-- ITS ORIGIN: where the round goes on, it is the last write of the round to its record
grown_last : (x y : Model) (e : Entry) → y.written ≡ x.written ++ (e ∷ []) → LastWrite y e.number (writes x)
grown_last x y e is =
    let more : writes y ≡ suc (writes x) = ap (λ (l : List Entry). length l) is ∙ omega (arith, length-append x.written (e ∷ [])) in
    record {
      among = omega arith;
      to =
          ap (λ (l : List Entry). (get_or l (writes x) no_entry).number) is
          ∙ ap (λ (u : ℕ). (get_or (x.written ++ (e ∷ [])) u no_entry).number) (sym (add-zero (writes x)))
          ∙ ap (λ (z : Entry). z.number) (get_or-append-add x.written (e ∷ []) 0 no_entry);
      last = λ u lt lt' q. absurd (omega arith);
    }

pub strike_explained : StrikeExplained
strike_explained o es i image e counts origins scratch b fewer X K =
    go (get_or xs (2 * i) 0) (get_or xs (2 * i + 1) 0) ((origins_true o then image e counts origins scratch X K).1 i within)
  where
    x : Model
    x = model_of o es

    then : List Event
    then = es ++ (strike i ∷ [])

    xs : List ℕ
    xs = explain_origins (header_after o then) image e counts origins scratch

    last : LastWrite (model_of o then) i (writes x)
    last =
        let entry : Entry = record { number = i; block = struck x } in
        grown_last x (model_of o then) entry
        (ap (λ (y : Model). y.written) (fed_more (opened_model o) es (strike i) ∙ if_taken_lem (entered x (strike i)) x (strike_fits x i b))
        ∙ if_else_false (eqb (suc (writes x)) (2 ^ x.k)) [] (x.written ++ (entry ∷ [])) (ne_eqb (suc (writes x)) (2 ^ x.k) (λ q. omega arith)))

    within : i < 2 ^ (header_after o then).k
    within = rw (ap (λ (h : Header). h.k) (header_is o then X.opens), (sizes_kept o es (strike i)).0) b

    go : (l t : ℕ) → Origin (header_after o then) (model_of o then) i l t → (t ≡ writes x) × HoldsWrite (header_after o then) l (writes x)
    go l t (inl (a, h)) = let q = one_last a last in (q, subst (λ (u : ℕ). HoldsWrite (header_after o then) l u) q h)
    go l t (inr none) = absurd (none.0 (writes x) last.among last.to)
