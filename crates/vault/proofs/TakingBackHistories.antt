-- TAKING BACK IN HISTORIES: its number by the table, one write undone, as many as were put, and back to the start of the round. A round fixes vault and model,
-- so that each is shown of rounds. From it the promises on histories of the rooms Histories and TakingBack. Assumes nothing.
use mathlib.Core.Path.{◌≡◌, refl, sym, ap, ap₂, ◌∙◌, subst}
use mathlib.Core.Bool.{Bool}
use mathlib.Core.Logic.{inl, inr}
use mathlib.Core.List.{List, [], ◌∷◌, ◌++◌, append_assoc, append-nil}
use Prim.Native.Nat.{ℕ, zero, suc, ◌+◌, ◌*◌, ◌-◌, ◌^◌, ◌≤◌, ◌<◌}
use native.Mathlib.Omega.{arith}
use borrow.Author.Tests.{eq-eqb, ne_eqb}
use lib.Dec.{eqb}
use lib.ListN.{length, take, replicate, length-append, replicate-append-replicate}
use lib.Seq.{take_all, take_at, take-take, length-take-le}
use Rattle.std.specs.Prelude.{◌↔◌}
use Rattle.field.proofs.Booleans.{if_else, if_else_false}
use Rattle.layout.specs.declared.Header.{Header}
use Rattle.layout.specs.Header.{scratch_size}
use Rattle.layout.proofs.Refusals.{if_taken_lem}
use Rattle.taking_back.specs.TakeBackCall.{take_back_scratch}
use Rattle.vault.specs.Event.{Entry, Opening, Event, take_back}
use Rattle.vault.specs.Model.{Model, writes, table_number, cancelled, opened_model, model_of}
use Rattle.vault.specs.History.{Vault, vault, number_on, step, Opens, opened_vault, vault_after, header_after}
use Rattle.vault.specs.Round.{Round, put_all, model_in, start_of, grown, cut, advanced, turn_round, round_after, opened_round, round_of}
use Rattle.vault.specs.Round.{round_header, represent}
use Rattle.vault.specs.promises.Histories.{Puts, ModelTakes}
use Rattle.vault.specs.promises.Table.{BackLength, none, row, EachNumber}
use Rattle.vault.specs.promises.TakingBack.{BackAfter, BackUndoes, AllPut, BackAgain, BackToStart}
use Rattle.vault.proofs.Histories.{histories, model_is, header_is, numbers_are, round_writes, sizes_stay, after_more, fed_more}
use Rattle.vault.proofs.Numbers.{back_table}
use Rattle.vault.proofs.Judged.{some_write}
use Rattle.vault.proofs.TakingBackRounds.{cut_back, back_early}

-- THE NUMBER
pub back_after : BackAfter
back_after o es scratch O =
    let m = model_of o es in
    subst (λ (h : Header). EachNumber (number_on (vault_after o es) (take_back scratch)) (row 2 (BackLength h scratch → ⊥) (row 12 (writes m ≡ 0) none)))
    (sym (header_is o es O))
    (subst (λ (n : ℕ). EachNumber n (row 2 (length scratch ≡ 2 * (2 ^ m.k * suc m.s + 4 * 2 ^ m.k) → ⊥) (row 12 (writes m ≡ 0) none)))
    (sym (numbers_are o es (take_back scratch) O)) (back_table m scratch))

-- ONE TAKEN cancels the last write
pub model_takes : ModelTakes
model_takes o es scratch O z =
    let m = model_of o es in
    let a = round_of o es in
    let some = some_write m scratch z in
    let same = ap (λ (y : Model). writes y) (model_is o es O) in
    let n : ℕ = writes m - 1 in
    subst (λ (y : Model). (suc (writes y) ≡ writes m) × (y.written ≡ take n m.written) × (y.records ≡ put_all m.s a.base (take n a.since)))
    (sym (fed_more (opened_model o) es (take_back scratch) ∙ if_taken_lem (cancelled m) m z)) (
      ap suc (length-take-le n m.written (omega arith)) ∙ omega arith,
      refl,
      subst (λ (y : Model). (cancelled y).records ≡ put_all y.s a.base (take (writes y - 1) a.since)) (sym (model_is o es O))
          (ap (λ (y : Model). y.records) (cut_back (histories o es O).good (omega arith)).model_is),
    )

-- ROUNDS: one with other writes since; its first m, and one write more
abbrev with_writes : Round → List Entry → Round
with_writes a xs = record { k = a.k; s = a.s; base = a.base; since = xs }

abbrev first_writes : Round → (m : ℕ) → Round
first_writes a m = with_writes a (take m a.since)

abbrev longer : Round → Entry → Round
longer a x = with_writes a (a.since ++ (x ∷ []))

abbrev Lent : (k s : ℕ) → (scratch : List ℕ) → Type 0
Lent k s scratch = length scratch ≡ 2 * (2 ^ k * suc s + 4 * 2 ^ k)

judged_zero : (m : Model) (scratch : List ℕ) → Lent m.k m.s scratch → 0 < writes m → table_number m (take_back scratch) ≡ 0
judged_zero m scratch e some =
    ap₂ (λ (p q : Bool). if_else p (if_else q 12 0) 2) (eq-eqb (length scratch) (2 * (2 ^ m.k * suc m.s + 4 * 2 ^ m.k)) e)
    (ne_eqb (writes m) 0 (λ q. omega arith))

turn_back : (a : Round) (scratch : List ℕ) → Lent a.k a.s scratch → 0 < length a.since → turn_round a (take_back scratch) ≡ cut a
turn_back a scratch e some = if_taken_lem (cut a) a (judged_zero (model_in a) scratch e some)

-- n taken back leave the first writes
back_rounds : (n : ℕ) (a : Round) (scratch : List ℕ) → Lent a.k a.s scratch → n ≤ length a.since
    → round_after a (replicate n (take_back scratch)) ≡ first_writes a (length a.since - n)
unfolding round_after
back_rounds zero a scratch e b = ap (with_writes a) (sym (take_all (length a.since - 0) a.since (omega arith)))
back_rounds (suc n) a scratch e b =
    let c : ℕ = length a.since in
    let cut_long : length (take (c - 1) a.since) ≡ c - 1 = length-take-le (c - 1) a.since (omega arith) in
    ap (λ (y : Round). round_after y (replicate n (take_back scratch))) (turn_back a scratch e (omega arith))
    ∙ back_rounds n (cut a) scratch e (omega arith)
    ∙ ap (with_writes a)
    (take-take (length (take (c - 1) a.since) - n) (c - 1) a.since (omega arith)
    ∙ ap (λ (i : ℕ). take i a.since) {x = length (take (c - 1) a.since) - n} {y = c - suc n} (omega arith))

-- a write or a strike is entered
advances : (a : Round) (next : Event) (i : ℕ) (b : List ℕ) → Puts a.s next i b → advanced a next ≡ grown a (record { number = i; block = b })
advances a next i b (inl q) = ap (advanced a) q
advances a next i b (inr (inl q)) = ap (advanced a) q
advances a next i b (inr (inr q)) = ap (advanced a) q.0 ∙ ap (λ (c : List ℕ). grown a (record { number = i; block = c })) (sym q.1)

-- A WRITE UNDONE, or a strike: one that is taken and does not end the round, and then a taking-back
module _ (a : Round) (next : Event) (i : ℕ) (b : List ℕ) (puts : Puts a.s next i b) (zero : table_number (model_in a) next ≡ 0)
    (few : suc (length a.since) < 2 ^ a.k) where
  abbrev x : Entry
  x = record { number = i; block = b }

  turn_put : turn_round a next ≡ longer a x
  turn_put =
      if_taken_lem (advanced a next) a zero ∙ advances a next i b puts
      ∙ if_else_false (eqb (suc (length a.since)) (2 ^ a.k)) (start_of a.k a.s (put_all a.s a.base (a.since ++ (x ∷ [])))) (longer a x)
      (ne_eqb (suc (length a.since)) (2 ^ a.k) (λ q. omega arith))

  undone_round : (scratch : List ℕ) → Lent a.k a.s scratch → turn_round (turn_round a next) (take_back scratch) ≡ a
  undone_round scratch e =
      let n : length (a.since ++ (x ∷ [])) ≡ suc (length a.since) = length-append a.since (x ∷ []) ∙ omega arith in
      ap (λ (y : Round). turn_round y (take_back scratch)) turn_put ∙ turn_back (longer a x) scratch e (omega arith)
      ∙ ap (with_writes a) (take_at a.since (x ∷ []) (length (a.since ++ (x ∷ [])) - 1) (omega arith))

  then_zero : (scratch : List ℕ) → Lent a.k a.s scratch → table_number (model_in (longer a x)) (take_back scratch) ≡ 0
  then_zero scratch e = judged_zero (model_in (longer a x)) scratch e (omega (arith, length-append a.since (x ∷ [])))

-- HISTORIES with one round
round_append : (a : Round) (es fs : List Event) → round_after a (es ++ fs) ≡ round_after (round_after a es) fs
unfolding round_after
round_append a [] fs = refl
round_append a (e ∷ es) fs = round_append (turn_round a e) es fs

round_more : (o : Opening) (es : List Event) (e : Event) → round_of o (es ++ (e ∷ [])) ≡ turn_round (round_of o es) e
unfolding round_after
round_more o es e = round_append (opened_round o) es (e ∷ [])

same_round : (o : Opening) (es fs : List Event) → Opens o → round_of o es ≡ round_of o fs
    → (vault_after o es ≡ vault_after o fs) × (model_of o es ≡ model_of o fs)
same_round o es fs O e = (
  (histories o es O).vault_is ∙ ap (λ (a : Round). vault (round_header a) (represent a)) e ∙ sym (histories o fs O).vault_is,
  model_is o es O ∙ ap (λ (a : Round). model_in a) e ∙ sym (model_is o fs O),
)

round_sizes : (o : Opening) (es : List Event) → Opens o → ((round_of o es).k ≡ o.k) × ((round_of o es).s ≡ o.s)
round_sizes o es O =
    let same = sizes_stay o es in
    (ap (λ (m : Model). m.k) (sym (model_is o es O)) ∙ same.0, ap (λ (m : Model). m.s) (sym (model_is o es O)) ∙ same.1)

-- the scratch's length, by the opening and by the round
lent_in : (o : Opening) (es : List Event) (scratch : List ℕ) → Opens o → BackLength (header_after o es) scratch
    → Lent (round_of o es).k (round_of o es).s scratch
lent_in o es scratch O e = subst (λ (v : Vault). BackLength v.header scratch) (histories o es O).vault_is e

lent_sizes : (o : Opening) (es : List Event) (scratch : List ℕ) → Opens o → Lent o.k o.s scratch ↔ Lent (round_of o es).k (round_of o es).s scratch
lent_sizes o es scratch O = let t = round_sizes o es O in (λ e. rw (t.0, t.1) e, λ e. rw (t.0, t.1) at e)

-- A WRITE UNDONE in a history
module _ (o : Opening) (es : List Event) (next : Event) (i : ℕ) (b scratch : List ℕ) (O : Opens o) (puts : Puts (model_of o es).s next i b)
    (taken : number_on (vault_after o es) next ≡ 0) (few : suc (writes (model_of o es)) < 2 ^ (model_of o es).k)
    (lent : Lent (round_of o es).k (round_of o es).s scratch) where
  abbrev a : Round
  a = round_of o es

  abbrev put : List Event
  put = es ++ (next ∷ [])

  puts_round : Puts a.s next i b
  puts_round = subst (λ (m : Model). Puts m.s next i b) (model_is o es O) puts

  zero_number : table_number (model_in a) next ≡ 0
  zero_number = subst (λ (m : Model). table_number m next ≡ 0) (model_is o es O) (sym (numbers_are o es next O) ∙ taken)

  few_round : suc (length a.since) < 2 ^ a.k
  few_round = subst (λ (m : Model). suc (writes m) < 2 ^ m.k) (model_is o es O) few

  undone : turn_round (round_of o put) (take_back scratch) ≡ a
  undone =
      ap (λ (y : Round). turn_round y (take_back scratch)) (round_more o es next) ∙ undone_round a next i b puts_round zero_number few_round scratch lent

  put_is : round_of o put ≡ longer a (record { number = i; block = b })
  put_is = round_more o es next ∙ turn_put a next i b puts_round zero_number few_round

  back_zero : table_number (model_in (round_of o put)) (take_back scratch) ≡ 0
  back_zero =
      subst (λ (y : Round). table_number (model_in y) (take_back scratch) ≡ 0) (sym put_is)
      (then_zero a next i b puts_round zero_number few_round scratch lent)

  abbrev Undone : Type 0
  Undone =
      let v = vault_after o put in
      (number_on v (take_back scratch) ≡ 0) × (step v (take_back scratch) ≡ vault_after o es) ×
      (model_of o (es ++ (next ∷ take_back scratch ∷ [])) ≡ model_of o es) × (take_back_scratch v.header v.held scratch ≡ replicate (length scratch) 0)

  all_back : Undone
  all_back =
      let a' = round_of o put in
      let t = histories o put O in
      let both = same_round o (put ++ (take_back scratch ∷ [])) es O (round_more o put (take_back scratch) ∙ undone) in
      let lent' : Lent a'.k a'.s scratch = subst (λ (y : Round). Lent y.k y.s scratch) (sym put_is) lent in (
        numbers_are o put (take_back scratch) O ∙ ap (λ (m : Model). table_number m (take_back scratch)) (model_is o put O) ∙ back_zero,
        sym (after_more (opened_vault o) put (take_back scratch)) ∙ both.0,
        ap (model_of o) (sym (append_assoc es (next ∷ []) (take_back scratch ∷ []))) ∙ both.1,
        ap (λ (v : Vault). take_back_scratch v.header v.held scratch) t.vault_is
            ∙ if_taken_lem (replicate (2 * scratch_size (round_header a')) 0) scratch (back_early t.good scratch ∙ back_zero)
            ∙ ap (λ (n : ℕ). replicate n 0) (sym lent'),
      )

pub back_undoes : BackUndoes
back_undoes o es next i b scratch O puts taken few e = all_back o es next i b scratch O puts taken few (lent_in o es scratch O e)

-- AS MANY as were put
again : (o : Opening) (scratch : List ℕ) → Opens o → Lent o.k o.s scratch → (more es : List Event) → AllPut o es more
    → round_of o (es ++ (more ++ replicate (length more) (take_back scratch))) ≡ round_of o es
again o scratch O e [] es all = ap (round_of o) (append-nil es)
again o scratch O e (next ∷ more) es all =
    let put = es ++ (next ∷ []) in
    ap (round_of o) (last_first (length more)) ∙ round_more o (put ++ (more ++ replicate (length more) (take_back scratch))) (take_back scratch)
    ∙ ap (λ (y : Round). turn_round y (take_back scratch)) (again o scratch O e more put all.3)
    ∙ undone o es next all.0.0 all.0.1 scratch O all.0.2 all.1 all.2 ((lent_sizes o es scratch O).0 e)
  where
    last_first : (n : ℕ) → let t = take_back scratch in
        es ++ ((next ∷ more) ++ (t ∷ replicate n t)) ≡ ((es ++ (next ∷ [])) ++ (more ++ replicate n t)) ++ (t ∷ [])
    last_first n =
        let t = take_back scratch in
        let rest = more ++ replicate n t in
        let one : t ∷ replicate n t ≡ replicate n t ++ (t ∷ []) =
        ap (λ (k : ℕ). replicate k t) {x = suc n} {y = n + 1} (omega arith) ∙ sym (replicate-append-replicate n 1 t) in
        ap (λ (r : List Event). es ++ (next ∷ r)) (ap (λ (r : List Event). more ++ r) one ∙ sym (append_assoc more (replicate n t) (t ∷ [])))
        ∙ sym (append_assoc es (next ∷ []) (rest ++ (t ∷ []))) ∙ sym (append_assoc (es ++ (next ∷ [])) rest (t ∷ []))

pub back_again : BackAgain
back_again o es more scratch O all e =
    same_round o (es ++ (more ++ replicate (length more) (take_back scratch))) es O
    (again o scratch O ((lent_sizes o es scratch O).1 (lent_in o es scratch O e)) more es all)

-- BACK TO THE START
pub back_to_start : BackToStart
back_to_start o es n scratch O e b =
    let a = round_of o es in
    let then = es ++ replicate n (take_back scratch) in
    let count = round_writes o es O in
    let whole : round_of o then ≡ first_writes a (length a.since - n) =
    round_append (opened_round o) es (replicate n (take_back scratch)) ∙ back_rounds n a scratch (lent_in o es scratch O e) (omega arith) in (
      round_writes o then O ∙ ap (λ (y : Round). length y.since) whole ∙ length-take-le (length a.since - n) a.since (omega arith) ∙ omega arith,
      ap (λ (y : Round). y.base) whole,
      ap (λ (y : Round). y.since) whole ∙ ap (λ (c : ℕ). take (c - n) a.since) (sym count),
    )
