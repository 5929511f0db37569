-- WHAT STANDS of a history, and the model's records: they are the opened ones with the events that stand put in, one over the other, so that the last of these
-- to a record is what it holds. Of the model alone. Assumes nothing.
use mathlib.Core.Path.{◌≡◌, refl, sym, ap, ap₂, ◌∙◌, subst, subst₂}
use mathlib.Core.Bool.{Bool, true, false}
use mathlib.Core.Logic.{◌⊎◌, inl, inr}
use mathlib.Core.List.{List, [], ◌∷◌, ◌++◌, append-nil}
use Prim.Native.Nat.{ℕ, suc, ◌*◌, ◌-◌, ◌^◌, ◌≤◌, ◌<◌}
use native.Mathlib.Decide.{ℕ_discrete}
use native.Mathlib.Omega.{arith}
use lib.Dec.{eqb}
use lib.ListN.{length, get_or, take, drop, replicate, length-append, length-replicate}
use lib.Seq.{length-sets, length-take-le}
use borrow.Author.Tests.{eqb-true, eq-eqb, ne_eqb}
use Rattle.field.proofs.Booleans.{if_else, if_else_true, if_else_false}
use Rattle.layout.specs.Records.{struck_data, record_in, replaced}
use Rattle.layout.proofs.RecordWords.{replaced_is, record_end, record_same, record_other}
use Rattle.vault.specs.Event.{Opening, Event, write, earlier, strike, take_back}
use Rattle.vault.specs.Model.{Model, writes, judged, table_number, put, cancelled, entered}
use Rattle.vault.specs.Model.{fed, fed_all, opened_model, model_of}
use Rattle.vault.specs.Standing.{with_next, standing_from, standing, IsTo, NoneTo, LastTo}
use Rattle.vault.specs.promises.Histories.{Puts}
use Rattle.vault.proofs.Judged.{Entered, write_enters, strike_within, some_write}

-- AN EVENT put into raw records; and all of some, the newest first
abbrev pub put_on : (s : ℕ) → (raw : List ℕ) → Event → List ℕ
put_on s r (write i b) = replaced s r i b
put_on s r (earlier i b) = replaced s r i b
put_on s r (strike i) = replaced s r i (struck_data s)
put_on s r (take_back scratch) = r

unfoldable pub raw_by : (s : ℕ) → (raw : List ℕ) → List Event → List ℕ
raw_by s r [] = r
raw_by s r (next ∷ ws) = put_on s (raw_by s r ws) next

put_is : (s : ℕ) (r : List ℕ) (next : Event) (i : ℕ) (b : List ℕ) → Puts s next i b → put_on s r next ≡ replaced s r i b
put_is s r next i b (inl q) = ap (put_on s r) q
put_is s r next i b (inr (inl q)) = ap (put_on s r) q
put_is s r next i b (inr (inr (q, e))) = ap (put_on s r) q ∙ ap (replaced s r i) (sym e)

length_on : (s : ℕ) (r : List ℕ) (next : Event) → length (put_on s r next) ≡ length r
length_on s r (write i b) = length-sets r (i * s) b
length_on s r (earlier i b) = length-sets r (i * s) b
length_on s r (strike i) = length-sets r (i * s) (struck_data s)
length_on s r (take_back scratch) = refl

length_by : (s : ℕ) (r : List ℕ) (ws : List Event) → length (raw_by s r ws) ≡ length r
unfolding raw_by
length_by s r [] = refl
length_by s r (next ∷ ws) = length_on s (raw_by s r ws) next ∙ length_by s r ws

-- AN EVENT THAT STANDS was taken: its record number is below n, and a write has s words, data words. It is no taking-back
abbrev pub Stands : (k s : ℕ) → Event → Type 0
Stands k s (write i b) = Entered k s i b
Stands k s (earlier i b) = Entered k s i b
Stands k s (strike i) = i < 2 ^ k
Stands k s (take_back scratch) = ⊥

unfoldable pub AllStand : (k s : ℕ) → List Event → Type 0
AllStand k s [] = Unit {0}
AllStand k s (next ∷ ws) = Stands k s next × AllStand k s ws

stand_older : (k s : ℕ) (ws : List Event) → AllStand k s ws → AllStand k s (drop 1 ws)
unfolding AllStand
stand_older k s [] a = tt
stand_older k s (next ∷ ws) a = a.1

stand_at : (k s : ℕ) (newer older : List Event) (next : Event) → AllStand k s (newer ++ (next ∷ older)) → Stands k s next
unfolding AllStand
stand_at k s [] older next a = a.0
stand_at k s (x ∷ newer) older next a = stand_at k s newer older next a.1

-- what is put in is inside
puts_inside : (k s : ℕ) (next : Event) (i : ℕ) (b : List ℕ) → Puts s next i b → Stands k s next → (i < 2 ^ k) × (length b ≡ s)
puts_inside k s next i b (inl q) a = let e : Entered k s i b = subst (Stands k s) q a in (e.within, e.long)
puts_inside k s next i b (inr (inl q)) a = let e : Entered k s i b = subst (Stands k s) q a in (e.within, e.long)
puts_inside k s next i b (inr (inr (q, e))) a = (subst (Stands k s) q a, ap (λ (x : List ℕ). length x) e ∙ length-replicate s 65536)

-- THE LAST TO A RECORD is what it holds: it is put in, and newer ones are to others
other_kept : (k s : ℕ) (r : List ℕ) (next : Event) (i : ℕ) → Stands k s next → (IsTo next i → ⊥) → record_in s (put_on s r next) i ≡ record_in s r i
other_kept k s r (write j b) i a d = record_other s r j b a.long i d
other_kept k s r (earlier j b) i a d = record_other s r j b a.long i d
other_kept k s r (strike j) i a d = record_other s r j (struck_data s) (length-replicate s 65536) i d
other_kept k s r (take_back scratch) i a d = refl

newer_keep : (k s : ℕ) (r : List ℕ) (newer older : List Event) (i : ℕ) → AllStand k s (newer ++ older) → NoneTo newer i
    → record_in s (raw_by s r (newer ++ older)) i ≡ record_in s (raw_by s r older) i
unfolding raw_by AllStand NoneTo
newer_keep k s r [] older i a none = refl
newer_keep k s r (x ∷ newer) older i a none =
    other_kept k s (raw_by s r (newer ++ older)) x i a.0 none.0 ∙ newer_keep k s r newer older i a.1 none.1

put_here : (k s : ℕ) (r : List ℕ) (older : List Event) (next : Event) (i : ℕ) (b : List ℕ) → length r ≡ 2 ^ k * s → Stands k s next → Puts s next i b
    → record_in s (raw_by s r (next ∷ older)) i ≡ b
unfolding raw_by
put_here k s r older next i b long a p =
    let t = puts_inside k s next i b p a in
    ap (λ (x : List ℕ). record_in s x i) (put_is s (raw_by s r older) next i b p)
    ∙ record_same s (raw_by s r older) i b t.1 (omega (arith, length_by s r older, record_end (2 ^ k) s i t.0))

-- each record has a last one, or none is to it
module _ (s i : ℕ) where
  abbrev Found : List Event → Type 0
  Found ws = (next : Event) × (b : List ℕ) × LastTo ws i next × Puts s next i b

  past : (ws : List Event) (x : Event) → (IsTo x i → ⊥) → Found ws ⊎ NoneTo ws i → Found (x ∷ ws) ⊎ NoneTo (x ∷ ws) i
  unfolding NoneTo
  past ws x d (inl (next, b, t, p)) =
      inl (next, b, record { newer = x ∷ t.newer; older = t.older; parts = ap (λ (l : List Event). x ∷ l) t.parts; to = t.to; none = (d, t.none) }, p)
  past ws x d (inr none) = inr (d, none)

  to_or_past : (ws : List Event) (x : Event) (j : ℕ) (b : List ℕ) → (j ≡ i → IsTo x i × Puts s x i b) → (IsTo x i → j ≡ i) → Found ws ⊎ NoneTo ws i
      → Found (x ∷ ws) ⊎ NoneTo (x ∷ ws) i
  unfolding NoneTo
  to_or_past ws x j b is to t = go (ℕ_discrete j i)
    where
      go : Dec (j ≡ i) → Found (x ∷ ws) ⊎ NoneTo (x ∷ ws) i
      go (yes q) = let p = is q in inl (x, b, record { newer = []; older = ws; parts = refl; to = p.0; none = tt }, p.1)
      go (no d) = past ws x (λ q. d (to q)) t

  one_more : (x : Event) (ws : List Event) → Found ws ⊎ NoneTo ws i → Found (x ∷ ws) ⊎ NoneTo (x ∷ ws) i
  one_more (write j b) ws = to_or_past ws (write j b) j b (λ q. (q, inl (ap (λ (n : ℕ). write n b) q))) (λ q. q)
  one_more (earlier j b) ws = to_or_past ws (earlier j b) j b (λ q. (q, inr (inl (ap (λ (n : ℕ). earlier n b) q)))) (λ q. q)
  one_more (strike j) ws = to_or_past ws (strike j) j (replicate s 65536) (λ q. (q, inr (inr (ap strike q, refl)))) (λ q. q)
  one_more (take_back scratch) ws = past ws (take_back scratch) (λ q. q)

  pub last_or_none_to : (ws : List Event) → Found ws ⊎ NoneTo ws i
  unfolding NoneTo
  last_or_none_to [] = inr tt
  last_or_none_to (x ∷ ws) = one_more x ws (last_or_none_to ws)

-- WHAT THE MODEL REMEMBERS of the round are the records without the newest that stands, without the two newest, and so on
unfoldable pub Remembers : (s : ℕ) → (raw : List ℕ) → (before : List (List ℕ)) → List Event → Type 0
Remembers s r [] ws = Unit {0}
Remembers s r (x ∷ xs) ws = (x ≡ raw_by s r (drop 1 ws)) × Remembers s r xs (drop 1 ws)

-- THE INVARIANT of a model and of what stands beside it, after an opening
pub record Keeps (o : Opening) (m : Model) (ws : List Event) : Type 0 where
  pub k_is : m.k ≡ o.k
  pub s_is : m.s ≡ o.s
  pub records : m.records ≡ raw_by o.s o.raw ws
  pub before : Remembers o.s o.raw m.before ws
  pub count : length m.before ≡ writes m
  pub stand : AllStand o.k o.s ws

module _ (o : Opening) (long : length o.raw ≡ 2 ^ o.k * o.s) (m : Model) (ws : List Event) (t : Keeps o m ws) where
  -- one more is put in
  keeps_put : (next : Event) (i : ℕ) (b : List ℕ) → Stands o.k o.s next → Puts o.s next i b → Keeps o (put m i b) (next ∷ ws)
  unfolding raw_by AllStand Remembers
  keeps_put next i b a p =
      let inside = puts_inside o.k o.s next i b p a in
      let end : suc i * m.s ≤ length m.records =
      rw (t.s_is, t.records) (omega (arith, length_by o.s o.raw ws, record_end (2 ^ o.k) o.s i inside.0)) in
      record {
        k_is = t.k_is;
        s_is = t.s_is;
        records =
            sym (replaced_is m.s m.records i b (inside.1 ∙ sym t.s_is) end) ∙ ap₂ (λ (s : ℕ) (r : List ℕ). replaced s r i b) t.s_is t.records
            ∙ sym (put_is o.s (raw_by o.s o.raw ws) next i b p);
        before = remembered (eqb (suc (writes m)) (2 ^ m.k));
        count = counted (eqb (suc (writes m)) (2 ^ m.k));
        stand = (a, t.stand);
      }
    where
      remembered : (z : Bool) → Remembers o.s o.raw (if_else z [] (m.records ∷ m.before)) (next ∷ ws)
      remembered true = tt
      remembered false = (t.records, t.before)

      counted : (z : Bool) → length (if_else z [] (m.records ∷ m.before)) ≡ length (if_else z [] (m.written ++ (record { number = i; block = b } ∷ [])))
      counted true = refl
      counted false = omega (arith, t.count, length-append m.written (record { number = i; block = b } ∷ []))

  -- the newest is taken off
  keeps_cancelled : 0 < writes m → Keeps o (cancelled m) (drop 1 ws)
  unfolding Remembers
  keeps_cancelled some =
      let n = cut m.before t.before t.count in
      record { k_is = t.k_is; s_is = t.s_is; records = n.0; before = n.1; count = n.2; stand = stand_older o.k o.s ws t.stand }
    where
      cut : (xs : List (List ℕ)) → Remembers o.s o.raw xs ws → length xs ≡ writes m →
          (get_or xs 0 m.records ≡ raw_by o.s o.raw (drop 1 ws)) × Remembers o.s o.raw (drop 1 xs) (drop 1 ws) ×
          (length (drop 1 xs) ≡ length (take (writes m - 1) m.written))
      cut [] r e = absurd (omega (arith, some, e))
      cut (x ∷ xs) r e = (r.0, r.1, omega (arith, e, length-take-le (writes m - 1) m.written (omega arith)))

  write_in : (i : ℕ) (b : List ℕ) (n : ℕ) → judged m i b n ≡ 0 → Entered o.k o.s i b
  write_in i b n e = subst₂ (λ (k s : ℕ). Entered k s i b) t.k_is t.s_is (write_enters m i b n e)

  -- an event that the table takes
  keeps_entered : (next : Event) → table_number m next ≡ 0 → Keeps o (entered m next) (with_next next ws)
  keeps_entered (write i b) e = keeps_put (write i b) i b (write_in i b _ e) (inl refl)
  keeps_entered (earlier i b) e = keeps_put (earlier i b) i b (write_in i b 0 e) (inr (inl refl))
  keeps_entered (strike i) e =
      keeps_put (strike i) i (replicate m.s 65536) (subst (λ (k : ℕ). i < 2 ^ k) t.k_is (strike_within m i e))
      (inr (inr (refl, ap (λ (s : ℕ). replicate s 65536) t.s_is)))
  keeps_entered (take_back scratch) e = keeps_cancelled (some_write m scratch e)

  -- any event
  keeps_fed : (next : Event) → Keeps o (fed m next) (if_else (eqb (table_number m next) 0) (with_next next ws) ws)
  keeps_fed next = go (eqb (table_number m next) 0) refl
    where
      go : (z : Bool) → eqb (table_number m next) 0 ≡ z → Keeps o (if_else z (entered m next) m) (if_else z (with_next next ws) ws)
      go true e = keeps_entered next (eqb-true (table_number m next) 0 e)
      go false e = t

-- ALL EVENTS
keeps_all : (o : Opening) → length o.raw ≡ 2 ^ o.k * o.s → (m : Model) (ws es : List Event) → Keeps o m ws → Keeps o (fed_all m es) (standing_from m ws es)
unfolding fed_all standing_from
keeps_all o long m ws [] t = t
keeps_all o long m ws (next ∷ es) t = keeps_all o long (fed m next) _ es (keeps_fed o long m ws t next)

pub keeps : (o : Opening) → length o.raw ≡ 2 ^ o.k * o.s → (es : List Event) → Keeps o (model_of o es) (standing o es)
unfolding raw_by Remembers AllStand
keeps o long es = keeps_all o long (opened_model o) [] es (record { k_is = refl; s_is = refl; records = refl; before = tt; count = refl; stand = tt })

-- ONE EVENT MORE
standing_more : (m : Model) (ws es : List Event) (next : Event) → standing_from m ws (es ++ (next ∷ []))
    ≡ if_else (eqb (table_number (fed_all m es) next) 0) (with_next next (standing_from m ws es)) (standing_from m ws es)
unfolding fed_all standing_from
standing_more m ws [] next = refl
standing_more m ws (x ∷ es) next = standing_more (fed m x) _ es next

module _ (o : Opening) (es : List Event) (next : Event) where
  abbrev more : List Event
  more = standing o (es ++ (next ∷ []))

  pub stays_refused : (table_number (model_of o es) next ≡ 0 → ⊥) → more ≡ standing o es
  stays_refused d =
      let n = table_number (model_of o es) next in
      standing_more (opened_model o) [] es next ∙ if_else_false (eqb n 0) (with_next next (standing o es)) (standing o es) (ne_eqb n 0 d)

  pub grows_taken : table_number (model_of o es) next ≡ 0 → more ≡ with_next next (standing o es)
  grows_taken e =
      let n = table_number (model_of o es) next in
      standing_more (opened_model o) [] es next ∙ if_else_true (eqb n 0) (with_next next (standing o es)) (standing o es) (eq-eqb n 0 e)

pub puts_stands : (s : ℕ) (next : Event) (i : ℕ) (b : List ℕ) (ws : List Event) → Puts s next i b → with_next next ws ≡ next ∷ ws
puts_stands s next i b ws (inl q) = rw (q, with_next)
puts_stands s next i b ws (inr (inl q)) = rw (q, with_next)
puts_stands s next i b ws (inr (inr (q, e))) = rw (q, with_next)

-- a strike that is taken is the last to its record then
pub strike_stands : (o : Opening) (es : List Event) (i : ℕ) → table_number (model_of o es) (strike i) ≡ 0
    → LastTo (standing o (es ++ (strike i ∷ []))) i (strike i)
unfolding NoneTo
strike_stands o es i e = record { newer = []; older = standing o es; parts = grows_taken o es (strike i) e; to = refl; none = tt }

-- WHAT A RECORD HOLDS, by what stands
module _ {o : Opening} (long : length o.raw ≡ 2 ^ o.k * o.s) {m : Model} {ws : List Event} (t : Keeps o m ws) (i : ℕ) where
  pub last_stands : {next : Event} → LastTo ws i next → Stands o.k o.s next
  last_stands {next} l = stand_at o.k o.s l.newer l.older next (subst (AllStand o.k o.s) l.parts t.stand)

  pub last_holds : (next : Event) (b : List ℕ) → LastTo ws i next → Puts o.s next i b → record_in o.s m.records i ≡ b
  last_holds next b l p =
      ap (λ (r : List ℕ). record_in o.s r i) (t.records ∙ ap (raw_by o.s o.raw) l.parts)
      ∙ newer_keep o.k o.s o.raw l.newer (next ∷ l.older) i (subst (AllStand o.k o.s) l.parts t.stand) l.none
      ∙ put_here o.k o.s o.raw l.older next i b long (last_stands l) p

  pub none_holds : NoneTo ws i → record_in o.s m.records i ≡ record_in o.s o.raw i
  unfolding raw_by
  none_holds none =
      ap (λ (r : List ℕ). record_in o.s r i) (t.records ∙ ap (raw_by o.s o.raw) (sym (append-nil ws)))
      ∙ newer_keep o.k o.s o.raw ws [] i (subst (AllStand o.k o.s) (sym (append-nil ws)) t.stand) none
