-- ONE EVENT MORE, and the model: an event that is refused leaves it, and one that is taken puts a block's words in the place of a record's. The room Histories
-- of specs/promises. Assumes nothing.
use mathlib.Core.Path.{◌≡◌, refl, sym, ap, ◌∙◌, subst}
use mathlib.Core.Logic.{◌⊎◌, inl, inr, ⊎_elim}
use mathlib.Core.List.{List, [], ◌∷◌, ◌++◌}
use Prim.Native.Nat.{ℕ, suc, ◌+◌, ◌*◌, ◌-◌, ◌^◌, ◌≤◌, ◌<◌}
use native.Mathlib.Omega.{arith}
use borrow.Author.Tests.{eq-eqb, ne_eqb}
use lib.Dec.{eqb}
use lib.ListN.{length, get_or, take, drop, length-append, get_or-append}
use lib.Seq.{length-take-le, get_or-take, get_or-drop}
use Rattle.std.proofs.lemmas.List.{get_or-append_right}
use Rattle.field.proofs.Booleans.{if_else_true, if_else_false}
use Rattle.layout.proofs.RecordWords.{record_end}
use Rattle.layout.proofs.Refusals.{if_taken_lem, if_refused}
use Rattle.vault.specs.Event.{Entry, Event}
use Rattle.vault.specs.Model.{Model, writes, table_number, put, entered, opened_model, fed_all, model_of}
use Rattle.vault.specs.promises.Histories.{ModelBegins, ModelKept, Puts, ModelPuts}
use Rattle.vault.proofs.Rounds.{Taken}
use Rattle.vault.proofs.Histories.{taken_is, strike_is, fed_more, records_long_lem}

-- A LIST WITH OTHER WORDS, b, in place of those from number a up to c
module _ (r b : List ℕ) (a c : ℕ) (end : a + length b ≡ c) (inside : c ≤ length r) where
  abbrev spliced : List ℕ
  spliced = take a r ++ (b ++ drop c r)

  front : length (take a r) ≡ a
  front = length-take-le a r (omega arith)

  word_between : (j : ℕ) → j < length b → get_or spliced (a + j) 0 ≡ get_or b j 0
  word_between j low =
      get_or-append_right (take a r) (b ++ drop c r) a (a + j) 0 front (omega arith)
      ∙ ap (λ (n : ℕ). get_or (b ++ drop c r) n 0) {x = a + j - a} {y = j} (omega arith) ∙ get_or-append b (drop c r) 0 j low

  word_before : (q : ℕ) → q < a → get_or spliced q 0 ≡ get_or r q 0
  word_before q low = get_or-append (take a r) (b ++ drop c r) 0 q (omega (arith, front)) ∙ get_or-take a r q 0 low

  word_after : (q : ℕ) → c ≤ q → get_or spliced q 0 ≡ get_or r q 0
  word_after q high =
      get_or-append_right (take a r) (b ++ drop c r) a q 0 front (omega arith)
      ∙ get_or-append_right b (drop c r) (length b) (q - a) 0 refl (omega arith) ∙ get_or-drop c r (q - a - length b) 0
      ∙ ap (λ (n : ℕ). get_or r n 0) {x = c + (q - a - length b)} {y = q} (omega arith)

-- A BLOCK PUT into a model: y is the model with it
module _ (m : Model) (i : ℕ) (b : List ℕ) where
  abbrev BlockIn : Model → Type 0
  BlockIn y =
      ((j : ℕ) → j < m.s → get_or y.records (i * m.s + j) 0 ≡ get_or b j 0) ×
      ((q : ℕ) → (q < i * m.s) ⊎ (suc i * m.s ≤ q) → get_or y.records q 0 ≡ get_or m.records q 0) ×
      (suc (writes m) < 2 ^ m.k → writes y ≡ suc (writes m)) × (suc (writes m) ≡ 2 ^ m.k → writes y ≡ 0)

  abbrev now : List Entry
  now = m.written ++ (record { number = i; block = b } ∷ [])

  put_block : length m.records ≡ 2 ^ m.k * m.s → Taken m.k m.s (record { number = i; block = b }) → BlockIn (put m i b)
  put_block long t =
      let a : ℕ = i * m.s in
      let c : ℕ = suc i * m.s in
      let end : a + length b ≡ c = omega (arith, t.long) in
      let inside : c ≤ length m.records = omega (arith, record_end (2 ^ m.k) m.s i t.within) in
      let full : ℕ = 2 ^ m.k in (
        λ j low. word_between m.records b a c end inside j (omega (arith, t.long)),
        λ q out. ⊎_elim (word_before m.records b a c end inside q) (word_after m.records b a c end inside q) out,
        λ fewer. ap (λ (xs : List Entry). length xs) (if_else_false (eqb (suc (writes m)) full) [] now (ne_eqb (suc (writes m)) full (λ e. omega arith)))
            ∙ omega (arith, length-append m.written (record { number = i; block = b } ∷ [])),
        λ e. ap (λ (xs : List Entry). length xs) (if_else_true (eqb (suc (writes m)) full) [] now (eq-eqb (suc (writes m)) full e)),
      )

-- AFTER A HISTORY
pub model_kept : ModelKept
model_kept o es e d = let m = model_of o es in fed_more (opened_model o) es e ∙ if_refused (entered m e) m d

puts_entered : (m : Model) (e : Event) (i : ℕ) (b : List ℕ) → Puts m.s e i b → entered m e ≡ put m i b
puts_entered m e i b (inl q) = ap (entered m) q
puts_entered m e i b (inr (inl q)) = ap (entered m) q
puts_entered m e i b (inr (inr q)) = ap (entered m) q.0 ∙ ap (put m i) (sym q.1)

puts_taken : (m : Model) (e : Event) (i : ℕ) (b : List ℕ) → Puts m.s e i b → table_number m e ≡ 0 → Taken m.k m.s (record { number = i; block = b })
puts_taken m e i b (inl q) z = taken_is m i b _ (ap (table_number m) (sym q) ∙ z)
puts_taken m e i b (inr (inl q)) z = taken_is m i b _ (ap (table_number m) (sym q) ∙ z)
puts_taken m e i b (inr (inr q)) z =
    subst (λ (c : List ℕ). Taken m.k m.s (record { number = i; block = c })) (sym q.1) (strike_is m i (ap (table_number m) (sym q.0) ∙ z))

pub model_puts : ModelPuts
model_puts o es e i b O p z =
    let m = model_of o es in
    subst (BlockIn m i b) (sym (fed_more (opened_model o) es e ∙ if_taken_lem (entered m e) m z ∙ puts_entered m e i b p))
    (put_block m i b (records_long_lem o es O) (puts_taken m e i b p z))

pub model_begins : ModelBegins
unfolding fed_all
model_begins o = (refl, refl)
