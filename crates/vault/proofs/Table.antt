-- The table of refusals: the law that gives each call's number both ways round, and of each Boolean test that the calls make the row of the table that applies
-- if and only if it fails. The room Table of specs/promises. Assumes nothing.
use mathlib.Core.Path.{◌≡◌, refl, sym, ap, ◌∙◌, subst}
use mathlib.Core.Bool.{Bool, true, false, ◌&&◌, not}
use mathlib.Core.Logic.{◌⊎◌, inl, inr, ⊎_elim}
use mathlib.Core.List.{List, [], ◌∷◌}
use Prim.Native.Nat.{ℕ, zero, suc, ◌*◌, ◌-◌, ◌/◌, ◌%◌, ◌^◌, ◌≤◌, ◌<◌}
use native.Mathlib.Nat.{pow-succ'}
use native.Mathlib.Omega.{arith}
use lib.Dec.{eqb, ltb, leb, lit<}
use lib.ListN.{length, get_or}
use borrow.Author.Tests.{eqb-true, eq-eqb, ltb-true, ltb-false, lt-ltb, le-ltb, leb-true, leb-false, le-leb}
use Rattle.std.specs.Prelude.{◌↔◌}
use Rattle.std.proofs.lemmas.Bool.{false≢true, or_left, or_right, or_cases}
use Rattle.field.specs.Words.{Words, every}
use Rattle.field.proofs.Booleans.{if_else, either, is_false, both_true, first_true, second_true, first_false, second_false}
use Rattle.field.proofs.EveryWord.{every_words, words_every}
use Rattle.layout.specs.declared.Header.{Header}
use Rattle.layout.specs.Header.{record_count, is_in, header_fits, full_size, log_size, has_stripe}
use Rattle.layout.specs.Records.{is_data, are_data, is_struck_word, is_struck, record_fits, is_zero, is_blank, record_in}
use Rattle.layout.specs.Refusals.{Tests, done, test, refusal}
use Rattle.layout.proofs.RecordWords.{data_words, length_record, word_of_record}
use Rattle.vault.specs.promises.Table.{OutOfRange, FitsIff, NoDataWord, IsStruck, HoldsRecord, record_word, StruckRecord, IsStripe, NeededIff, AllZero}
use Rattle.vault.specs.promises.Table.{Rows, none, row, EachAfter, NoneAfter, EachNumber, Fresh, Match, RefusalIs}
use Rattle.vault.proofs.StripeCall.{needed_passes, passes_needed}

-- TESTS BESIDE ROWS: as `Match` has them, where a test may be known to fail with its row only if no row before that applies (`others`). `free`: the numbers
-- that are left for them, none of which a test before has
pub data Apart : (free : ℕ → Type 0) → (others : Type 0) → Tests → Rows → Type 1 where
  ended : {free : ℕ → Type 0} {others : Type 0} → Apart free others done none
  apart : {free left : ℕ → Type 0} {n : ℕ} {others A : Type 0} {b : Bool} {ts : Tests} {rows : Rows} → 0 < n → free n
      → ((x : ℕ) → left x → free x × (x ≡ n → ⊥)) → (others → ((b ≡ false) ↔ A)) → Apart left (others × (A → ⊥)) ts rows
      → Apart free others (test b n ts) (row n A rows)

-- as it is where the numbers rise
abbrev pub Beside : (least : ℕ) → (others : Type 0) → Tests → Rows → Type 1
Beside least others ts rows = Apart (λ (x : ℕ). least < x) others ts rows

pub beside : {least n : ℕ} {others A : Type 0} {b : Bool} {ts : Tests} {rows : Rows} → least < n → (others → ((b ≡ false) ↔ A))
    → Beside n (others × (A → ⊥)) ts rows → Beside least others (test b n ts) (row n A rows)
beside rises iff m = apart (omega arith) rises (λ x h. (omega (arith, h, rises), λ e. omega (arith, h))) iff m

-- the number is 0, or one of those that are left
left_over : {free : ℕ → Type 0} {others : Type 0} {ts : Tests} {rows : Rows} → Apart free others ts rows → (refusal ts ≡ 0) ⊎ free (refusal ts)
unfolding refusal
left_over ended = inl refl
left_over (apart {free} {left} {n} {b = b} {ts = ts} some here fewer iff m) = go b (left_over m)
  where
    go : (b : Bool) → (refusal ts ≡ 0) ⊎ left (refusal ts) → let r = if_else b (refusal ts) n in (r ≡ 0) ⊎ free r
    go true next = ⊎_elim (λ e. inl e) (λ l. inr (fewer (refusal ts) l).0) next
    go false next = inr here

-- ONE ROW, with number n: `given` is a number that is the table's where no row before applies, and 0 or free only there; r is what follows
module _ {given n r : ℕ} {free left : ℕ → Type 0} {others A : Type 0} (b : Bool) (some : 0 < n) (here : free n)
    (fewer : (x : ℕ) → left x → free x × (x ≡ n → ⊥)) (iff : others → ((b ≡ false) ↔ A)) (next : (r ≡ 0) ⊎ left r)
    (there : others → given ≡ elim b [ true ↦ r | false ↦ n ]) (back : (given ≡ 0) ⊎ free given → others) where
  given_applies : given ≡ n → others × A
  given_applies e = let o = back (inr (subst free (sym e) here)) in (o, go b (iff o) (there o))
    where
      go : (b : Bool) → ((b ≡ false) ↔ A) → given ≡ elim b [ true ↦ r | false ↦ n ] → A
      go true f t = absurd (⊎_elim (λ z. omega (arith, some)) (λ l. (fewer r l).1 (sym t ∙ e)) next)
      go false f t = f.0 refl

  applies_given : others × A → given ≡ n
  applies_given o = there o.0 ∙ rw ((iff o.0).1 o.1) refl

  there_next : others × (A → ⊥) → given ≡ r
  there_next o = go b (iff o.0) (there o.0)
    where
      go : (b : Bool) → ((b ≡ false) ↔ A) → given ≡ elim b [ true ↦ r | false ↦ n ] → given ≡ r
      go true f t = t
      go false f t = absurd (o.1 (f.0 refl))

  back_next : (given ≡ 0) ⊎ left given → others × (A → ⊥)
  back_next g =
      let o = back (⊎_elim (λ z. inl z) (λ l. inr (fewer given l).0) g) in
      (o, λ a. let e = applies_given (o, a) in absurd (⊎_elim (λ z. omega (arith, some)) (λ l. (fewer given l).1 e) g))

-- ALL ROWS
module _ (given : ℕ) where
  each : {free : ℕ → Type 0} {others : Type 0} {ts : Tests} {rows : Rows} → Apart free others ts rows → (others → given ≡ refusal ts)
      → ((given ≡ 0) ⊎ free given → others) → EachAfter given others rows × ((given ≡ 0) ↔ NoneAfter others rows)
  unfolding refusal
  each ended there back = (tt, (λ e. back (inl e), λ o. there o))
  each (apart {b = b} some here fewer iff m) there back =
      let next = left_over m in
      let rest = each m (there_next b some here fewer iff next there back) (back_next b some here fewer iff next there back) in
      (((given_applies b some here fewer iff next there back, applies_given b some here fewer iff next there back), rest.0), rest.1)

pub each_number : {ts : Tests} (rows : Rows) → Beside 0 (Unit {0}) ts rows → EachNumber (refusal ts) rows
each_number {ts} rows m = each (refusal ts) m (λ _. refl) (λ _. tt)

-- `Match` with the same numbers
fresh_some : (before : List ℕ) (n : ℕ) → Fresh before n → 0 < n
fresh_some [] n f = f
fresh_some (n' ∷ before) n f = fresh_some before n f.1

matched : (before : List ℕ) (others : Type 0) (ts : Tests) (rows : Rows) → Match before ts rows → Apart (Fresh before) others ts rows
matched before others done none m = ended
matched before others done (row n' A rows) m = absurd m
matched before others (test b n ts) none m = absurd m
matched before others (test b n ts) (row n' A rows) m =
    subst (λ (x : ℕ). Apart (Fresh before) others (test b n ts) (row x A rows)) m.1
    (apart (fresh_some before n m.0) m.0 (λ x f. (f.1, f.0)) (λ _. m.2) (matched (n ∷ before) (others × (A → ⊥)) ts rows m.3))

pub refusal_is : RefusalIs
refusal_is ts rows m = each_number rows (matched [] (Unit {0}) ts rows m)

pub then_iff : {A B C : Type 0} → A ↔ B → B ↔ C → A ↔ C
then_iff s t = (λ a. t.0 (s.0 a), λ c. s.1 (t.1 c))

-- A TEST AND WHAT IT SAYS
abbrev pub Says : Bool → Type 0 → Type 0
Says b A = (b ≡ true) ↔ A

pub fails_unless : {b : Bool} {A : Type 0} → Says b A → (b ≡ false) ↔ (A → ⊥)
fails_unless {b} s = (λ e a. false≢true (sym e ∙ s.1 a), λ d. is_false b (λ t. d (s.0 t)))

-- and what holds where it is not refused
pub sure : {b : Bool} {A : Type 0} → Says b A → ((A → ⊥) → ⊥) → A
sure {b} s d = ⊎_elim s.0 (λ f. absurd (d ((fails_unless s).0 f))) (either b)

pub not_false : (b : Bool) → not b ≡ false → b ≡ true
not_false true e = refl
not_false false e = absurd (false≢true (sym e))

pub fails_if : {b : Bool} {A : Type 0} → Says b A → (not b ≡ false) ↔ A
fails_if {b} s = (λ e. s.0 (not_false b e), λ a. ap not (s.1 a))

pub both_say : {a b : Bool} {A B : Type 0} → Says a A → Says b B → Says (a && b) (A × B)
both_say {a} {b} s t = (λ e. (s.0 (first_true a b e), t.0 (second_true a b e)), λ p. both_true (s.1 p.0) (t.1 p.1))

pub three_say : {a b c : Bool} {A B C : Type 0} → Says a A → Says b B → Says c C → Says (a && (b && c)) (A × B × C)
three_say {a} {b} {c} r s t =
    let u = both_say {a = b} {b = c} s t in
    let v = both_say {a = a} {b = b && c} r u in
    (λ e. let p = v.0 e in (p.0, p.1.0, p.1.1), λ p. v.1 (p.0, (p.1, p.2)))

pub either_fails : {a b : Bool} {A B : Type 0} → Says a A → Says b B → ((a && b) ≡ false) ↔ ((A → ⊥) ⊎ (B → ⊥))
either_fails {a} {b} {A} {B} s t =
    (go a ((fails_unless s).0), ⊎_elim (λ d. first_false b ((fails_unless s).1 d)) (λ d. second_false a ((fails_unless t).1 d)))
  where
    go : (a : Bool) → (a ≡ false → A → ⊥) → (a && b) ≡ false → (A → ⊥) ⊎ (B → ⊥)
    go true first e = inr ((fails_unless t).0 e)
    go false first e = inl (first refl)

pub equal_says : {a b c : ℕ} → b ≡ c → Says (eqb a b) (a ≡ c)
equal_says {a} {b} {c} e = (λ t. eqb-true a b t ∙ e, λ p. eq-eqb a b (p ∙ sym e))

-- 1, header range
range_says : (low high x : ℕ) → Says (is_in low high x) ((low ≤ x) × (x ≤ high))
range_says low high x =
    both_say {a = leb low x} {b = leb x high} (λ t. leb-true low x t, λ h. le-leb low x h) (λ t. leb-true x high t, λ h. le-leb x high h)

pub fits_iff : FitsIff
fits_iff h =
    let s =
    both_say {a = is_in 1 10 h.k} {b = is_in 1 128 h.s && ltb h.c (record_count h)} (range_says 1 10 h.k)
    (both_say {a = is_in 1 128 h.s} {b = ltb h.c (record_count h)} (range_says 1 128 h.s) (ltb-true h.c (record_count h), lt-ltb h.c (record_count h))) in (
      λ t. let p = s.0 t in record { k_from = p.0.0; k_to = p.0.1; s_from = p.1.0.0; s_to = p.1.0.1; c_to = p.1.1 },
      λ r. s.1 ((r.k_from, r.k_to), ((r.s_from, r.s_to), r.c_to)),
    )

pub header_fails : (h : Header) → (header_fits h ≡ false) ↔ OutOfRange h
header_fails h = fails_unless (fits_iff h)

-- 2, length: the sizes that are written another way
pub full_is : (h : Header) → full_size h ≡ 2 * 2 ^ h.k * suc h.s
full_is h = rw (pow-succ' 2 h.k) refl

pub log_is : (h : Header) → log_size h ≡ (2 * 2 ^ h.k - 2) * suc h.s
log_is h = rw (pow-succ' 2 h.k) refl

-- 4, record number
pub record_number_fails : (n i : ℕ) → (ltb i n ≡ false) ↔ (n ≤ i)
record_number_fails n i = (ltb-false i n, le-ltb i n)

-- 5, data word
over_65535 : (l : List ℕ) → are_data l ≡ false → NoDataWord l
unfolding every
over_65535 [] e = absurd (false≢true (sym e))
over_65535 (x ∷ l) e = go (is_data x) refl e (over_65535 l)
  where
    go : (b : Bool) → is_data x ≡ b → (b && are_data l) ≡ false → (are_data l ≡ false → NoDataWord l) → NoDataWord (x ∷ l)
    go true t u rest = let w = rest u in record { place = suc w.place; over = w.over }
    go false t u rest = record { place = 0; over = leb-false x 65535 t }

pub data_fails : (l : List ℕ) → (are_data l ≡ false) ↔ NoDataWord l
data_fails l = (over_65535 l, λ w. is_false (are_data l) (λ t. let b = (data_words l t).word w.place in omega (arith, w.over)))

-- THE DATA OF A RECORD: b has s words, those that `word` says
each_passes : (f : ℕ → Bool) (b : List ℕ) → every f b ≡ true → (q : ℕ) → q < length b → f (get_or b q 0) ≡ true
unfolding every
each_passes f [] e q h = absurd (omega arith)
each_passes f (x ∷ b) e zero h = first_true (f x) (every f b) e
each_passes f (x ∷ b) e (suc q) h = each_passes f b (second_true (f x) (every f b) e) q (omega arith)

passes_each : (f : ℕ → Bool) (b : List ℕ) → ((q : ℕ) → q < length b → f (get_or b q 0) ≡ true) → every f b ≡ true
unfolding every
passes_each f [] e = refl
passes_each f (x ∷ b) e = both_true (e 0 (omega arith)) (passes_each f b (λ q h. e (suc q) (omega arith)))

module _ (b : List ℕ) {s : ℕ} (word : ℕ → ℕ) (long : length b ≡ s) (at : (q : ℕ) → q < s → get_or b q 0 ≡ word q) where
  every_says : (f : ℕ → Bool) {P : ℕ → Type 0} → ((x : ℕ) → Says (f x) (P x)) → Says (every f b) ((q : ℕ) → q < s → P (word q))
  every_says f say = (
    λ e q h. (say (word q)).0 (ap f (sym (at q h)) ∙ each_passes f b e q (omega (arith, long))),
    λ d. passes_each f b (λ q h. let t : q < s = omega (arith, long) in ap f (at q t) ∙ (say (word q)).1 (d q t)),
  )

  data_says : Says (are_data b) ((q : ℕ) → q < s → word q ≤ 65535)
  data_says = every_says is_data (λ x. (leb-true x 65535, le-leb x 65535))

  pub struck_says : Says (is_struck b) (IsStruck s word)
  struck_says = every_says is_struck_word (λ x. (eqb-true x 65536, eq-eqb x 65536))

  pub record_says : Says (record_fits b) (HoldsRecord s word)
  record_says = (
    λ e. ⊎_elim (λ t. inl (data_says.0 t)) (λ t. inr (struck_says.0 t)) (or_cases (are_data b) (is_struck b) e),
    λ r. ⊎_elim (λ d. or_left (are_data b) (is_struck b) (data_says.1 d)) (λ d. or_right (are_data b) (is_struck b) (struck_says.1 d)) r,
  )

-- of one record of a raw buffer
module _ (h : Header) (r : List ℕ) (i : ℕ) (long : length r ≡ 2 ^ h.k * h.s) (within : i < 2 ^ h.k) where
  pub raw_holds : Says (record_fits (record_in h.s r i)) (HoldsRecord h.s (record_word h r i))
  raw_holds = record_says (record_in h.s r i) (record_word h r i) (length_record (2 ^ h.k) h.s r i long within) (word_of_record h.s r i)

  pub raw_struck : Says (is_struck (record_in h.s r i)) (StruckRecord h r i)
  raw_struck = struck_says (record_in h.s r i) (record_word h r i) (length_record (2 ^ h.k) h.s r i long within) (word_of_record h.s r i)

-- 6, no stripe
pub needed_iff : NeededIff
needed_iff h l = (
  λ n. ⊎_elim (λ f. inl (eqb-true l h.k f)) (λ t. inr (t.0, eqb-true (h.c / 2 ^ l % 2) 1 t.1)) n,
  λ s. ⊎_elim (λ e. inl (eq-eqb l h.k e)) (λ t. inr (t.0, eq-eqb (h.c / 2 ^ l % 2) 1 t.1)) s,
)

pub stripe_says : (h : Header) (l : ℕ) → Says (has_stripe h l) (IsStripe h l)
stripe_says h l = (λ t. (needed_iff h l).0 (passes_needed h l t), λ s. needed_passes h l ((needed_iff h l).1 s))

-- 11, blank
pub blank_says : (b : List ℕ) → Says (is_blank b) (AllZero b)
blank_says b = (
  λ t q. let u : Words 1 b = every_words is_zero (lit< tt) (λ x z. let e = eqb-true x 0 z in omega arith) b t in omega (arith, u.word q),
  λ z. words_every is_zero {p = 1} (λ x l. eq-eqb x 0 (omega arith)) b (record { word = λ q. omega (arith, z q) }),
)

pub blank_fails : (b : List ℕ) → (not (is_blank b) ≡ false) ↔ AllZero b
blank_fails b = fails_if (blank_says b)
