-- EVERY HISTORY keeps one invariant: header and buffers are those of the round, which is good, and the model is the round's.
-- From it demand 1, the words of demand 2, and the room Histories of specs/promises. Assumes nothing.
use mathlib.Core.Path.{◌≡◌, refl, sym, ap, ap₂, ◌∙◌, subst, subst₂, subst₃}
use mathlib.Core.Bool.{Bool, true, false, ◌&&◌, not}
use mathlib.Core.List.{List, [], ◌∷◌, ◌++◌}
use Prim.Native.Nat.{ℕ, suc, ◌*◌, ◌-◌, ◌%◌, ◌^◌, ◌<◌}
use native.Mathlib.Nat.{zero-div}
use native.Mathlib.Omega.{arith}
use lib.Dec.{eqb, ltb}
use lib.ListN.{length, get_or, take, length-append, length-replicate}
use lib.Pow.{pow_pos}
use borrow.Author.Tests.{eqb-true, eqb-false}
use Rattle.layout.specs.declared.Header.{Header}
use Rattle.layout.specs.Header.{header_of, level_for}
use Rattle.field.specs.Words.{every}
use Rattle.layout.specs.Records.{are_data, is_blank, struck_data, replaced}
use Rattle.store.specs.Buffers.{full_stripe, Buffers, buffers, opened}
use Rattle.store.specs.Writing.{next_header, log_with, written}
use Rattle.layout.specs.Refusals.{Tests, done, test, refusal, if_taken}
use Rattle.store.specs.StoreCalls.{buffers_fit, write_tests, numbered, leaving, write_number, earlier_number, strike_number}
use Rattle.splitting.specs.Splitting.{header_before}
use Rattle.taking_back.specs.TakingBack.{buffers_back}
use Rattle.taking_back.specs.TakeBackCall.{take_back_comes}
use Rattle.vault.specs.Event.{Entry, Opening, Event, write, earlier, strike, take_back}
use Rattle.vault.specs.History.{Vault, vault, number_on, step, after, Opens, opened_vault, vault_after, header_after}
use Rattle.vault.specs.Model.{Model, writes, words_fit, words_zero, judged, strike_judged, back_judged, table_number, put, struck, cancelled}
use Rattle.vault.specs.Model.{fed, fed_all, opened_model, model_of}
use Rattle.vault.specs.Round.{Round, put_all, before_each, records_in, model_in, start_of, grown, cut, turn_round, round_after, opened_round, round_of}
use Rattle.vault.specs.Round.{round_header, represent}
use Rattle.vault.specs.promises.Histories.{SizesBegin, SizesKept, SizesStay, RecordsLong, RawIs, ModelIs, BeforeIs}
use Rattle.field.proofs.Booleans.{if_else, if_else_true, if_else_false}
use Rattle.layout.proofs.Refusals.{none_fails, alone_not}
use Rattle.layout.proofs.RecordWords.{data_fits, struck_fits, replaced_is, record_end}
use Rattle.store.proofs.OpenRefusals.{open_taken}
use Rattle.vault.proofs.Judged.{write_enters, strike_within, some_write}
use Rattle.vault.proofs.Levels.{log_empty}
use Rattle.vault.proofs.Rounds.{fit_sizes, Taken, AllTaken, none, more, Good, taken_append, put_append, length_put, fit_put, before_append}
use Rattle.vault.proofs.Rounds.{length_before, before_at, records_long, header_fits_lem, buffers_fit_lem}
use Rattle.vault.proofs.Rebuilding.{log_written}
use Rattle.vault.proofs.TakingBackRounds.{cut_back, back_early, back_number}

-- THE INVARIANT: a vault and a model represent a round
pub record Represents (a : Round) (v : Vault) (m : Model) : Type 0 where
  pub good : Good a
  pub vault_is : v ≡ vault (round_header a) (represent a)
  pub model_is : m ≡ model_in a

along : {a a' : Round} {v v' : Vault} {m m' : Model} → a' ≡ a → v' ≡ v → m' ≡ m → Represents a v m → Represents a' v' m'
along p q r t = subst₃ (λ (a : Round) (v : Vault) (m : Model). Represents a v m) (sym p) (sym q) (sym r) t

-- a block's words are judged alike by the call and by the table
pub data_fit : (b : List ℕ) → are_data b ≡ words_fit b
unfolding every words_fit
data_fit [] = refl
data_fit (x ∷ b) = rw (data_fit b)

pub blank_zero : (b : List ℕ) → is_blank b ≡ words_zero b
unfolding every words_zero
blank_zero [] = refl
blank_zero (x ∷ b) = rw (blank_zero b)

pub blank_number : (b : List ℕ) → refusal (test (not (is_blank b)) 11 done) ≡ elim (words_zero b) [ true ↦ 11 | false ↦ 0 ]
blank_number b = alone_not (is_blank b) 11 ∙ ap (λ (z : Bool). if_else z 11 0) (blank_zero b)

-- THE START OF A ROUND: no writes since, and a log of zeros
pub start : (k s : ℕ) (r : List ℕ) → represent (start_of k s r) ≡ opened (header_of k s 0) r
unfolding put_all
start k s r =
    ap (buffers r (full_stripe (header_of k s 0) r)) (log_empty (header_of k s 0) [] k (λ l _. ap (λ (n : ℕ). eqb (n % 2) 1) (zero-div (2 ^ l))))

-- OPENING
module _ (o : Opening) (opens : Opens o) where
  pub open_good : Good (opened_round o)
  open_good =
      let t = open_taken o.k o.s o.raw o.full o.log opens in
      record {
        sizes = fit_sizes o.k o.s 0 t.fitting;
        base_long = t.raw_long;
        base_fits = t.records;
        taken = none;
        few = pow_pos o.k;
      }

  open_represents : Represents (opened_round o) (opened_vault o) (opened_model o)
  unfolding put_all before_each
  open_represents = record {
    good = open_good;
    vault_is =
        let h = header_of o.k o.s 0 in
        ap (λ (n : ℕ). vault (if_taken n h (header_of 0 0 0)) (if_taken n (opened h o.raw) (buffers o.raw o.full o.log))) opens
        ∙ ap (vault h) (sym (start o.k o.s o.raw));
    model_is = refl;
  }

-- a write that the table takes, with any model
pub taken_is : (m : Model) (i : ℕ) (b : List ℕ) (n : ℕ) → judged m i b n ≡ 0 → Taken m.k m.s (record { number = i; block = b })
taken_is m i b n e = let t = write_enters m i b n e in record { within = t.within; long = t.long; fits = data_fits b (data_fit b ∙ t.words) }

-- and a strike
pub strike_is : (m : Model) (i : ℕ) → strike_judged m i ≡ 0 → Taken m.k m.s (record { number = i; block = struck m })
strike_is m i e = record { within = strike_within m i e; long = length-replicate m.s 65536; fits = struck_fits m.s }

-- A STRIKE on a good round has the table's number
strike_number_lem : (a : Round) → Good a → (i : ℕ) → strike_number (round_header a) (represent a) i ≡ table_number (model_in a) (strike i)
unfolding refusal
strike_number_lem a good i =
    ap₂ (λ (p q : Bool). refusal (test p 1 (test q 2 (test (ltb i (2 ^ a.k)) 4 done)))) (header_fits_lem good) (buffers_fit_lem good)

-- A WRITE on a good round, today's or an earlier one, or what a strike writes
module _ (a : Round) (good : Good a) (i : ℕ) (b : List ℕ) where
  abbrev h : Header
  h = round_header a

  abbrev u : Buffers
  u = represent a

  abbrev x : Entry
  x = record { number = i; block = b }

  abbrev now : List Entry
  now = a.since ++ (x ∷ [])

  -- the model that a taken write leaves, by its records, what it remembers of the round, and whether it ends the round
  abbrev model : (records : List ℕ) → (before : List (List ℕ)) → (last : Bool) → Model
  model r c z = record { k = a.k; s = a.s; records = r; written = if_else z [] now; before = if_else z [] c }

  -- its number is the table's, whatever is tested after 5
  number_is : (rest : Tests) → refusal (write_tests h u i b rest) ≡ judged (model_in a) i b (refusal rest)
  unfolding refusal
  number_is rest =
      ap₂ (λ (p q : Bool). refusal (test p 1 (test q 2 (test (ltb i (2 ^ a.k)) 4 (test (are_data b) 5 rest))))) (header_fits_lem good) sizes
      ∙ ap (λ (z : Bool). refusal (test (eqb (length b) a.s) 2 (test (ltb i (2 ^ a.k)) 4 (test z 5 rest)))) (data_fit b)
    where
      sizes : (buffers_fit h u && eqb (length b) a.s) ≡ eqb (length b) a.s
      sizes = ap (λ (z : Bool). z && eqb (length b) a.s) (buffers_fit_lem good)

  write_number_lem : write_number h u i b ≡ table_number (model_in a) (write i b)
  write_number_lem = number_is (test (not (is_blank b)) 11 done) ∙ ap (judged (model_in a) i b) (blank_number b)

  earlier_number_lem : earlier_number h u i b ≡ table_number (model_in a) (earlier i b)
  earlier_number_lem = number_is done ∙ ap (judged (model_in a) i b) none_fails

  -- a write that is taken
  module _ (t : Taken a.k a.s (record { number = i; block = b })) where
    put_now : replaced a.s u.raw i b ≡ put_all a.s a.base now
    unfolding put_all
    put_now = sym (put_append a.s a.base a.since (x ∷ []))

    -- and so in the model's words
    put_model : (put (model_in a) i b).records ≡ put_all a.s a.base now
    put_model =
        sym (replaced_is a.s (records_in a) i b t.long (omega (arith, records_long good, record_end (2 ^ a.k) a.s i t.within))) ∙ put_now

    all_taken : AllTaken a.k a.s now
    all_taken = taken_append good.taken (more t none)

    now_long : suc (length a.since) ≡ length now
    now_long = omega (arith, length-append a.since (x ∷ []))

    -- whether it is the last of its round; and what it leaves if it is, and if it is not
    abbrev last : Bool
    last = eqb (suc (length a.since)) (2 ^ a.k)

    abbrev ended : Round
    ended = start_of a.k a.s (put_all a.s a.base now)

    abbrev longer : Round
    longer = record { k = a.k; s = a.s; base = a.base; since = now }

    abbrev opened_again : Buffers
    opened_again = opened h (replaced a.s u.raw i b)

    abbrev added : Buffers
    added = buffers (replaced a.s u.raw i b) u.full (log_with h u.log (i ∷ b) (level_for h))

    abbrev remembered : List (List ℕ)
    remembered = records_in a ∷ before_each a.s a.base a.since

    abbrev Grown : Type 0
    Grown = Represents (grown a x) (vault (next_header h) (written h u i b)) (put (model_in a) i b)

    -- the last of a round starts the next one
    last_represents : last ≡ true → Grown
    unfolding put_all before_each
    last_represents e =
        along (if_else_true last ended longer e)
        (ap₂ vault (ap (header_of a.k a.s) (if_else_true last 0 (suc h.c) e))
        (if_else_true last opened_again added e ∙ ap (opened h) put_now ∙ sym (start a.k a.s ended.base)))
        (ap₂ (λ (r : List ℕ) (z : Bool). model r remembered z) put_model e)
        (record {
          good = record {
            sizes = good.sizes;
            base_long = length_put a.base good.base_long all_taken;
            base_fits = fit_put a.base good.base_long good.base_fits all_taken;
            taken = none;
            few = pow_pos a.k;
          };
          vault_is = refl;
          model_is = refl;
        })

    -- any other adds to the log
    next_represents : last ≡ false → Grown
    next_represents e =
        let fewer : suc (length a.since) < 2 ^ a.k = omega (arith, good.few, eqb-false (suc (length a.since)) (2 ^ a.k) e) in
        along (if_else_false last ended longer e)
        (ap₂ vault (ap (header_of a.k a.s) (if_else_false last 0 (suc h.c) e ∙ now_long))
        (if_else_false last opened_again added e ∙ ap₂ (λ (r g : List ℕ). buffers r u.full g) put_now (log_written good t fewer)))
        (ap₂ (λ (r : List ℕ) (z : Bool). model r remembered z) put_model e
        ∙ ap (λ (c : List (List ℕ)). model (put_all a.s a.base now) c false) (sym (before_append a.s a.base a.since x)))
        (record {
          good = record {
            sizes = good.sizes;
            base_long = good.base_long;
            base_fits = good.base_fits;
            taken = all_taken;
            few = omega (arith, now_long);
          };
          vault_is = refl;
          model_is = refl;
        })

    grown_represents : Grown
    grown_represents = go last refl
      where
        go : (z : Bool) → last ≡ z → Grown
        go true e = last_represents e
        go false e = next_represents e

  -- it enters the block if the number that the call gave, which is the table's, is 0
  module _ {given said : ℕ} (same : given ≡ said) (t : said ≡ 0 → Taken a.k a.s (record { number = i; block = b })) where
    abbrev judged_zero : Bool
    judged_zero = eqb said 0

    abbrev Turned : Type 0
    Turned =
        Represents (if_else judged_zero (grown a x) a) (vault (numbered given h).header (leaving given h u i b))
        (if_else judged_zero (put (model_in a) i b) (model_in a))

    turned : Turned
    turned = go judged_zero refl
      where
        called : eqb given 0 ≡ judged_zero
        called = ap (λ (n : ℕ). eqb n 0) same

        go : (z : Bool) → judged_zero ≡ z → Turned
        go true e =
            along (if_else_true judged_zero (grown a x) a e)
            (ap₂ vault (if_else_true (eqb given 0) (next_header h) h (called ∙ e)) (if_else_true (eqb given 0) (written h u i b) u (called ∙ e)))
            (if_else_true judged_zero (put (model_in a) i b) (model_in a) e) (grown_represents (t (eqb-true said 0 e)))
        go false e =
            along (if_else_false judged_zero (grown a x) a e)
            (ap₂ vault (if_else_false (eqb given 0) (next_header h) h (called ∙ e)) (if_else_false (eqb given 0) (written h u i b) u (called ∙ e)))
            (if_else_false judged_zero (put (model_in a) i b) (model_in a) e) (record { good = good; vault_is = refl; model_is = refl })

-- A TAKING-BACK on a good round leaves the round without its last write, if its number is 0
module _ (a : Round) (good : Good a) (scratch : List ℕ) where
  abbrev before : Vault
  before = vault (round_header a) (represent a)

  abbrev said : ℕ
  said = back_judged (model_in a) scratch

  abbrev CutOr : (taken : Bool) → Type 0
  CutOr z = Represents (if_else z (cut a) a) (step before (take_back scratch)) (if_else z (cancelled (model_in a)) (model_in a))

  taken_back : CutOr (eqb said 0)
  taken_back = go (eqb said 0) refl
    where
      h : Header
      h = round_header a

      u : Buffers
      u = represent a

      left : (z : Bool) → eqb said 0 ≡ z
          → step before (take_back scratch) ≡ vault (if_else z (header_before h) h) (if_else z (buffers_back h u (take_back_comes h u)) u)
      left z e =
          ap₂ (λ (p q : ℕ). vault (if_taken p (header_before h) h) (if_taken q (buffers_back h u (take_back_comes h u)) u)) (back_number good scratch)
          (back_early good scratch)
          ∙ ap (λ (p : Bool). vault (if_else p (header_before h) h) (if_else p (buffers_back h u (take_back_comes h u)) u)) e

      go : (z : Bool) → eqb said 0 ≡ z → CutOr (eqb said 0)
      go true e =
          let C = cut_back good (some_write (model_in a) scratch (eqb-true said 0 e)) in
          along (if_else_true (eqb said 0) (cut a) a e) (left true e ∙ ap₂ vault C.header_is C.buffers_are)
          (if_else_true (eqb said 0) (cancelled (model_in a)) (model_in a) e ∙ C.model_is) (record { good = C.good; vault_is = refl; model_is = refl })
      go false e =
          along (if_else_false (eqb said 0) (cut a) a e) (left false e) (if_else_false (eqb said 0) (cancelled (model_in a)) (model_in a) e)
          (record { good = good; vault_is = refl; model_is = refl })

-- ONE EVENT on a good round: its number is the table's, and what it leaves represents the round that it leaves
number_on_lem : (a : Round) → Good a → (e : Event) → number_on (vault (round_header a) (represent a)) e ≡ table_number (model_in a) e
number_on_lem a good (write i b) = write_number_lem a good i b
number_on_lem a good (earlier i b) = earlier_number_lem a good i b
number_on_lem a good (strike i) = strike_number_lem a good i
number_on_lem a good (take_back scratch) = back_number good scratch

turn_from : (a : Round) → Good a → (e : Event) → Represents (turn_round a e) (step (vault (round_header a) (represent a)) e) (fed (model_in a) e)
turn_from a good (write i b) = turned a good i b (write_number_lem a good i b) (taken_is (model_in a) i b (elim (words_zero b) [ true ↦ 11 | false ↦ 0 ]))
turn_from a good (earlier i b) = turned a good i b (earlier_number_lem a good i b) (taken_is (model_in a) i b 0)
turn_from a good (strike i) = turned a good i (struck_data a.s) (strike_number_lem a good i) (strike_is (model_in a) i)
turn_from a good (take_back scratch) = taken_back a good scratch

pub turn_represents : (a : Round) (v : Vault) (m : Model) (e : Event) → Represents a v m → Represents (turn_round a e) (step v e) (fed m e)
turn_represents a v m e t =
    subst₂ (λ (v : Vault) (m : Model). Represents (turn_round a e) (step v e) (fed m e)) (sym t.vault_is) (sym t.model_is) (turn_from a t.good e)

-- ALL EVENTS
pub represents_after : (a : Round) (v : Vault) (m : Model) (es : List Event) → Represents a v m → Represents (round_after a es) (after v es) (fed_all m es)
unfolding round_after after fed_all
represents_after a v m [] t = t
represents_after a v m (e ∷ es) t = represents_after (turn_round a e) (step v e) (fed m e) es (turn_represents a v m e t)

pub histories : (o : Opening) (es : List Event) → Opens o → Represents (round_of o es) (vault_after o es) (model_of o es)
histories o es O = represents_after (opened_round o) (opened_vault o) (opened_model o) es (open_represents o O)

-- an event keeps k and s
put_same : (m : Model) (i : ℕ) (b : List ℕ) (z : Bool) → ((if_else z (put m i b) m).k ≡ m.k) × ((if_else z (put m i b) m).s ≡ m.s)
put_same m i b true = (refl, refl)
put_same m i b false = (refl, refl)

back_same : (m : Model) (z : Bool) → ((if_else z (cancelled m) m).k ≡ m.k) × ((if_else z (cancelled m) m).s ≡ m.s)
back_same m true = (refl, refl)
back_same m false = (refl, refl)

fed_same : (m : Model) (e : Event) → ((fed m e).k ≡ m.k) × ((fed m e).s ≡ m.s)
fed_same m (write i b) = put_same m i b (eqb (table_number m (write i b)) 0)
fed_same m (earlier i b) = put_same m i b (eqb (table_number m (earlier i b)) 0)
fed_same m (strike i) = put_same m i (struck m) (eqb (strike_judged m i) 0)
fed_same m (take_back scratch) = back_same m (eqb (back_judged m scratch) 0)

-- a list of events and one more
pub after_more : (v : Vault) (es : List Event) (e : Event) → after v (es ++ (e ∷ [])) ≡ step (after v es) e
unfolding after
after_more v [] e = refl
after_more v (x ∷ es) e = after_more (step v x) es e

pub fed_more : (m : Model) (es : List Event) (e : Event) → fed_all m (es ++ (e ∷ [])) ≡ fed (fed_all m es) e
unfolding fed_all
fed_more m [] e = refl
fed_more m (x ∷ es) e = fed_more (fed m x) es e

pub sizes_begin : SizesBegin
unfolding fed_all
sizes_begin o = (refl, refl)

pub sizes_kept : SizesKept
sizes_kept o es e =
    let more = fed_more (opened_model o) es e in
    let same = fed_same (model_of o es) e in
    (ap (λ (m : Model). m.k) more ∙ same.0, ap (λ (m : Model). m.s) more ∙ same.1)

fed_all_same : (m : Model) (es : List Event) → ((fed_all m es).k ≡ m.k) × ((fed_all m es).s ≡ m.s)
unfolding fed_all
fed_all_same m [] = (refl, refl)
fed_all_same m (e ∷ es) =
    let one = fed_same m e in
    let all = fed_all_same (fed m e) es in
    (all.0 ∙ one.0, all.1 ∙ one.1)

pub sizes_stay : SizesStay
sizes_stay o es = fed_all_same (opened_model o) es

pub round_writes : (o : Opening) (es : List Event) → Opens o → writes (model_of o es) ≡ length (round_of o es).since
round_writes o es O = ap (λ (m : Model). writes m) (histories o es O).model_is

-- WHAT IS PROMISED of histories
pub header_is : (o : Opening) (es : List Event) → Opens o → header_after o es ≡ header_of (model_of o es).k (model_of o es).s (writes (model_of o es))
header_is o es O =
    let t = histories o es O in
    ap (λ (v : Vault). v.header) t.vault_is ∙ ap (λ (m : Model). header_of m.k m.s (writes m)) (sym t.model_is)

pub records_long_lem : RecordsLong
records_long_lem o es O =
    let t = histories o es O in
    subst (λ (m : Model). length m.records ≡ 2 ^ m.k * m.s) (sym t.model_is) (records_long t.good)

pub numbers_are : (o : Opening) (es : List Event) (next : Event) → Opens o → number_on (vault_after o es) next ≡ table_number (model_of o es) next
numbers_are o es e O =
    let t = histories o es O in
    ap (λ (v : Vault). number_on v e) t.vault_is ∙ number_on_lem (round_of o es) t.good e ∙ ap (λ (m : Model). table_number m e) (sym t.model_is)

pub words_are : (o : Opening) (es : List Event) → Opens o → (vault_after o es).held ≡ represent (round_of o es)
words_are o es O = ap (λ (v : Vault). v.held) (histories o es O).vault_is

pub raw_is : RawIs
raw_is o es O =
    let t = histories o es O in
    ap (λ (v : Vault). v.held.raw) t.vault_is ∙ ap (λ (m : Model). m.records) (sym t.model_is)

pub model_is : ModelIs
model_is o es O = (histories o es O).model_is

pub before_is : BeforeIs
before_is o es O =
    let a = round_of o es in
    let n = round_writes o es O in (
      n,
      ap (λ (m : Model). length m.before) (model_is o es O) ∙ length_before a.s a.base a.since ∙ sym n,
      λ i b. ap (λ (m : Model). get_or m.before i []) (model_is o es O) ∙ before_at a.s a.base a.since i (omega (arith, n))
          ∙ ap₂ (λ (s j : ℕ). put_all s a.base (take (j - suc i) a.since)) (sym (ap (λ (m : Model). m.s) (model_is o es O))) (sym n),
    )
