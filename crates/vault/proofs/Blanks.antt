-- BLANK BLOCKS: today's write beside the earlier one, with any header and any buffers; zero records opened; and blank blocks after a history. Assumes nothing.
use mathlib.Core.Path.{◌≡◌, refl, sym, ap, ap₂, ◌∙◌}
use mathlib.Core.Bool.{Bool, true, false, false≢true, ◌&&◌, not}
use mathlib.Core.Logic.{◌⊎◌, inl, inr, ⊎_elim}
use mathlib.Core.List.{List, [], ◌∷◌, ◌++◌}
use Prim.Native.Nat.{ℕ, ◌+◌, ◌*◌, ◌^◌, ◌≤◌, ◌<◌}
use native.Mathlib.Omega.{arith}
use lib.Dec.{eqb, ltb}
use lib.ListN.{length, replicate, length-replicate}
use Rattle.field.proofs.Booleans.{if_else, if_else_true, if_else_false, either}
use Rattle.layout.specs.declared.Header.{Header}
use Rattle.layout.specs.Header.{header_of, record_count, header_fits, raw_size, full_size, log_size}
use Rattle.field.specs.Words.{every}
use Rattle.layout.specs.Records.{is_data, are_data, is_zero, is_blank, struck_data, record_in, records_fit}
use Rattle.layout.specs.Refusals.{Tests, done, test, refusal, if_taken}
use Rattle.store.proofs.OpenRefusals.{open_taken}
use Rattle.layout.proofs.RecordWords.{zeros_blank, blank_zeros, zeros_data, replaced_is, record_same, record_end, fit_each, fit_one, fit_all}
use Rattle.layout.proofs.Refusals.{equal_three, test_holds, none_fails, if_refused}
use Rattle.store.specs.Buffers.{Buffers}
use Rattle.store.specs.Writing.{next_header, written}
use Rattle.store.specs.StoreCalls.{buffers_fit, numbered, leaving}
use Rattle.splitting.specs.Splitting.{header_before}
use Rattle.taking_back.specs.TakingBack.{TakenBack, stopped, goes, number_back, buffers_back}
use Rattle.taking_back.specs.TakeBackCall.{take_back_early, take_back_comes}
use Rattle.vault.specs.Event.{Opening, Event, write, earlier, strike, take_back}
use Rattle.vault.specs.History.{Vault, vault, number_on, step, Opens, opened_vault, vault_after}
use Rattle.vault.specs.Model.{Model, words_fit, words_zero, judged, table_number, put, opened_model, model_of}
use Rattle.vault.specs.promises.Blanks.{GivesEleven, ElseAsEarlier, FiveNotBlank, Fitting, OpensIff, ZerosOpen, BlankRefused, BlankKept}
use Rattle.vault.proofs.Judged.{judged_words}
use Rattle.vault.proofs.Table.{raw_holds}
use Rattle.vault.proofs.Histories.{data_fit, blank_zero, after_more, fed_more, records_long_lem, numbers_are}

-- FOUR TESTS AND MORE: either the four hold, and the others decide, or the first of the four that fails does, whatever follows
abbrev four : (p q r s : Bool) → Tests → ℕ
four p q r s ts = refusal (test p 1 (test q 2 (test r 4 (test s 5 ts))))

decided : (p q r s : Bool) (more : Tests) → let n = four p q r s done in
    ((n ≡ 0) × (four p q r s more ≡ refusal more)) ⊎ ((0 < n) × (n < 11) × (four p q r s more ≡ n))
unfolding refusal
decided false q r s more = inr (omega arith, omega arith, refl)
decided true false r s more = inr (omega arith, omega arith, refl)
decided true true false s more = inr (omega arith, omega arith, refl)
decided true true true false more = inr (omega arith, omega arith, refl)
decided true true true true more = inl (refl, refl)

-- TODAY'S WRITE AND THE EARLIER ONE
module _ (v : Vault) (i : ℕ) (b : List ℕ) where
  abbrev today : ℕ
  today = number_on v (write i b)

  abbrev before : ℕ
  before = number_on v (earlier i b)

  abbrev last : (blank : Bool) → ℕ
  last z = refusal (test (not z) 11 done)

  or_before : ((before ≡ 0) × (today ≡ last (is_blank b))) ⊎ ((0 < before) × (before < 11) × (today ≡ before))
  or_before =
      let h = v.header in
      decided (header_fits h) (buffers_fit h v.held && eqb (length b) h.s) (ltb i (record_count h)) (are_data b) (test (not (is_blank b)) 11 done)

  last_blank : is_blank b ≡ true → last (is_blank b) ≡ 11
  unfolding refusal
  last_blank e = ap (λ (z : Bool). last z) e

  last_other : is_blank b ≡ false → last (is_blank b) ≡ 0
  unfolding refusal
  last_other e = ap (λ (z : Bool). last z) e

  eleven : before ≡ 0 → is_blank b ≡ true → today ≡ 11
  eleven e z = ⊎_elim (λ t. t.1 ∙ last_blank z) (λ t. absurd (omega (arith, t.0))) or_before

  blank_if : today ≡ 11 → (before ≡ 0) × (is_blank b ≡ true)
  blank_if e = ⊎_elim (λ t. (t.0, go t.1 (either (is_blank b)))) (λ t. absurd (omega (arith, t.1, t.2))) or_before
    where
      go : today ≡ last (is_blank b) → (is_blank b ≡ true) ⊎ (is_blank b ≡ false) → is_blank b ≡ true
      go q (inl z) = z
      go q (inr z) = absurd (omega (arith, last_other z))

  same_number : (today ≡ 11 → ⊥) → today ≡ before
  same_number d = ⊎_elim (λ t. go t.0 t.1 (either (is_blank b))) (λ t. t.2) or_before
    where
      go : before ≡ 0 → today ≡ last (is_blank b) → (is_blank b ≡ true) ⊎ (is_blank b ≡ false) → today ≡ before
      go e q (inl z) = absurd (d (eleven e z))
      go e q (inr z) = q ∙ last_other z ∙ sym e

pub gives_eleven : GivesEleven
gives_eleven v i b = (
  λ e. let t = blank_if v i b e in (t.0, blank_zeros b t.1),
  λ t. eleven v i b t.0 (ap (every is_zero) t.1 ∙ zeros_blank (length b)),
)

pub else_as_earlier : ElseAsEarlier
else_as_earlier v i b d =
    let e = same_number v i b d in
    (e, ap (λ (n : ℕ). vault (numbered n v.header).header (leaving n v.header v.held i b)) e)

never_five : (p q r s : Bool) → s ≡ true → four p q r s done ≡ 5 → ⊥
unfolding refusal
never_five false q r s t e = omega arith
never_five true false r s t e = omega arith
never_five true true false s t e = omega arith
never_five true true true true t e = omega arith
never_five true true true false t e = false≢true t

pub five_not_blank : FiveNotBlank
five_not_blank v i b e blank =
    let h = v.header in
    never_five (header_fits h) (buffers_fit h v.held && eqb (length b) h.s) (ltb i (record_count h)) (are_data b)
    (ap (every is_data) blank ∙ zeros_data (length b)) e

-- a write whose number is not 0, and a strike
refused : (v : Vault) (i : ℕ) (b : List ℕ) {n : ℕ} → (n ≡ 0 → ⊥) → vault (numbered n v.header).header (leaving n v.header v.held i b) ≡ v
refused v i b d = let h = v.header in ap₂ vault (if_refused (next_header h) h d) (if_refused (written h v.held i b) v.held d)

-- a taking-back that comes to a number leaves the buffers, and so does one that an early test refuses
back_stays : (h : Header) (u : Buffers) (x : TakenBack) → (number_back x ≡ 0 → ⊥) → buffers_back h u x ≡ u
back_stays h u (stopped n) d = refl
back_stays h u (goes bs ws) d = absurd (d refl)

back_refused : (h : Header) (u : Buffers) (x : TakenBack) (early : ℕ) → (if_taken early (number_back x) early ≡ 0 → ⊥)
    → if_taken early (buffers_back h u x) u ≡ u
back_refused h u x early d = go (eqb early 0) d
  where
    go : (z : Bool) → (if_else z (number_back x) early ≡ 0 → ⊥) → if_else z (buffers_back h u x) u ≡ u
    go true d = back_stays h u x d
    go false d = refl

pub refused_stays : (v : Vault) (next : Event) → (number_on v next ≡ 0 → ⊥) → step v next ≡ v
refused_stays v (write i b) d = refused v i b d
refused_stays v (earlier i b) d = refused v i b d
refused_stays v (strike i) d = refused v i (struck_data v.header.s) d
refused_stays v (take_back scratch) d =
    let h = v.header in
    ap₂ vault (if_refused (header_before h) h d)
    (back_refused h v.held (take_back_comes h v.held) (take_back_early h v.held scratch) d)

-- RECORDS THAT FIT are opened, and zero records do
opens_if : (o : Opening) → Fitting o → records_fit o.s o.raw (2 ^ o.k) ≡ true → Opens o
opens_if o t e =
    let h = header_of o.k o.s 0 in
    test_holds 1 _ t.header
    ∙ test_holds 2 _ (equal_three (length o.raw) (raw_size h) (length o.full) (full_size h) (length o.log) (log_size h) t.raw_long t.full_long
    t.log_long)
    ∙ test_holds 5 done e ∙ none_fails

pub opens_iff : OpensIff
opens_iff o t =
    let holds = λ (i : ℕ) (b : i < 2 ^ o.k). raw_holds (header_of o.k o.s 0) o.raw i t.raw_long b in (
      λ e i b. (holds i b).0 (fit_one o.s o.raw (2 ^ o.k) i (open_taken o.k o.s o.raw o.full o.log e).records b),
      λ d. opens_if o t (fit_each o.s o.raw (2 ^ o.k) (λ i b. (holds i b).1 (d i b))),
    )

pub zeros_open : ZerosOpen
zeros_open o t e = opens_if o t (fit_all o.s o.raw (2 ^ o.k) (ap (every is_data) e ∙ zeros_data (length o.raw)))

-- a block that is entered is the record then
put_record : (m : Model) (i : ℕ) (b : List ℕ) → length b ≡ m.s → i < 2 ^ m.k → length m.records ≡ 2 ^ m.k * m.s
    → record_in m.s (put m i b).records i ≡ b
put_record m i b e within long =
    let inside : i * m.s + m.s ≤ length m.records = omega (arith, long, record_end (2 ^ m.k) m.s i within) in
    ap (λ (r : List ℕ). record_in m.s r i) (sym (replaced_is m.s m.records i b e (omega arith))) ∙ record_same m.s m.records i b e inside

-- A BLOCK OF ZEROS for a record of the model is judged by 11 alone
module _ (m : Model) (i s : ℕ) (within : i < 2 ^ m.k) (long : s ≡ m.s) where
  judged_zeros : (n : ℕ) → judged m i (replicate s 0) n ≡ n
  judged_zeros n =
      let b : List ℕ = replicate s 0 in
      judged_words m i b n (length-replicate s 0 ∙ long) within ∙ if_else_true (words_fit b) n 5 (sym (data_fit b) ∙ zeros_data s)

  zeros_today : table_number m (write i (replicate s 0)) ≡ 11
  zeros_today = judged_zeros _ ∙ if_else_true (words_zero (replicate s 0)) 11 0 (sym (blank_zero (replicate s 0)) ∙ zeros_blank s)

  zeros_before : table_number m (earlier i (replicate s 0)) ≡ 0
  zeros_before = judged_zeros 0

  -- and where it is entered, the record is zeros
  zeros_put : length m.records ≡ 2 ^ m.k * m.s → record_in s (put m i (replicate s 0)).records i ≡ replicate s 0
  zeros_put e = ap (λ (n : ℕ). record_in n (put m i (replicate s 0)).records i) long ∙ put_record m i (replicate s 0) (length-replicate s 0 ∙ long) within e

-- AFTER A HISTORY
module _ (o : Opening) (es : List Event) (i : ℕ) (O : Opens o) (within : i < 2 ^ (model_of o es).k) where
  abbrev m : Model
  m = model_of o es

  abbrev zeros : List ℕ
  zeros = replicate m.s 0

  eleven_now : number_on (vault_after o es) (write i zeros) ≡ 11
  eleven_now = numbers_are o es (write i zeros) O ∙ zeros_today m i m.s within refl

  vault_stays : vault_after o (es ++ (write i zeros ∷ [])) ≡ vault_after o es
  vault_stays = after_more (opened_vault o) es (write i zeros) ∙ refused_stays (vault_after o es) (write i zeros) (λ z. absurd (omega (arith, eleven_now, z)))

  model_stays : model_of o (es ++ (write i zeros ∷ [])) ≡ m
  model_stays =
      fed_more (opened_model o) es (write i zeros)
      ∙ if_else_false (eqb (table_number m (write i zeros)) 0) (put m i zeros) m (ap (λ (n : ℕ). eqb n 0) (zeros_today m i m.s within refl))

  taken_earlier : table_number m (earlier i zeros) ≡ 0
  taken_earlier = zeros_before m i m.s within refl

  zeros_kept : record_in m.s (model_of o (es ++ (earlier i zeros ∷ []))).records i ≡ zeros
  zeros_kept =
      ap (λ (y : Model). record_in m.s y.records i) (fed_more (opened_model o) es (earlier i zeros)
      ∙ if_else_true (eqb (table_number m (earlier i zeros)) 0) (put m i zeros) m (ap (λ (n : ℕ). eqb n 0) taken_earlier))
      ∙ zeros_put m i m.s within refl (records_long_lem o es O)

pub blank_refused : BlankRefused
blank_refused o es i O w = (eleven_now o es i O w, vault_stays o es i O w, model_stays o es i O w)

pub blank_kept : BlankKept
blank_kept o es i O w =
    let e = taken_earlier o es i O w in
    (numbers_are o es (earlier i (replicate (model_of o es).s 0)) O ∙ e, e, zeros_kept o es i O w)
