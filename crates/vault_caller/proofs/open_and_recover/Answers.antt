-- `vault_caller::open_and_recover` meets its contract, by what the vault promises of a history with no events. Assumes nothing.
use Rattle.std.proofs.Common.{◌≡◌, refl, sym, ap, ap₂, ◌∙◌, Bool, true, ◌&&◌, List, [], ℕ, eq-eqb, arith, length, pow_pos}
use Rattle.vault.specs.Header.{header_of, raw_size, scratch_size, image_size}
use Rattle.std.specs.Prelude.{Option, Some, None, Result, Ok, Err, IsOk}
use Rattle.vault.specs.Refusals.{Tests, done, test, refusal, number_of}
use Rattle.vault.specs.Verdicts.{verdict_of, named_by}
use Rattle.vault.specs.declared.Fault.{Fault}
use Rattle.vault.specs.ImageCall.{image_number, image_leaves}
use Rattle.vault.specs.Image.{image_of}
use Rattle.vault.specs.RecoveryCall.{recover_answer, recover_leaves, unnamed}
use Rattle.vault.specs.Event.{Opening}
use Rattle.vault.specs.Model.{fed_all}
use Rattle.vault.specs.History.{Opens, after, opened_vault, vault_after, header_after, image_after}
use Rattle.vault.specs.promises.Losses.{LeavesHalf, Survives, Recovers}
use Rattle.vault.proofs.Proved.{proved}
use Rattle.vault.proofs.Refusals.{if_taken_lem, some_number}
use Rattle.vault.specs.StoreCalls.{Opened, open_answer}
use Rattle.vault_caller.proofs.open_and_recover.Goals as goal

-- OF AN OPENING WITH NO EVENTS AFTER IT, by the record of promises: its header is that of k and s, with count 0 (demand 2);
header_opened : (o : Opening) → Opens o → header_after o [] ≡ header_of o.k o.s 0
unfolding fed_all
header_opened o O = proved.demands.header_is o [] O

-- and its image gives the raw records, if an erasure list leaves half of each needed stripe (demand 3)
raw_recovered : (o : Opening) (e : List ℕ) → Opens o → LeavesHalf (header_of o.k o.s 0) e → Recovers (header_of o.k o.s 0) (image_after o []) e o.raw
unfolding fed_all
raw_recovered o e O L =
    let h = header_opened o O in
    let left : Survives o [] (image_after o []) e = record {
      leaves = rw h L;
      long = proved.histories.image_long o [] O;
      words = record { same = λ l need position column p c free. refl };
    } in
    rw h at (proved.demands.recovers_all o [] (image_after o []) e O left)

-- The call `image` is taken: of a vault that takes a write, all buffers have their lengths, and after an opening one of zeros, made earlier, is taken (blanks)
same_lengths : (a b c d e f : Bool) (ts : Tests) → refusal (test a 1 (test ((b && (c && d)) && e) 2 ts)) ≡ 0 → f ≡ true
    → refusal (test a 1 (test (c && (d && f)) 2 done)) ≡ 0
unfolding refusal
same_lengths true true true true true f ts z t = rw t
same_lengths a b c d e f ts z t = absurd (omega arith)

image_taken : (o : Opening) (m : List ℕ) → Opens o → length m ≡ image_size (header_of o.k o.s 0)
    → image_number (header_after o []) (vault_after o []).held.full (vault_after o []).held.log m ≡ 0
unfolding fed_all
image_taken o m O long =
    same_lengths _ _ _ _ _ _ _ (proved.blanks.blank_kept o [] 0 O (pow_pos o.k)).0 (eq-eqb (length m) _ (rw (header_opened o O) long))

-- An answer with the number 0 is taken
named_number : (n : ℕ) (o : Option ℕ) → (named_by n o).number ≡ n
named_number n None = refl
named_number n (Some l) = refl

no_fault : (r : Result Unit Fault) → (verdict_of r).number ≡ 0 → IsOk r
no_fault (Ok x) e = refl
no_fault (Err f) e = absurd (omega (arith, some_number f.refusal, named_number (number_of f.refusal) f.stripe))

-- THE THREE CALLS, as their contracts say them: d is what the first answers, f and g what it leaves
module _ (o : Opening) {d : Opened} {f g : List ℕ} (O : Opens o)
    (answers : d ≡ open_answer o.k o.s o.raw o.full o.log) (full : f ≡ (opened_vault o).held.full) (log : g ≡ (opened_vault o).held.log) where
  -- an image of its length is taken;
  second : (m : List ℕ) → length m ≡ image_size (header_of o.k o.s 0) → image_number d.header f g m ≡ 0
  unfolding after
  second m long = rw (answers, full, log) (image_taken o m O long)

  -- and recovery from that image, m, is taken and gives the raw records
  third : {m : List ℕ} (m₀ e out scratch : List ℕ) → image_number d.header f g m₀ ≡ 0 → m ≡ image_leaves d.header f g m₀
      → (length out ≡ raw_size (header_of o.k o.s 0)) × (length scratch ≡ scratch_size (header_of o.k o.s 0)) → LeavesHalf (header_of o.k o.s 0) e
      → (recover_answer d.header m e out scratch ≡ unnamed 0) × (recover_leaves d.header m e out scratch ≡ o.raw)
  unfolding after
  third m₀ e out scratch zero image sizes L =
      let header : d.header ≡ header_of o.k o.s 0 = ap (λ x. x.header) answers ∙ header_opened o O in
      let made = image ∙ if_taken_lem (image_of f g) m₀ zero ∙ ap₂ image_of full log in
      let r = (raw_recovered o e O L).call out scratch sizes.0 sizes.1 in
      rw (header, made) (r.0, r.1)

pub returns-in_err-image-clause-taken : goal.returns-in_err-image-clause-taken
returns-in_err-image-clause-taken c = λ O long sizes L.
    let opened = c.in_ok-header.ensures in
    absurd (omega (
      arith,
      some_number c.in_err-image.field-0.0,
      c.in_err-image.ensures.value,
      second _ O opened.value opened.full_after opened.log_after _ long,
    ))

pub returns-clause-taken : goal.returns-clause-taken
returns-clause-taken c = λ O long sizes L.
    let opened = c.in_ok-header.ensures in
    let image = third _ O opened.value opened.full_after opened.log_after c.args.image.now c.args.erasures.now c.args.out.now c.args.scratch.now
    (sym c.in_ok-image.ensures.value) c.in_ok-image.ensures.image_after sizes L in
    no_fault c.recover.result (ap (λ x. x.number) (c.recover.ensures.value ∙ image.0))

pub returns-clause-recovered : goal.returns-clause-recovered
returns-clause-recovered c = λ taken sizes L.
    let opened = c.in_ok-header.ensures in
    let O = ap (λ x. x.number) (sym opened.value) in
    let image = third _ O opened.value opened.full_after opened.log_after c.args.image.now c.args.erasures.now c.args.out.now c.args.scratch.now
    (sym c.in_ok-image.ensures.value) c.in_ok-image.ensures.image_after sizes L in
    c.recover.ensures.out_after ∙ image.1
