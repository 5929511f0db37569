-- Demand 3, and one stripe alone (the room Losses of specs/promises). After any history, whatever erasures leave half of the positions of each needed stripe,
-- decoding gives what was coded and recovery gives every record as last written; each stripe may be taken from another image. Assumes nothing.
use mathlib.Core.Path.{◌≡◌, refl, sym, ap, ap₂, ◌∙◌, subst}
use mathlib.Core.Bool.{true}
use mathlib.Core.Logic.{inl, inr}
use mathlib.Core.List.{List, ◌++◌}
use Prim.Native.Nat.{ℕ, suc, ◌+◌, ◌*◌, ◌-◌, ◌^◌}
use native.Mathlib.Nat.{add-mul}
use native.Mathlib.Omega.{arith}
use lib.Pow.{pow_pos}
use lib.ListN.{length, replicate, length-append}
use borrow.Author.Tests.{eq-eqb}
use Rattle.layout.specs.declared.Header.{Header}
use Rattle.layout.specs.Header.{width, header_fits, raw_size, full_size, log_size, scratch_size, image_size}
use Rattle.store.specs.Buffers.{full_stripe, blocks_of}
use Rattle.image.specs.Image.{image_of}
use Rattle.image.specs.Erasures.{erasures_in, erasures_fit}
use Rattle.judging.specs.Decoding.{Decoded}
use Rattle.stripe_decoding.specs.Decoding.{decode_stripe}
use Rattle.recovery.specs.Recovery.{recovered, recover}
use Rattle.recovery.specs.RecoveryCall.{recover_early, recover_answer, recover_leaves, recover_scratch, unnamed}
use Rattle.layout.specs.Refusals.{refusal}
use Rattle.vault.specs.Event.{Opening, Event}
use Rattle.vault.specs.Model.{model_of}
use Rattle.vault.specs.History.{Opens, vault_after, header_after, image_after}
use Rattle.vault.specs.Round.{Round, rows_of, round_of, round_header, level_entries, log_words, model_in}
use Rattle.vault.specs.promises.Losses.{SameWords, Survives, SameRemains, Recovers, LevelsDecode, FullDecodes}
use Rattle.vault.specs.promises.Histories.{ImageLong}
use Rattle.store.proofs.StoredRecords.{length_full}
use Rattle.vault.proofs.Levels.{length_log}
use Rattle.vault.proofs.Rounds.{header_fits_lem}
use Rattle.vault.proofs.Histories.{histories, model_is}
use Rattle.image.proofs.WordBytes.{length_bytes}
use Rattle.vault.proofs.StripeCall.{call_gives}
use Rattle.vault.proofs.RoundDecoding.{level_decodes, full_decodes, TakesAll, takes_one, round_decodes}
use Rattle.vault.proofs.RoundRecovery.{recover_round}
use Rattle.vault.proofs.SameRounds.{DecodesRound, one_round}

-- an image of buffers that have their lengths has the length that the header says
pub length_image : (h : Header) (full log : List ℕ) → length full ≡ full_size h → length log ≡ log_size h → length (image_of full log) ≡ image_size h
length_image h full log e f =
    let n = 2 ^ suc h.k in
    length_bytes (full ++ log) ∙ ap (λ (x : ℕ). 4 * x) (length-append full log ∙ ap₂ ◌+◌ e f ∙ sym (add-mul n (n - 2) (width h)))
    ∙ ap (λ (x : ℕ). 4 * (x * width h)) {x = n + (n - 2)} {y = 4 * 2 ^ h.k - 2} (omega (arith, pow_pos h.k)) ∙ omega arith

-- RECOVERY IS TAKEN, and gives what it finds
module _ (h : Header) (m e o x : List ℕ) (fits : header_fits h ≡ true) (formed : erasures_fit h e ≡ true)
    (long : length m ≡ image_size h) (out : length o ≡ raw_size h) (scratch : length x ≡ scratch_size h) where
  early : recover_early h m e o x ≡ 0
  unfolding refusal
  early =
      rw (fits, eq-eqb (length m) (image_size h) long, eq-eqb (length o) (raw_size h) out, eq-eqb (length x) (scratch_size h) scratch, formed, refusal)

  found : (r : List ℕ) → recover h (decode_stripe h m (erasures_in e)) ≡ recovered r
      → (recover_answer h m e o x ≡ unnamed 0) × (recover_leaves h m e o x ≡ r) × (recover_scratch h m e o x ≡ replicate (scratch_size h) 0)
  found r q = (rw (early, q), rw (early, q), rw early)

-- AFTER ANY HISTORY: the vault and the model are those of a good round
pub levels_decode : LevelsDecode
levels_decode o es m e l O =
    let t = histories o es O in
    let a = round_of o es in
    let h = round_header a in
    rw (header_after, image_after, vault_after, t.vault_is) (λ formed half same b filled.
    call_gives h m e l (rows_of (level_entries h a.since l)) (header_fits_lem t.good) formed (inr (b, filled)) (level_decodes t.good e m l b filled same half))

pub full_decodes_lem : FullDecodes
full_decodes_lem o es m e O =
    let t = histories o es O in
    let a = round_of o es in
    rw (header_after, image_after, vault_after, t.vault_is) (λ formed half same.
    call_gives (round_header a) m e a.k (blocks_of (round_header a) a.base) (header_fits_lem t.good) formed (inl (eq-eqb a.k a.k refl))
    (full_decodes t.good e m same half))

pub image_long : ImageLong
image_long o es O =
    let a = round_of o es in
    let h = round_header a in
    rw (header_after, image_after, vault_after, (histories o es O).vault_is)
    (length_image h (full_stripe h a.base) (log_words h a.since a.k) (length_full h a.base) (length_log h a.since a.k))

-- A DECODING that takes each needed stripe from some image that keeps half of it: it decodes the blocks of the round, and recovery gives every record
abbrev pub OfHistory : Opening → List Event → (decoding : ℕ → Decoded) → Type 0
OfHistory o es d = TakesAll (header_after o es) (image_after o es) d

decodes_history : (o : Opening) (es : List Event) (d : ℕ → Decoded) → Opens o → OfHistory o es d → DecodesRound (header_after o es) d (round_of o es)
decodes_history o es d O =
    let t = histories o es O in
    rw (header_after, image_after, vault_after, t.vault_is) (λ T. record { good = t.good; header_is = refl; decodes = round_decodes t.good d T })

pub recovers_history : (o : Opening) (es : List Event) (d : ℕ → Decoded) → Opens o → OfHistory o es d
    → recover (header_after o es) d ≡ recovered (model_of o es).records
recovers_history o es d O =
    let t = histories o es O in
    rw (header_after, image_after, vault_after, t.vault_is, t.model_is) (λ T. recover_round t.good (round_decodes t.good d T))

-- and it is of no other history with the same header
pub same_history : (o o' : Opening) (es es' : List Event) (d : ℕ → Decoded) → Opens o → Opens o' → header_after o es ≡ header_after o' es'
    → OfHistory o es d → OfHistory o' es' d → model_of o es ≡ model_of o' es'
same_history o o' es es' d O O' e T T' =
    let other = subst (λ (h : Header). DecodesRound h d (round_of o' es')) (sym e) (decodes_history o' es' d O' T') in
    model_is o es O ∙ ap (λ (a : Round). model_in a) (one_round (decodes_history o es d O T) other) ∙ sym (model_is o' es' O')

-- ONE IMAGE that keeps half of each
pub fits_after : (o : Opening) (es : List Event) → Opens o → header_fits (header_after o es) ≡ true
fits_after o es O = let t = histories o es O in rw (header_after, vault_after, t.vault_is) (header_fits_lem t.good)

pub recovers_all : (o : Opening) (es : List Event) (m e : List ℕ) → Opens o → Survives o es m e → Recovers (header_after o es) m e (model_of o es).records
recovers_all o es m e O X =
    let h = header_after o es in
    let all = recovers_history o es (decode_stripe h m (erasures_in e)) O (takes_one X.leaves.keeps X.words) in
    record {
      call = λ out scratch out_long scratch_long.
          found h m e out scratch (fits_after o es O) X.leaves.well_formed X.long out_long scratch_long (model_of o es).records all;
    }

pub no_other : (o o' : Opening) (es es' : List Event) (e : List ℕ) → Opens o → Opens o' → SameRemains o es o' es' e → model_of o es ≡ model_of o' es'
no_other o o' es es' e O O' R =
    let m = image_after o' es' in
    let d = decode_stripe (header_after o es) m (erasures_in e) in
    let self : SameWords (header_after o es) e m m = record { same = λ l need position column b c free. refl } in
    let other = subst (λ (h : Header). TakesAll h m d) R.header (takes_one R.leaves.keeps self) in
    same_history o o' es es' d O O' R.header (takes_one R.leaves.keeps R.words) other
