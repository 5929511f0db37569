-- Decoding of one stripe of an image, both ways round: what demand 2 and the room Decoding of specs/promises say of it, by the promises of the crate judging.
-- Assumes nothing.
use mathlib.Core.List.{List}
use Rattle.std.specs.Prelude.{◌≡◌, true, false, ◌↔◌, List, ℕ}
use Rattle.layout.specs.declared.Header.{Header}
use Rattle.layout.specs.Header.{stripe_of}
use Rattle.image.proofs.StripeLoads.{stripe_word}
use Rattle.judging.specs.Promises as Rows
use Rattle.judging.proofs.Proved as Decoding
use Rattle.judging.proofs.StripeNumbers.{stripe_fits}
use Rattle.vault.specs.promises.Decoding.{marks, words_in, WordsStand, Readable, Codes, HoldRecords, Decodes, Fails}

pub words_stand : WordsStand
words_stand = stripe_word

pub readable_rows : {h : Header} {m e : List ℕ} {l : ℕ} → Readable h m e l → Rows.Readable (stripe_of h l) (marks h e l) (words_in h m l)
readable_rows {h} {m} {e} {l} R = record { fits = stripe_fits h l R.fits R.within; enough = R.enough; in_field = R.in_field }

pub one_list : (h : Header) (m e : List ℕ) (l : ℕ) (bs cs : List ℕ) → Readable h m e l → Codes h m e l bs → Codes h m e l cs → bs ≡ cs
one_list h m e l bs cs R = (Decoding.proved).one_list (stripe_of h l) (marks h e l) (words_in h m l) bs cs (readable_rows R)

pub decodes_iff : (h : Header) (m e : List ℕ) (l : ℕ) (bs : List ℕ) → Readable h m e l
    → Decodes h m e l bs ↔ (Codes h m e l bs × HoldRecords h l bs true)
decodes_iff h m e l bs R = (Decoding.proved).decodes_iff (stripe_of h l) (marks h e l) (words_in h m l) bs (readable_rows R)

pub nine_iff : (h : Header) (m e : List ℕ) (l : ℕ) → Readable h m e l → Fails h m e l 9 ↔ ((bs : List ℕ) → Codes h m e l bs → ⊥)
nine_iff h m e l R = (Decoding.proved).nine_iff (stripe_of h l) (marks h e l) (words_in h m l) (readable_rows R)

pub ten_iff : (h : Header) (m e : List ℕ) (l : ℕ) → Readable h m e l → Fails h m e l 10 ↔ ((bs : List ℕ) × Codes h m e l bs × HoldRecords h l bs false)
ten_iff h m e l R = (Decoding.proved).ten_iff (stripe_of h l) (marks h e l) (words_in h m l) (readable_rows R)
