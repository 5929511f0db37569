-- LOSSES: which stripes recovery needs, what an erasure list leaves of them, and what it is to recover from that. Demand 3 (Demands) speaks of these. Signs and
-- letters: Demands. Assumes nothing.
use Rattle.std.specs.Prelude.{◌≡◌, true, false, ◌⊎◌, List, ℕ, suc, ◌+◌, ◌*◌, ◌^◌, ◌<◌, length, get_or, replicate}
use Rattle.layout.specs.declared.Header.{Header}
use Rattle.layout.specs.Header.{width, raw_size, scratch_size, image_size, is_full, is_filled, stripe_at}
use Rattle.store.specs.Buffers.{blocks_of}
use Rattle.image.specs.Image.{word_at}
use Rattle.image.specs.Erasures.{erasures_fit}
use Rattle.recovery.specs.RecoveryCall.{recover_answer, recover_leaves, recover_scratch, unnamed}
use Rattle.vault.specs.Event.{Opening, Event}
use Rattle.vault.specs.History.{Opens, header_after, image_after}
use Rattle.vault.specs.Round.{rows_of, round_of, level_entries}
use Rattle.vault.specs.promises.Decoding.{marks, Half, Gives}

-- A STRIPE IS NEEDED if it is the full stripe or a filled level
abbrev pub Needed : Header → (stripe : ℕ) → Type 0
Needed h l = (is_full h l ≡ true) ⊎ ((l < h.k) × (is_filled h l ≡ true))

-- an erasure list leaves at least half of the positions of each needed stripe; and it is well formed, too
pub record KeepsHalf (h : Header) (e : List ℕ) : Type 0 where
  pub half : (l : ℕ) → Needed h l → Half h e l

pub record LeavesHalf (h : Header) (e : List ℕ) : Type 0 where
  pub well_formed : erasures_fit h e ≡ true
  pub keeps : KeepsHalf h e

-- two images have the same words at the surviving positions of a stripe; and of each needed stripe. Their other bytes may be anything
abbrev pub SameStripe : Header → (erasures one other : List ℕ) → (stripe : ℕ) → Type 0
SameStripe h e one other l =
    (position column : ℕ) → position < 2 ^ suc l → column < width h → get_or (marks h e l) position false ≡ false →
    word_at one (stripe_at h l + (position * width h + column)) ≡ word_at other (stripe_at h l + (position * width h + column))

pub record SameWords (h : Header) (e one other : List ℕ) : Type 0 where
  pub same : (l : ℕ) → Needed h l → SameStripe h e one other l

-- WHAT A LOSS LEAVES of a history: an erasure list that leaves half, and an image with the words that survive
pub record Survives (o : Opening) (es : List Event) (m e : List ℕ) : Type 0 where
  pub leaves : LeavesHalf (header_after o es) e
  pub long : length m ≡ image_size (header_after o es)
  pub words : SameWords (header_after o es) e (image_after o es) m

-- and of two histories: one header, an erasure list that leaves half, and the same words that survive
pub record SameRemains (o : Opening) (es : List Event) (o' : Opening) (es' : List Event) (e : List ℕ) : Type 0 where
  pub header : header_after o es ≡ header_after o' es'
  pub leaves : LeavesHalf (header_after o es) e
  pub words : SameWords (header_after o es) e (image_after o es) (image_after o' es')

-- THE CALL `recover` GIVES these records: it is taken and names no stripe, and the output is the records; it leaves a scratch of zeros. The output and the
-- scratch that it is lent may hold anything
pub record Recovers (h : Header) (m e records : List ℕ) : Type 0 where
  pub call : (out scratch : List ℕ) → length out ≡ raw_size h → length scratch ≡ scratch_size h →
      (recover_answer h m e out scratch ≡ unnamed 0) × (recover_leaves h m e out scratch ≡ records) ×
      (recover_scratch h m e out scratch ≡ replicate (scratch_size h) 0)

-- ONE STRIPE ALONE. After any history a filled level of which at least half is left decodes to the writes that it holds, in order of time, and the full
-- stripe to the records of the round's start, whatever is left of the others
abbrev pub LevelsDecode : Type 0
LevelsDecode =
    (o : Opening) (es : List Event) (m e : List ℕ) (l : ℕ) → Opens o →
    let h = header_after o es in
    erasures_fit h e ≡ true → Half h e l → SameStripe h e (image_after o es) m l → l < h.k → is_filled h l ≡ true →
    Gives h m e l (rows_of (level_entries h (round_of o es).since l))

abbrev pub FullDecodes : Type 0
FullDecodes =
    (o : Opening) (es : List Event) (m e : List ℕ) → Opens o →
    let h = header_after o es in
    erasures_fit h e ≡ true → Half h e h.k → SameStripe h e (image_after o es) m h.k →
    Gives h m e h.k (blocks_of h (round_of o es).base)

-- ALL OF THIS ROOM
pub record Losses : Type 0 where
  pub levels_decode : LevelsDecode
  pub full_decodes : FullDecodes
