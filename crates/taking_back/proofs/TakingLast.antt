-- A write taken back: its level's words are the code of its blocks, the record's data go to raw, and the level is taken apart. Assumes nothing.
use mathlib.Core.Path.{◌≡◌, refl, sym, ap, ap₂, ◌∙◌}
use mathlib.Core.Bool.{true}
use mathlib.Core.List.{List}
use Prim.Native.Nat.{ℕ, suc, ◌+◌, ◌*◌, ◌-◌, ◌^◌, ◌≤◌, ◌<◌}
use native.Mathlib.Omega.{arith}
use lib.ListN.{length, take, drop, length-drop}
use lib.Pow.{pow_pos}
use lib.Seq.{length-take-le}
use Rattle.field.specs.Words.{Words}
use Rattle.code.specs.Rows.{Column}
use Rattle.code.specs.Stripe.{coded_stripe}
use Rattle.layout.specs.declared.Header.{Header}
use Rattle.layout.specs.Header.{header_fits, record_count, width, full_size, log_size, out_size, first_empty, level_at, stripe_size, stripe_of}
use Rattle.layout.specs.Records.{replaced}
use Rattle.layout.proofs.Bounds.{fits}
use Rattle.layout.proofs.RecordWords.{record_end}
use Rattle.judging.specs.Decoding.{block_data}
use Rattle.splitting.specs.Splitting.{lowest_of, log_before}
use Rattle.store.specs.Buffers.{Buffers, buffers}
use Rattle.store.specs.StoreCalls.{buffers_fit}
use Rattle.store.proofs.BufferRefusals.{lengths}
use Rattle.taking_back.specs.declared.finding.Found.{Found}
use Rattle.taking_back.specs.TakingBack.{stripe_held, decode_held, last_block, TakenBack, buffers_back}
use Rattle.taking_back.specs.TakeBackCall.{take_back_comes}
use Rattle.taking_back.specs.steps.Finding.{Goes}
use Rattle.taking_back.proofs.FindingBack.{lowest_within, number_low}
use Rattle.splitting.proofs.Lowest.{empty_before}
use Rattle.taking_back.proofs.HeldStripes.{level_held, held_code}
use Rattle.taking_back.proofs.WholeStripes.{WholeCode}

-- the first empty level before the write is the lowest filled one
pub lowest_is : (h : Header) → header_fits h ≡ true → 0 < h.c → {l : ℕ}
    → ((k : ℕ) → suc (h.c - 1) < 2 ^ k → (l ≡ first_empty k 0 (h.c - 1)) × (l < k)) → (l ≡ lowest_of h) × (l < h.k)
lowest_is h valid some e = let t = e h.k (omega (arith, (fits h valid).c_low)) in (t.0 ∙ empty_before h some, t.1)

module _ (h : Header) (r f g out : List ℕ) (at : Found) (valid : header_fits h ≡ true) (some : 0 < h.c) (sized : buffers_fit h (buffers r f g) ≡ true)
    (G : Goes h (decode_held h f g) out at) where
  abbrev lent : Buffers
  lent = buffers r f g

  abbrev left : TakenBack → Buffers
  left x = buffers_back h lent x

  abbrev lowest : ℕ
  lowest = lowest_of h

  low : lowest < h.k
  low = lowest_within h valid some

  long : (length f ≡ full_size h) × (length g ≡ log_size h)
  long = let t = lengths h lent sized in (t.1, t.2)

  code : WholeCode (stripe_of h lowest) (stripe_held h f g lowest) G.blocks
  code = held_code h f g lowest long (omega (arith, low)) valid G.blocks G.decoded_as

  held_level : stripe_held h f g lowest ≡ take (stripe_size h lowest) (drop (level_at h lowest) g)
  held_level = level_held h f g lowest (λ e. omega (arith, low, e))

  -- THE LEVEL
  module _ {l : ℕ} (el : l ≡ lowest) where
    pub level_words : Words 65537 (take (stripe_size h l) (drop (level_at h l) g))
    level_words = rw el (rw held_level at code.words)

    pub log_is : {g' : List ℕ}
        → ((bs : List ℕ) → Column 65537 (2 ^ l * width h) bs → take (stripe_size h l) (drop (level_at h l) g) ≡ coded_stripe (stripe_of h l) bs
        → g' ≡ log_before h g l bs)
        → g' ≡ (left (take_back_comes h lent)).log
    log_is e = e G.blocks (rw el code.blocks) (rw el (sym held_level ∙ code.codes)) ∙ rw (el, G.comes) refl

  -- THE RECORD
  record_low : at.record < record_count h
  record_low = rw G.number_is at (number_low h lowest G.blocks low code.records (last_block h) (omega (arith, pow_pos lowest)))

  module _ {w : ℕ} (ew : w ≡ width h) (en : length out ≡ out_size h) where
    abbrev part : List ℕ
    part = take (at.block * w + 1 + w - 1 - (at.block * w + 1)) (drop (at.block * w + 1) out)

    part_is : part ≡ block_data (width h) out at.block
    part_is =
        let from : at.block * w + 1 ≡ suc (at.block * width h) = rw ew (omega arith) in
        let size : at.block * w + 1 + w - 1 - (at.block * w + 1) ≡ h.s = omega (arith, ew) in
        ap₂ (λ (n m : ℕ). take n (drop m out)) size from

    part_long : length part ≡ h.s
    part_long =
        ap length part_is
        ∙ length-take-le h.s (drop (suc (at.block * width h)) out) (omega (arith, length-drop (suc (at.block * width h)) out, en, G.inside))

    pub put_room : suc at.record * length part ≤ length r
    put_room = rw (part_long, (lengths h lent sized).0) (omega (arith, record_end (record_count h) h.s at.record record_low))

    pub raw_is : {r' : List ℕ} → r' ≡ replaced (length part) r at.record part → r' ≡ (left (take_back_comes h lent)).raw
    raw_is e = e ∙ rw (part_long, part_is, G.comes, G.number_is) refl
