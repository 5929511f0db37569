-- The stripes of a vault's buffers: where a level stands in the log, how long each is, and what a stripe that is decoded leaves in the output. Assumes nothing.
use mathlib.Core.Path.{◌≡◌, refl, sym, ap, ap₂, ◌∙◌}
use mathlib.Core.Bool.{Bool, true}
use mathlib.Core.List.{List, ◌++◌}
use mathlib.Core.Logic.{⊎_elim}
use Prim.Native.Nat.{ℕ, suc, ◌+◌, ◌-◌, ◌≤◌, ◌<◌}
use native.Mathlib.Nat.{eq-or-lt_of_le}
use native.Mathlib.Numerals.{add-one}
use native.Mathlib.Omega.{arith}
use borrow.Author.Tests.{eq-eqb, ne_eqb, ltb-true}
use lib.Dec.{ltb}
use lib.ListN.{length, take, drop, length-drop}
use lib.Pow.{pow_mono}
use lib.Seq.{length-take-le}
use Rattle.code.specs.declared.Stripe.{Stripe}
use Rattle.code.specs.Rows.{Column}
use Rattle.code.specs.Stripe.{modulus_of, position_count, block_count, block_words, coded_stripe}
use Rattle.decoder.specs.Decoding.{survivors}
use Rattle.layout.specs.declared.Header.{Header}
use Rattle.layout.specs.Header.{header_fits, width, full_size, log_size, level_at, stripe_size, stripe_of}
use Rattle.layout.proofs.Bounds.{fits}
use Rattle.judging.specs.Decoding.{Decoded, decoded, decoded_number, are_records, decode_rows}
use Rattle.judging.proofs.StripeNumbers.{stripe_fits}
use Rattle.range_laying.specs.declared.Content.TheVariants.{Blocks}
use Rattle.range_laying.specs.steps.Blocks.{lay_blocks, laid_from}
use Rattle.store.specs.steps.Writing.{half_start}
use Rattle.store.proofs.Gathering.{next_level, level_within, rows_double}
use Rattle.stripe_decoding.proofs.DecodedWords.{Comes, fails, gives, comes}
use Rattle.taking_back.specs.declared.finding.Held.{Held}
use Rattle.taking_back.specs.TakingBack.{stripe_held, none_erased, decode_held}
use Rattle.taking_back.proofs.WholeStripes.{all_survive, WholeCode, whole_code, whole_decodes}

-- the words of a stripe, by what it is
pub full_held : (h : Header) (f g : List ℕ) (l : ℕ) → l ≡ h.k → stripe_held h f g l ≡ f
full_held h f g l e = rw (eq-eqb l h.k e, stripe_held) refl

pub level_held : (h : Header) (f g : List ℕ) (l : ℕ) → (l ≡ h.k → ⊥) → stripe_held h f g l ≡ take (stripe_size h l) (drop (level_at h l) g)
level_held h f g l d = rw (ne_eqb l h.k d, stripe_held) refl

-- WHERE A LEVEL STANDS in the log, as the code has it
module _ (h : Header) (l : ℕ) {w from to : ℕ} (ew : w ≡ width h) (ef : from ≡ half_start w l 0) (et : to ≡ half_start w (l + 1) 0) where
  ends_at : to ≡ half_start (width h) (suc l) 0
  ends_at = rw (et, ew, add-one) refl

  starts_at : from ≡ level_at h l
  starts_at = ef ∙ rw ew (omega arith)

  pub level_ends : l < h.k → (g : List ℕ) → length g ≡ log_size h → to ≤ length g
  level_ends b g e = rw ends_at (level_within (width h) b e)

  pub level_is : (l ≡ h.k → ⊥) → (f g : List ℕ) → take (to - from) (drop from g) ≡ stripe_held h f g l
  level_is d f g =
      let size : to - from ≡ stripe_size h l = omega (arith, ends_at, starts_at, next_level (width h) l, rows_double (width h) l) in
      ap₂ (λ (n m : ℕ). take n (drop m g)) size starts_at ∙ sym (level_held h f g l d)

-- A STRIPE of buffers of their sizes
module _ (h : Header) (f g : List ℕ) (l : ℕ) (sized : (length f ≡ full_size h) × (length g ≡ log_size h)) (within : l ≤ h.k) where
  pub stripe_long : length (stripe_held h f g l) ≡ stripe_size h l
  stripe_long =
      ⊎_elim (λ e. rw (full_held h f g l e, e) sized.0)
      (λ b. rw (level_held h f g l (λ e. omega arith))
      (length-take-le (stripe_size h l) (drop (level_at h l) g)
      (omega (arith, length-drop (level_at h l) g, level_within (width h) b sized.1, next_level (width h) l, rows_double (width h) l))))
      (eq-or-lt_of_le within)

  -- what it decodes to codes to it
  pub held_code : header_fits h ≡ true → (bs : List ℕ) → decode_held h f g l ≡ decoded bs → WholeCode (stripe_of h l) (stripe_held h f g l) bs
  held_code valid bs e = whole_code (stripe_of h l) bs (stripe_held h f g l) (stripe_fits h l valid within) stripe_long e

-- and words that code some blocks decode to these
pub held_decodes : (h : Header) (f g : List ℕ) (l : ℕ) (bs : List ℕ) → header_fits h ≡ true → l ≤ h.k → stripe_held h f g l ≡ coded_stripe (stripe_of h l) bs
    → Column (modulus_of (stripe_of h l)) (block_words (stripe_of h l)) bs → are_records (stripe_of h l) bs (block_count (stripe_of h l)) ≡ true
    → decode_held h f g l ≡ decoded bs
held_decodes h f g l bs valid w e C r =
    ap (decode_rows (stripe_of h l) none_erased) e ∙ whole_decodes (stripe_of h l) bs (stripe_fits h l valid w) C r

-- ITS NUMBERS st and its marks: there are few positions, and all survive
pub positions_few : (h : Header) (l : ℕ) {st : Stripe} → st ≡ stripe_of h l → header_fits h ≡ true → l ≤ h.k → position_count st ≤ 2048
positions_few h l e valid w = rw e (pow_mono {i = suc l} {j = 11} (omega (arith, (fits h valid).k_high)))

pub enough_survive : (st : Stripe) → ltb (length (survivors st.level none_erased)) (block_count st) ≡ true → ⊥
enough_survive st e = absurd (omega (arith, ltb-true (length (survivors st.level none_erased)) (block_count st) e, all_survive st.level))

pub decode_same : {st st' : Stripe} {ms ms' : List Bool} {ws ws' : List ℕ} → st ≡ st' → ms ≡ ms' → ws ≡ ws' → decode_rows st ms ws ≡ decode_rows st' ms' ws'
decode_same p q r = rw (p, q, r) refl

-- WHAT THE OUTPUT BEGINS WITH where a stripe of n words of blocks is decoded
pub record Laid (n : ℕ) (d : Decoded) (out : List ℕ) : Type 0 where
  pub laid : List ℕ
  pub rest : List ℕ
  pub is : d ≡ decoded laid
  pub long : length laid ≡ n
  pub front : out ≡ laid ++ rest

laid_of : {n r : ℕ} {d : Decoded} → Comes n d → r ≡ decoded_number d → r ≡ 0 → (before : List ℕ) {out : List ℕ} → (st : Stripe)
    → out ≡ laid_from (lay_blocks Blocks st) d before → Laid n d out
laid_of (fails x u q) e z before st o = absurd (u (sym (ap decoded_number q) ∙ sym e ∙ z))
laid_of (gives bs q l) e z before st o = record {
  laid = bs;
  rest = drop (length bs) before;
  is = q;
  long = l;
  front = o ∙ ap (λ (x : Decoded). laid_from (lay_blocks Blocks st) x before) q;
}

-- what the stripes decode to that the code holds
abbrev pub decoding : Held → ℕ → Decoded
decoding u = decode_held u.header.header u.full.now u.log.now

pub held_laid : (u : Held) (l : ℕ) {r : ℕ} → r ≡ decoded_number (decoding u l) → r ≡ 0 → (before : List ℕ) {out : List ℕ}
    → out ≡ laid_from (lay_blocks Blocks (stripe_of u.header.header l)) (decoding u l) before
    → Laid (block_words (stripe_of u.header.header l)) (decoding u l) out
held_laid u l e z before o =
    let st = stripe_of u.header.header l in
    laid_of (comes st none_erased (stripe_held u.header.header u.full.now u.log.now l)) e z before st o
