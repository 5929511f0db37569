-- WHAT IS RECOVERED OF ANY IMAGE: record i is what the last block for it lays, in the order of laying, k and then the levels down. One proof for all that
-- stripes may decode to and for both layers, the data of `recover` and the origins of `explain`: the last two promises of the room Recovering of
-- specs/promises. Assumes nothing.
use mathlib.Core.Path.{◌≡◌, refl, sym, ap, ◌∙◌}
use mathlib.Core.Bool.{true, false, false≢true}
use mathlib.Core.Logic.{inl, inr, ⊎_elim}
use mathlib.Core.List.{List, [], ◌∷◌}
use Prim.Native.Nat.{ℕ, zero, suc, ◌+◌, ◌*◌, ◌/◌, ◌^◌, ◌≤◌, ◌<◌}
use native.Mathlib.Nat.{eq-or-lt_of_le, le_refl, mul-le-mul_right}
use native.Mathlib.Omega.{arith}
use lib.ListN.{length, get_or, drop, replicate, length-replicate, length-drop}
use lib.Seq.{length-take-le, get_or-take, get_or-drop}
use borrow.Author.Tests.{eqb-true, eq-eqb, ne_eqb}
use Rattle.field.proofs.Booleans.{if_else, if_else_true, if_else_false}
use Rattle.code.specs.declared.Stripe.{Stripe}
use Rattle.layout.specs.declared.Header.{Header}
use Rattle.layout.specs.Header.{width, raw_size, header_fits, is_full, is_filled, first_of, stripe_of}
use Rattle.layout.specs.Records.{record_in, replaced}
use Rattle.layout.specs.Refusals.{if_taken}
use Rattle.layout.proofs.RecordWords.{word_of_record}
use Rattle.layout.proofs.Refusals.{if_taken_lem}
use Rattle.layout.proofs.StripePlaces.{first_level}
use Rattle.image.proofs.ImageRefusals.{whole}
use Rattle.judging.specs.Decoding.{Decoded, failed, decoded, block_number, block_data}
use Rattle.judging.proofs.Proved as Judged
use Rattle.judging.proofs.Judging.{number_below, number_place}
use Rattle.judging.proofs.StripeNumbers.{stripe_fits}
use Rattle.taking_back.proofs.FindingBack.{each_record}
use Rattle.range_laying.specs.Laid.{laid, origins_laid}
use Rattle.range_laying.proofs.PairLoops.{length_pairs, pair_at, same_pair}
use Rattle.recovery.specs.Recovery.{Layer, stripes_over, records, recover}
use Rattle.recovery.specs.Origins.{origins_size, full_origins, origins}
use Rattle.recovery.specs.RecoveryCall.{recover_early, unnamed, recovered_words}
use Rattle.explanation.specs.ExplainCall.{explain_early, explain_origins}
use Rattle.vault.specs.promises.Decoding.{marks, words_in}
use Rattle.vault.specs.promises.Losses.{Needed}
use Rattle.vault.specs.promises.Recovering.{in_image, AllDecode, LastBlock, RecoverHolds, ExplainHolds}
use Rattle.vault.proofs.LastWrites.{Last, Holds, Written, written_none, written_more}
use Rattle.vault.proofs.Recovering.{call_answer, when_taken}
use Rattle.vault.proofs.RoundRecovery.{levels_keep}
use Rattle.vault.proofs.StripeCall.{needed_within}

-- BLOCKS that are records: how many words they are, and their numbers
pub record Blocks (h : Header) (l : ℕ) (bs : List ℕ) : Type 0 where
  pub long : length bs ≡ 2 ^ l * width h
  pub below : (j : ℕ) → j < 2 ^ l → block_number (width h) bs j < 2 ^ h.k
  pub place : l ≡ h.k → (j : ℕ) → j < 2 ^ l → block_number (width h) bs j ≡ j

not_failed : {d : Decoded} {bs : List ℕ} (n : ℕ) → d ≡ decoded bs → d ≡ failed n → ⊥
not_failed n p q = cc

-- WHAT STRIPES DECODE TO, where they do, are such blocks
abbrev pub AreBlocks : Header → (d : ℕ → Decoded) → Type 0
AreBlocks h d = (l : ℕ) (bs : List ℕ) → l ≤ h.k → d l ≡ decoded bs → Blocks h l bs

-- in one image they are
pub decoded_blocks : (h : Header) (m e : List ℕ) → header_fits h ≡ true → AreBlocks h (in_image h m e)
decoded_blocks h m e fits l bs within p =
    let st : Stripe = stripe_of h l in
    let R = (Judged.proved).else_readable st (marks h e l) (words_in h m l) (stripe_fits h l fits within) (not_failed 7 p) (not_failed 8 p) in
    let t = ((Judged.proved).decodes_iff st (marks h e l) (words_in h m l) bs R).0 p in
    let each = each_record st bs (2 ^ l) t.1 in
    let own = λ (q : l ≡ h.k) (j : ℕ) (b : j < 2 ^ l). number_place st j (block_number (width h) bs j) q (each j b) in
    record {
      long = t.0.blocks.long;
      below = λ j b. ⊎_elim (λ q. omega (arith, own q j b, ap (λ (i : ℕ). 2 ^ i) q))
          (λ d. number_below st j (block_number (width h) bs j) d (each j b)) (eq-or-lt_of_le within);
      place = own;
    }

-- BLOCKS LAID one after the other, each in the place of its number: what the last one of a record's number lays is there
lay_each : {s m : ℕ} (f : ℕ → ℕ) (data_of : ℕ → List ℕ) (words : ℕ → List ℕ) (n : ℕ) → ((j : ℕ) → j < n → f j < m)
    → ((j : ℕ) → j < n → length (data_of j) ≡ s) → ((j : ℕ) → words (suc j) ≡ replaced s (words j) (f j) (data_of j)) → length (words 0) ≡ m * s
    → Written s m f (λ t b. b ≡ data_of t) (words 0) n (words n)
lay_each f x w zero below long next e = written_none e
lay_each f x w (suc n) below long next e =
    let before = lay_each f x w n (λ j b. below j (omega arith)) (λ j b. long j (omega arith)) next e in
    rw next (written_more (x n) before (below n (omega arith)) (long n (omega arith)) refl)

-- A LAYER of records of s words LAYS blocks so: block j of bs lays `data_of l bs j` on stripe l. The full stripe's stand in their places, and a level lays its
-- own over those before
record Lays (h : Header) (y : Layer) (s : ℕ) (data_of : (stripe : ℕ) → (blocks : List ℕ) → (j : ℕ) → List ℕ) : Type 0 where
  long : (bs : List ℕ) → Blocks h h.k bs → length (y.full bs) ≡ 2 ^ h.k * s
  full : (bs : List ℕ) → Blocks h h.k bs → (j : ℕ) → j < 2 ^ h.k → record_in s (y.full bs) j ≡ data_of h.k bs j
  over : (l : ℕ) (bs r : List ℕ) → l < h.k → Blocks h l bs → length r ≡ 2 ^ h.k * s
      → Written s (2 ^ h.k) (block_number (width h) bs) (λ t b. b ≡ data_of l bs t) r (2 ^ l) (y.over l bs r)

-- what a stripe that decodes decodes to
abbrev pub blocks_of : Decoded → List ℕ
blocks_of (failed n) = []
blocks_of (decoded bs) = bs

pub is_decoded : (h : Header) (d : ℕ → Decoded) → AllDecode h d → (l : ℕ) → Needed h l → d l ≡ decoded (blocks_of (d l))
is_decoded h d all l n = let p = (all l n).1 in p ∙ ap decoded (sym (ap blocks_of p))

-- no level is above the full stripe
reaches : {k l l' : ℕ} → l ≤ k → l' ≤ k → (l < k → l' ≤ l) → l' ≤ l
reaches w w' g = ⊎_elim (λ q. omega arith) g (eq-or-lt_of_le w)

-- WHERE ALL STRIPES DECODE, what the last block for a record lays stays there
module _ {h : Header} {d : ℕ → Decoded} {i l j : ℕ} {bs : List ℕ} (B : LastBlock h d i l bs j) (are : AreBlocks h d) (all : AllDecode h d)
    {y : Layer} {s : ℕ} {data_of : (stripe : ℕ) → (blocks : List ℕ) → (j : ℕ) → List ℕ} (Y : Lays h y s data_of) where
  abbrev blocks : ℕ → List ℕ
  blocks l' = blocks_of (d l')

  same_blocks : (l' : ℕ) → l' ≡ l → blocks l' ≡ bs
  same_blocks l' q = ap blocks q ∙ ap blocks_of B.decodes

  are_blocks : (l' : ℕ) → Needed h l' → Blocks h l' (blocks l')
  are_blocks l' n = are l' (blocks l') (needed_within h l' n) (is_decoded h d all l' n)

  -- it is there when the stripes from l' on are laid, if its own is among them
  record Placed (l' : ℕ) (r : List ℕ) : Type 0 where
    long : length r ≡ 2 ^ h.k * s
    here : (l < h.k → l' ≤ l) → record_in s r i ≡ data_of l bs j

  up_to : {l' : ℕ} → l' ≤ h.k → (l < h.k → l' ≤ l) → l' ≤ l
  up_to w g = reaches (needed_within h l B.needed) w g

  -- on its own level it is the last one of its number, and on no level below is one
  module _ (l' : ℕ) (r : List ℕ) (b : l' < h.k) (f : is_filled h l' ≡ true) (P : Placed (suc l') r) where
    abbrev numbered : ℕ → ℕ
    numbered = block_number (width h) (blocks l')

    abbrev NowThere : Type 0
    NowThere = Holds s numbered (λ t c. c ≡ data_of l' (blocks l') t) r (2 ^ l') (y.over l' (blocks l') r) i

    its_own : l' ≡ l → NowThere → record_in s (y.over l' (blocks l') r) i ≡ data_of l bs j
    its_own q H =
        let same : blocks l' ≡ bs = same_blocks l' q in
        let e : 2 ^ l' ≡ 2 ^ l = ap (λ (n : ℕ). 2 ^ n) q in
        let at : (u : ℕ) → numbered u ≡ get_or bs (u * suc h.s) 0 = λ u. ap (λ (c : List ℕ). block_number (width h) c u) same in
        let mine : numbered j ≡ i = at j ∙ B.number in
        ⊎_elim
        (λ z.
        let t : ℕ = z.0 in
        let L : Last numbered (2 ^ l') i t = z.1 in
        let above : j < t → ⊥ = λ lt. B.last t lt (omega (arith, L.among)) (sym (at t) ∙ L.to) in
        let under : t < j → ⊥ = λ lt. L.last j lt (omega (arith, B.among)) mine in
        let here : t ≡ j = omega arith in
        let its : data_of l' (blocks l') t ≡ data_of l bs j = cc in
        z.2 ∙ its)
        (λ z. absurd (z.0 j (omega (arith, B.among)) mine)) H

    below_it : l' < l → NowThere → record_in s (y.over l' (blocks l') r) i ≡ data_of l bs j
    below_it lt H =
        let n : Needed h l' = inr (b, f) in
        ⊎_elim (λ z. absurd (B.lowest l' z.0 (blocks l') n lt (is_decoded h d all l' n) z.1.among z.1.to)) (λ z. z.1 ∙ P.here (λ _. lt)) H

    lay_level : Placed l' (y.over l' (blocks l') r)
    lay_level =
        let W = Y.over l' (blocks l') r b (are_blocks l' (inr (b, f))) P.long in record {
          long = W.long;
          here = λ g. ⊎_elim (λ q. its_own q (W.holds i)) (λ lt. below_it lt (W.holds i)) (eq-or-lt_of_le (up_to (omega arith) g));
        }

  past_level : (l' : ℕ) (r : List ℕ) → is_filled h l' ≡ false → Placed (suc l') r → Placed l' r
  past_level l' r f P = record {
    long = P.long;
    here = λ g. P.here (λ b. ⊎_elim (λ q. absurd (not_it q b)) (λ lt. lt) (eq-or-lt_of_le (g b)));
  }
    where
      not_it : l' ≡ l → l < h.k → ⊥
      not_it q b = ⊎_elim (λ z. absurd (omega (arith, eqb-true l h.k z))) (λ z. false≢true (sym f ∙ ap (is_filled h) q ∙ z.1)) B.needed

  -- on the full stripe it has its place
  needed_full : Needed h h.k
  needed_full = inl (eq-eqb h.k h.k refl)

  lay_full : Placed h.k (y.full (blocks h.k))
  lay_full = record {
    long = Y.long (blocks h.k) (are_blocks h.k needed_full);
    here = λ g.
        let K : Blocks h h.k (blocks h.k) = are_blocks h.k needed_full in
        let q : h.k ≡ l = omega (arith, needed_within h l B.needed, up_to (le_refl h.k) g) in
        let same : blocks h.k ≡ bs = same_blocks h.k q in
        let e : 2 ^ h.k ≡ 2 ^ l = ap (λ (n : ℕ). 2 ^ n) q in
        let lt : j < 2 ^ h.k = omega (arith, B.among) in
        let place : i ≡ j = sym B.number ∙ sym (ap (λ (c : List ℕ). block_number (width h) c j) same) ∙ K.place refl j lt in
        let its : data_of h.k (blocks h.k) j ≡ data_of l bs j = cc in
        ap (record_in s (y.full (blocks h.k))) place ∙ Y.full (blocks h.k) K j lt ∙ its;
  }

  stays : (size : ℕ) → record_in s (recovered_words (stripes_over h d y) size) i ≡ data_of l bs j
  stays size =
      let laid = λ (l' : ℕ) (b : l' < h.k) (f : is_filled h l' ≡ true). is_decoded h d all l' (inr (b, f)) in
      let t = levels_keep h d y blocks Placed laid lay_level past_level h.k (y.full (blocks h.k)) (le_refl h.k) lay_full in
      rw (is_decoded h d all h.k needed_full, t.1) (t.2.here (λ b. omega arith))

-- A CALL THAT GIVES 0 leaves what the stripes come to
call_leaves : {h : Header} {d : ℕ → Decoded} {y : Layer} {s : ℕ} {data_of : (stripe : ℕ) → (blocks : List ℕ) → (j : ℕ) → List ℕ} {i l j : ℕ} {bs : List ℕ}
    → Lays h y s data_of → LastBlock h d i l bs j → (early size : ℕ) (out : List ℕ) → (early ≡ 0 → AreBlocks h d) → call_answer h d y early ≡ unnamed 0
    → record_in s (if_taken early (recovered_words (stripes_over h d y) size) out) i ≡ data_of l bs j
call_leaves {h} {d} {y} {s} {i = i} Y B early size out are taken =
    let t = when_taken h d y early taken in
    ap (λ (r : List ℕ). record_in s r i) (if_taken_lem (recovered_words (stripes_over h d y) size) out t.0) ∙ stays B (are t.0) t.1 Y size

-- THE CALL `recover` lays the blocks' data
length_data : (s n : ℕ) (bs : List ℕ) (j : ℕ) → length bs ≡ n * suc s → j < n → length (block_data (suc s) bs j) ≡ s
length_data s n bs j long b = length-take-le s (drop (suc (j * suc s)) bs) (rw length-drop (omega (arith, mul-le-mul_right (suc s) b)))

data_laid : (h : Header) (l : ℕ) (bs r : List ℕ) → Blocks h l bs → length r ≡ 2 ^ h.k * h.s
    → Written h.s (2 ^ h.k) (block_number (width h) bs) (λ t b. b ≡ block_data (width h) bs t) r (2 ^ l) (laid h.s bs (2 ^ l) r)
unfolding laid
data_laid h l bs r K long =
    lay_each (block_number (width h) bs) (block_data (width h) bs) (λ (n : ℕ). laid h.s bs n r) (2 ^ l) K.below
    (λ j b. length_data h.s (2 ^ l) bs j K.long b) (λ j. refl) long

full_laid : (h : Header) (bs : List ℕ) → Blocks h h.k bs
    → Written h.s (2 ^ h.k) (block_number (width h) bs) (λ t b. b ≡ block_data (width h) bs t) (replicate (raw_size h) 0) (2 ^ h.k) ((records h).full bs)
full_laid h bs K = data_laid h h.k bs (replicate (raw_size h) 0) K (length-replicate (raw_size h) 0)

records_lay : (h : Header) → Lays h (records h) h.s (λ (l : ℕ) (bs : List ℕ) (j : ℕ). block_data (width h) bs j)
records_lay h = record {
  long = λ bs K. (full_laid h bs K).long;
  full = λ bs K j b.
      ⊎_elim (λ z. z.2 ∙ ap (block_data (width h) bs) (sym (K.place refl z.0 z.1.among) ∙ z.1.to)) (λ z. absurd (z.0 j b (K.place refl j b)))
      ((full_laid h bs K).holds j);
  over = λ l bs r b K long. data_laid h l bs r K long;
}

-- so that a word of record i is one of its last block's data, in whatever call gives 0
pub data_holds : (h : Header) (d : ℕ → Decoded) (early : ℕ) (out : List ℕ) {i l j : ℕ} (q : ℕ) {bs : List ℕ} → (early ≡ 0 → AreBlocks h d)
    → call_answer h d (records h) early ≡ unnamed 0 → LastBlock h d i l bs j → q < h.s
    → get_or (if_taken early (recovered_words (recover h d) (raw_size h)) out) (i * h.s + q) 0 ≡ get_or bs (j * suc h.s + suc q) 0
data_holds h d early out {i} {j = j} q {bs} are taken B b =
    let xs = if_taken early (recovered_words (recover h d) (raw_size h)) out in
    let same : record_in h.s xs i ≡ block_data (width h) bs j = call_leaves (records_lay h) B early (raw_size h) out are taken in
    sym (word_of_record h.s xs i q b) ∙ ap (λ (r : List ℕ). get_or r q 0) same
    ∙ get_or-take h.s (drop (suc (j * suc h.s)) bs) q 0 b ∙ get_or-drop (suc (j * suc h.s)) bs q 0
    ∙ ap (λ (n : ℕ). get_or bs n 0) {x = suc (j * suc h.s) + q} {y = j * suc h.s + suc q} (omega arith)

pub recover_holds : RecoverHolds
recover_holds h m e out scratch i l j q bs =
    data_holds h (in_image h m e) (recover_early h m e out scratch) out q (λ z. decoded_blocks h m e (whole h m e _ z).fits)

-- THE CALL `explain` lays their origins: the full stripe's are there from the start
abbrev pair_of : Header → (stripe j : ℕ) → List ℕ
pair_of h l j = if_else (is_full h l) (record_in 2 (full_origins h) j) (l ∷ (first_of h l + j) ∷ [])

origins_lay : (h : Header) → Lays h (origins h) 2 (λ (l : ℕ) (bs : List ℕ) (j : ℕ). pair_of h l j)
unfolding origins_laid
origins_lay h = record {
  long = λ bs K. length_pairs (λ i. h.k) (λ i. 0) (2 ^ h.k);
  full = λ bs K j b. sym (if_else_true (is_full h h.k) _ _ (eq-eqb h.k h.k refl));
  over = λ l bs r b K long.
      let pair : (j : ℕ) → pair_of h l j ≡ l ∷ (first_of h l + j) ∷ [] = λ j. if_else_false (is_full h l) _ _ (ne_eqb l h.k (λ q. omega arith)) in
      lay_each (block_number (width h) bs) (pair_of h l) (λ (n : ℕ). origins_laid (width h) l (first_of h l) bs n r) (2 ^ l) K.below
      (λ j t. ap length (pair j)) (λ j. ap (replaced 2 (origins_laid (width h) l (first_of h l) bs j r) (block_number (width h) bs j)) (sym (pair j))) long;
}

abbrev PairWords : Header → (stripe j : ℕ) → (xs : List ℕ) → (i : ℕ) → Type 0
PairWords h l j xs i =
    (get_or xs (2 * i) 0 ≡ l) × (l < h.k → get_or xs (2 * i + 1) 0 ≡ h.c / 2 ^ suc l * 2 ^ suc l + j) × (l ≡ h.k → get_or xs (2 * i + 1) 0 ≡ 0)

pair_words : (h : Header) (l j : ℕ) (xs : List ℕ) (i : ℕ) → l ≤ h.k → j < 2 ^ l → record_in 2 xs i ≡ pair_of h l j → PairWords h l j xs i
pair_words h l j xs i within b same = ⊎_elim at_full at_level (eq-or-lt_of_le within)
  where
    at_full : l ≡ h.k → PairWords h l j xs i
    at_full q =
        let e : 2 ^ l ≡ 2 ^ h.k = ap (λ (n : ℕ). 2 ^ n) q in
        let x = same_pair xs (full_origins h) i j (same ∙ if_else_true (is_full h l) _ _ (eq-eqb l h.k q)) in
        let z = pair_at (λ i. h.k) (λ i. 0) (2 ^ h.k) j (omega arith) in
        (x.0 ∙ z.0 ∙ sym q, λ lt. absurd (omega arith), λ _. x.1 ∙ z.1)

    at_level : l < h.k → PairWords h l j xs i
    at_level lt =
        let below : l ≡ h.k → ⊥ = λ q. omega arith in
        let x = same_pair xs (l ∷ (first_of h l + j) ∷ []) i 0 (same ∙ if_else_false (is_full h l) _ _ (ne_eqb l h.k below)) in
        (x.0, λ _. x.1 ∙ ap (λ (t : ℕ). t + j) (first_level h l below), λ q. absurd (below q))

pub explain_holds : ExplainHolds
explain_holds h m e n o s i l j bs taken B =
    pair_words h l j (explain_origins h m e n o s) i (needed_within h l B.needed) B.among
    (call_leaves (origins_lay h) B (explain_early h m e n o s) (origins_size h) o (λ z. decoded_blocks h m e (whole h m e _ z).fits) taken)
