-- The loop that stores the blocks of all records, and what the coding of them makes. Assumes nothing.
use mathlib.Core.Path.{◌≡◌, refl, sym, ap, ap₂, ◌∙◌}
use mathlib.Core.Bool.{true}
use mathlib.Core.List.{List, ◌∷◌}
use Prim.Native.Nat.{ℕ, suc, ◌+◌, ◌-◌, ◌*◌, ◌^◌, ◌≤◌, ◌<◌}
use native.Mathlib.Nat.{sub-zero, zero-mul}
use native.Mathlib.Numerals.{add-one}
use native.Mathlib.Omega.{arith}
use borrow.Rule.Slice.PartMut.{put_mid}
use lib.ListN.{length, take, drop}
use lib.Seq.{sets, sets-eq, length-sets, take_at}
use Rattle.field.specs.Words.{Words}
use Rattle.field.specs.Field.{fermat, root_of}
use Rattle.code.specs.Stripe.{coded_rows}
use Rattle.code.proofs.Lifting.{row_next, row_in}
use Rattle.layout.specs.declared.Header.{Header}
use Rattle.layout.specs.Header.{header_of, header_fits, record_count, raw_size, full_size}
use Rattle.layout.specs.Records.{record_in}
use Rattle.store.specs.Buffers.{reduced, blocks_from, full_stripe}
use Rattle.layout.proofs.Bounds.{Fits, fits}
use Rattle.field.proofs.WordLists.{sets_append}
use Rattle.store.proofs.Stores.{put_over}
use Rattle.store.proofs.StoredRecords.{length_reduced, length_blocks, words_blocks}
use Rattle.layout.proofs.RecordWords.{length_record}

pub record BuildLoop (raw full₀ : List ℕ) (k s n width : ℕ) (full : List ℕ) (i : ℕ) : Type 0 where
  pub turns : i ≤ n
  pub few : n ≤ 1024
  pub n_is : n ≡ 2 ^ k
  pub width_is : width ≡ suc s
  pub raw_long : length raw ≡ n * s
  pub long : length full₀ ≡ n * width + n * width
  pub same : length full ≡ length full₀
  pub whole : sets full (i * width) (blocks_from 65537 s raw i (n - i)) ≡ sets full₀ 0 (blocks_from 65537 s raw 0 n)

pub building_start : {raw full₀ : List ℕ} (h : Header) {n width : ℕ} → header_fits h ≡ true → n ≡ record_count h → width ≡ suc h.s → length raw ≡ raw_size h
    → length full₀ ≡ full_size h → BuildLoop raw full₀ h.k h.s n width full₀ 0
building_start {raw} {full₀} h {n} {width} b e w r f =
    let z : Fits h = fits h b in
    record {
      turns = omega arith;
      few = omega (arith, z.few);
      n_is = e;
      width_is = w;
      raw_long = rw e r;
      long = rw (e, w) (omega (arith, f, z.full_is));
      same = refl;
      whole = rw (sub-zero n, zero-mul);
    }

-- the next block, and then those after it
building_next : (p s i m at width : ℕ) (raw full : List ℕ) → length (record_in s raw i) ≡ s → width ≡ suc s
    → sets full at (blocks_from p s raw i (suc m)) ≡ sets (sets full at (i ∷ reduced p (record_in s raw i))) (at + width) (blocks_from p s raw (i + 1) m)
unfolding blocks_from
building_next p s i m at width raw full e w =
    let b : List ℕ = i ∷ reduced p (record_in s raw i) in
    sets_append full at b (blocks_from p s raw (suc i) m) ∙ rw (length_reduced p (record_in s raw i), e, w, add-one i)

module _ {raw full₀ : List ℕ} {k s n width : ℕ} {full : List ℕ} {i : ℕ} (h : BuildLoop raw full₀ k s n width full i) where
  module _ (l : i < n) where
    row_room : i * width + width ≤ length full
    row_room = omega (arith, row_in width l, h.long, h.same)

    pub building_turn : {row : List ℕ} → row ≡ i ∷ reduced 65537 (take (i * s + s - i * s) (drop (i * s) raw))
        → BuildLoop raw full₀ k s n width (put_mid (i * width) (i * width + width - i * width) full row) (i + 1)
    building_turn {row} er =
        let d : n - i ≡ suc (n - (i + 1)) = omega arith in
        let one = length_record n s raw i h.raw_long l in
        let es : i * s + s - i * s ≡ s = omega arith in
        let e : row ≡ i ∷ reduced 65537 (record_in s raw i) = rw es at er in
        let long : length row ≡ width = ap length e ∙ omega (arith, length_reduced 65537 (record_in s raw i), one, h.width_is) in
        let put : put_mid (i * width) (i * width + width - i * width) full row ≡ sets full (i * width) row =
        put_over (i * width) (i * width + width - i * width) full row (omega arith) (omega (arith, row_room)) in
        rw put (record {
          turns = omega arith;
          few = h.few;
          n_is = h.n_is;
          width_is = h.width_is;
          raw_long = h.raw_long;
          long = h.long;
          same = length-sets full (i * width) row ∙ h.same;
          whole = ap₂ (λ (f : List ℕ) (a : ℕ). sets f a (blocks_from 65537 s raw (i + 1) (n - (i + 1)))) (ap (sets full (i * width)) e) (row_next i width)
              ∙ sym (building_next 65537 s i (n - (i + 1)) (i * width) width raw full one h.width_is) ∙ (rw d at h.whole);
        })

  building_done : n ≤ i → full ≡ sets full₀ 0 (blocks_from 65537 s raw 0 n)
  unfolding blocks_from
  building_done l = let e : n - i ≡ 0 = omega (arith, h.turns) in rw e at h.whole

  -- the first half of the words are the blocks
  pub building_filled : n ≤ i → take (n * width) full ≡ blocks_from 65537 s raw 0 n
  building_filled l =
      let bs : List ℕ = blocks_from 65537 s raw 0 n in
      let e : length bs ≡ n * width = length_blocks 65537 n s raw 0 n h.raw_long (omega arith) ∙ ap (λ (w : ℕ). n * w) (sym h.width_is) in
      rw (building_done l, sets-eq bs full₀ 0 (omega (arith, h.long))) (take_at bs (drop (0 + length bs) full₀) (n * width) e)

  pub building_words : n ≤ i → Words 65537 (take (n * width) full)
  building_words l = rw (building_filled l) (words_blocks 65537 s (omega arith) raw 0 n (omega (arith, h.few)))

  -- the coded blocks are the full stripe
  pub built : (c : ℕ) {full' : List ℕ} → n ≤ i → full' ≡ coded_rows 65537 (root_of fermat k) k k 0 width (take (2 ^ k * width) full)
      → full' ≡ full_stripe (header_of k s c) raw
  built c l q = q ∙ rw (← h.n_is, building_filled l, h.width_is, h.n_is)
