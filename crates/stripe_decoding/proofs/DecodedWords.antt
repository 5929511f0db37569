-- The words that a call leaves of one stripe: its blocks and zeros after them, or zeros where it gives none. Assumes nothing.
use mathlib.Core.Path.{◌≡◌, refl, sym, ap, ◌∙◌}
use mathlib.Core.Bool.{Bool, true, false}
use mathlib.Core.List.{List, ◌++◌, append-nil}
use Prim.Native.Nat.{ℕ, ◌-◌, ◌≤◌}
use native.Mathlib.Nat.{mul-le-mul_right}
use native.Mathlib.Omega.{arith}
use borrow.Rule.Slice.PartMut.{put_mid}
use lib.Dec.{ltb}
use lib.ListN.{length, take, drop, replicate, length-drop, drop_of_length-le}
use lib.Pow.{pow_mono}
use lib.Seq.{take_at, length-take-le}
use Rattle.code.specs.declared.Stripe.{Stripe}
use Rattle.code.specs.Stripe.{modulus_of, root_in, block_count, block_words}
use Rattle.decoder.specs.Decoding.{survivors, is_consistent, blocks_in}
use Rattle.image.specs.Loading.{are_below, rows_in}
use Rattle.range_laying.specs.declared.Content.TheVariants.{Blocks}
use Rattle.range_laying.specs.steps.Blocks.{lay_blocks, laid_from}
use Rattle.layout.specs.declared.Header.{Header}
use Rattle.layout.specs.Header.{width, out_size, stripe_of}
use Rattle.judging.specs.Decoding.{Decoded, failed, decoded, are_records, decode_rows, decoded_number, decoded_words}
use Rattle.judging.proofs.ColumnRanges.{length_decoded}
use Rattle.stripe_decoding.proofs.RangeLoop.{by_tests}

-- zeros in place of the last words
pub cleared_last : (l x : List ℕ) (from : ℕ) → from ≤ length l → x ≡ replicate (length (take (length l - from) (drop from l))) 0
    → put_mid from (length l - from) l x ≡ take from l ++ replicate (length l - from) 0
cleared_last l x from b e =
    let n : length (take (length l - from) (drop from l)) ≡ length l - from =
    length-take-le (length l - from) (drop from l) (omega (arith, length-drop from l)) in
    ap (λ (y : List ℕ). take from l ++ (x ++ y)) (drop_of_length-le (drop from l) {i = length l - from} (omega (arith, length-drop from l)))
    ∙ ap (λ (y : List ℕ). take from l ++ y) (append-nil x ∙ e ∙ ap (λ (m : ℕ). replicate m 0) n)

-- what comes of a stripe of so many words of blocks: a number, or blocks
pub data Comes (n : ℕ) (d : Decoded) : Type 0 where
  fails : (x : ℕ) → (x ≡ 0 → ⊥) → d ≡ failed x → Comes n d
  gives : (bs : List ℕ) → d ≡ decoded bs → length bs ≡ n → Comes n d

pub comes : (st : Stripe) (ms : List Bool) (ws : List ℕ) → Comes (block_words st) (decode_rows st ms ws)
comes st ms ws =
    let r = rows_in st ms ws in
    by (ltb (length (survivors st.level ms)) (block_count st)) (are_below (modulus_of st) r) (is_consistent st ms r)
    (are_records st (blocks_in st ms r) (block_count st))
  where
    by : (few b c f : Bool)
        → Comes (block_words st) (elim few [ true ↦ failed 7 | false ↦ by_tests b c f (blocks_in st ms (rows_in st ms ws)) ])
    by true b c f = fails 7 (λ e. omega arith) refl
    by false false c f = fails 8 (λ e. omega arith) refl
    by false true false f = fails 9 (λ e. omega arith) refl
    by false true true false = fails 10 (λ e. omega arith) refl
    by false true true true =
        gives (blocks_in st ms (rows_in st ms ws)) refl
        (length_decoded (modulus_of st) (root_in st) st.k st.level st.first ms st.width (rows_in st ms ws))

-- as many records as a vault has hold the blocks of each of its stripes
pub blocks_inside : (h : Header) (l : ℕ) → l ≤ h.k → block_words (stripe_of h l) ≤ out_size h
blocks_inside h l w = mul-le-mul_right (width h) (pow_mono {i = l} {j = h.k} w)

-- THE WORDS that stay in front of the zeros: those of the blocks, or none
module _ (st : Stripe) {n : ℕ} {d : Decoded} (C : Comes n d) {number size : ℕ} (e : number ≡ decoded_number d)
    (z : number ≡ 0 → size ≡ n) (s : (number ≡ 0 → ⊥) → size ≡ 0) where
  number_fails : {x : ℕ} → d ≡ failed x → (x ≡ 0 → ⊥) → number ≡ 0 → ⊥
  number_fails q u v = u (sym (ap decoded_number q) ∙ sym e ∙ v)

  number_gives : {bs : List ℕ} → d ≡ decoded bs → number ≡ 0
  number_gives q = e ∙ ap decoded_number q

  pub size_inside : {m : ℕ} → n ≤ m → size ≤ m
  size_inside {m} b = by C
    where
      by : Comes n d → size ≤ m
      by (fails x u q) = omega (arith, s (number_fails q u))
      by (gives bs q l) = omega (arith, z (number_gives q))

  pub words_left : (o₀ o : List ℕ) → (number ≡ 0 → o ≡ laid_from (lay_blocks Blocks st) d o₀)
      → take size o ++ replicate (length o - size) 0 ≡ decoded_words d (length o)
  words_left o₀ o laid = by C
    where
      by : Comes n d → take size o ++ replicate (length o - size) 0 ≡ decoded_words d (length o)
      by (fails x u q) = rw (q, s (number_fails q u)) (ap (λ (m : ℕ). replicate m 0) {x = length o - 0} {y = length o} (omega arith))
      by (gives bs q l) =
          let k : size ≡ length bs = z (number_gives q) ∙ sym l in
          let front : take size o ≡ bs =
          ap (take size) (laid (number_gives q) ∙ ap (λ (x : Decoded). laid_from (lay_blocks Blocks st) x o₀) q)
          ∙ take_at bs (drop (length bs) o₀) size (sym k) in
          rw (front, k, q) refl
