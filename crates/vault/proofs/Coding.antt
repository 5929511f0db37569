-- Coding column by column: what it is that blocks code to words, by the bytes of an image and by the code of each column; and the blocks of raw records. The
-- room Coding of specs/promises. Assumes nothing.
use mathlib.Core.Path.{◌≡◌, sym, ap, ap₂, ◌∙◌}
use mathlib.Core.Bool.{false}
use mathlib.Core.List.{List, ◌∷◌, ◌++◌}
use Prim.Native.Nat.{ℕ, zero, suc, ◌+◌, ◌*◌, ◌/◌, ◌%◌, ◌^◌, ◌≤◌, ◌<◌}
use native.Mathlib.Nat.{div-div-eq-div-mul}
use native.Mathlib.Omega.{arith}
use lib.ListN.{length, get_or}
use lib.Seq.{ext_get_or}
use Rattle.std.specs.Prelude.{◌↔◌}
use Rattle.code.specs.Rows.{column}
use Rattle.code.specs.Stripe.{coded, coded_rows}
use Rattle.code.proofs.Lifting.{length_column, column_at, lifted_at}
use Rattle.code.proofs.Shapes.{append_low, append_high}
use Rattle.field.specs.Field.{fermat, root_of}
use Rattle.layout.specs.declared.Header.{Header}
use Rattle.layout.specs.Header.{vault_root}
use Rattle.layout.specs.Records.{record_in}
use Rattle.layout.proofs.RecordWords.{length_record, word_of_record}
use Rattle.store.specs.Buffers.{reduced, blocks_from, blocks_of}
use Rattle.store.proofs.Stores.{reduced_at}
use Rattle.store.proofs.StoredRecords.{length_reduced}
use Rattle.vault.specs.promises.Coding.{root, first_write, ColumnOf, CodesIff, BlocksAre, FullCodes}
use Rattle.vault.specs.promises.Decoding.{marks}
use Rattle.vault.specs.promises.Erasures.{Untouched}
use Rattle.vault.proofs.Erasures.{stripe_word, marked_iff}
use Rattle.vault.proofs.Leaving.{power_is}

-- THE ROOT of the definition of the code is that of the statements
pub root_is : (k : ℕ) → root_of fermat k ≡ root k
unfolding root root_of
root_is k =
    power_is 65537 3 (65536 / (2 * 2 ^ k)) (omega arith)
    ∙ ap (λ (n : ℕ). 3 ^ n % 65537) {x = 65536 / (2 * 2 ^ k)} {y = 32768 / 2 ^ k} (sym (div-div-eq-div-mul 65536 2 (2 ^ k)))

-- A COLUMN is the one that the code has
column_is : (h : Header) (l j : ℕ) (bs c : List ℕ) → ColumnOf h l j bs c → column (suc h.s) (2 ^ l) j bs ≡ c
column_is h l j bs c C =
    let w : ℕ = suc h.s in
    ext_get_or 0 (column w (2 ^ l) j bs) c (length_column w (2 ^ l) j bs ∙ sym C.long)
    (λ i b. let b' : i < 2 ^ l = rw length_column at b in column_at w (2 ^ l) j bs i b' ∙ sym (C.words i b'))

the_column : (h : Header) (l j : ℕ) (bs : List ℕ) → ColumnOf h l j bs (column (suc h.s) (2 ^ l) j bs)
the_column h l j bs = record { long = length_column (suc h.s) (2 ^ l) j bs; words = column_at (suc h.s) (2 ^ l) j bs }

-- and so a word of coded rows is one of the code of its column
row_codes : (h : Header) (l t : ℕ) (bs c : List ℕ) (i j : ℕ) → i < 2 ^ suc l → j < suc h.s → ColumnOf h l j bs c
    → get_or (coded_rows 65537 (vault_root h) h.k l t (suc h.s) bs) (i * suc h.s + j) 0 ≡ get_or (coded 65537 (root h.k) h.k l t c) i 0
unfolding coded_rows
row_codes h l t bs c i j a b C =
    lifted_at (suc h.s) (2 ^ l) (2 ^ suc l) (coded 65537 (vault_root h) h.k l t) bs i j a b
    ∙ ap₂ (λ (w : ℕ) (x : List ℕ). get_or (coded 65537 w h.k l t x) i 0) (root_is h.k) (column_is h l j bs c C)

pub codes_iff : CodesIff
codes_iff h m e l bs R W within =
    let free : (i : ℕ) → i < 2 ^ suc l → (get_or (marks h e l) i false ≡ false) ↔ Untouched h e l i = λ i a. marked_iff h e l i R.k_to within W a in (
      λ C. record {
        long = C.blocks.long;
        words = λ q. omega (arith, C.blocks.words.word q);
        fits = λ i j c a b U K.
            sym (stripe_word h m l i j a b) ∙ sym (C.agrees.same i j a b ((free i a).1 U)) ∙ row_codes h l (first_write h l) bs c i j a b K;
      },
      λ C. record {
        blocks = record { long = C.long; words = record { word = λ q. omega (arith, C.words q) } };
        agrees = record {
          same = λ i j a b q.
              let K = the_column h l j bs in
              row_codes h l (first_write h l) bs (column (suc h.s) (2 ^ l) j bs) i j a b K
              ∙ sym (C.fits i j (column (suc h.s) (2 ^ l) j bs) a b ((free i a).0 q) K) ∙ sym (stripe_word h m l i j a b);
        };
      },
    )

-- RECORD i AS A BLOCK, and where it stands among the blocks of n records from record a on, of m records in all
abbrev block : (s : ℕ) → (raw : List ℕ) → (i : ℕ) → List ℕ
block s r i = i ∷ reduced 65537 (record_in s r i)

module _ (m s : ℕ) (r : List ℕ) (long : length r ≡ m * s) where
  length_block : (i : ℕ) → i < m → length (block s r i) ≡ suc s
  length_block i b = ap suc (length_reduced 65537 (record_in s r i) ∙ length_record m s r i long b)

  block_stands : (a n i q : ℕ) → a + n ≤ m → i < n → q < suc s → get_or (blocks_from 65537 s r a n) (i * suc s + q) 0 ≡ get_or (block s r (a + i)) q 0
  unfolding blocks_from
  block_stands a zero i q h b c = absurd (omega arith)
  block_stands a (suc n) zero q h b c =
      ap (λ (x : ℕ). get_or (block s r a ++ blocks_from 65537 s r (suc a) n) x 0) {x = 0 * suc s + q} {y = q} (omega arith)
      ∙ append_low (block s r a) (blocks_from 65537 s r (suc a) n) (length_block a (omega arith)) q c
      ∙ ap (λ (x : ℕ). get_or (block s r x) q 0) {x = a} {y = a + 0} (omega arith)
  block_stands a (suc n) (suc i) q h b c =
      ap (λ (x : ℕ). get_or (block s r a ++ blocks_from 65537 s r (suc a) n) x 0) {x = suc i * suc s + q} {y = suc s + (i * suc s + q)} (omega arith)
      ∙ append_high (block s r a) (blocks_from 65537 s r (suc a) n) (length_block a (omega arith)) (i * suc s + q)
      ∙ block_stands (suc a) n i q (omega arith) (omega arith) c
      ∙ ap (λ (x : ℕ). get_or (block s r x) q 0) {x = suc a + i} {y = a + suc i} (omega arith)

pub blocks_are : BlocksAre
blocks_are h raw i long b =
    let n : ℕ = 2 ^ h.k in
    let s : ℕ = h.s in
    let stands : (q : ℕ) → q < suc s → get_or (blocks_of h raw) (i * suc s + q) 0 ≡ get_or (block s raw i) q 0 =
    λ q c. block_stands n s raw long 0 n i q (omega arith) b c ∙ ap (λ (x : ℕ). get_or (block s raw x) q 0) {x = 0 + i} {y = i} (omega arith) in (
      ap (λ (x : ℕ). get_or (blocks_of h raw) x 0) {x = i * suc s} {y = i * suc s + 0} (omega arith) ∙ stands 0 (omega arith),
      λ j lt. stands (suc j) (omega arith) ∙ reduced_at 65537 (record_in s raw i) j (omega (arith, length_record n s raw i long b))
          ∙ ap (λ (x : ℕ). x % 65537) (word_of_record s raw i j lt),
    )

pub full_codes : FullCodes
full_codes h raw i j c R long a b C = row_codes h h.k 0 (blocks_of h raw) c i j a b C
