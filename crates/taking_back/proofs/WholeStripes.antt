-- Stripes none of whose positions is erased: half of them survive at least, and what they decode to codes to all of their words. Assumes nothing.
use mathlib.Core.Path.{◌≡◌, refl, sym, ap}
use mathlib.Core.Bool.{true, false}
use mathlib.Core.List.{List}
use Prim.Native.Nat.{ℕ, zero, suc, ◌+◌, ◌*◌, ◌^◌}
use native.Mathlib.Omega.{arith}
use lib.Dec.{lit<}
use lib.ListN.{length, get_or}
use Rattle.field.specs.Words.{Words}
use Rattle.field.proofs.WordLists.{get_or_same}
use Rattle.code.specs.declared.Stripe.{Stripe}
use Rattle.code.specs.Stripe.{modulus_of, root_in, block_count, position_count, block_words, stripe_words, coded_stripe}
use Rattle.code.specs.Rows.{Column}
use Rattle.code.proofs.CodedRows.{length_coded_rows, words_coded_rows}
use Rattle.code.proofs.Lifting.{rows_ext}
use Rattle.decoder.specs.Decoding.{survivors_from}
use Rattle.decoder.specs.Promises.{Enough}
use Rattle.judging.specs.Decoding.{Decoded, failed, decoded, are_records, decode_rows}
use Rattle.judging.specs.Promises.{Readable}
use Rattle.judging.specs.StripeFits.{StripeFits}
use Rattle.judging.proofs.Proved as Judging
use Rattle.taking_back.specs.TakingBack.{none_erased}

-- no mark is set
pub none_set : (i : ℕ) → get_or none_erased i false ≡ false
none_set i = get_or_same 2048 false i

survivors_all : (i n : ℕ) → length (survivors_from none_erased i n) ≡ n
unfolding survivors_from
survivors_all i zero = refl
survivors_all i (suc n) = rw (none_set i, survivors_from) (ap suc (survivors_all (suc i) n))

pub all_survive : (l : ℕ) → Enough l none_erased
all_survive l = omega (arith, survivors_all 0 (2 ^ suc l))

-- so it is never 7
pub never_seven : (st : Stripe) (ws : List ℕ) → decode_rows st none_erased ws ≡ failed 7 → ⊥
never_seven st ws e = let b = ((Judging.proved).seven_iff st none_erased ws).0 e in absurd (omega (arith, b, all_survive st.level))

-- WHAT IT DECODES TO are blocks of words of the field that code to its words, and hold records
pub record WholeCode (st : Stripe) (ws bs : List ℕ) : Type 0 where
  pub codes : ws ≡ coded_stripe st bs
  pub blocks : Column (modulus_of st) (block_words st) bs
  pub words : Words (modulus_of st) ws
  pub records : are_records st bs (block_count st) ≡ true

blocks_not : {n : ℕ} {bs : List ℕ} {d : Decoded} → d ≡ decoded bs → d ≡ failed n → ⊥
blocks_not p q = let z : ◌≡◌ {A = ℕ} 0 1 = cc in omega arith

module _ (st : Stripe) (bs : List ℕ) where
  length_code : length (coded_stripe st bs) ≡ stripe_words st
  length_code = length_coded_rows (modulus_of st) (root_in st) st.k st.level st.first st.width bs

  words_code : Words (modulus_of st) bs → Words (modulus_of st) (coded_stripe st bs)
  words_code w = words_coded_rows (modulus_of st) (root_in st) st.k st.level st.first st.width (lit< tt) w

  pub whole_code : (ws : List ℕ) → StripeFits st → length ws ≡ stripe_words st → decode_rows st none_erased ws ≡ decoded bs → WholeCode st ws bs
  whole_code ws fits long e =
      let R : Readable st none_erased ws = (Judging.proved).else_readable st none_erased ws fits (blocks_not e) (blocks_not e) in
      let c = ((Judging.proved).decodes_iff st none_erased ws bs R).0 e in
      let same : coded_stripe st bs ≡ ws =
      rows_ext st.width (position_count st) (coded_stripe st bs) ws length_code long
      (λ i j a b. c.0.agrees.same i j a b (none_set i)) in
      record {
        codes = sym same;
        blocks = c.0.blocks;
        words = rw (← same) (words_code c.0.blocks.words);
        records = c.1;
      }

  -- and the other way round: blocks that hold records are what their code decodes to
  pub whole_decodes : StripeFits st → Column (modulus_of st) (block_words st) bs → are_records st bs (block_count st) ≡ true
      → decode_rows st none_erased (coded_stripe st bs) ≡ decoded bs
  whole_decodes fits C r =
      let w = words_code C.words in
      let R : Readable st none_erased (coded_stripe st bs) = record {
        fits = fits;
        enough = all_survive st.level;
        in_field = record { below = λ i j a b e. w.word (i * st.width + j) };
      } in
      ((Judging.proved).decodes_iff st none_erased (coded_stripe st bs) bs R).1
      (record { blocks = C; agrees = record { same = λ i j a b e. refl } }, r)
