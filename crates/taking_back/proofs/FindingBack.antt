-- The search for a record's write before: stripe after stripe, and what the call comes to when it ends. Assumes nothing.
use mathlib.Core.Path.{◌≡◌, refl, sym, ap, ap₂, ◌∙◌}
use mathlib.Core.Bool.{true, false}
use mathlib.Core.List.{List}
use Prim.Native.Nat.{ℕ, zero, suc, ◌+◌, ◌*◌, ◌-◌, ◌^◌, ◌≤◌, ◌<◌}
use native.Mathlib.Nat.{mul-le-mul_right, eq-or-lt_of_le, suc-le-suc_iff}
use native.Mathlib.Omega.{arith}
use mathlib.Core.Logic.{⊎_elim}
use lib.ListN.{length}
use lib.Pow.{pow_pos, pow_mono}
use Rattle.std.specs.Prelude.{Option, Some, None, Result}
use Rattle.std.specs.Result.{IsErrAnd}
use Rattle.std.proofs.lemmas.Result.{err_from_is_err_and}
use Rattle.field.proofs.Booleans.{first_true, second_true}
use Rattle.code.specs.declared.Stripe.{Stripe}
use Rattle.layout.specs.declared.Header.{Header}
use Rattle.layout.specs.declared.refusal.Refusal.{Refusal}
use Rattle.layout.specs.Header.{header_fits, record_count, width, out_size, is_filled, stripe_of}
use Rattle.layout.specs.Records.{record_fits}
use Rattle.layout.specs.Refusals.{number_of}
use Rattle.layout.proofs.Bounds.{fits}
use Rattle.judging.specs.Decoding.{Decoded, decoded_number, block_number, block_data, number_fits, is_record, are_records}
use Rattle.judging.proofs.Judging.{number_below}
use Rattle.judging.proofs.StripeNumbers.{failed_is}
use Rattle.splitting.specs.Splitting.{lowest_of}
use Rattle.taking_back.specs.TakingBack.{last_of, Before, fails, found, then_find, found_at, find_from, last_block, record_taken}
use Rattle.taking_back.specs.TakingBack.{stopped, with_words, goes_back}
use Rattle.taking_back.specs.declared.finding.Found.{Found}
use Rattle.taking_back.specs.steps.Finding.{before_in, Goes, FindsBack}
use Rattle.taking_back.proofs.BlockSearch.{last_within, number_front, data_front, last_front}
use Rattle.splitting.proofs.Lowest.{lowest}
use Rattle.taking_back.proofs.HeldStripes.{Laid}

-- THE BLOCKS that the output begins with
module _ (w m : ℕ) {d : Decoded} {out : List ℕ} (L : Laid (m * w) d out) (some : 0 < w) where
  inside : (j : ℕ) → j < m → suc j * w ≤ length L.laid
  inside j b = omega (arith, L.long, mul-le-mul_right {m = suc j} {n = m} w b)

  pub laid_number : (j : ℕ) → j < m → block_number w out j ≡ block_number w L.laid j
  laid_number j b = ap (λ (x : List ℕ). block_number w x j) L.front ∙ number_front w L.laid L.rest some j (inside j b)

  pub laid_data : (j : ℕ) → j < m → block_data w out j ≡ block_data w L.laid j
  laid_data j b = ap (λ (x : List ℕ). block_data w x j) L.front ∙ data_front w L.laid L.rest some j (inside j b)

  pub laid_last : (i n : ℕ) → n ≤ m → last_of w out i n ≡ last_of w L.laid i n
  laid_last i n b =
      ap (λ (x : List ℕ). last_of w x i n) L.front
      ∙ last_front w L.laid L.rest some i n (omega (arith, L.long, mul-le-mul_right {m = n} {n = m} w b))

  -- one that is found among the first n
  pub laid_found : (i n : ℕ) → n ≤ m → {j : ℕ} → Some j ≡ last_of w out i n → (o : Before)
      → found_at w L.laid (last_of w L.laid i n) o ≡ found (block_data w out j)
  laid_found i n b {j} e o =
      let q : last_of w L.laid i n ≡ Some j = sym (e ∙ laid_last i n b) in
      let t : j < n = last_within w L.laid i n q in
      ap (λ (x : Option ℕ). found_at w L.laid x o) q ∙ ap found (sym (laid_data j (omega arith)))

  pub laid_none : (i n : ℕ) → n ≤ m → None ≡ last_of w out i n → (o : Before) → found_at w L.laid (last_of w L.laid i n) o ≡ o
  laid_none i n b e o = ap (λ (x : Option ℕ). found_at w L.laid x o) (sym (e ∙ laid_last i n b))

-- as the code tells what it found, and a refusal that it passes on
pub last_told : (bs : List ℕ) (i : ℕ) {w w' n n' : ℕ} {x : Option ℕ} → w ≡ w' → n ≡ n' → x ≡ last_of w bs i n → x ≡ last_of w' bs i n'
last_told bs i p q e = e ∙ ap₂ (λ (a b : ℕ). last_of a bs i b) p q

pub found_inside : (h : Header) (l n : ℕ) (out : List ℕ) (i : ℕ) {j : ℕ} → l ≤ h.k → n ≤ 2 ^ l
    → Some j ≡ last_of (width h) out i n → suc j * width h ≤ out_size h
found_inside h l n out i {j} w b e =
    let t : j < n = last_within (width h) out i n (sym e) in
    mul-le-mul_right {m = suc j} {n = 2 ^ h.k} (width h) (omega (arith, pow_mono {i = l} {j = h.k} w))

pub before_failed : (w : ℕ) (out : List ℕ) (x : Refusal) (r : Result ℕ Refusal) → IsErrAnd r (λ y. y ≡ x) → before_in w out r ≡ fails (number_of x)
before_failed w out x r i = let p = err_from_is_err_and r i in rw (p.1, p.2) refl

-- BEFORE A TURN: what is left to look at comes to all there was to look at
pub record Seeking (h : Header) (d : ℕ → Decoded) (i level l : ℕ) : Type 0 where
  pub low : level ≤ l
  pub high : l ≤ h.k
  pub rest : find_from (h.k - level) h d i level ≡ find_from (h.k - l) h d i l

pub seek_start : (h : Header) (d : ℕ → Decoded) (i level : ℕ) → level ≤ h.k → Seeking h d i level level
seek_start h d i level b = record { low = omega arith; high = b; rest = refl }

module _ (h : Header) (d : ℕ → Decoded) (i : ℕ) where
  -- one level more, and the full stripe
  pub level_skip : (n l : ℕ) → is_filled h l ≡ false → find_from (suc n) h d i l ≡ find_from n h d i (suc l)
  unfolding find_from
  level_skip n l e = rw (e, find_from) refl

  pub level_looked : (n l : ℕ) → is_filled h l ≡ true
      → find_from (suc n) h d i l ≡ then_find (d l) (λ (bs : List ℕ). found_at (width h) bs (last_of (width h) bs i (2 ^ l)) (find_from n h d i (suc l)))
  unfolding find_from
  level_looked n l e = rw (e, find_from) refl

  pub full_looked : (l : ℕ) → find_from 0 h d i l ≡ then_find (d h.k) (λ (bs : List ℕ). found (block_data (width h) bs i))
  unfolding find_from
  full_looked l = refl

  module _ {level l : ℕ} (S : Seeking h d i level l) where
    module _ (b : l < h.k) where
      at_turn : find_from (h.k - level) h d i level ≡ find_from (suc (h.k - suc l)) h d i l
      at_turn = S.rest ∙ ap (λ (n : ℕ). find_from n h d i l) {x = h.k - l} {y = suc (h.k - suc l)} (omega arith)

      after_turn : find_from (h.k - level) h d i level ≡ find_from (h.k - suc l) h d i (suc l) → Seeking h d i level (l + 1)
      after_turn e = record {
        low = omega (arith, S.low);
        high = omega arith;
        rest = e ∙ ap (λ (n : ℕ). find_from (h.k - n) h d i n) {x = suc l} {y = l + 1} (omega arith);
      }

      pub seek_skip : is_filled h l ≡ false → Seeking h d i level (l + 1)
      seek_skip e = after_turn (at_turn ∙ level_skip (h.k - suc l) l e)

      module _ (e : is_filled h l ≡ true) where
        abbrev then_on : List ℕ → Before
        then_on bs = found_at (width h) bs (last_of (width h) bs i (2 ^ l)) (find_from (h.k - suc l) h d i (suc l))

        looked : find_from (h.k - level) h d i level ≡ then_find (d l) then_on
        looked = at_turn ∙ level_looked (h.k - suc l) l e

        pub seek_fails : {n : ℕ} → n ≡ decoded_number (d l) → (n ≡ 0 → ⊥) → fails n ≡ find_from (h.k - level) h d i level
        seek_fails q z = sym (looked ∙ ap (λ (x : Decoded). then_find x then_on) (failed_is (d l) q z))

        module _ {out : List ℕ} (L : Laid (2 ^ l * width h) (d l) out) where
          searched : find_from (h.k - level) h d i level ≡ then_on L.laid
          searched = looked ∙ ap (λ (x : Decoded). then_find x then_on) L.is

          pub seek_found : {j : ℕ} → Some j ≡ last_of (width h) out i (2 ^ l) → found (block_data (width h) out j) ≡ find_from (h.k - level) h d i level
          seek_found q = sym (searched ∙ laid_found (width h) (2 ^ l) L (omega arith) i (2 ^ l) (omega arith) q (find_from (h.k - suc l) h d i (suc l)))

          pub seek_on : None ≡ last_of (width h) out i (2 ^ l) → Seeking h d i level (l + 1)
          seek_on q = after_turn (searched ∙ laid_none (width h) (2 ^ l) L (omega arith) i (2 ^ l) (omega arith) q (find_from (h.k - suc l) h d i (suc l)))

    -- the levels are passed
    module _ (b : h.k ≤ l) where
      at_end : find_from (h.k - level) h d i level ≡ then_find (d h.k) (λ (bs : List ℕ). found (block_data (width h) bs i))
      at_end = S.rest ∙ ap (λ (n : ℕ). find_from n h d i l) {x = h.k - l} {y = 0} (omega arith) ∙ full_looked l

      pub end_fails : {n : ℕ} → n ≡ decoded_number (d h.k) → (n ≡ 0 → ⊥) → fails n ≡ find_from (h.k - level) h d i level
      end_fails q z =
          sym (at_end ∙ ap (λ (x : Decoded). then_find x (λ (bs : List ℕ). found (block_data (width h) bs i))) (failed_is (d h.k) q z))

      pub end_found : {out : List ℕ} → Laid (2 ^ h.k * width h) (d h.k) out → i < record_count h
          → found (block_data (width h) out i) ≡ find_from (h.k - level) h d i level
      end_found L t =
          ap found (laid_data (width h) (2 ^ h.k) L (omega arith) i t)
          ∙ sym (at_end ∙ ap (λ (x : Decoded). then_find x (λ (bs : List ℕ). found (block_data (width h) bs i))) L.is)

-- THE LOWEST FILLED LEVEL is below k
pub lowest_within : (h : Header) → header_fits h ≡ true → 0 < h.c → lowest_of h < h.k
lowest_within h valid some = (lowest h some (fits h valid).c_low refl).within

-- A LEVEL'S BLOCKS are records of the vault
pub each_record : (st : Stripe) (bs : List ℕ) (n : ℕ) → are_records st bs n ≡ true → (j : ℕ) → j < n → number_fits st j (block_number st.width bs j) ≡ true
unfolding are_records
each_record st bs zero e j b = absurd (omega arith)
each_record st bs (suc n) e j b =
    ⊎_elim
    (λ q. first_true _ (record_fits (block_data st.width bs j)) (ap (is_record st bs) q ∙ first_true (is_record st bs n) (are_records st bs n) e))
    (λ lt. each_record st bs n (second_true (is_record st bs n) (are_records st bs n) e) j lt) (eq-or-lt_of_le (suc-le-suc_iff.0 b))

pub number_low : (h : Header) (l : ℕ) (bs : List ℕ) → l < h.k → are_records (stripe_of h l) bs (2 ^ l) ≡ true → (j : ℕ) → j < 2 ^ l
    → block_number (width h) bs j < record_count h
number_low h l bs b e j t = let st = stripe_of h l in number_below st j (block_number (width h) bs j) b (each_record st bs (2 ^ l) e j t)

-- WHAT TAKING BACK COMES TO, from what the lowest filled level decodes to and the word r that the code reads
pub back_failed : (h : Header) (d : ℕ → Decoded) (out : List ℕ) (x : Refusal) (r : Result Found Refusal) → IsErrAnd r (λ y. y ≡ x)
    → goes_back h d ≡ stopped (number_of x) → FindsBack h d out r
back_failed h d out x r i e = let p = err_from_is_err_and r i in rw (p.1, p.2) e

module _ (h : Header) (d : ℕ → Decoded) {out : List ℕ} (L : Laid (2 ^ lowest_of h * width h) (d (lowest_of h)) out) {r : ℕ}
    (er : r ≡ block_number (width h) out (last_block h)) where
  abbrev next : ℕ → Before
  next i = find_from (h.k - suc (lowest_of h)) h d i (suc (lowest_of h))

  taken_is : record_taken h L.laid ≡ r
  taken_is = sym (er ∙ laid_number (width h) (2 ^ lowest_of h) L (omega arith) (last_block h) (omega (arith, pow_pos (lowest_of h))))

  looked_low : goes_back h d ≡ with_words L.laid (found_at (width h) L.laid (last_of (width h) L.laid r (last_block h)) (next r))
  looked_low = rw (L.is, taken_is) refl

  pub found_here : lowest_of h ≤ h.k → {j : ℕ} → Some j ≡ last_of (width h) out r (last_block h) → Goes h d out (record { «record» = r; block = j })
  found_here w q = record {
    blocks = L.laid;
    decoded_as = L.is;
    number_is = taken_is;
    comes = looked_low
        ∙ ap (with_words L.laid) (laid_found (width h) (2 ^ lowest_of h) L (omega arith) r (last_block h) (omega arith) q (next r));
    inside = found_inside h (lowest_of h) (last_block h) out r w (omega arith) q;
  }

  module _ (none : None ≡ last_of (width h) out r (last_block h)) {l : ℕ} (el : l ≡ lowest_of h) where
    pub found_on : {x : Before} → x ≡ find_from (h.k - (l + 1)) h d r (l + 1) → goes_back h d ≡ with_words L.laid x
    found_on e =
        looked_low
        ∙ ap (with_words L.laid)
        (laid_none (width h) (2 ^ lowest_of h) L (omega arith) r (last_block h) (omega arith) none (next r)
        ∙ sym (e ∙ ap (λ (n : ℕ). find_from (h.k - n) h d r n) {x = l + 1} {y = suc (lowest_of h)} (omega arith)))

    pub on_found : {out' : List ℕ} {j : ℕ} → found (block_data (width h) out' j) ≡ find_from (h.k - (l + 1)) h d r (l + 1) → suc j * width h ≤ out_size h
        → Goes h d out' (record { «record» = r; block = j })
    on_found e b = record { blocks = L.laid; decoded_as = L.is; number_is = taken_is; comes = found_on e; inside = b }
