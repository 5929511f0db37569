-- What the tests of a strike and of a write that is taken tell, and what the call leaves then. Assumes nothing.
use mathlib.Core.Path.{◌≡◌, sym, ap, ap₂, ◌∙◌}
use mathlib.Core.Bool.{Bool, true}
use mathlib.Core.List.{List, ◌∷◌}
use Prim.Native.Nat.{ℕ, ◌<◌}
use native.Mathlib.Omega.{arith}
use borrow.Author.Tests.{eqb-true, ltb-true}
use lib.Dec.{lit<, ltb, eqb}
use lib.ListN.{length}
use Rattle.field.specs.Words.{Words}
use Rattle.field.proofs.Booleans.{first_true, second_true}
use Rattle.field.proofs.WordLists.{words_cons}
use Rattle.layout.specs.declared.Header.{Header}
use Rattle.layout.specs.Header.{record_count, header_fits, raw_size, full_size, log_size}
use Rattle.layout.specs.Records.{are_data}
use Rattle.layout.specs.Refusals.{Tests, done, test, refusal}
use Rattle.layout.proofs.Bounds.{fits}
use Rattle.layout.proofs.Refusals.{passes, if_taken_lem}
use Rattle.store.specs.Buffers.{Buffers, buffers}
use Rattle.store.specs.Writing.{written}
use Rattle.store.specs.StoreCalls.{buffers_fit, write_tests, strike_number, leaving}
use Rattle.store.proofs.BufferRefusals.{lengths}

-- a record's number and words of the field are the words of a block
pub block_in_field : (h : Header) → header_fits h ≡ true → (i : ℕ) → i < record_count h → {b : List ℕ} → Words 65537 b → Words 65537 (i ∷ b)
block_in_field h f i within w = words_cons 65537 (lit< tt) (omega (arith, within, (fits h f).few)) w

module _ (h : Header) (r f g : List ℕ) (i : ℕ) where
  abbrev lent : Buffers
  lent = buffers r f g

  pub record StrikeTaken : Type 0 where
    pub fitting : header_fits h ≡ true
    pub raw_long : length r ≡ raw_size h
    pub full_long : length f ≡ full_size h
    pub log_long : length g ≡ log_size h
    pub within : i < record_count h

  -- where test 2 asks for the lengths of the buffers and more, as b says, and tests follow 4
  passed : {b : Bool} (more : Tests) → (b ≡ true → buffers_fit h lent ≡ true)
      → refusal (test (header_fits h) 1 (test b 2 (test (ltb i (record_count h)) 4 more))) ≡ 0 → StrikeTaken × (b ≡ true) × (refusal more ≡ 0)
  passed {b} more sized e =
      let last : Tests = test (ltb i (record_count h)) 4 more in
      let one = passes (header_fits h) 1 (test b 2 last) e (omega arith) in
      let two = passes b 2 last one.1 (omega arith) in
      let four = passes (ltb i (record_count h)) 4 more two.1 (omega arith) in
      let t = lengths h lent (sized two.0) in (
        record {
          fitting = one.0;
          raw_long = t.0;
          full_long = t.1;
          log_long = t.2;
          within = ltb-true i (record_count h) four.0;
        },
        two.0,
        four.1,
      )

  pub strike_taken : strike_number h lent i ≡ 0 → StrikeTaken
  strike_taken e = (passed done (λ t. t) e).0

  -- what is left, by any of the buffers
  pub taken_leaves : {v : Header} {n : ℕ} {d b x : List ℕ} (part : Buffers → List ℕ) → 0 ≡ n → v ≡ h → d ≡ b → x ≡ part (written v lent i d)
      → x ≡ part (leaving n h lent i b)
  taken_leaves {b = b} part z same eb q =
      q ∙ ap part (ap₂ (λ (w : Header) (e : List ℕ). written w lent i e) same eb ∙ sym (if_taken_lem (written h lent i b) lent (sym z)))

  module _ (b : List ℕ) where
    pub record WriteTaken : Type 0 where
      pub fitting : header_fits h ≡ true
      pub raw_long : length r ≡ raw_size h
      pub full_long : length f ≡ full_size h
      pub log_long : length g ≡ log_size h
      pub block_long : length b ≡ h.s
      pub within : i < record_count h
      pub words : are_data b ≡ true

    -- whatever tests follow
    pub write_taken : (more : Tests) → refusal (write_tests h lent i b more) ≡ 0 → WriteTaken
    write_taken more e =
        let t = passed (test (are_data b) 5 more) (first_true (buffers_fit h lent) (eqb (length b) h.s)) e in
        record {
          fitting = t.0.fitting;
          raw_long = t.0.raw_long;
          full_long = t.0.full_long;
          log_long = t.0.log_long;
          block_long = eqb-true (length b) h.s (second_true (buffers_fit h lent) (eqb (length b) h.s) t.1);
          within = t.0.within;
          words = (passes (are_data b) 5 more t.2 (omega arith)).0;
        }
