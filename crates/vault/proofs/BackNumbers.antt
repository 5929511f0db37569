-- The number of the call `take_back` by its tests 1, 2 and 12, both ways round: what the stripes come to is none of these. The room Numbers of specs/promises.
-- Assumes nothing.
use mathlib.Core.Path.{◌≡◌, refl}
use mathlib.Core.Bool.{Bool, true, false}
use mathlib.Core.Logic.{inl, inr}
use mathlib.Core.List.{List}
use Prim.Native.Nat.{ℕ, zero, suc, ◌*◌, ◌-◌, ◌^◌, ◌≤◌}
use native.Mathlib.Omega.{arith}
use Rattle.std.specs.Prelude.{◌↔◌, Option, Some, None}
use Rattle.field.proofs.Booleans.{if_else}
use Rattle.layout.specs.declared.Header.{Header}
use Rattle.layout.specs.Header.{scratch_size, width, is_filled}
use Rattle.judging.specs.Decoding.{Decoded, failed, decoded}
use Rattle.taking_back.specs.TakingBack.{none_erased, decode_held, last_of, Before, fails, found, then_find, found_at, find_from, find_before}
use Rattle.taking_back.specs.TakingBack.{last_block, record_taken}
use Rattle.taking_back.specs.TakingBack.{with_words, with_blocks, goes_back, number_back}
use Rattle.taking_back.specs.TakeBackCall.{take_back_early, take_back_comes}
use Rattle.splitting.specs.Splitting.{lowest_of}
use Rattle.vault.specs.Event.{take_back}
use Rattle.vault.specs.History.{Vault, number_on}
use Rattle.vault.specs.promises.Table.{NoRow, EachNumber}
use Rattle.vault.specs.promises.Numbers.{BackRows, BackNumbers}
use Rattle.vault.proofs.ImageNumbers.{FailsSo, OfStripe, rows_fail, early_given, below_seven, above_ten}
use Rattle.vault.proofs.Numbers.{block_says, lengths_say}
use Rattle.vault.proofs.Table.{ended, beside, each_number, then_iff, fails_unless, header_fails, record_number_fails}

-- WHAT THE STRIPES COME TO: 0 or 7 to 10
abbrev BeforeSo : Before → Type 0
BeforeSo (fails n) = (7 ≤ n) × (n ≤ 10)
BeforeSo (found ws) = Unit {0}

then_so : (x : Decoded) (next : List ℕ → Before) → FailsSo x → ((bs : List ℕ) → BeforeSo (next bs)) → BeforeSo (then_find x next)
then_so (failed n) next f rest = f
then_so (decoded bs) next f rest = rest bs

found_so : (w : ℕ) (bs : List ℕ) (j : Option ℕ) (otherwise : Before) → BeforeSo otherwise → BeforeSo (found_at w bs j otherwise)
found_so w bs (Some j) o r = tt
found_so w bs None o r = r

module _ (h : Header) (d : ℕ → Decoded) (so : (l : ℕ) → FailsSo (d l)) where
  find_so : (n i l : ℕ) → BeforeSo (find_from n h d i l)
  unfolding find_from
  find_so zero i l = then_so (d h.k) _ (so h.k) (λ bs. tt)
  find_so (suc n) i l =
      let rest = find_from n h d i (suc l) in
      let here = λ (bs : List ℕ). found_at (width h) bs (last_of (width h) bs i (2 ^ l)) rest in
      go (is_filled h l) (then_find (d l) here) rest
      (then_so (d l) here (so l) (λ bs. found_so (width h) bs (last_of (width h) bs i (2 ^ l)) rest (find_so n i (suc l))))
      (find_so n i (suc l))
    where
      go : (z : Bool) (x y : Before) → BeforeSo x → BeforeSo y → BeforeSo (if_else z x y)
      go true x y p q = p
      go false x y p q = q

  words_so : (bs : List ℕ) (x : Before) → BeforeSo x → OfStripe (number_back (with_words bs x))
  words_so bs (fails n) f = inr f
  words_so bs (found ws) f = inl refl

  blocks_so : (x : Decoded) → FailsSo x → OfStripe (number_back (with_blocks h d x))
  blocks_so (failed n) f = inr f
  blocks_so (decoded bs) f =
      let i = record_taken h bs in
      let l = suc (lowest_of h) in
      words_so bs (find_before h d bs) (found_so (width h) bs (last_of (width h) bs i (last_block h)) _ (find_so (h.k - l) i l))

  back_so : OfStripe (number_back (goes_back h d))
  back_so = blocks_so (d (lowest_of h)) (so (lowest_of h))

-- THE TESTS that come before it
module _ (v : Vault) (scratch : List ℕ) where
  abbrev early : ℕ
  early = take_back_early v.header v.held scratch

  early_number : EachNumber early (BackRows v scratch)
  early_number =
      let h = v.header in
      each_number (BackRows v scratch)
      (beside (omega arith) (λ _. header_fails h)
      (beside (omega arith) (λ _. fails_unless (lengths_say v (block_says scratch (2 * scratch_size h))))
      (beside (omega arith) (λ _. let r = record_number_fails h.c 0 in (λ e. omega (arith, r.0 e), λ z. r.1 (omega (arith, z)))) ended)))

  -- a number that no stripe has is the call's if and only if it is theirs
  same_given : (n : ℕ) → (OfStripe n → ⊥) → (number_on v (take_back scratch) ≡ n) ↔ (early ≡ n)
  same_given n out =
      let d = decode_held v.header v.held.full v.held.log in
      early_given early (number_back (take_back_comes v.header v.held)) n (back_so v.header d (λ l. rows_fail _ none_erased _)) out

pub back_numbers : BackNumbers
back_numbers v scratch =
    let rows = (early_number v scratch).0 in
    let one = same_given v scratch 1 (below_seven (omega arith) (omega arith)) in
    let two = same_given v scratch 2 (below_seven (omega arith) (omega arith)) in
    let twelve = same_given v scratch 12 (above_ten (omega arith)) in
    (then_iff one rows.0, (then_iff two rows.1.0, (then_iff twelve rows.1.1.0, tt)))

-- it goes on to the stripes if and only if no row applies
pub back_early_iff : (v : Vault) (scratch : List ℕ) → (take_back_early v.header v.held scratch ≡ 0) ↔ NoRow (BackRows v scratch)
back_early_iff v scratch = (early_number v scratch).1
