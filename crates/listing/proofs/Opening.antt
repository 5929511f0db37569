-- Laws of the rack of zero records that a listing begins with: its sizes, and that opening it is taken. Assumes nothing.
use mathlib.Core.Path.{◌≡◌, refl, ap, ap₂, ◌∙◌}
use mathlib.Core.Bool.{true}
use mathlib.Core.List.{List}
use Prim.Native.Nat.{ℕ, suc, ◌^◌, ◌≤◌}
use native.Mathlib.Nat.{mul-le-mul}
use native.Mathlib.Omega.{arith}
use lib.ListN.{length, take, replicate, length-replicate}
use lib.Pow.{pow_pos, pow_mono}
use borrow.Author.Tests.{lt-ltb, le-leb}
use Rattle.std.specs.Prelude.{Result, Ok, Err, IfOk}
use Rattle.std.proofs.lemmas.List.{take-replicate}
use Rattle.field.proofs.Booleans.{both_true}
use Rattle.layout.specs.declared.Header.{Header}
use Rattle.layout.specs.declared.refusal.Refusal.{Refusal}
use Rattle.layout.specs.Header.{header_of, header_fits, record_count, raw_size, full_size, log_size}
use Rattle.layout.specs.Refusals.{done}
use Rattle.layout.specs.Records.{are_data}
use Rattle.layout.proofs.RecordWords.{zeros_data, fit_all}
use Rattle.layout.proofs.Refusals.{equal_three, test_holds, none_fails, not_zero, if_taken_lem}
use Rattle.store.specs.Buffers.{Buffers, buffers, opened}
use Rattle.store.specs.StoreCalls.{Opened, opened_as, open_number, open_answer, open_leaves}
use Rattle.listing.specs.Listing.{rack, zero_rack}
use Rattle.listing.proofs.Writes.{same_buffers}

-- THE RANGES of k and s
abbrev pub InRange : (k s : ℕ) → Type 0
InRange k s = (1 ≤ k) × (k ≤ 5) × (1 ≤ s) × (s ≤ 16)

pub range_fits : (k s : ℕ) → InRange k s → header_fits (header_of k s 0) ≡ true
range_fits k s r =
    both_true (both_true (le-leb 1 k r.0) (le-leb k 10 (omega (arith, r.1))))
    (both_true (both_true (le-leb 1 s r.2) (le-leb s 128 (omega (arith, r.3)))) (lt-ltb 0 (2 ^ k) (pow_pos k)))

-- OPENING ZEROS
module _ (k s : ℕ) (r : InRange k s) (raw full log : List ℕ) (zeros : raw ≡ replicate (raw_size (header_of k s 0)) 0)
    (full_long : length full ≡ full_size (header_of k s 0)) (log_long : length log ≡ log_size (header_of k s 0)) where
  abbrev h : Header
  h = header_of k s 0

  raw_long : length raw ≡ raw_size h
  raw_long = ap length zeros ∙ length-replicate (raw_size h) 0

  taken : open_number k s raw full log ≡ 0
  taken =
      let fit = fit_all s raw (record_count h) (ap are_data zeros ∙ zeros_data (raw_size h)) in
      test_holds 1 _ (range_fits k s r) ∙ test_holds 2 _ (equal_three _ _ _ _ _ _ raw_long full_long log_long) ∙ test_holds 5 done fit ∙ none_fails

  pub opens : (x : Refusal) → opened_as (Err x) ≡ open_answer k s raw full log → ⊥
  opens x e = not_zero x (ap (λ (a : Opened). a.number) e ∙ taken)

  pub header_is : {header : Header} → opened_as (Ok header) ≡ open_answer k s raw full log → header ≡ h
  header_is e = ap (λ (a : Opened). a.header) e ∙ if_taken_lem h (header_of 0 0 0) taken

  pub rack_is : {header : Header} {f g : List ℕ} → opened_as (Ok header) ≡ open_answer k s raw full log → f ≡ (open_leaves k s raw full log).full
      → g ≡ (open_leaves k s raw full log).log → rack header (buffers raw f g) ≡ zero_rack k s
  rack_is {header} {f} {g} e ef eg =
      let left : open_leaves k s raw full log ≡ opened h raw = if_taken_lem (opened h raw) (buffers raw full log) taken in
      ap₂ rack (header_is e)
      (same_buffers (opened h raw) refl (ef ∙ ap (λ (u : Buffers). u.full) left) (eg ∙ ap (λ (u : Buffers). u.log) left) ∙ ap (opened h) zeros)

pub same_on : {k s : ℕ} {before : Header} (r : Result Header Refusal) → before ≡ header_of k s 0 → IfOk r (λ a. (a.k ≡ before.k) × (a.s ≡ before.s))
    → IfOk r (λ a. (a.k ≡ k) × (a.s ≡ s))
same_on (Ok a) e p = (p.0 ∙ ap (λ (x : Header). x.k) e, p.1 ∙ ap (λ (x : Header). x.s) e)
same_on (Err x) e p = tt

-- THE SIZES: memory of a fixed size has room for them
module _ (k s : ℕ) (r : InRange k s) where
  pub raw_room : raw_size (header_of k s 0) ≤ 512
  raw_room = mul-le-mul {n₂ = 32} {m₂ = 16} (pow_mono {i = k} {j = 5} r.1) r.3

  pub full_room : full_size (header_of k s 0) ≤ 1088
  full_room = let b : suc k ≤ 6 = omega (arith, r.1) in mul-le-mul {n₂ = 64} {m₂ = 17} (pow_mono {i = suc k} {j = 6} b) (omega (arith, r.3))

  pub log_room : log_size (header_of k s 0) ≤ 1054
  log_room =
      let b : suc k ≤ 6 = omega (arith, r.1) in
      let p : 2 ^ suc k ≤ 64 = pow_mono {i = suc k} {j = 6} b in
      mul-le-mul {n₂ = 62} {m₂ = 17} (omega (arith, p)) (omega (arith, r.3))

-- a part of zeros
pub lent_long : (n m x : ℕ) {a : ℕ} → a ≡ n → n ≤ m → length (take a (replicate m x)) ≡ n
lent_long n m x e b = rw e (ap length (take-replicate n m x b) ∙ length-replicate n x)
