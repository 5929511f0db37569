-- The stripes that a good round's buffers hold decode to what they code: a filled level to the writes that it holds, the full stripe to the records of the
-- round's start. Assumes nothing.
use mathlib.Core.Path.{◌≡◌, refl, sym, ap, ap₂, ◌∙◌}
use mathlib.Core.Bool.{true}
use mathlib.Core.List.{List}
use Prim.Native.Nat.{ℕ, ◌^◌, ◌≤◌, ◌<◌}
use native.Mathlib.Nat.{le_refl}
use native.Mathlib.Omega.{arith}
use lib.ListN.{length, get_or}
use Rattle.code.specs.Stripe.{coded_rows, coded_stripe}
use Rattle.layout.specs.declared.Header.{Header}
use Rattle.layout.specs.Header.{vault_root, width, is_filled, stripe_of}
use Rattle.layout.proofs.StripePlaces.{first_full}
use Rattle.judging.specs.Decoding.{decoded, number_fits}
use Rattle.store.specs.Buffers.{Buffers, blocks_of}
use Rattle.taking_back.specs.TakingBack.{stripe_held, decode_held}
use Rattle.taking_back.proofs.HeldStripes.{full_held as words_full, level_held as words_level, held_decodes}
use Rattle.vault.specs.Event.{Entry}
use Rattle.vault.specs.Round.{Round, rows_of, round_header, level_entries, represent}
use Rattle.vault.proofs.Levels.{level_filled, level_place}
use Rattle.vault.proofs.Rounds.{AllTaken, Good, rows_column, header_fits_lem, length_entries}
use Rattle.vault.proofs.Laying.{no_entry}
use Rattle.vault.proofs.RoundDecoding.{are_records_lem, level_taken, level_numbers, full_numbers, start, start_taken, length_start, start_rows}

module _ {a : Round} (good : Good a) where
  abbrev h : Header
  h = round_header a

  abbrev u : Buffers
  u = represent a

  rows_held : (l : ℕ) → l ≤ a.k → (xs : List Entry) → AllTaken a.k a.s xs → length xs ≡ 2 ^ l
      → ((j : ℕ) → j < length xs → number_fits (stripe_of h l) j (get_or xs j no_entry).number ≡ true)
      → stripe_held h u.full u.log l ≡ coded_stripe (stripe_of h l) (rows_of xs) → decode_held h u.full u.log l ≡ decoded (rows_of xs)
  rows_held l within xs E n fit e =
      held_decodes h u.full u.log l (rows_of xs) (header_fits_lem good) within e (rows_column (2 ^ l) good.sizes.k_high E n)
      (are_records_lem h E l fit (2 ^ l) (omega arith))

  pub level_held : (l : ℕ) → l < a.k → is_filled h l ≡ true → decode_held h u.full u.log l ≡ decoded (rows_of (level_entries h a.since l))
  level_held l lt filled =
      rows_held l (omega arith) (level_entries h a.since l) (level_taken good l) (length_entries good l lt filled) (level_numbers good l lt)
      (words_level h u.full u.log l (λ t. omega arith) ∙ level_place h a.since l a.k lt ∙ level_filled h a.since l filled)

  pub full_held : decode_held h u.full u.log a.k ≡ decoded (blocks_of h a.base)
  full_held =
      rows_held a.k (le_refl a.k) (start good) (start_taken good) (length_start good) (full_numbers good)
      (words_full h u.full u.log a.k refl
      ∙ ap₂ (λ (t : ℕ) (x : List ℕ). coded_rows 65537 (vault_root h) a.k a.k t (width h) x) (sym (first_full h a.k refl)) (start_rows good))
      ∙ ap decoded (sym (start_rows good))
