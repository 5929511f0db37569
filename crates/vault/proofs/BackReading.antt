-- TAKING BACK ON OTHER BUFFERS with the same header, whose stripes are the same where they are reached: it comes to the same. The room TakingBack of
-- specs/promises. Assumes nothing.
use mathlib.Core.Path.{◌≡◌, sym, ap, ◌∙◌, subst}
use mathlib.Core.List.{List, ◌++◌}
use Prim.Native.Nat.{ℕ, suc, ◌+◌, ◌*◌, ◌<◌}
use lib.ListN.{get_or, take, replicate}
use Rattle.layout.specs.declared.Header.{Header}
use Rattle.layout.specs.Header.{level_at, stripe_size, stripe_of}
use Rattle.layout.specs.Refusals.{if_taken}
use Rattle.judging.specs.Decoding.{decode_rows}
use Rattle.store.specs.Buffers.{Buffers}
use Rattle.splitting.specs.Splitting.{header_before, levels_before}
use Rattle.taking_back.specs.TakingBack.{none_erased, number_back}
use Rattle.vault.specs.Event.{take_back}
use Rattle.vault.specs.History.{Vault, vault, number_on, step}
use Rattle.vault.specs.promises.Table.{NoRow}
use Rattle.vault.specs.promises.Numbers.{BackRows}
use Rattle.vault.specs.promises.TakingBack.{HeldDecodes, Lowest, Reached, WriteBefore, taken_record, words_held, BackReads}
use Rattle.vault.proofs.BackOrder.{Agree, comes_same, found_there, number_comes, back_goes_iff}
use Rattle.vault.proofs.BackLeaves.{blocks_same, log_fits, step_is, back_puts}
use Rattle.vault.proofs.LevelsBefore.{log_front}

module _ (v : Vault) (u : Buffers) (scratch : List ℕ) (low : ℕ) (none : NoRow (BackRows v scratch)) (none' : NoRow (BackRows (vault v.header u) scratch))
    (L : Lowest v.header low) (lowest : Agree v u low low) (same : (bs : List ℕ) (l : ℕ) → HeldDecodes v low bs → Reached v low bs l → Agree v u low l) where
  abbrev v' : Vault
  v' = vault v.header u

  number_same : number_on v (take_back scratch) ≡ number_on v' (take_back scratch)
  number_same = number_comes v scratch none ∙ ap number_back (comes_same v u low L lowest same) ∙ sym (number_comes v' scratch none')

  header_same : (step v (take_back scratch)).header ≡ (step v' (take_back scratch)).header
  header_same = ap (λ (n : ℕ). if_taken n (header_before v.header) v.header) number_same

  -- where it is taken: the block found is one in both
  module _ (bs : List ℕ) (is : HeldDecodes v low bs) (z : number_on v (take_back scratch) ≡ 0) where
    abbrev Found : List ℕ → Type 0
    Found xs = (j : ℕ) × (cs : List ℕ) × WriteBefore v low xs j cs

    found : Found bs
    found =
        let t = (back_goes_iff v scratch low none L).0 z in
        subst Found (blocks_same (sym t.3 ∙ is)) (t.1, t.2, t.4)

    is' : HeldDecodes v' low bs
    is' = sym lowest ∙ is

    found' : WriteBefore v' low bs found.0 found.1
    found' = found_there v u low bs (λ l r. same bs l is r) found.0 found.1 found.2

    record_same : (q : ℕ) → q < v.header.s
        → get_or (step v (take_back scratch)).held.raw (taken_record v.header low bs * v.header.s + q) 0
        ≡ get_or (step v' (take_back scratch)).held.raw (taken_record v.header low bs * v.header.s + q) 0
    record_same q b =
        (back_puts v scratch low found.0 bs found.1 none L is found.2).3 q b
        ∙ sym ((back_puts v' scratch low found.0 bs found.1 none' L is' found').3 q b)

    log_same : take (level_at v.header (suc low)) (step v (take_back scratch)).held.log
        ≡ take (level_at v.header (suc low)) (step v' (take_back scratch)).held.log
    log_same = front v none L is found.2 ∙ sym (front v' none' L is' found')
      where
        front : (x : Vault) (n : NoRow (BackRows x scratch)) (M : Lowest x.header low) → HeldDecodes x low bs → WriteBefore x low bs found.0 found.1
            → take (level_at x.header (suc low)) (step x (take_back scratch)).held.log
            ≡ levels_before x.header low bs low ++ replicate (stripe_size x.header low) 0
        front x n M e w =
            ap (λ (y : Vault). take (level_at x.header (suc low)) y.held.log) (step_is x scratch low found.0 bs found.1 n M e w)
            ∙ log_front x.header low bs x.held.log (log_fits x scratch low n M)

pub back_reads : BackReads
back_reads v v' scratch low none none' same L =
    subst (λ (h : Header). Reads (vault h v'.held)) same read none'
  where
    Reads : Vault → Type 0
    Reads x =
        NoRow (BackRows x scratch) → words_held v low ≡ words_held x low
        → ((bs : List ℕ) (l : ℕ) → HeldDecodes v low bs → Reached v low bs l → words_held v l ≡ words_held x l)
        → (number_on v (take_back scratch) ≡ number_on x (take_back scratch)) ×
        ((step v (take_back scratch)).header ≡ (step x (take_back scratch)).header) ×
        ((bs : List ℕ) → HeldDecodes v low bs → number_on v (take_back scratch) ≡ 0 →
        ((q : ℕ) → q < v.header.s
        → get_or (step v (take_back scratch)).held.raw (taken_record v.header low bs * v.header.s + q) 0
        ≡ get_or (step x (take_back scratch)).held.raw (taken_record v.header low bs * v.header.s + q) 0) ×
        (take (level_at v.header (suc low)) (step v (take_back scratch)).held.log
        ≡ take (level_at v.header (suc low)) (step x (take_back scratch)).held.log))

    read : Reads (vault v.header v'.held)
    read n e f =
        let a : Agree v v'.held low low = ap (decode_rows (stripe_of v.header low) none_erased) e in
        let b = λ (bs : List ℕ) (l : ℕ) (d : HeldDecodes v low bs) (r : Reached v low bs l).
        ap (decode_rows (stripe_of v.header l) none_erased) (f bs l d r) in (
          number_same v v'.held scratch low none n L a b,
          header_same v v'.held scratch low none n L a b,
          λ bs d z. (record_same v v'.held scratch low none n L a b bs d z, log_same v v'.held scratch low none n L a b bs d z),
        )
