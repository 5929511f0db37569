-- WHAT TAKING BACK LEAVES, of any buffers: the header, the full stripe, the raw copy, the log, and the scratch. The room TakingBack of specs/promises. Assumes
-- nothing.
use mathlib.Core.Path.{◌≡◌, refl, sym, ap, ap₂, ◌∙◌}
use mathlib.Core.Logic.{inl}
use mathlib.Core.List.{List}
use Prim.Native.Nat.{ℕ, suc, ◌+◌, ◌*◌, ◌-◌, ◌^◌, ◌≤◌, ◌<◌}
use native.Mathlib.Nat.{le_refl}
use native.Mathlib.Decide.{dec_lt}
use native.Mathlib.Omega.{arith}
use lib.ListN.{length, get_or, take, drop, replicate, length-drop}
use lib.Seq.{length-sets, length-take-le, get_or-take, get_or-drop}
use lib.Pow.{pow_pos}
use Rattle.layout.specs.Header.{width, level_at, stripe_size}
use Rattle.layout.specs.Records.{replaced}
use Rattle.layout.proofs.RecordWords.{record_end}
use Rattle.layout.proofs.Refusals.{if_taken_lem, if_refused}
use Rattle.judging.specs.Decoding.{decoded, block_data}
use Rattle.store.specs.Buffers.{buffers}
use Rattle.splitting.specs.Splitting.{header_before, log_before}
use Rattle.splitting.proofs.Lowest.{lowest}
use Rattle.taking_back.specs.TakingBack.{goes, number_back, buffers_back}
use Rattle.taking_back.specs.TakeBackCall.{take_back_comes}
use Rattle.vault.specs.Event.{take_back}
use Rattle.vault.specs.History.{Vault, vault, number_on, step}
use Rattle.vault.specs.promises.Table.{FullLength, LogLength, InRange, RawLength, BackLength, NoRow}
use Rattle.vault.specs.promises.Numbers.{BackRows}
use Rattle.vault.specs.promises.TakingBack.{HeldDecodes, CodesHeld, Lowest, taken_record, WriteBefore, in_lowest, in_level, in_full}
use Rattle.vault.specs.promises.TakingBack.{BackPuts, BackLog, BackScratch}
use Rattle.vault.proofs.BackFinds.{lowest_is}
use Rattle.vault.proofs.BackNumbers.{back_early_iff}
use Rattle.vault.proofs.BackOrder.{comes_goes, number_comes, back_goes_iff}
use Rattle.vault.proofs.HeldStripes.{held_blocks_iff}
use Rattle.vault.proofs.Levels.{level_end, level_in}
use Rattle.vault.proofs.LevelsBefore.{coded_then, log_long, log_below, log_zeros, log_above}
use Rattle.vault.proofs.Numbers.{lengths_say, block_says}
use Rattle.vault.proofs.Table.{fits_iff, sure, log_is}
use Rattle.vault.proofs.Writing.{word_put, word_kept}

-- WHERE NO ROW APPLIES to taking back, the header is in range and each length is right
record Lengths (v : Vault) (scratch : List ℕ) : Type 0 where
  range : InRange v.header
  raw : RawLength v.header v.held.raw
  full : FullLength v.header v.held.full
  log : LogLength v.header v.held.log
  back : BackLength v.header scratch
  some : 0 < v.header.c

lengths : (v : Vault) (scratch : List ℕ) → NoRow (BackRows v scratch) → Lengths v scratch
lengths v scratch none =
    let h = v.header in
    let t = sure (lengths_say v (block_says scratch (2 * (2 ^ h.k * suc h.s + 4 * 2 ^ h.k)))) none.0.1 in
    record { range = sure (fits_iff h) none.0.0.1; raw = t.0; full = t.1; log = t.2; back = t.3; some = omega (arith, none.1) }

-- THE SCRATCH
pub back_scratch : BackScratch
back_scratch v scratch =
    let h = v.header in
    let zeros = replicate (2 * (2 ^ h.k * suc h.s + 4 * 2 ^ h.k)) 0 in
    let early = back_early_iff v scratch in (
      λ none. if_taken_lem zeros scratch (early.1 none) ∙ ap (λ (n : ℕ). replicate n 0) (sym (lengths v scratch none).back),
      λ some. if_refused zeros scratch (λ e. some (early.0 e)),
    )

-- WHAT IT LEAVES where it is taken
module _ (v : Vault) (scratch : List ℕ) (low j : ℕ) (bs cs : List ℕ) (none : NoRow (BackRows v scratch)) (L : Lowest v.header low)
    (is : HeldDecodes v low bs) (w : WriteBefore v low bs j cs) where
  abbrev words : List ℕ
  words = block_data (width v.header) cs j

  abbrev taken : ℕ
  taken = taken_record v.header low bs

  comes_is : take_back_comes v.header v.held ≡ goes bs words
  comes_is = comes_goes v low L bs j cs is w

  number_is : number_on v (take_back scratch) ≡ 0
  number_is = number_comes v scratch none ∙ ap number_back comes_is

  pub step_is : step v (take_back scratch) ≡ vault (header_before v.header)
      (buffers (replaced v.header.s v.held.raw taken words) v.held.full (log_before v.header v.held.log low bs))
  step_is =
      let h = v.header in
      let u = v.held in
      ap₂ vault (if_taken_lem (header_before h) h number_is)
      (if_taken_lem (buffers_back h u (take_back_comes h u)) u ((back_early_iff v scratch).1 none) ∙ rw (comes_is, lowest_is h low L) refl)

  lens : Lengths v scratch
  lens = lengths v scratch none

  block_held : (l : ℕ) (xs : List ℕ) → l ≤ v.header.k → HeldDecodes v l xs → CodesHeld v l xs
  block_held l xs b e = ((held_blocks_iff v l xs lens.range lens.full lens.log b).0 e).1

  -- the record is one of n: its block is a record
  taken_in : taken < 2 ^ v.header.k
  taken_in = go (dec_lt taken (2 ^ v.header.k))
    where
      go : Dec (taken < 2 ^ v.header.k) → taken < 2 ^ v.header.k
      go (yes b) = b
      go (no d) =
          let p = (held_blocks_iff v low bs lens.range lens.full lens.log (omega (arith, L.level))).0 is in
          absurd (p.0.1 (bs, 2 ^ low - 1, p.1, omega (arith, pow_pos low), inl (omega arith)))

  -- the block of its write before is one of the blocks of a stripe
  words_in : suc j * width v.header ≤ length cs
  words_in = by w
    where
      ends : (l : ℕ) → l ≤ v.header.k → HeldDecodes v l cs → j < 2 ^ l → suc j * width v.header ≤ length cs
      ends l b e c = omega (arith, (block_held l cs b e).long, record_end (2 ^ l) (width v.header) j c)

      by : WriteBefore v low bs j cs → suc j * width v.header ≤ length cs
      by (in_lowest same b e f) = ends low (omega (arith, L.level)) (rw same is) (omega arith)
      by (in_level l r b e c t f) = ends l (omega arith) e c
      by (in_full r e t) = ends v.header.k (le_refl v.header.k) e (omega (arith, taken_in))

  words_long : length words ≡ v.header.s
  words_long = length-take-le v.header.s (drop (suc (j * width v.header)) cs) (omega (arith, length-drop (suc (j * width v.header)) cs, words_in))

  word_is : (q : ℕ) → q < v.header.s → get_or words q 0 ≡ get_or cs (j * width v.header + suc q) 0
  word_is q b =
      get_or-take v.header.s (drop (suc (j * width v.header)) cs) q 0 b ∙ get_or-drop (suc (j * width v.header)) cs q 0
      ∙ ap (λ (n : ℕ). get_or cs n 0) {x = suc (j * width v.header) + q} {y = j * width v.header + suc q} (omega arith)

pub back_puts : BackPuts
back_puts v scratch low j bs cs none L is w =
    let h = v.header in
    let r = v.held.raw in
    let i = taken v scratch low j bs cs none L is w in
    let ws = words v scratch low j bs cs none L is w in
    let long = words_long v scratch low j bs cs none L is w in
    let e = step_is v scratch low j bs cs none L is w in
    let raw = ap (λ (x : Vault). x.held.raw) e in
    let inside : i * h.s + h.s ≤ length r =
    omega (arith, (lengths v scratch none).raw, record_end (2 ^ h.k) h.s i (taken_in v scratch low j bs cs none L is w)) in (
      ap (λ (x : Vault). x.header) e,
      ap (λ (x : Vault). x.held.full) e,
      ap length raw ∙ length-sets r (i * h.s) ws,
      λ q b. ap (λ (x : List ℕ). get_or x (i * h.s + q) 0) raw ∙ word_put h.s r i ws long inside q b ∙ word_is v scratch low j bs cs none L is w q b,
      λ q o. ap (λ (x : List ℕ). get_or x q 0) raw ∙ word_kept h.s r i ws long q o,
    )

pub blocks_same : {bs cs : List ℕ} → decoded bs ≡ decoded cs → bs ≡ cs
blocks_same e = cc

-- the lowest filled level is within the log
pub log_fits : (v : Vault) (scratch : List ℕ) (low : ℕ) → NoRow (BackRows v scratch) → Lowest v.header low
    → level_at v.header (suc low) ≤ length v.held.log
log_fits v scratch low none L =
    rw level_end (omega (arith, (lengths v scratch none).log, log_is v.header, level_in v.header low v.header.k L.level))

-- THE LOG: what it leaves in it depends on the blocks of the lowest filled level alone
pub back_log : BackLog
back_log v scratch low bs none L is z =
    let h = v.header in
    let g = v.held.log in
    let lens = lengths v scratch none in
    let w = lowest h lens.some lens.range.c_to (sym (lowest_is h low L)) in
    let t = (back_goes_iff v scratch low none L).0 z in
    let same : t.0 ≡ bs = blocks_same (sym t.3 ∙ is) in
    let log : (step v (take_back scratch)).held.log ≡ log_before h g low bs =
    ap (λ (x : Vault). x.held.log) (step_is v scratch low t.1 t.0 t.2 none L t.3 t.4) ∙ ap (log_before h g low) same in
    let fits = log_fits v scratch low none L in (
      ap length log ∙ log_long h low bs g fits,
      λ j d. ap (λ (x : List ℕ). take (stripe_size h j) (drop (level_at h j) x)) log ∙ log_below h low bs g fits j d ∙ coded_then w j d bs,
      λ q a b. ap (λ (x : List ℕ). get_or x q 0) log ∙ log_zeros h low bs g fits q a b,
      λ q a. ap (λ (x : List ℕ). get_or x q 0) log ∙ log_above h low bs g fits q a,
    )
