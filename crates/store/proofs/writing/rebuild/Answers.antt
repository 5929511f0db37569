-- `store::writing::rebuild` meets its contract, by the steps of proofs/RebuiltLog. Assumes nothing.
use mathlib.Core.Path.{◌≡◌, refl, sym, ap, ◌∙◌}
use mathlib.Core.Bool.{true}
use mathlib.Core.List.{List, ◌∷◌, ◌++◌}
use Prim.Native.Nat.{ℕ, suc, ◌+◌, ◌*◌, ◌-◌, ◌^◌, ◌≤◌, ◌<◌}
use native.Mathlib.Omega.{arith}
use borrow.Rule.Slice.PartMut.{put_mid}
use lib.Dec.{lit<}
use lib.ListN.{length, get_or, take, drop, replicate}
use lib.Seq.{sets, length-take-le}
use Rattle.field.specs.Field.{fermat, root_of, power_table}
use Rattle.field.specs.Power.{power}
use Rattle.field.specs.Words.{Words}
use Rattle.field.proofs.Primes.{fermat_root}
use Rattle.field.proofs.WordLists.{words_append}
use Rattle.code.specs.Transform.{reversed, scaled}
use Rattle.code.proofs.Factors.{turning_factor, turning_entry}
use Rattle.code.proofs.Shapes.{length_scaled, words_scaled, reversed_lt}
use Rattle.layout.specs.declared.Header.{Header}
use Rattle.layout.specs.Header.{header_fits, log_size, width, vault_root}
use Rattle.layout.proofs.Bounds.{Fits, fits}
use Rattle.store.specs.Writing.{log_with}
use Rattle.store.specs.steps.Writing.{half_start, gathered, folded_both}
use Rattle.store.proofs.Gathering.{level_within, rows_double}
use Rattle.store.proofs.RebuiltLog.{places, place_in, LevelIn, length_log, lent_level, put_level, cleared, gathered_level}
use Rattle.store.proofs.RebuiltLog.{words_gathered, scaled_one, rebuilt_level, finished}
use Rattle.store.proofs.writing.rebuild.Goals as goal

-- the row of the new block times g
abbrev row : (i g : ℕ) → (b : List ℕ) → List ℕ
row i g b = scaled 65537 g (i ∷ b)

-- both halves of the level, gathered
abbrev halves : Header → (log : List ℕ) → (level i x y : ℕ) → (b : List ℕ) → List ℕ
halves h g l i x y b = gathered 65537 (width h) g 0 (row i x b) l ++ gathered 65537 (width h) g 1 (row i y b) l

module _ (h : Header) (log : List ℕ) (level i : ℕ) (b : List ℕ) (valid : header_fits h ≡ true) (below : level < h.k)
    (n : (length log ≡ log_size h) × (length b ≡ h.s)) where
  fit : Fits h
  fit = fits h valid

  room : half_start (suc (length b)) (suc level) 0 ≤ length log
  room = rw n.1 (level_within (width h) below n.0)

  length_row : (g : ℕ) → length (row i g b) ≡ width h
  length_row g = length_scaled 65537 g (i ∷ b) ∙ ap suc n.1

  -- Y's factor
  turn_is : {e turn : ℕ} → e ≡ reversed 10 h.c → turn ≡ get_or power_table e 0 → turn ≡ power 65537 (vault_root h) (reversed h.k h.c)
  turn_is ee et = et ∙ turning_entry fit.k_high fit.c_low ee

  turn_low : {e t turn : ℕ} → e ≡ reversed 10 t → turn ≡ get_or power_table e 0 → t ≤ h.c → turn < 65536
  turn_low {t = t} ee et l =
      rw (et ∙ turning_entry fit.k_high (omega (arith, fit.c_low)) ee)
      (turning_factor 65537 h.k (vault_root h) t (fermat_root h.k (omega (arith, fit))))

  module _ (one turn : ℕ) {log₁ log₂ : List ℕ} {w from to : ℕ} (ew : w ≡ width h)
      (first : log₁ ≡ sets log (half_start (suc (length b)) level 0) (gathered 65537 (suc (length b)) log 0 (row i one b) level))
      (second : log₂ ≡ sets log₁ (half_start (suc (length b)) level 1) (gathered 65537 (suc (length b)) log₁ 1 (row i turn b) level))
      (ef : from ≡ half_start w level 0) (et : to ≡ half_start w (level + 1) 0) where
    -- the log once both halves are gathered
    gathered_at : LevelIn (width h) level from to log log₂ (halves h log level i one turn b)
    gathered_at =
        let at = places (width h) level ew ef et in
        gathered_level log log₁ log₂ (row i one b) (row i turn b) at (place_in at (rw n.1 at room)) (length_row one) (length_row turn) (rw n.1 at first)
        (rw n.1 at second)

    lent_long : length (take (to - from) (drop from log₂)) ≡ 2 ^ suc level * w
    lent_long = ap length (lent_level gathered_at) ∙ gathered_at.long ∙ sym (rows_double (width h) level) ∙ ap (λ (n : ℕ). 2 ^ suc level * n) (sym ew)

    lent_words : Words 65537 (take (to - from) (drop from log₂))
    lent_words =
        rw (lent_level gathered_at) (words_append 65537 (lit< tt) (words_gathered 65537 _ (lit< tt) _ _ _ (words_scaled 65537 (lit< tt) _ _))
        (words_gathered 65537 _ (lit< tt) _ _ _ (words_scaled 65537 (lit< tt) _ _)))

    -- and once they are folded
    module _ {r : List ℕ} (er : r ≡ folded_both 65537 (root_of fermat) w level (take (to - from) (drop from log₂)))
        (same : length r ≡ length (take (to - from) (drop from log₂))) where
      level_in : LevelIn (width h) level from to log (put_mid from (to - from) log₂ r) r
      level_in = put_level gathered_at (same ∙ ap length (lent_level gathered_at) ∙ gathered_at.long)

      folded_level : r ≡ folded_both 65537 (root_of fermat) (width h) level (halves h log level i one turn b)
      folded_level = (rw ew at er) ∙ ap (folded_both 65537 (root_of fermat) (width h) level) (lent_level gathered_at)

      level_rebuilt : Words 65537 (i ∷ b) → one ≡ 1 → turn ≡ power 65537 (vault_root h) (reversed h.k h.c) → {z : List ℕ}
          → z ≡ replicate (length (take from (put_mid from (to - from) log₂ r))) 0
          → z ++ drop from (put_mid from (to - from) log₂ r) ≡ log_with h log (i ∷ b) level
      level_rebuilt w e₁ e ez =
          let at = places (width h) level ew ef et in
          let f : half_start (width h) level 0 ≤ length log = omega (arith, at.start_is, at.end_is, gathered_at.fits) in
          cleared level_in ez
          ∙ finished h log (i ∷ b) level at
          (rebuilt_level h log (i ∷ b) level f (omega (arith, below)) fit.k_high (length_row one)
          (ap (λ (g : ℕ). scaled 65537 g (i ∷ b)) e₁ ∙ scaled_one 65537 (lit< tt) (i ∷ b) w)
          (ap (λ (g : ℕ). scaled 65537 g (i ∷ b)) e) folded_level)

pub entry-requires : goal.entry-requires
entry-requires c = rw c.reversed-e.ensures (omega (arith, reversed_lt))

pub gather-requires-clause-level_in_bounds : goal.gather-requires-clause-level_in_bounds
gather-requires-clause-level_in_bounds c =
    let a = c.args in
    room a.header.header a.log.now a.level a.block.number a.block.words.now a.header.fits c.requires.level_bound c.requires.lengths

pub gather-requires-2-clause-level_in_bounds : goal.gather-requires-2-clause-level_in_bounds
gather-requires-2-clause-level_in_bounds c =
    let a = c.args in
    let l = room a.header.header a.log.now a.level a.block.number a.block.words.now a.header.fits c.requires.level_bound c.requires.lengths in
    omega (arith, c.gather.auto.log)

pub invariant_of-turn : goal.invariant_of-turn
invariant_of-turn c =
    let a = c.args in
    record {
      short = turn_low a.header.header a.log.now a.level a.block.number a.block.words.now a.header.fits c.requires.level_bound c.requires.lengths
          c.reversed-e.ensures c.entry.ensures (omega arith);
    }

pub slice_bounds-fold_level-end : goal.slice_bounds-fold_level-end
slice_bounds-fold_level-end c =
    let a = c.args in
    let h =
    gathered_at a.header.header a.log.now a.level a.block.number a.block.words.now a.header.fits c.requires.level_bound c.requires.lengths _ _
    c.width-width.ensures c.gather.ensures c.gather-2.ensures c.half_at-start.ensures c.half_at-end.ensures
    in
    omega (arith, h.at.end_is, h.fits, length_log h)

pub fold_level-requires-clause-part_len : goal.fold_level-requires-clause-part_len
fold_level-requires-clause-part_len c =
    let a = c.args in
    lent_long a.header.header a.log.now a.level a.block.number a.block.words.now a.header.fits c.requires.level_bound c.requires.lengths _ _
    c.width-width.ensures c.gather.ensures c.gather-2.ensures c.half_at-start.ensures c.half_at-end.ensures

pub fold_level-requires-clause-words : goal.fold_level-requires-clause-words
fold_level-requires-clause-words c =
    let a = c.args in
    lent_words a.header.header a.log.now a.level a.block.number a.block.words.now a.header.fits c.requires.level_bound c.requires.lengths _ _
    c.width-width.ensures c.gather.ensures c.gather-2.ensures c.half_at-start.ensures c.half_at-end.ensures

pub slice_bounds-fill-end : goal.slice_bounds-fill-end
slice_bounds-fill-end c =
    let a = c.args in
    let h =
    level_in a.header.header a.log.now a.level a.block.number a.block.words.now a.header.fits c.requires.level_bound c.requires.lengths _ _
    c.width-width.ensures c.gather.ensures c.gather-2.ensures c.half_at-start.ensures c.half_at-end.ensures c.fold_level.ensures c.fold_level.auto.part
    in
    omega (arith, h.at.end_is, h.fits, length_log h)

pub slice_bounds-fill-end-2 : goal.slice_bounds-fill-end-2
slice_bounds-fill-end-2 c =
    let a = c.args in
    let h =
    level_in a.header.header a.log.now a.level a.block.number a.block.words.now a.header.fits c.requires.level_bound c.requires.lengths _ _
    c.width-width.ensures c.gather.ensures c.gather-2.ensures c.half_at-start.ensures c.half_at-end.ensures c.fold_level.ensures c.fold_level.auto.part
    in
    sym (length-take-le _ _ (omega (arith, h.at.end_is, h.fits, length_log h)))

pub returns : goal.returns
returns c =
    let a = c.args in
    level_rebuilt a.header.header a.log.now a.level a.block.number a.block.words.now a.header.fits c.requires.level_bound c.requires.lengths _ _
    c.width-width.ensures c.gather.ensures c.gather-2.ensures c.half_at-start.ensures c.half_at-end.ensures c.fold_level.ensures c.fold_level.auto.part
    a.block.in_field refl
    (turn_is a.header.header a.log.now a.level a.block.number a.block.words.now a.header.fits c.requires.level_bound c.requires.lengths
    c.reversed-e.ensures c.entry.ensures) (c.fill.ensures.after (λ y e. e))
