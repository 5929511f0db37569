-- THE LOOP OVER LEVELS, mixing or unmixing: mixing's, of which so many levels are done, or unmixing's, of which so many are left; the level that a turn
-- crosses, and the factors that it has. Assumes nothing.
use mathlib.Core.Path.{◌≡◌, sym, ap, ◌∙◌}
use mathlib.Core.Bool.{Bool, true, false}
use mathlib.Core.List.{List}
use Prim.Native.Nat.{ℕ, suc, ◌+◌, ◌-◌, ◌*◌, ◌/◌, ◌%◌, ◌^◌, ◌≤◌, ◌<◌}
use native.Mathlib.Omega.{arith}
use lib.Pow.{pow-add}
use lib.ListN.{length, get_or}
use Rattle.field.specs.Power.{power}
use Rattle.field.specs.Field.{fermat, root_of, power_table}
use Rattle.field.specs.Words.{Words}
use Rattle.field.proofs.Unity.{two_div}
use Rattle.code.specs.Rows.{lifted}
use Rattle.code.specs.steps.Mixing.{sum_row, each_block}
use Rattle.code.proofs.Blocks.{Level, each_rows}
use Rattle.code.proofs.Factors.{LevelFactors, mixing_factors, unmixing_factors}
use Rattle.mixing.specs.steps.Words.{crossing_of, root_for, pass_of, step_of}
use Rattle.mixing.proofs.Crossing.{Crosses, mixing_crosses, unmixing_crosses}
use Rattle.mixing_twice.specs.steps.Quads.{QuadFactors, turn_of, twice}
use Rattle.transform.specs.steps.Transforms.{halves_of, transform_of}
use Rattle.transform.proofs.MixLevels.{MixLoop, mix_start, mix_turn, mix_done}
use Rattle.transform.proofs.UnmixLevels.{UnmixLoop, unmix_start, unmix_turn, unmix_done}
use Rattle.transform.proofs.NarrowLevels.{Narrow, narrow}
use Rattle.transform.proofs.QuadLevels.{Quads, quads_here, quad_turn, unquad_turn, mixing_quads, unmixing_quads, mixing_root, unmixing_root}
use Rattle.transform.proofs.QuadLevels.{pairs_in, first_turn, last_turn}

abbrev LoopOf : (unmixing : Bool) → (half₀ : List ℕ) → (level width : ℕ) → (half : List ℕ) → (done left : ℕ) → Type 0
LoopOf false half₀ level width half done left = MixLoop half₀ level width half done
LoopOf true half₀ level width half done left = UnmixLoop half₀ level width half left

pub record LevelsLoop (unmixing : Bool) (half₀ : List ℕ) (level width : ℕ) (half : List ℕ) (done left : ℕ) : Type 0 where
  pub loop : LoopOf unmixing half₀ level width half done left

-- what the loop keeps, either way
pub record Kept (half : List ℕ) (level width : ℕ) : Type 0 where
  pub few : level ≤ 11
  pub long : length half ≡ 2 ^ level * width
  pub words : Words 65537 half

pub kept : (u : Bool) {half₀ half : List ℕ} {level width done left : ℕ} → LevelsLoop u half₀ level width half done left → Kept half level width
kept false h = record { few = h.loop.few; long = h.loop.same ∙ h.loop.long; words = h.loop.words }
kept true h = record { few = h.loop.few; long = h.loop.same ∙ h.loop.long; words = h.loop.words }

pub levels_start : (u : Bool) {half₀ : List ℕ} {level width : ℕ} → level ≤ 11 → length half₀ ≡ 2 ^ level * width → Words 65537 half₀
    → LevelsLoop u half₀ level width half₀ 0 level
levels_start false b e w = record { loop = mix_start b e w }
levels_start true b e w = record { loop = unmix_start b e w }

pub levels_done : (u : Bool) {half₀ half : List ℕ} {level width done left : ℕ} → LevelsLoop u half₀ level width half done left → level ≤ done → left ≤ 0
    → half ≡ lifted width (2 ^ level) (2 ^ level) (transform_of u 65537 (root_of fermat level) level level) half₀
levels_done false h d l = mix_done h.loop d
levels_done true h d l = unmix_done h.loop l

pub crosses : (u : Bool) (v m : ℕ) → Crosses (crossing_of u 65537) v m (halves_of u 65537 v m)
crosses false v m = mixing_crosses v m
crosses true v m = unmixing_crosses v m

-- the factors of a level
pub level_factors : (u : Bool) {k l m step : ℕ} {t : List ℕ} → l ≤ k → l ≤ 10 → k ≤ 15 → m ≡ 2 ^ l → step ≡ step_of u l → t ≡ power_table
    → LevelFactors (root_for u 65537 (root_of fermat k)) k l m step t
level_factors false {l = l} b few n em es et = mixing_factors et b (few, n) em (es ∙ two_div 10 l few)
level_factors true {l = l} b few n em es et = unmixing_factors et b (few, n) em (es ∙ ap (λ (x : ℕ). 2048 - x) (two_div 10 l few))

-- A TURN THAT CROSSES ONE LEVEL, of rows of few words
pub pass_below : (u : Bool) {turn all : ℕ} → turn < all → pass_of u turn all < all
pass_below false lt = lt
pass_below true lt = omega arith

pub narrow_here : (u : Bool) {half₀ half : List ℕ} {level width turn blocks m step l : ℕ} {t : List ℕ} → LevelsLoop u half₀ level width half turn (level - turn)
    → turn < level → 2 ^ level * width ≤ 3072 → l ≡ pass_of u turn level → blocks ≡ 2 ^ (level - l - 1)
    → (m ≡ 2 ^ l) × (step ≡ step_of u l) × (t ≡ power_table)
    → Narrow (root_for u 65537 (root_of fermat level)) width level l (length half) blocks m step t
narrow_here u {level = level} {turn = turn} {l = l} h lt small el eb e =
    let k = kept u h in
    let below : l < level = rw el (pass_below u lt) in
    narrow below k.few small k.long eb e.0 (level_factors u (omega arith) (omega (arith, k.few)) (omega (arith, k.few)) e.0 e.1 e.2)

pub level_turn : (u : Bool) {half₀ half half' : List ℕ} {level width turn blocks m v l : ℕ} → LevelsLoop u half₀ level width half turn (level - turn)
    → turn < level → l ≡ pass_of u turn level → Level width level l (length half) blocks m → length half' ≡ length half
    → v ≡ power 65537 (root_for u 65537 (root_of fermat level)) (2 ^ level / 2 ^ l) → half' ≡ each_rows width blocks (m + m) (halves_of u 65537 v m) half
    → LevelsLoop u half₀ level width half' (turn + 1) (level - (turn + 1))
level_turn false h lt e here el ev eh = record { loop = mix_turn h.loop lt (rw e at here) el (rw e at ev) eh }
level_turn true {level = level} {turn = turn} h lt e here el ev eh =
    let l : level - 1 - turn ≡ level - turn - 1 = omega arith in
    let n : level - turn - 1 ≡ level - (turn + 1) = omega arith in
    record { loop = rw n at (unmix_turn h.loop (omega arith) (rw (e, l) at here) el (rw (e, l) at ev) eh) }

-- PASSES OF TWO LEVELS: pass 0 is the first level alone where their number is odd
abbrev pub PassesLoop : (unmixing : Bool) → (half₀ : List ℕ) → (level width : ℕ) → (half : List ℕ) → (turn : ℕ) → Type 0
PassesLoop u half₀ level width half turn =
    LevelsLoop u half₀ level width half (2 * turn - level % 2) (2 * (level / 2 + level % 2 - turn) - level % 2)

pub passes_start : (u : Bool) {half₀ : List ℕ} {level width : ℕ} → level ≤ 11 → length half₀ ≡ 2 ^ level * width → Words 65537 half₀
    → PassesLoop u half₀ level width half₀ 0
passes_start u {level = level} b e w =
    let d : 2 * 0 - level % 2 ≡ 0 = omega arith in
    let l : 2 * (level / 2 + level % 2 - 0) - level % 2 ≡ level = omega arith in
    rw (d, l) (levels_start u b e w)

pub passes_done : (u : Bool) {half₀ half : List ℕ} {level width turn : ℕ} → PassesLoop u half₀ level width half turn → level / 2 + level % 2 ≤ turn
    → half ≡ lifted width (2 ^ level) (2 ^ level) (transform_of u 65537 (root_of fermat level) level level) half₀
passes_done u h e = levels_done u h (omega arith) (omega arith)

-- THE FACTORS OF A PASS over levels l and l + 1, of m = 2 ^ l rows: the half of those of level l + 1
pub pass_powers : (u : Bool) (l : ℕ) {r step m e : ℕ} {t t' : List ℕ} → (r ≡ 2 ^ (l + 1)) × (step ≡ step_of u (l + 1)) × (t ≡ power_table)
    → (m ≡ r / 2) × (e ≡ step) × (t' ≡ t) → (m ≡ 2 ^ l) × (e ≡ step_of u (l + 1)) × (t' ≡ power_table)
pass_powers u l whole half =
    (half.0 ∙ ap (λ (n : ℕ). n / 2) whole.0 ∙ omega (arith, pow-add 2 l 1), half.1 ∙ whole.1, half.2 ∙ whole.2)

-- the entry that a pass goes by
half_step : (l : ℕ) {m : ℕ} → l ≤ 9 → m ≡ 2 ^ l → 1024 / 2 ^ (l + 1) ≡ 512 / m
half_step l b e =
    two_div 10 (l + 1) (omega arith) ∙ ap (λ (n : ℕ). 2 ^ n) {x = 10 - (l + 1)} {y = 9 - l} (omega arith)
    ∙ sym (ap (λ (n : ℕ). 512 / n) e ∙ two_div 9 l b)

pub pass_factors : (u : Bool) (l : ℕ) {m step : ℕ} {t : List ℕ} → l ≤ 9 → (m ≡ 2 ^ l) × (step ≡ step_of u (l + 1)) × (t ≡ power_table)
    → QuadFactors 65537 (turn_of u) m step t
pass_factors false l b e = rw (e.1 ∙ half_step l b e.0) (mixing_quads e.2 e.0 b)
pass_factors true l b e = rw (e.1 ∙ ap (λ (n : ℕ). 2048 - n) (half_step l b e.0)) (unmixing_quads e.2 e.0 b)

pub pass_root : (u : Bool) (level l : ℕ) {m step : ℕ} {t : List ℕ} → level ≤ 11 → l + 1 < level
    → (m ≡ 2 ^ l) × (step ≡ step_of u (l + 1)) × (t ≡ power_table)
    → get_or t step 0 ≡ power 65537 (root_for u 65537 (root_of fermat level)) (2 ^ level / 2 ^ suc l)
pass_root false level l few b e = rw (e.1 ∙ half_step l (omega arith) e.0) (mixing_root level l e.2 e.0 few (omega arith))
pass_root true level l few b e =
    rw (e.1 ∙ ap (λ (n : ℕ). 2048 - n) (half_step l (omega arith) e.0)) (unmixing_root level l e.2 e.0 few (omega arith))

-- A PASS that crosses levels l and l + 1
pub pass_here : (u : Bool) {half₀ half : List ℕ} {level width turn pass blocks l m : ℕ} → PassesLoop u half₀ level width half turn
    → turn < level / 2 + level % 2 → pass ≡ pass_of u turn (level / 2 + level % 2) → (level % 2 ≤ pass) × (l ≡ 2 * pass - level % 2)
    → blocks ≡ 2 ^ (level - l - 2) → m ≡ 2 ^ l → (l + 1 < level) × Quads width level l (length half) blocks m
pass_here u {level = level} {pass = pass} h lt ep el eb em =
    let k = kept u h in
    let top : pass < level / 2 + level % 2 = rw ep (pass_below u lt) in
    (omega (arith, el.0, el.1), quads_here (omega (arith, el.0, el.1)) k.few k.long eb em)

pub pass_turn : (u : Bool) {half₀ half half' : List ℕ} {level width turn pass blocks m x l : ℕ} → PassesLoop u half₀ level width half turn
    → turn < level / 2 + level % 2 → pass ≡ pass_of u turn (level / 2 + level % 2) → (level % 2 ≤ pass) × (l ≡ 2 * pass - level % 2)
    → (l + 1 < level) × Quads width level l (length half) blocks m → length half' ≡ length half
    → x ≡ power 65537 (root_for u 65537 (root_of fermat level)) (2 ^ level / 2 ^ suc l)
    → half' ≡ each_rows width blocks (m + m + (m + m)) (twice u 65537 x m) half
    → PassesLoop u half₀ level width half' (turn + 1)
pass_turn false {level = level} {turn = turn} {l = l} h lt ep el q long ex eh =
    let before : 2 * turn - level % 2 ≡ l = omega (arith, ep, el.0, el.1) in
    let after : 2 * (turn + 1) - level % 2 ≡ l + 2 = omega (arith, ep, el.0, el.1) in
    record { loop = rw after (quad_turn (rw before at h.loop) (omega (arith, q.0)) q.1 long ex eh) }
pass_turn true {level = level} {turn = turn} {l = l} h lt ep el q long ex eh =
    let before : 2 * (level / 2 + level % 2 - turn) - level % 2 ≡ l + 2 = omega (arith, ep, el.0, el.1) in
    let after : 2 * (level / 2 + level % 2 - (turn + 1)) - level % 2 ≡ l = omega (arith, ep, el.0, el.1) in
    record { loop = rw after (unquad_turn (rw before at h.loop) q.1 long ex eh) }

-- and pass 0 where the number of levels is odd: single rows alone
pub single_here : {half : List ℕ} {level width pass blocks : ℕ} → Kept half level width → pass < level % 2 → blocks ≡ 2 ^ (level - 1)
    → length half ≡ blocks * (width + width)
single_here {half} {width = width} k b eb = pairs_in width half (omega arith) k.few k.long eb

pub single_turn : (u : Bool) {half₀ half half' : List ℕ} {level width turn pass blocks : ℕ} → PassesLoop u half₀ level width half turn
    → turn < level / 2 + level % 2 → pass ≡ pass_of u turn (level / 2 + level % 2) → pass < level % 2 → blocks ≡ 2 ^ (level - 1)
    → length half' ≡ length half → half' ≡ each_block blocks (width + width) (sum_row 65537 width 0 width) half
    → PassesLoop u half₀ level width half' (turn + 1)
single_turn false {half = half} {level = level} {width = width} {turn = turn} h lt ep b eb long eh =
    let k = kept false h in
    let before : 2 * turn - level % 2 ≡ 0 = omega (arith, ep) in
    let after : 2 * (turn + 1) - level % 2 ≡ 1 = omega (arith, ep) in
    record { loop = rw after (first_turn width half (omega arith) k.few k.long eb long eh (rw before at h.loop)) }
single_turn true {half = half} {level = level} {width = width} {turn = turn} h lt ep b eb long eh =
    let k = kept true h in
    let before : 2 * (level / 2 + level % 2 - turn) - level % 2 ≡ 1 = omega (arith, ep) in
    let after : 2 * (level / 2 + level % 2 - (turn + 1)) - level % 2 ≡ 0 = omega (arith, ep) in
    record { loop = rw after (last_turn width half (omega arith) k.few k.long eb long eh (rw before at h.loop)) }
