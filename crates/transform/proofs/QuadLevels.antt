-- Two levels at once among all levels: the factors of such a turn in the table of powers, and that it is two turns of the loop over levels. Assumes nothing.
use mathlib.Core.Path.{◌≡◌, refl, sym, ap, ap₂, ◌∙◌}
use mathlib.Core.Logic.{◌≢◌}
use mathlib.Core.List.{List}
use Prim.Native.Nat.{ℕ, zero, suc, ◌+◌, ◌-◌, ◌*◌, ◌/◌, ◌%◌, ◌^◌, ◌≤◌, ◌<◌}
use native.Mathlib.Nat.{mod-lt, div-add-mod, add-mul-mod_self_left, mul_assoc, mul-le-mul, pow-suc}
use native.Mathlib.Numerals.{add-one}
use native.Mathlib.Decide.{dec_lt}
use native.Mathlib.Omega.{arith}
use lib.Pow.{pow_pos, pow_mono}
use lib.ListN.{length, get_or, take, drop, length-append, length-drop}
use lib.Seq.{length-take-le}
use Rattle.field.specs.Residue.{times}
use Rattle.field.specs.Power.{power, power_from, inverse}
use Rattle.field.specs.Field.{Root, fermat, root_of, power_table}
use Rattle.field.proofs.Powers.{power_lt, power_zero, power_add}
use Rattle.field.proofs.Unity.{root_distinct, root_back, two_div}
use Rattle.field.proofs.Primes.{fermat_prime, fermat_root}
use Rattle.field.proofs.PowerTables.{table_is, length_table_of_powers, powers_entry, table_power, table_root, table_back, level_root, level_inverse}
use Rattle.code.specs.Transform.{mixed_halves, unmixed}
use Rattle.code.proofs.Shapes.{length_two, length_unmixed}
use Rattle.code.proofs.Lifting.{row_in}
use Rattle.code.specs.steps.Mixing.{sum_row, each_block}
use Rattle.code.proofs.Blocks.{OnBlock, Level, each_rows, both, rows_double, rows_then, mixing_block, unmixing_block, pow_down}
use Rattle.mixing_twice.specs.steps.Quads.{EntryFactors, QuadFactors, mixed_twice, unmixed_twice}
use Rattle.mixing_twice.proofs.TwoLevels.{length_mixed_halves}
use Rattle.transform.proofs.MixLevels.{MixLoop, level_here, mix_turn}
use Rattle.transform.proofs.UnmixLevels.{UnmixLoop, unmix_turn}
use Rattle.mixing.proofs.SumRows.{mixing_sums, unmixing_sums, sums_level}

-- an odd number is not twice another
not_twice : (x y : ℕ) → 1 + 2 * x ≡ 0 + 2 * y → ⊥
not_twice x y q =
    let z : ◌≡◌ {A = ℕ} 1 0 = sym (add-mul-mod_self_left 1 2 x) ∙ ap (λ (t : ℕ). t % 2) q ∙ add-mul-mod_self_left 0 2 y in
    omega arith

-- three times a number is no power of two
no_third : (n i : ℕ) → 3 * i ≢ 2 ^ n
no_third zero i e = omega arith
no_third (suc n) i e = at (dec_lt (i % 2) 1) (no_third n (i / 2))
  where
    at : Dec (i % 2 < 1) → 3 * (i / 2) ≢ 2 ^ n → ⊥
    at (yes h) less = less (omega (arith, pow-suc 2 n, e, div-add-mod i 2))
    at (no h) less = not_twice (3 * (i / 2) + 1) (2 ^ n) (omega (arith, pow-suc 2 n, e, div-add-mod i 2, h))

-- of the powers of a root of order 2 * 2 ^ k only that at 2 ^ k is -1
short : (p k w e : ℕ) → Root p k w → e < 2 ^ suc k → e ≢ 2 ^ k → power p w e < p - 1
short p k w e R b ne = omega (arith, R.odd, power_lt p (omega (arith, R.odd)) w e, differs (dec_lt e (2 ^ k)))
  where
    differs : Dec (e < 2 ^ k) → power p w e ≢ p - 1
    differs (yes l) q = root_distinct p k w R e (2 ^ k) l (omega (arith, pow_pos k)) (q ∙ sym R.half)
    differs (no l) q = root_distinct p k w R (2 ^ k) e (omega (arith, ne)) b (R.half ∙ sym q)

-- THE FACTORS of 4 m rows, m = 2 ^ l: entry `step` is a root of order 4 m
module _ {l m step s : ℕ} {powers : List ℕ} (is : powers ≡ power_table) (em : m ≡ 2 ^ l) (few : l ≤ 9) (in_table : step < 2048)
    (R : Root 65537 (suc l) (get_or power_table step 0)) (turn : power 65537 (get_or power_table step 0) (2 ^ l) ≡ s) where
  abbrev v : ℕ
  v = get_or power_table step 0

  entry : (i : ℕ) → get_or power_table (i * step % 2048) 0 ≡ power 65537 v i
  entry i = table_power step i in_table

  entry_of : (n i : ℕ) → get_or power_table (n * (i * step) % 2048) 0 ≡ power 65537 v (n * i)
  entry_of n i = ap (λ (e : ℕ). get_or power_table (e % 2048) 0) (sym (mul_assoc n i step)) ∙ entry (n * i)

  rows_few : 2 ^ l * step ≤ 1048576
  rows_few = mul-le-mul {n₁ = 2 ^ l} {m₁ = step} {n₂ = 512} {m₂ = 2048} (pow_mono {i = l} {j = 9} few) (omega arith)

  row : (i : ℕ) → i < 2 ^ l → EntryFactors 65537 (i * step) power_table
  row i h =
      let one : 1 < 65537 = omega arith in
      let top : 2 ^ suc (suc l) ≡ 2 ^ l * 2 * 2 = pow-suc 2 (suc l) ∙ ap (λ (n : ℕ). n * 2) (pow-suc 2 l) in
      let two : 2 ^ suc l ≡ 2 ^ l * 2 = pow-suc 2 l in
      record {
        room = omega (arith, rows_few, row_in step h);
        within = λ e. rw length_table_of_powers (mod-lt e (omega arith));
        one = powers_entry 65537 (root_of fermat 10) 2048 0 table_is (omega arith) ∙ power_zero 65537 one (root_of fermat 10);
        third = entry_of 3 i ∙ ap (power 65537 v) {x = 3 * i} {y = 2 * i + i} (omega arith) ∙ power_add 65537 one v (2 * i) i
            ∙ ap₂ (times 65537) (sym (entry_of 2 i)) (sym (entry i));
        short = (
          rw (entry_of 2 i) (short 65537 (suc l) v (2 * i) R (omega arith) (omega arith)),
          rw (entry i) (short 65537 (suc l) v i R (omega arith) (omega arith)),
          rw (entry_of 3 i) (short 65537 (suc l) v (3 * i) R (omega arith) (no_third (suc l) i)),
        );
      }

  pub table_quads : QuadFactors 65537 s m step powers
  table_quads = rw (is, em) (record {
    some = pow_pos l;
    row = row;
    first = entry_of 2;
    second = entry;
    room = omega (arith, rows_few);
    turn = turn;
  })

-- the square root of -1 under which rows m to 2 m are mixed, and its inverse
first_root : root_of fermat 1 ≡ 65281
unfolding root_of power power_from times
first_root = refl

first_inverse : inverse 65537 65281 ≡ 256
unfolding inverse power power_from times
first_inverse = refl

half_way : (l : ℕ) → 2 ^ suc l / 2 ^ 1 ≡ 2 ^ l
half_way l = two_div (suc l) 1 (omega arith) ∙ ap (λ (n : ℕ). 2 ^ n) {x = suc l - 1} {y = l} (omega arith)

-- by the numbers that a loop over levels has
module _ {l m : ℕ} {powers : List ℕ} (is : powers ≡ power_table) (em : m ≡ 2 ^ l) (few : l ≤ 9) where
  step_is : 512 / m ≡ 2 ^ (10 - suc l)
  step_is = rw em (two_div 9 l few) ∙ ap (λ (n : ℕ). 2 ^ n) {x = 9 - l} {y = 10 - suc l} (omega arith)

  step_few : 2 ^ (10 - suc l) ≤ 512
  step_few = pow_mono {i = 10 - suc l} {j = 9} (omega arith)

  pub mixing_quads : QuadFactors 65537 65281 m (512 / m) powers
  mixing_quads =
      rw step_is (table_quads is em few (omega (arith, step_few)) (rw (table_root (suc l) (omega arith)) (fermat_root (suc l) (omega arith)))
      (rw (table_root (suc l) (omega arith), ← half_way l) (level_root (suc l) 1 (omega arith) (omega arith) ∙ first_root)))

  pub unmixing_quads : QuadFactors 65537 256 m (2048 - 512 / m) powers
  unmixing_quads =
      rw step_is (table_quads is em few (omega (arith, pow_pos (10 - suc l)))
      (rw (table_back (suc l) (omega arith)) (root_back 65537 (suc l) (root_of fermat (suc l)) fermat_prime (fermat_root (suc l) (omega arith))))
      (rw (table_back (suc l) (omega arith), ← half_way l)
      (level_inverse (suc l) 1 (omega arith) (omega arith) ∙ ap (inverse 65537) first_root ∙ first_inverse)))

-- all blocks together are as long as before
length_each : {p n : ℕ} {f : List ℕ → List ℕ} → OnBlock p n f → (b : ℕ) (l : List ℕ) → b * n ≤ length l → length (each_block b n f l) ≡ length l
unfolding each_block
length_each o zero l h = refl
length_each {p} {n} {f} o (suc b) l h =
    length-append (f (take n l)) (each_block b n f (drop n l))
    ∙ omega (arith, o.long (take n l) (length-take-le n l (omega arith)), length_each o b (drop n l) (rw length-drop (omega arith)), length-drop n l)

-- TWO LEVELS OF ALL BLOCKS are one, and then the other
module _ (width b m x : ℕ) (rows : List ℕ) (h : b * ((m + m + (m + m)) * width) ≤ length rows) where
  abbrev under : List ℕ → List ℕ
  under = mixed_halves 65537 (times 65537 x x) m

  pub mixed_levels : each_rows width b (m + m + (m + m)) (mixed_twice 65537 x m) rows
      ≡ each_rows width b (m + m + (m + m)) (mixed_halves 65537 x (m + m)) (each_rows width (b * 2) (m + m) under rows)
  unfolding mixed_twice
  mixed_levels =
      sym (ap (each_rows width b (m + m + (m + m)) (mixed_halves 65537 x (m + m)))
      (rows_double width b (m + m) under rows h (length_mixed_halves (times 65537 x x) m))
      ∙ rows_then width b (m + m + (m + m)) (both under (m + m)) (mixed_halves 65537 x (m + m)) (mixed_twice 65537 x m) rows h
      (λ c e. long_both c e) (λ c _. refl))
    where
      long_both : (c : List ℕ) → length c ≡ m + m + (m + m) → length (both under (m + m) c) ≡ m + m + (m + m)
      long_both c e =
          length_two (under (take (m + m) c)) (under (drop (m + m) c)) (length_mixed_halves (times 65537 x x) m _ (length-take-le (m + m) c (omega arith)))
          (length_mixed_halves (times 65537 x x) m _ (length-drop (m + m) c ∙ omega arith))

  abbrev over : List ℕ
  over = each_rows width b (m + m + (m + m)) (unmixed 65537 x (m + m)) rows

  pub unmixed_levels : each_rows width b (m + m + (m + m)) (unmixed_twice 65537 x m) rows
      ≡ each_rows width (b * 2) (m + m) (unmixed 65537 (times 65537 x x) m) over
  unfolding unmixed_twice
  unmixed_levels =
      let t = unmixed 65537 (times 65537 x x) m in
      let same : length over ≡ length rows = length_each (unmixing_block width (m + m) x) b rows h in
      sym (rows_double width b (m + m) t over (rw same h) (λ c _. length_unmixed 65537 (times 65537 x x) m c)
      ∙ rows_then width b (m + m + (m + m)) (unmixed 65537 x (m + m)) (both t (m + m)) (unmixed_twice 65537 x m) rows h
      (λ c _. length_unmixed 65537 x (m + m) c) (λ c _. refl))

-- the square of the root of a level is that of the level below
squared : (w k l : ℕ) → suc l ≤ k → times 65537 (power 65537 w (2 ^ k / 2 ^ suc l)) (power 65537 w (2 ^ k / 2 ^ suc l)) ≡ power 65537 w (2 ^ k / 2 ^ l)
squared w k l h =
    let a = 2 ^ k / 2 ^ suc l in
    sym (power_add 65537 (omega arith) w a a)
    ∙ ap (power 65537 w) {x = a + a} {y = 2 ^ k / 2 ^ l} (omega (arith, two_div k (suc l) h, two_div k l (omega arith), pow_down {n = k} {l = l} h))

-- A TURN that crosses levels l and l + 1: the blocks of four parts of m rows
pub record Quads (width level l len blocks m : ℕ) : Type 0 where
  pub under : Level width level l len (blocks * 2) m
  pub over : Level width level (suc l) len blocks (m + m)
  pub rows : len ≡ blocks * ((m + m + (m + m)) * width)
  pub fits : (m + m + (m + m)) * width ≤ len

pub quads_here : {width level l len blocks m : ℕ} → suc l < level → level ≤ 11 → len ≡ 2 ^ level * width → blocks ≡ 2 ^ (level - l - 2) → m ≡ 2 ^ l
    → Quads width level l len blocks m
quads_here {width} {level} {l} {len} {blocks} {m} lt few e eb em =
    let top : blocks ≡ 2 ^ (level - suc l - 1) = eb ∙ ap (λ (n : ℕ). 2 ^ n) {x = level - l - 2} {y = level - suc l - 1} (omega arith) in
    let over : Level width level (suc l) len blocks (m + m) = level_here lt few e top (omega (arith, pow-suc 2 l)) in
    let one : level - suc l ≡ level - l - 1 = omega arith in
    let both : blocks * 2 ≡ 2 ^ (level - l - 1) = rw (← one) (ap (λ (n : ℕ). n * 2) over.blocks_is ∙ sym (pow_down {n = level} {l = suc l} lt)) in
    record { under = level_here (omega arith) few e both em; over = over; rows = over.rows; fits = over.fits }

-- two turns of the loop over levels
pub quad_turn : {half₀ : List ℕ} {level width : ℕ} {half half' : List ℕ} {blocks m l x : ℕ} → MixLoop half₀ level width half l → suc l < level
    → Quads width level l (length half) blocks m → length half' ≡ length half → x ≡ power 65537 (root_of fermat level) (2 ^ level / 2 ^ suc l)
    → half' ≡ each_rows width blocks (m + m + (m + m)) (mixed_twice 65537 x m) half
    → MixLoop half₀ level width half' (l + 2)
quad_turn {half₀} {level} {width} {half} {half'} {blocks} {m} {l} {x} h lt q el ex eh =
    let mid = each_rows width (blocks * 2) (m + m) (mixed_halves 65537 (times 65537 x x) m) half in
    let same : length mid ≡ length half = length_each (mixing_block width m (times 65537 x x)) (blocks * 2) half (omega (arith, q.under.rows)) in
    let one : MixLoop half₀ level width mid (l + 1) = mix_turn h (omega arith) q.under same
    (rw ex (squared (root_of fermat level) level l (omega arith))) refl in
    let over : Level width level (suc l) (length mid) blocks (m + m) = rw same q.over in
    let two : MixLoop half₀ level width half' (suc l + 1) = mix_turn (rw add-one at one) lt over (el ∙ sym same) ex
    (eh ∙ mixed_levels width blocks m x half (omega (arith, q.rows))) in
    let e : suc l + 1 ≡ l + 2 = omega arith in
    rw e at two

pub unquad_turn : {half₀ : List ℕ} {level width : ℕ} {half half' : List ℕ} {blocks m l x : ℕ} → UnmixLoop half₀ level width half (l + 2)
    → Quads width level l (length half) blocks m → length half' ≡ length half
    → x ≡ power 65537 (inverse 65537 (root_of fermat level)) (2 ^ level / 2 ^ suc l)
    → half' ≡ each_rows width blocks (m + m + (m + m)) (unmixed_twice 65537 x m) half
    → UnmixLoop half₀ level width half' l
unquad_turn {half₀} {level} {width} {half} {half'} {blocks} {m} {l} {x} h q el ex eh =
    let w = inverse 65537 (root_of fermat level) in
    let l1 : l + 2 - 1 ≡ suc l = omega arith in
    let l2 : suc l - 1 ≡ l = omega arith in
    let mid = each_rows width blocks (m + m + (m + m)) (unmixed 65537 x (m + m)) half in
    let same : length mid ≡ length half = length_each (unmixing_block width (m + m) x) blocks half (omega (arith, q.rows)) in
    let one : UnmixLoop half₀ level width mid (suc l) = rw l1 at (unmix_turn h {half' = mid} {v = x} (omega arith) (rw l1 q.over) same (rw l1 ex) refl) in
    let under : Level width level (suc l - 1) (length mid) (blocks * 2) m = rw (l2, same) q.under in
    let two : UnmixLoop half₀ level width half' (suc l - 1) = unmix_turn one {half' = half'} {v = times 65537 x x} (omega arith) under (el ∙ sym same)
    (rw (l2, ex) (squared w level l (omega (arith, h.turns))))
    (eh ∙ unmixed_levels width blocks m x half (omega (arith, q.rows))) in
    rw l2 at two

-- the entry under which the upper of both levels is mixed, and unmixed
module _ (level l : ℕ) {m : ℕ} {powers : List ℕ} (is : powers ≡ power_table) (em : m ≡ 2 ^ l) (few : level ≤ 11) (two : l + 2 ≤ level) where
  pub mixing_root : get_or powers (512 / m) 0 ≡ power 65537 (root_of fermat level) (2 ^ level / 2 ^ suc l)
  mixing_root =
      rw (is, step_is is em (omega arith)) (table_root (suc l) (omega arith) ∙ sym (level_root level (suc l) (omega arith) (omega arith)))

  pub unmixing_root : get_or powers (2048 - 512 / m) 0 ≡ power 65537 (inverse 65537 (root_of fermat level)) (2 ^ level / 2 ^ suc l)
  unmixing_root =
      rw (is, step_is is em (omega arith)) (table_back (suc l) (omega arith) ∙ sym (level_inverse level (suc l) (omega arith) (omega arith)))

-- ROWS ALONE, the first level of mixing and the last one of unmixing: sums and differences
module _ (width : ℕ) (half : List ℕ) {level blocks : ℕ} (some : 0 < level) (few : level ≤ 11) (e : length half ≡ 2 ^ level * width)
    (eb : blocks ≡ 2 ^ (level - 1)) where
  alone : Level width level 0 (length half) blocks 1
  alone = level_here some few e (eb ∙ ap (λ (n : ℕ). 2 ^ n) {x = level - 1} {y = level - 0 - 1} (omega arith)) refl

  pub pairs_in : length half ≡ blocks * (width + width)
  pairs_in = alone.rows ∙ ap (λ (n : ℕ). blocks * n) {x = 2 * width} {y = width + width} (omega arith)

  module _ {half' : List ℕ} (el : length half' ≡ length half) (eh : half' ≡ each_block blocks (width + width) (sum_row 65537 width 0 width) half) where
    pub first_turn : {half₀ : List ℕ} → MixLoop half₀ level width half 0 → MixLoop half₀ level width half' 1
    first_turn h =
        let x = power 65537 (root_of fermat level) (2 ^ level / 2 ^ 0) in
        mix_turn h {v = x} some alone el refl (eh ∙ sums_level width blocks (mixed_halves 65537 x 1) half (mixing_sums x) pairs_in)

    pub last_turn : {half₀ : List ℕ} → UnmixLoop half₀ level width half 1 → UnmixLoop half₀ level width half' 0
    last_turn h =
        let x = power 65537 (inverse 65537 (root_of fermat level)) (2 ^ level / 2 ^ 0) in
        unmix_turn h {v = x} (omega arith) alone el refl (eh ∙ sums_level width blocks (unmixed 65537 x 1) half (unmixing_sums x) pairs_in)
