-- What the decoder's loops write, word by word, is what the steps of specs/steps/Decoder do to each column. Assumes nothing.
use mathlib.Core.Path.{◌≡◌, refl, sym, ap, ap₂, ◌∙◌}
use mathlib.Core.Bool.{Bool, true, false}
use mathlib.Core.List.{List, ◌++◌}
use Prim.Native.Nat.{ℕ, zero, suc, ◌+◌, ◌*◌, ◌-◌, ◌/◌, ◌%◌, ◌^◌, ◌≤◌, ◌<◌}
use native.Mathlib.Decide.{dec_lt}
use native.Mathlib.Nat.{mod-eq_of_lt, add-mul-mod_self_left}
use native.Mathlib.Omega.{arith}
use borrow.Rule.Slice.PartMut.{put_mid}
use lib.Arith.{digits_lt, digits_div}
use lib.ListN.{length, get_or, take, drop, take-append-drop}
use lib.Pow.{pow_mono}
use lib.Seq.{sets, get_or-take, length-take-le, take_all}
use Rattle.field.specs.Residue.{plus, minus, times}
use Rattle.field.specs.Power.{inverse}
use Rattle.field.specs.Words.{Words}
use Rattle.field.proofs.Laws.{times_comm, times_zero}
use Rattle.field.proofs.WordLists.{words_take, words_drop}
use Rattle.code.specs.Transform.{reversed, transform, untransform, turned, scaled}
use Rattle.code.specs.Rows.{column, lifted}
use Rattle.decoder.specs.steps.Decoder.{evaluated, halves_unmixed, half_of, derived_at, derived, divisor_at, selected_at, selected, weighed_at, weighed}
use Rattle.code.specs.steps.Storing.{stored, scaled_word}
use Rattle.field.proofs.Booleans.{choice_lt}
use Rattle.code.proofs.Shapes.{reversed_lt, length_transform, length_untransform, words_untransform, take_half, scaled_at}
use Rattle.code.proofs.Lifting.{length_lifted, words_lifted, words_column, lifted_then}
use Rattle.code.proofs.Lifting.{length_column, column_at, is_lifted, lifted_append, table_lifted, two_halves}
use Rattle.decoder.proofs.DecoderShapes.{derived_low, derived_high, selected_at_lem, weighed_at_lem}
use Rattle.code.proofs.RowLaws.{Parts, lent_rest, put_rest, length_stored, stored_before, stored_at, stored_front, stored_last, sets_over, scaled_rows_word}

-- STEP 3, word q of the second half
unfoldable pub derive_word : (p level width : ℕ) → (rows : List ℕ) → (q : ℕ) → ℕ
derive_word p l width r q =
    minus p (times p (plus p (reversed l (q / width)) (half_of p l)) (get_or r q 0)) (times p (half_of p l) (get_or r (2 ^ l * width + q) 0))

-- its two factors: neither is -1
pub derive_factors : (l j : ℕ) → l ≤ 15 → (plus 65537 (reversed l j) (half_of 65537 l) < 65536) × (half_of 65537 l < 65536)
unfolding plus half_of times
derive_factors zero j b = let r : reversed 0 j < 1 = reversed_lt 0 j in (omega arith, omega arith)
derive_factors (suc l) j b =
    let r : reversed (suc l) j < 2 ^ suc l = reversed_lt (suc l) j in
    let m : 2 ^ l ≤ 16384 = pow_mono {i = l} {j = 14} (omega arith) in
    let h : 32769 * 2 ^ suc l % 65537 ≡ 2 ^ l =
    ap (λ (n : ℕ). n % 65537) {x = 32769 * 2 ^ suc l} {y = 2 ^ l + 65537 * 2 ^ l} (omega arith) ∙ add-mul-mod_self_left (2 ^ l) 65537 (2 ^ l)
    ∙ mod-eq_of_lt (omega arith) in
    (omega arith, omega arith)

-- row 2 ^ l + a
high_row : (l a width j : ℕ) → (2 ^ l + a) * width + j ≡ 2 ^ l * width + (a * width + j)
high_row l a width j = omega arith

module _ (p l width : ℕ) (r : List ℕ) (long : length r ≡ 2 ^ suc l * width) where
  derive_word_lem : (a j : ℕ) → a < 2 ^ l → j < width → derive_word p l width r (a * width + j) ≡ derived_at p l (column width (2 ^ suc l) j r) a
  unfolding derive_word derived_at
  derive_word_lem a j h b =
      let x : get_or (column width (2 ^ suc l) j r) a 0 ≡ get_or r (a * width + j) 0 = column_at width (2 ^ suc l) j r a (omega arith) in
      let y : get_or (column width (2 ^ suc l) j r) (2 ^ l + a) 0 ≡ get_or r ((2 ^ l + a) * width + j) 0 =
      column_at width (2 ^ suc l) j r (2 ^ l + a) (omega arith) in
      rw (digits_div a b, x, y, high_row)

  pub derive_rows : stored (2 ^ l * width) (derive_word p l width r) (2 ^ l * width) r ≡ lifted width (2 ^ suc l) (2 ^ suc l) (derived p l) r
  derive_rows =
      let f = derive_word p l width r in
      is_lifted width (2 ^ suc l) (2 ^ suc l) (derived p l) r (stored (2 ^ l * width) f (2 ^ l * width) r) (length_stored (2 ^ l * width) f (2 ^ l * width) r
      ∙ long)
      (λ i j h b. word i j h b (dec_lt i (2 ^ l)))
    where
      word : (i j : ℕ) → i < 2 ^ suc l → j < width → Dec (i < 2 ^ l)
          → get_or (stored (2 ^ l * width) (derive_word p l width r) (2 ^ l * width) r) (i * width + j) 0
          ≡ get_or (derived p l (column width (2 ^ suc l) j r)) i 0
      word i j h b (yes t) =
          stored_before (2 ^ l * width) (derive_word p l width r) (2 ^ l * width) r (i * width + j) (digits_lt t b) ∙ sym (column_at width (2 ^ suc l) j r i h)
          ∙ sym (derived_low p l (column width (2 ^ suc l) j r) i (length_column width (2 ^ suc l) j r) t)
      word i j h b (no t) =
          let a : ℕ = i - 2 ^ l in
          let e : 2 ^ l + a ≡ i = omega arith in
          rw (← e, high_row)
          (stored_at (2 ^ l * width) (derive_word p l width r) (2 ^ l * width) r (a * width + j) (omega (arith, long, two_halves l width))
          (digits_lt (omega arith) b)
          ∙ derive_word_lem a j (omega arith) b ∙ sym (derived_high p l (column width (2 ^ suc l) j r) a (length_column width (2 ^ suc l) j r) (omega arith)))

-- STEP 5, word q of the first half, for the factors ws
unfoldable pub select_word : (p level width : ℕ) → (marks : List Bool) → (ws part : List ℕ) → (q : ℕ) → ℕ
select_word p l width ms ws part q =
    times p (inverse p (divisor_at p l ws (q / width)))
    (elim (get_or ms (q / width) false) [ true ↦ get_or part (2 ^ l * width + q) 0 | false ↦ get_or part q 0 ])

module _ (p l width : ℕ) (ms : List Bool) (ws part : List ℕ) (long : length part ≡ 2 ^ suc l * width) where
  select_word_lem : (i j : ℕ) → i < 2 ^ l → j < width
      → select_word p l width ms ws part (i * width + j) ≡ get_or (selected p l ms ws (column width (2 ^ suc l) j part)) i 0
  unfolding select_word selected_at
  select_word_lem i j h b =
      let c = column width (2 ^ suc l) j part in
      let x : get_or c i 0 ≡ get_or part (i * width + j) 0 = column_at width (2 ^ suc l) j part i (omega arith) in
      let y : get_or c (2 ^ l + i) 0 ≡ get_or part (2 ^ l * width + (i * width + j)) 0 =
      column_at width (2 ^ suc l) j part (2 ^ l + i) (omega arith) ∙ ap (λ (q : ℕ). get_or part q 0) (high_row l i width j) in
      rw (digits_div i b)
      (ap₂ (λ (a e : ℕ). times p (inverse p (divisor_at p l ws i)) (elim (get_or ms i false) [ true ↦ e | false ↦ a ])) (sym x) (sym y)
      ∙ sym (selected_at_lem p l ms ws c i h))

  pub select_rows : stored 0 (select_word p l width ms ws part) (2 ^ l * width) part
      ≡ lifted width (2 ^ suc l) (2 ^ l) (selected p l ms ws) part ++ drop (2 ^ l * width) part
  select_rows =
      let f = select_word p l width ms ws part in
      stored_front f (2 ^ l * width) part (omega (arith, two_halves l width))
      ∙ rw (table_lifted width (2 ^ suc l) (2 ^ l) (selected p l ms ws) f part select_word_lem)

-- WHERE NOTHING IS ERASED, the first half over the count of rows
module _ (p l width g : ℕ) (part : List ℕ) (long : length part ≡ 2 ^ suc l * width) where
  unscale_word : (i j : ℕ) → i < 2 ^ l → j < width
      → scaled_word p 0 g part (i * width + j) ≡ get_or (scaled p g (take (2 ^ l) (column width (2 ^ suc l) j part))) i 0
  unfolding scaled_word
  unscale_word i j h b =
      let c = column width (2 ^ suc l) j part in
      let front : length (take (2 ^ l) c) ≡ 2 ^ l = take_half l c (length_column width (2 ^ suc l) j part) in
      ap (times p g)
      (ap (λ (q : ℕ). get_or part q 0) {x = 0 + (i * width + j)} {y = i * width + j} (omega arith)
      ∙ sym (column_at width (2 ^ suc l) j part i (omega arith)) ∙ sym (get_or-take (2 ^ l) c i 0 h))
      ∙ sym (scaled_at p g (take (2 ^ l) c) i (omega (arith, front)))

  pub unscale_rows : stored 0 (scaled_word p 0 g part) (2 ^ l * width) part
      ≡ lifted width (2 ^ suc l) (2 ^ l) (λ c. scaled p g (take (2 ^ l) c)) part ++ drop (2 ^ l * width) part
  unscale_rows =
      let f = scaled_word p 0 g part in
      stored_front f (2 ^ l * width) part (omega (arith, two_halves l width))
      ∙ rw (table_lifted width (2 ^ suc l) (2 ^ l) (λ c. scaled p g (take (2 ^ l) c)) f part unscale_word)

-- STEP 1: what row i is multiplied by, for the factors ws
unfoldable pub factor_or : (marks : List Bool) → (ws : List ℕ) → (i : ℕ) → ℕ
factor_or ms ws i = elim (get_or ms i false) [ true ↦ 0 | false ↦ get_or ws i 0 ]

pub factor_or_lt : (p : ℕ) → 0 < p → (ms : List Bool) {ws : List ℕ} → Words p ws → (i : ℕ) → factor_or ms ws i < p
unfolding factor_or
factor_or_lt p z ms w i = choice_lt (get_or ms i false) z (w.word i)

module _ (p : ℕ) (z : 0 < p) (l width : ℕ) (ms : List Bool) (ws part : List ℕ) (long : length part ≡ 2 ^ suc l * width) where
  weigh_word : (i j : ℕ) → i < 2 ^ suc l → j < width
      → scaled_rows_word p width (factor_or ms ws) part (i * width + j) ≡ get_or (weighed p l ms ws (column width (2 ^ suc l) j part)) i 0
  unfolding scaled_rows_word factor_or weighed_at
  weigh_word i j h b =
      let c = column width (2 ^ suc l) j part in
      let x : get_or c i 0 ≡ get_or part (i * width + j) 0 = column_at width (2 ^ suc l) j part i h in
      rw (digits_div i b, ← x) (marked (get_or ms i false) (get_or ws i 0) (get_or c i 0)) ∙ sym (weighed_at_lem p l ms ws c i h)
    where
      marked : (m : Bool) (a b : ℕ) → times p (elim m [ true ↦ 0 | false ↦ a ]) b ≡ elim m [ true ↦ 0 | false ↦ times p a b ]
      marked true a b = times_comm p z 0 b ∙ times_zero p z b
      marked false a b = refl

  pub weigh_rows : stored 0 (scaled_rows_word p width (factor_or ms ws) part) (2 ^ suc l * width) part
      ≡ lifted width (2 ^ suc l) (2 ^ suc l) (weighed p l ms ws) part
  weigh_rows =
      let f = scaled_rows_word p width (factor_or ms ws) part in
      stored_last 0 f (2 ^ suc l * width) part (omega (arith, long))
      ∙ table_lifted width (2 ^ suc l) (2 ^ suc l) (weighed p l ms ws) f part weigh_word

-- what is done to each half of the rows
pub lifted_halves : (width l : ℕ) (f g : List ℕ → List ℕ) (r : List ℕ) → length r ≡ 2 ^ suc l * width → ((c : List ℕ) → length c ≡ 2 ^ l → length (f c) ≡ 2 ^ l)
    → lifted width (2 ^ l) (2 ^ l) f (take (2 ^ l * width) r) ++ lifted width (2 ^ l) (2 ^ l) g (drop (2 ^ l * width) r)
    ≡ lifted width (2 ^ suc l) (2 ^ suc l) (λ c. f (take (2 ^ l) c) ++ g (drop (2 ^ l) c)) r
lifted_halves width l f g r e keeps =
    let n = 2 ^ l in
    let d : n + n ≡ 2 ^ suc l = omega arith in
    lifted_append width n n n n f g (take (n * width) r) (drop (n * width) r) (length-take-le (n * width) r (omega (arith, two_halves l width))) keeps
    ∙ rw (take-append-drop, d)

-- STEPS 2 AND 4: what is lent of a list from index n on, and the list once y comes back in its place
abbrev behind : (n : ℕ) → List ℕ → List ℕ
behind n v = take (length v - n) (drop n v)

abbrev put_behind : (n : ℕ) → (v y : List ℕ) → List ℕ
put_behind n v y = put_mid n (length v - n) v y

-- t stands behind a first half x that is made of rows r
module _ (l width half : ℕ) (r x t : List ℕ) (f : List ℕ → List ℕ) (e : half ≡ 2 ^ l * width) (ex : x ≡ lifted width (2 ^ l) (2 ^ l) f r) where
  once : Parts half (x ++ t) x t
  once = record { is = refl; long = ap length ex ∙ length_lifted _ _ _ _ _ ∙ sym e }

-- x and y are the halves transformed, or unmixed, and z is y turned
module _ (w k l width half : ℕ) (rows x y : List ℕ) (e : half ≡ 2 ^ l * width) where
  pub evaluated_rows : length rows ≡ 2 ^ suc l * width → x ≡ lifted width (2 ^ l) (2 ^ l) (transform 65537 w k l) (take half rows)
      → y ≡ lifted width (2 ^ l) (2 ^ l) (transform 65537 w k l) (behind half (x ++ drop half rows))
      → put_behind half (x ++ drop half rows) y ≡ lifted width (2 ^ suc l) (2 ^ suc l) (evaluated 65537 w k l) rows
  unfolding evaluated
  evaluated_rows long ex ey =
      let T = transform 65537 w k l in
      let p = once l width half (take half rows) x (drop half rows) T e ex in
      (put_rest p y).is ∙ ap₂ ◌++◌ ex (ey ∙ ap (lifted _ _ _ _) (lent_rest p)) ∙ rw e (lifted_halves width l T T rows long (length_transform 65537 w k l))

  module _ (ex : x ≡ lifted width (2 ^ l) (2 ^ l) (untransform 65537 w k l) (take half rows))
      (ey : y ≡ lifted width (2 ^ l) (2 ^ l) (untransform 65537 w k l) (behind half (x ++ drop half rows))) where
    -- what is turned is the second half unmixed
    lent_again : behind half (put_behind half (x ++ drop half rows) y)
        ≡ lifted width (2 ^ l) (2 ^ l) (untransform 65537 w k l) (drop half rows)
    lent_again =
        let p = once l width half (take half rows) x (drop half rows) (untransform 65537 w k l) e ex in
        lent_rest (put_rest p y) ∙ ey ∙ ap (lifted _ _ _ _) (lent_rest p)

    pub long_again : length (behind half (put_behind half (x ++ drop half rows) y)) ≡ 2 ^ l * width
    long_again = ap length lent_again ∙ length_lifted width (2 ^ l) (2 ^ l) (untransform 65537 w k l) (drop half rows)

    pub again_words : Words 65537 rows
        → Words 65537 (take (2 ^ l * width) (behind half (put_behind half (x ++ drop half rows) y)))
    again_words u =
        words_take 65537 (omega arith) (2 ^ l * width)
        (rw lent_again (words_lifted 65537 width (2 ^ l) (2 ^ l) (untransform 65537 w k l) (drop half rows) (omega arith)
        (λ j _. words_untransform 65537 (omega arith) w k l (words_column 65537 width (2 ^ l) j (words_drop 65537 (omega arith) half u)))))

    pub split_rows : (first : ℕ) (z : List ℕ) → length rows ≡ 2 ^ suc l * width
        → z ≡ sets (behind half (put_behind half (x ++ drop half rows) y)) 0 (lifted width (2 ^ l) (2 ^ l) (turned 65537 w k first)
        (take (2 ^ l * width) (behind half (put_behind half (x ++ drop half rows) y))))
        → put_behind half (put_behind half (x ++ drop half rows) y) z
        ≡ lifted width (2 ^ suc l) (2 ^ suc l) (halves_unmixed 65537 w k l first) rows
    unfolding halves_unmixed
    split_rows first z long ez =
        let n = 2 ^ l in
        let U = untransform 65537 w k l in
        let T = turned 65537 w k first in
        let p = once l width half (take half rows) x (drop half rows) U e ex in
        (put_rest (put_rest p y) z).is
        ∙ ap₂ ◌++◌ ex (ez ∙ sets_over _ _ (long_again ∙ sym (length_lifted width n n T _))
        ∙ ap (lifted width n n T) (take_all (2 ^ l * width) _ (omega (arith, long_again)) ∙ lent_again)
        ∙ lifted_then width n n n U T (drop half rows) (length_untransform 65537 w k l))
        ∙ rw e (lifted_halves width l U (λ c. T (U c)) rows long (length_untransform 65537 w k l))
