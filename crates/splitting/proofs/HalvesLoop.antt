-- The loop that takes X and Y of a level apart, from the top down: what is left of each stands behind zeros, and what that gives, before the levels that are
-- done, is the whole. Assumes nothing.
use mathlib.Core.Path.{◌≡◌, refl, sym, ap, ap₂, ◌∙◌}
use mathlib.Core.List.{List, [], ◌++◌, append_assoc, append-nil}
use Prim.Native.Nat.{ℕ, suc, ◌+◌, ◌-◌, ◌*◌, ◌/◌, ◌^◌, ◌≤◌}
use native.Mathlib.Nat.{zero-mul, mul-le-mul_right}
use native.Mathlib.Omega.{arith}
use borrow.Rule.Slice.PartMut.{put_mid}
use lib.Dec.{lit<}
use lib.Pow.{pow_mono}
use lib.ListN.{length, get_or, take, drop, replicate, length-append, length-drop}
use lib.Seq.{length-take-le, drop_at, drop-drop, drop-length}
use Rattle.std.proofs.lemmas.List.{replicate-append-replicate, length-replicate}
use Rattle.field.specs.Field.{power_table}
use Rattle.field.specs.Words.{Words, table}
use Rattle.field.proofs.Laws.{times_lt}
use Rattle.field.proofs.PowerTables.{table_back}
use Rattle.field.proofs.Unity.{two_div}
use Rattle.field.proofs.WordLists.{length_table, words_table}
use Rattle.code.specs.steps.Storing.{stored, always}
use Rattle.code.proofs.RowLaws.{stored_fill, stored_front, no_rest, Parts, length_parts, lent_rest, put_rest}
use Rattle.store.specs.steps.Writing.{half_start}
use Rattle.store.proofs.RebuiltLog.{places}
use Rattle.splitting.specs.steps.Unfolding.{half_difference, difference_by, older, newer, levels_out}
use Rattle.splitting.proofs.HalfBack.{back}

-- ALL WORDS of a slice stored, and all of them 0
pub stored_all : (f : ℕ → ℕ) (n : ℕ) (l : List ℕ) → length l ≡ n → stored 0 f n l ≡ table n f
stored_all f n l e = stored_front f n l (omega (arith, e)) ∙ no_rest (table n f) l n e

pub stored_zeros : (n : ℕ) (l : List ℕ) → length l ≡ n → stored 0 (always 0) n l ≡ replicate n 0
stored_zeros n l e =
    sym (stored_fill n 0 l {ws = replicate n 0} (omega (arith, e)) (ap (λ (m : ℕ). replicate m 0) (sym (length-take-le n l (omega (arith, e))))))
    ∙ no_rest (replicate n 0) l n e

-- the root that a turn goes by
pub back_entry : {l step : ℕ} {t : List ℕ} → l ≤ 10 → step ≡ 2048 - 1024 / 2 ^ l → t ≡ power_table → get_or t step 0 ≡ back l
back_entry {l} b es et = rw (et, es, two_div 10 l b) (table_back l b)

-- WHAT IS LEFT of a half: 2 ^ l of 2 ^ level rows, behind zeros
pub record Left (width level : ℕ) (x rest : List ℕ) (l : ℕ) : Type 0 where
  pub parts : Parts ((2 ^ level - 2 ^ l) * width) x (replicate ((2 ^ level - 2 ^ l) * width) 0) rest
  pub long : length rest ≡ 2 ^ l * width
  pub words : Words 65537 rest

words_newer : (v width n : ℕ) (r : List ℕ) → Words 65537 (newer 65537 32769 v width n r)
unfolding half_difference difference_by
words_newer v width n r = words_table 65537 (lit< tt) n _ (λ k _. times_lt 65537 (lit< tt) _ _)

left_start : {width level : ℕ} {x : List ℕ} → length x ≡ 2 ^ level * width → Words 65537 x → Left width level x x level
left_start {width} {level} {x} e w =
    let z : (2 ^ level - 2 ^ level) * width ≡ 0 = ap (λ (m : ℕ). m * width) {x = 2 ^ level - 2 ^ level} {y = 0} (omega arith) ∙ zero-mul width in
    record { parts = rw z (record { is = refl; long = refl }); long = e; words = w }

module _ {width level : ℕ} {x rest : List ℕ} {l : ℕ} (h : Left width level x rest l) (b : l ≤ level) where
  length_left : length x ≡ 2 ^ level * width
  length_left =
      length_parts h.parts
      ∙ omega (
        arith,
        h.long,
        ap (λ (m : ℕ). m * width) {x = 2 ^ level} {y = 2 ^ level - 2 ^ l + 2 ^ l} (omega (arith, pow_mono {i = l} {j = level} b)),
      )

  left_from : {n : ℕ} → n ≡ 2 ^ l * width → length x - n ≡ (2 ^ level - 2 ^ l) * width
  left_from e = omega (arith, e, h.long, length_parts h.parts)

  left_room : {n : ℕ} → n ≡ 2 ^ l * width → n ≤ length x
  left_room e = omega (arith, e, h.long, length_parts h.parts)

  -- what is lent of it, and what it is once that comes back
  left_lent : {n : ℕ} → n ≡ 2 ^ l * width → take (length x - (length x - n)) (drop (length x - n) x) ≡ rest
  left_lent e = rw (left_from e) (lent_rest h.parts)

  left_put : {n : ℕ} → n ≡ 2 ^ l * width → (ys : List ℕ)
      → put_mid (length x - n) (length x - (length x - n)) x ys ≡ replicate ((2 ^ level - 2 ^ l) * width) 0 ++ ys
  left_put e ys = rw (left_from e) ((put_rest h.parts ys).is)

-- zeros behind zeros
more_zeros : (n m : ℕ) (r : List ℕ) {o : ℕ} {x : List ℕ} → n + m ≡ o → x ≡ replicate m 0 ++ r → replicate n 0 ++ x ≡ replicate o 0 ++ r
more_zeros n m r e ex =
    ap (λ (i : List ℕ). replicate n 0 ++ i) ex ∙ sym (append_assoc (replicate n 0) (replicate m 0) r)
    ∙ ap (λ (i : List ℕ). i ++ r) (replicate-append-replicate n m 0 ∙ ap (λ (i : ℕ). replicate i 0) e)

-- a turn
left_turn : {width level : ℕ} {x rest : List ℕ} {l n : ℕ} → Left width level x rest (suc l) → suc l ≤ level → n ≡ 2 ^ suc l * width → {ys r : List ℕ}
    → r ≡ rest → ys ≡ replicate (2 ^ l * width) 0 ++ newer 65537 32769 (back l) width (2 ^ l * width) r
    → Left width level (put_mid (length x - n) (length x - (length x - n)) x ys) (newer 65537 32769 (back l) width (2 ^ l * width) rest) l
left_turn {width} {level} {x} {rest} {l} {n} h b en {ys} {r} er ey =
    let m = 2 ^ l * width in
    let from = (2 ^ level - 2 ^ suc l) * width in
    let rises : 2 ^ suc l ≤ 2 ^ level = pow_mono {i = suc l} {j = level} b in
    let q : from + m ≡ (2 ^ level - 2 ^ l) * width =
    sym (ap (λ (i : ℕ). i * width) {x = 2 ^ level - 2 ^ l} {y = 2 ^ level - 2 ^ suc l + 2 ^ l} (omega (arith, rises)) ∙ omega arith) in
    record {
      parts = record {
        is = left_put h b en ys ∙ more_zeros from m (newer 65537 32769 (back l) width m rest) q
            (ey ∙ ap (λ (i : List ℕ). replicate m 0 ++ newer 65537 32769 (back l) width m i) er);
        long = length-replicate ((2 ^ level - 2 ^ l) * width) 0;
      };
      long = length_table m _;
      words = words_newer (back l) width m rest;
    }

-- the last row cleared
pub left_clear : {width level : ℕ} {x rest z : List ℕ} → Left width level x rest 0
    → z ≡ replicate (length (take (length x - (length x - width)) (drop (length x - width) x))) 0
    → put_mid (length x - width) (length x - (length x - width)) x z ≡ replicate (2 ^ level * width) 0
left_clear {width} {level} {x} {rest} {z} h ez =
    let e : width ≡ 2 ^ 0 * width = omega arith in
    let n = (2 ^ level - 2 ^ 0) * width in
    left_put h (omega arith) e z
    ∙ ap (λ (r : List ℕ). replicate n 0 ++ r) (ez ∙ ap (λ (m : ℕ). replicate m 0) (ap length (left_lent h (omega arith) e) ∙ h.long))
    ∙ replicate-append-replicate n (2 ^ 0 * width) 0
    ∙ ap (λ (m : ℕ). replicate m 0)
    (sym (ap (λ (m : ℕ). m * width) {x = 2 ^ level} {y = 2 ^ level - 2 ^ 0 + 2 ^ 0} (omega (arith, pow_mono {i = 0} {j = level} (omega arith))) ∙ omega arith))

-- one level more
levels_more : (width l : ℕ) (x y : List ℕ)
    → levels_out 65537 32769 back width (suc l) x y
    ≡ levels_out 65537 32769 back width l (newer 65537 32769 (back l) width (2 ^ l * width) x) (newer 65537 32769 (back l) width (2 ^ l * width) y)
    ++ (older 65537 32769 (2 ^ l * width) x ++ older 65537 32769 (2 ^ l * width) y)
unfolding levels_out
levels_more width l x y = refl

levels_none : (width : ℕ) (x y : List ℕ) → levels_out 65537 32769 back width 0 x y ≡ []
unfolding levels_out
levels_none width x y = refl

-- THE LOOP
pub record HalvesLoop (width level : ℕ) (x₀ y₀ below x y : List ℕ) (l : ℕ) : Type 0 where
  pub turns : l ≤ level
  pub few : level ≤ 9
  pub long : length below ≡ half_start width level 0
  pub rest_x : List ℕ
  pub rest_y : List ℕ
  pub left_x : Left width level x rest_x l
  pub left_y : Left width level y rest_y l
  pub done : levels_out 65537 32769 back width l rest_x rest_y ++ drop (half_start width l 0) below ≡ levels_out 65537 32769 back width level x₀ y₀

module _ {width level : ℕ} {x₀ y₀ : List ℕ} where
  pub halves_start : {below : List ℕ} → level ≤ 9 → length below ≡ half_start width level 0 → length x₀ ≡ 2 ^ level * width → length y₀ ≡ 2 ^ level * width
      → Words 65537 x₀ → Words 65537 y₀ → HalvesLoop width level x₀ y₀ below x₀ y₀ level
  halves_start {below} f e ex ey wx wy =
      let none : drop (half_start width level 0) below ≡ [] = rw (← e) (drop-length below) in
      record {
        turns = omega arith;
        few = f;
        long = e;
        rest_x = x₀;
        rest_y = y₀;
        left_x = left_start ex wx;
        left_y = left_start ey wy;
        done = ap (λ (r : List ℕ). levels_out 65537 32769 back width level x₀ y₀ ++ r) none ∙ append-nil (levels_out 65537 32769 back width level x₀ y₀);
      }

  module _ {below x y : List ℕ} {l : ℕ} (h : HalvesLoop width level x₀ y₀ below x y (suc l)) {n a e : ℕ} (en : n ≡ 2 ^ suc l * width)
      (ea : a ≡ half_start width l 0) (ee : e ≡ half_start width (suc l) 0) where
    pub room_x : n ≤ length x
    room_x = left_room h.left_x h.turns en

    pub room_y : n ≤ length y
    room_y = left_room h.left_y h.turns en

    same_from : length x - n ≡ length y - n
    same_from = left_from h.left_x h.turns en ∙ sym (left_from h.left_y h.turns en)

    pub lent_x : take (length x - (length x - n)) (drop (length x - n) x) ≡ h.rest_x
    lent_x = left_lent h.left_x h.turns en

    pub lent_y : take (length y - (length x - n)) (drop (length x - n) y) ≡ h.rest_y
    lent_y = rw same_from (left_lent h.left_y h.turns en)

    rises : (2 ^ suc (suc l) - 2) * width ≤ (2 ^ suc level - 2) * width
    rises = mul-le-mul_right width (omega (arith, pow_mono {i = suc (suc l)} {j = suc level} (omega (arith, h.turns))))

    pub size_is : e ≡ a + (2 ^ l * width + 2 ^ l * width)
    size_is = (places width l refl ea (ee ∙ ap (λ (i : ℕ). half_start width i 0) {x = suc l} {y = l + 1} (omega arith))).end_is

    pub fits : e ≤ length below
    fits = omega (arith, ee, h.long, rises)

    pub halves_turn : {t xs ys : List ℕ} {rx ry : List ℕ} → rx ≡ h.rest_x → ry ≡ h.rest_y
        → t ≡ older 65537 32769 (2 ^ l * width) rx ++ older 65537 32769 (2 ^ l * width) ry
        → xs ≡ replicate (2 ^ l * width) 0 ++ newer 65537 32769 (back l) width (2 ^ l * width) rx
        → ys ≡ replicate (2 ^ l * width) 0 ++ newer 65537 32769 (back l) width (2 ^ l * width) ry
        → HalvesLoop width level x₀ y₀ (put_mid a (e - a) below t) (put_mid (length x - n) (length x - (length x - n)) x xs)
        (put_mid (length x - n) (length y - (length x - n)) y ys) l
    halves_turn {t} {xs} {ys} {rx} {ry} ex ey et exs eys = record {
      turns = omega (arith, h.turns);
      few = h.few;
      long = length_same ∙ h.long;
      rest_x = newer 65537 32769 (back l) width (2 ^ l * width) h.rest_x;
      rest_y = newer 65537 32769 (back l) width (2 ^ l * width) h.rest_y;
      left_x = left_turn h.left_x h.turns en ex exs;
      left_y = rw same_from (left_turn h.left_y h.turns en ey eys);
      done = ap (λ (r : List ℕ). levels_out 65537 32769 back width l (newer 65537 32769 (back l) width (2 ^ l * width) h.rest_x)
          (newer 65537 32769 (back l) width (2 ^ l * width) h.rest_y) ++ r) behind
          ∙ sym (append_assoc (levels_out 65537 32769 back width l (newer 65537 32769 (back l) width (2 ^ l * width) h.rest_x)
          (newer 65537 32769 (back l) width (2 ^ l * width) h.rest_y))
          (older 65537 32769 (2 ^ l * width) h.rest_x ++ older 65537 32769 (2 ^ l * width) h.rest_y) (drop (half_start width (suc l) 0) below))
          ∙ ap (λ (r : List ℕ). r ++ drop (half_start width (suc l) 0) below) (sym out_more) ∙ h.done;
    }
      where
        size_t : length t ≡ 2 ^ l * width + 2 ^ l * width
        size_t =
            ap length et ∙ length-append (older 65537 32769 (2 ^ l * width) rx) (older 65537 32769 (2 ^ l * width) ry)
            ∙ ap₂ ◌+◌ (length_table (2 ^ l * width) _) (length_table (2 ^ l * width) _)

        front : length (take a below) ≡ a
        front = length-take-le a below (omega (arith, size_is, fits))

        length_same : length (put_mid a (e - a) below t) ≡ length below
        length_same =
            let rest = drop (e - a) (drop a below) in
            length-append (take a below) (t ++ rest)
            ∙ omega (arith, front, length-append t rest, size_t, length-drop (e - a) (drop a below), length-drop a below, size_is, fits)

        behind : drop (half_start width l 0) (put_mid a (e - a) below t)
            ≡ (older 65537 32769 (2 ^ l * width) h.rest_x ++ older 65537 32769 (2 ^ l * width) h.rest_y) ++ drop (half_start width (suc l) 0) below
        behind =
            ap (λ (i : ℕ). drop i (put_mid a (e - a) below t)) (sym ea) ∙ drop_at (take a below) (t ++ drop (e - a) (drop a below)) a front
            ∙ ap₂ ◌++◌ (et ∙ ap₂ (λ (i j : List ℕ). older 65537 32769 (2 ^ l * width) i ++ older 65537 32769 (2 ^ l * width) j) ex ey)
            (drop-drop (e - a) a below ∙ ap (λ (i : ℕ). drop i below) (omega (arith, size_is) ∙ ee))

        out_more : levels_out 65537 32769 back width (suc l) h.rest_x h.rest_y
            ≡ levels_out 65537 32769 back width l (newer 65537 32769 (back l) width (2 ^ l * width) h.rest_x)
            (newer 65537 32769 (back l) width (2 ^ l * width) h.rest_y)
            ++ (older 65537 32769 (2 ^ l * width) h.rest_x ++ older 65537 32769 (2 ^ l * width) h.rest_y)
        out_more = levels_more width l h.rest_x h.rest_y

  -- once all turns are taken
  module _ {below x y : List ℕ} {l : ℕ} (h : HalvesLoop width level x₀ y₀ below x y l) (z : l ≡ 0) where
    pub halves_done : below ≡ levels_out 65537 32769 back width level x₀ y₀
    halves_done =
        let start : half_start width 0 0 ≡ 0 = omega arith in
        sym (ap (λ (i : ℕ). drop i below) start)
        ∙ ap (λ (r : List ℕ). r ++ drop (half_start width 0 0) below) (sym (levels_none width h.rest_x h.rest_y))
        ∙ (rw z at h.done)

    last_x : Left width level x h.rest_x 0
    last_x = rw z at h.left_x

    last_y : Left width level y h.rest_y 0
    last_y = rw z at h.left_y

    one_row : width ≡ 2 ^ 0 * width
    one_row = omega arith

    pub last_room : (width ≤ length x) × (width ≤ length y)
    last_room = (left_room last_x (omega arith) one_row, left_room last_y (omega arith) one_row)

    pub same_long : length x ≡ length y
    same_long = length_left last_x (omega arith) ∙ sym (length_left last_y (omega arith))

    pub cleared_x : {r : List ℕ} → r ≡ replicate (length (take (length x - (length x - width)) (drop (length x - width) x))) 0
        → put_mid (length x - width) (length x - (length x - width)) x r ≡ replicate (2 ^ level * width) 0
    cleared_x e = left_clear last_x e

    pub cleared_y : {r : List ℕ} → r ≡ replicate (length (take (length y - (length x - width)) (drop (length x - width) y))) 0
        → put_mid (length x - width) (length y - (length x - width)) y r ≡ replicate (2 ^ level * width) 0
    cleared_y = rw same_long (left_clear last_y)
