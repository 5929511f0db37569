-- Laws of `folded` of specs/steps/Writing: the loop that folds a half, and its words. Assumes nothing.
use mathlib.Core.Path.{◌≡◌, refl, sym, ap, ap₂, ◌∙◌}
use mathlib.Core.List.{List, ◌++◌, append_assoc}
use Prim.Native.Nat.{ℕ, zero, suc, ◌+◌, ◌-◌, ◌*◌, ◌^◌, ◌≤◌, ◌<◌}
use native.Mathlib.Nat.{add-mul, mul-le-mul_right}
use native.Mathlib.Numerals.{add-one}
use native.Mathlib.Omega.{arith}
use borrow.Rule.Slice.PartMut.{put_mid}
use lib.Pow.{pow_pos, pow_mono}
use lib.Dec.{lit<}
use lib.ListN.{length, take, drop, length-append, take-append-drop}
use lib.Seq.{length-take-le, take-add, drop-drop}
use Rattle.field.specs.Words.{Words}
use Rattle.field.proofs.WordLists.{words_take, words_part, words_append}
use Rattle.code.specs.Rows.{lifted}
use Rattle.code.specs.Transform.{mixed_halves}
use Rattle.code.proofs.Blocks.{mixing_block}
use Rattle.code.proofs.Lifting.{length_lifted}
use Rattle.code.proofs.RowLaws.{Parts, length_parts, lent_front, lent_rest, put_rest}
use Rattle.store.specs.steps.Writing.{folded}

module _ (p : ℕ) (v : ℕ → ℕ) (width : ℕ) where
  pub length_folded : (l : ℕ) (r : List ℕ) → length r ≡ 2 ^ l * width → length (folded p v width l r) ≡ 2 ^ l * width
  unfolding folded
  length_folded zero r e = e
  length_folded (suc l) r e = length_lifted width (2 ^ suc l) (2 ^ suc l) _ _

  -- the roots of the levels below are all that counts
  pub folded_same : (u : ℕ → ℕ) (l : ℕ) (r : List ℕ) → ((i : ℕ) → i < l → v i ≡ u i) → folded p v width l r ≡ folded p u width l r
  unfolding folded
  folded_same u zero r e = refl
  folded_same u (suc l) r e =
      ap₂ (λ (x : ℕ) (y : List ℕ). lifted width (2 ^ suc l) (2 ^ suc l) (mixed_halves p x (2 ^ l)) (take (2 ^ l * width) r ++ y)) (e l (omega arith))
      (folded_same u l (drop (2 ^ l * width) r) (λ i b. e i (omega arith)))

-- THE LOOP OF A FOLD: the last 2 ^ l rows, from index `from` on, are folded
pub record FoldLoop (half₀ : List ℕ) (level width : ℕ) (v : ℕ → ℕ) (half : List ℕ) (from l : ℕ) : Type 0 where
  pub turns : l ≤ level
  pub long : length half₀ ≡ 2 ^ level * width
  pub same : length half ≡ length half₀
  pub words : Words 65537 half
  pub from_is : from + 2 ^ l * width ≡ length half₀
  pub now : half ≡ take from half₀ ++ folded 65537 v width l (drop from half₀)

pub fold_start : {half₀ : List ℕ} {level width : ℕ} {v : ℕ → ℕ} → length half₀ ≡ 2 ^ level * width → Words 65537 half₀
    → FoldLoop half₀ level width v half₀ (length half₀ - 2 ^ 0 * width) 0
unfolding folded
fold_start {half₀} {level} {width} e w = record {
  turns = omega arith;
  long = e;
  same = refl;
  words = w;
  from_is = omega (arith, mul-le-mul_right {m = 1} width (pow_pos level));
  now = sym (take-append-drop (length half₀ - 2 ^ 0 * width) half₀);
}

module _ {half₀ : List ℕ} {level width : ℕ} {v : ℕ → ℕ} {half : List ℕ} {from l : ℕ} (h : FoldLoop half₀ level width v half from l) (lt : l < level) where
  abbrev size : ℕ
  size = 2 ^ l * width

  rows_in : 2 ^ suc l * width ≤ 2 ^ level * width
  rows_in = mul-le-mul_right width (pow_mono lt)

  double : 2 ^ suc l * width ≡ size + size
  double = ap (λ (n : ℕ). n * width) {x = 2 ^ suc l} {y = 2 ^ l + 2 ^ l} (omega arith) ∙ add-mul (2 ^ l) (2 ^ l) width

  -- there are as many rows before those that are folded, and both end with the half
  room : size ≤ from
  room = omega (arith, rows_in, double, h.from_is, h.long)

  pub turn_room : {m : ℕ} → m ≡ 2 ^ l → 2 * m * width ≤ length half
  turn_room e = rw e (omega (arith, room, double, h.from_is, h.same))

  pub next_from : from - size ≡ length half₀ - 2 ^ (l + 1) * width
  next_from = rw add-one (omega (arith, double, h.from_is))

  pub turn_from : {m : ℕ} → m ≡ 2 ^ l → length half - 2 * m * width ≡ from - size
  turn_from e = rw e (omega (arith, room, double, h.from_is, h.same))

  -- the rows that a turn mixes, and those before them
  abbrev tail : List ℕ
  tail = drop (from - size) half₀

  abbrev rows : List ℕ
  rows = take size tail ++ folded 65537 v width l (drop size tail)

  parts : Parts (from - size) half (take (from - size) half₀) rows
  parts =
      let f = from - size in
      let e : from ≡ f + size = omega (arith, room) in
      record {
        is = h.now ∙ ap (λ (n : ℕ). take n half₀ ++ folded 65537 v width l (drop n half₀)) e
            ∙ rw (take-add f size half₀, ← drop-drop size f half₀, append_assoc);
        long = length-take-le f half₀ (omega (arith, h.from_is));
      }

  -- what is lent to mixing: its length and its words
  pub lent_long : length (take (length half - (from - size)) (drop (from - size) half)) ≡ (2 ^ l + 2 ^ l) * width
  lent_long =
      let e : length half ≡ from - size + length rows = length_parts parts in
      ap length (lent_rest parts) ∙ omega (arith, room, e, h.same, h.from_is, add-mul (2 ^ l) (2 ^ l) width)

  pub lent_words : Words 65537 (take (length half - (from - size)) (drop (from - size) half))
  lent_words = words_part 65537 (lit< tt) (length half - (from - size)) (from - size) h.words

  folded_more : {u : ℕ} → u ≡ v l → lifted width (2 ^ l + 2 ^ l) (2 ^ l + 2 ^ l) (mixed_halves 65537 u (2 ^ l)) rows ≡ folded 65537 v width (suc l) tail
  unfolding folded
  folded_more {u} e =
      let mm : 2 ^ l + 2 ^ l ≡ 2 ^ suc l = omega arith in
      rw (mm, e)

  pub fold_turn : {ys : List ℕ} {u : ℕ} → u ≡ v l
      → ys ≡ lifted width (2 ^ l + 2 ^ l) (2 ^ l + 2 ^ l) (mixed_halves 65537 u (2 ^ l)) (take (length half - (from - size)) (drop (from - size) half))
      → FoldLoop half₀ level width v (put_mid (from - size) (length half - (from - size)) half ys) (from - size) (l + 1)
  fold_turn {ys} {u} ev ey =
      let f = from - size in
      let m = 2 ^ l in
      let y : ys ≡ lifted width (m + m) (m + m) (mixed_halves 65537 u m) rows =
      ey ∙ ap (lifted width (m + m) (m + m) (mixed_halves 65537 u m)) (lent_rest parts) in
      let n : put_mid f (length half - f) half ys ≡ take f half₀ ++ ys = (put_rest parts ys).is in
      rw (n, add-one) (record {
        turns = omega arith;
        long = h.long;
        same = length-append (take f half₀) ys ∙ omega (
          arith,
          parts.long,
          ap length y,
          length_lifted width (m + m) (m + m) (mixed_halves 65537 u m) rows,
          room,
          h.from_is,
          add-mul m m width,
        );
        words = words_append 65537 (lit< tt) {a = take f half₀} (rw (lent_front parts) at (words_take 65537 (lit< tt) f h.words))
            (rw y ((mixing_block width m u).words rows (rw (lent_rest parts) at lent_words)));
        from_is = omega (arith, room, h.from_is, double);
        now = ap (λ (r : List ℕ). take f half₀ ++ r) (y ∙ folded_more ev);
      })
