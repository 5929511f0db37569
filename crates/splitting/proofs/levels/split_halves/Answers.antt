-- `splitting::levels::split_halves` meets its contract, by the loop of proofs/HalvesLoop. Assumes nothing.
use mathlib.Core.Path.{◌≡◌, refl, ap, ◌∙◌, subst}
use mathlib.Core.List.{List}
use Prim.Native.Nat.{ℕ, suc, ◌+◌, ◌*◌, ◌-◌, ◌^◌, ◌≤◌, ◌<◌}
use native.Mathlib.Omega.{arith}
use lib.ListN.{length, take, drop, length-drop}
use lib.Seq.{length-take-le}
use Rattle.field.specs.Words.{Words}
use Rattle.code.proofs.Lifting.{two_halves}
use Rattle.store.specs.steps.Writing.{half_start}
use Rattle.splitting.proofs.HalvesLoop.{HalvesLoop, halves_start, halves_turn, halves_done, room_x, room_y, lent_x, lent_y, size_is, fits}
use Rattle.splitting.proofs.HalvesLoop.{cleared_x, cleared_y}
use Rattle.splitting.proofs.levels.split_halves.Goals as goal

-- a turn that is taken is that of level l - 1
module _ {width level : ℕ} {x₀ y₀ below x y : List ℕ} {l : ℕ} (h : HalvesLoop width level x₀ y₀ below x y l) (b : 0 < l) {m a e : ℕ} (em : m ≡ 2 ^ (l - 1 + 1))
    (ea : a ≡ half_start width (l - 1) 0) (ee : e ≡ half_start width (l - 1 + 1) 0) where
  here : HalvesLoop width level x₀ y₀ below x y (suc (l - 1))
  here = subst (HalvesLoop width level x₀ y₀ below x y) {x = l} {y = suc (l - 1)} (omega arith) h

  size : m * width ≡ 2 ^ suc (l - 1) * width
  size = ap (λ (i : ℕ). i * width) (em ∙ ap (λ (i : ℕ). 2 ^ i) {x = l - 1 + 1} {y = suc (l - 1)} (omega arith))

  end : e ≡ half_start width (suc (l - 1)) 0
  end = ee ∙ ap (λ (i : ℕ). half_start width i 0) {x = l - 1 + 1} {y = suc (l - 1)} (omega arith)

  room : (m * width ≤ length x) × (m * width ≤ length y)
  room = (room_x here size ea end, room_y here size ea end)

  bounds : (a ≤ e) × (e ≤ length below)
  bounds = (omega (arith, size_is here size ea end), fits here size ea end)

  to_long : length (take (e - a) (drop a below)) ≡ 2 ^ (l - 1) * width + 2 ^ (l - 1) * width
  to_long =
      length-take-le (e - a) (drop a below) (omega (arith, length-drop a below, bounds.1))
      ∙ omega (arith, size_is here size ea end)

  x_is : take (length x - (length x - m * width)) (drop (length x - m * width) x) ≡ here.rest_x
  x_is = lent_x here size ea end

  y_is : take (length y - (length x - m * width)) (drop (length x - m * width) y) ≡ here.rest_y
  y_is = lent_y here size ea end

  x_long : length (take (length x - (length x - m * width)) (drop (length x - m * width) x)) ≡ 2 ^ (l - 1) * width + 2 ^ (l - 1) * width
  x_long = ap length x_is ∙ here.left_x.long ∙ two_halves (l - 1) width

  y_long : length (take (length y - (length x - m * width)) (drop (length x - m * width) y)) ≡ 2 ^ (l - 1) * width + 2 ^ (l - 1) * width
  y_long = ap length y_is ∙ here.left_y.long ∙ two_halves (l - 1) width

  x_words : Words 65537 (take (length x - (length x - m * width)) (drop (length x - m * width) x))
  x_words = rw x_is here.left_x.words

  y_words : Words 65537 (take (length y - (length x - m * width)) (drop (length x - m * width) y))
  y_words = rw y_is here.left_y.words

-- the rows that a turn takes are there
turn_room : {width level : ℕ} {x₀ y₀ below x y : List ℕ} {l : ℕ} → HalvesLoop width level x₀ y₀ below x y l → 0 < l → {m : ℕ} → m ≡ 2 ^ (l - 1 + 1)
    → m * width ≤ length x
turn_room h b em = (room h b em refl refl).0

pub loop-l-init : goal.loop-l-init
loop-l-init c =
    halves_start c.requires.level_bound.0 c.requires.below_len c.requires.x_len c.requires.y_len c.requires.x_words c.requires.y_words

pub overflow_sub-from : goal.overflow_sub-from
overflow_sub-from c = turn_room c.loop-l.invariant c.loop-l-test.true c.two_to.ensures

pub slice_bounds-split_pair-end : goal.slice_bounds-split_pair-end
slice_bounds-split_pair-end c =
    let b = bounds c.loop-l.invariant c.loop-l-test.true c.two_to.ensures c.half_at-start.ensures c.half_at-end.ensures in
    omega (arith, b.0, b.1)

pub split_pair-requires-clause-to_len : goal.split_pair-requires-clause-to_len
split_pair-requires-clause-to_len c = to_long c.loop-l.invariant c.loop-l-test.true c.two_to.ensures c.half_at-start.ensures c.half_at-end.ensures

pub split_pair-requires-clause-x_len : goal.split_pair-requires-clause-x_len
split_pair-requires-clause-x_len c = x_long c.loop-l.invariant c.loop-l-test.true c.two_to.ensures c.half_at-start.ensures c.half_at-end.ensures

pub split_pair-requires-clause-y_len : goal.split_pair-requires-clause-y_len
split_pair-requires-clause-y_len c = y_long c.loop-l.invariant c.loop-l-test.true c.two_to.ensures c.half_at-start.ensures c.half_at-end.ensures

pub split_pair-requires-clause-x_words : goal.split_pair-requires-clause-x_words
split_pair-requires-clause-x_words c = x_words c.loop-l.invariant c.loop-l-test.true c.two_to.ensures c.half_at-start.ensures c.half_at-end.ensures

pub split_pair-requires-clause-y_words : goal.split_pair-requires-clause-y_words
split_pair-requires-clause-y_words c = y_words c.loop-l.invariant c.loop-l-test.true c.two_to.ensures c.half_at-start.ensures c.half_at-end.ensures

pub loop-l-preserved : goal.loop-l-preserved
loop-l-preserved c =
    let h = c.loop-l.invariant in
    let b = c.loop-l-test.true in
    let m = c.two_to.ensures in
    let a = c.half_at-start.ensures in
    let e = c.half_at-end.ensures in
    halves_turn (here h b m a e) (size h b m a e) a (end h b m a e) (x_is h b m a e) (y_is h b m a e) c.split_pair.ensures.to c.split_pair.ensures.x
    c.split_pair.ensures.y

pub returns-clause-below : goal.returns-clause-below
returns-clause-below c = halves_done c.loop-l.invariant (omega (arith, c.loop-l-test.false))

pub returns-clause-x : goal.returns-clause-x
returns-clause-x c = cleared_x c.loop-l.invariant (omega (arith, c.loop-l-test.false)) (c.fill.ensures.after (λ y e. e))

pub returns-clause-y : goal.returns-clause-y
returns-clause-y c = cleared_y c.loop-l.invariant (omega (arith, c.loop-l-test.false)) (c.fill-2.ensures.after (λ y e. e))
