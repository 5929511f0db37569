-- A level rebuilt: what gathering, folding and clearing leave of the log is `log_with` of specs/Writing, and its words are of the field. Assumes nothing.
use mathlib.Core.Path.{◌≡◌, refl, sym, ap, ap₂, ◌∙◌}
use mathlib.Core.List.{List, [], ◌∷◌, ◌++◌, append_assoc}
use Prim.Native.Nat.{ℕ, zero, suc, ◌+◌, ◌-◌, ◌*◌, ◌^◌, ◌≤◌, ◌<◌}
use native.Mathlib.Nat.{one-mul}
use native.Mathlib.Numerals.{add-one}
use native.Mathlib.Omega.{arith}
use borrow.Rule.Slice.PartMut.{put_mid}
use lib.Dec.{lit<}
use lib.ListN.{length, take, drop, replicate, length-append, length-drop}
use lib.Seq.{sets, sets-eq, length-take-le, take_at, drop_at}
use Rattle.field.specs.Field.{fermat, root_of}
use Rattle.field.specs.Words.{Words}
use Rattle.field.proofs.Laws.{times_comm, times_one}
use Rattle.field.proofs.PowerTables.{level_root}
use Rattle.field.proofs.WordLists.{words_append, words_tail, sets_append, take_sets}
use Rattle.code.specs.Rows.{lifted}
use Rattle.code.specs.Transform.{mixed_halves, scaled}
use Rattle.code.proofs.Lifting.{words_lifted}
use Rattle.code.proofs.Shapes.{words_mixed, words_scaled}
use Rattle.layout.specs.declared.Header.{Header}
use Rattle.layout.specs.Header.{width, level_at, stripe_size}
use Rattle.store.specs.Writing.{new_row, rebuilt_half, rebuilt, log_with}
use Rattle.store.specs.steps.Writing.{half_start, half_in, gathered, folded, folded_both}
use Rattle.store.proofs.StoredRecords.{words_reduced}
use Rattle.store.proofs.Stores.{length_copy}
use Rattle.store.proofs.Gathering.{gathered_same, half_end, rows_double, next_level}

-- a level within the log has the levels below within it, and both halves of the one below
below : (width l : ℕ) {n : ℕ} → half_start width (suc l) 0 ≤ n → half_start width l 0 ≤ n
below width l h = omega (arith, next_level width l)

half_below : (width l : ℕ) {y n : ℕ} → y ≤ 1 → half_start width (suc l) 0 ≤ n → half_start width l y + 2 ^ l * width ≤ n
half_below width l s h = omega (arith, half_end width l s)

-- WHAT IS GATHERED: its length and its words, and the half that it folds to
length_gathered : (p width : ℕ) (g : List ℕ) {y : ℕ} (r : List ℕ) (l : ℕ) → y ≤ 1 → length r ≡ width → half_start width l 0 ≤ length g
    → length (gathered p width g y r l) ≡ 2 ^ l * width
unfolding gathered
length_gathered p width g {y} r zero s e h = e ∙ sym (one-mul width)
length_gathered p width g {y} r (suc l) s e h =
    length-append (half_in p width g l y) (gathered p width g y r l)
    ∙ ap₂ ◌+◌ (length_copy p (half_start width l y) (2 ^ l * width) g (half_below width l s h)) (length_gathered p width g r l s e (below width l h))
    ∙ sym (rows_double width l)

pub words_gathered : (p width : ℕ) → 0 < p → (g : List ℕ) (y : ℕ) {r : List ℕ} (l : ℕ) → Words p r → Words p (gathered p width g y r l)
unfolding gathered
words_gathered p width h g y zero u = u
words_gathered p width h g y (suc l) u = words_append p h {a = half_in p width g l y} (words_reduced p h _) (words_gathered p width h g y l u)

folded_gathered : (h : Header) (g : List ℕ) {y : ℕ} (b : List ℕ) (l : ℕ) → y ≤ 1 → half_start (width h) l 0 ≤ length g → l ≤ h.k → h.k ≤ 10
    → folded 65537 (root_of fermat) (width h) l (gathered 65537 (width h) g y (new_row h y b) l) ≡ rebuilt_half h g y b l
unfolding folded gathered rebuilt_half
folded_gathered h g b zero s f i t = refl
folded_gathered h g {y} b (suc l) s f i t =
    let n = 2 ^ l * width h in
    let p = half_in 65537 (width h) g l y in
    let r = gathered 65537 (width h) g y (new_row h y b) l in
    let e : length p ≡ n = length_copy 65537 (half_start (width h) l y) n g (half_below (width h) l s f) in
    ap₂ (λ (x : ℕ). lifted (width h) (2 ^ suc l) (2 ^ suc l) (mixed_halves 65537 x (2 ^ l))) (sym (level_root h.k l (omega arith) (omega arith)))
    (ap₂ (λ (u v : List ℕ). u ++ folded 65537 (root_of fermat) (width h) l v) (take_at p r n e) (drop_at p r n e)
    ∙ ap (λ (u : List ℕ). p ++ u) (folded_gathered h g b l s (below (width h) l f) (omega arith) t))

-- WHERE A LEVEL STANDS: from a to e
pub record Places (width level a e : ℕ) : Type 0 where
  pub start_is : a ≡ half_start width level 0
  pub end_is : e ≡ a + (2 ^ level * width + 2 ^ level * width)

pub places : (width level : ℕ) {w a e : ℕ} → w ≡ width → a ≡ half_start w level 0 → e ≡ half_start w (level + 1) 0 → Places width level a e
places width level {a = a} ew ea ee =
    let at : a ≡ half_start width level 0 = rw ew at ea in
    record { start_is = at; end_is = (rw (ew, add-one level) at ee) ∙ omega (arith, next_level width level) }

module _ {width level a e : ℕ} (h : Places width level a e) where
  place_start : a ≡ (2 ^ suc level - 2) * width
  place_start = omega (arith, h.start_is)

  place_end : e ≡ (2 ^ suc level - 2) * width + 2 ^ suc level * width
  place_end = omega (arith, h.start_is, h.end_is, rows_double width level)

  pub place_in : {n : ℕ} → half_start width (suc level) 0 ≤ n → e ≤ n
  place_in b = omega (arith, h.start_is, h.end_is, next_level width level)

-- THE LOG with r in the place of the level: what is lent as the level, and the log once that comes back
pub record LevelIn (width level a e : ℕ) (g log r : List ℕ) : Type 0 where
  pub at : Places width level a e
  pub fits : e ≤ length g
  pub is : log ≡ take a g ++ (r ++ drop e g)
  pub long : length r ≡ 2 ^ level * width + 2 ^ level * width

module _ {width level a e : ℕ} {g log r : List ℕ} (h : LevelIn width level a e g log r) where
  front : length (take a g) ≡ a
  front = length-take-le a g (omega (arith, h.fits, h.at.end_is))

  pub length_log : length log ≡ length g
  length_log = ap length h.is ∙ simp (length-append, length-drop, front) (omega (arith, h.long, h.fits, h.at.end_is))

  before_is : take a log ≡ take a g
  before_is = ap (take a) h.is ∙ take_at (take a g) (r ++ drop e g) a front

  rest_is : drop a log ≡ r ++ drop e g
  rest_is = ap (drop a) h.is ∙ drop_at (take a g) (r ++ drop e g) a front

  size : length r ≡ e - a
  size = omega (arith, h.long, h.at.end_is)

  pub lent_level : take (e - a) (drop a log) ≡ r
  lent_level = ap (take (e - a)) rest_is ∙ take_at r (drop e g) (e - a) size

  pub put_level : {r' : List ℕ} → length r' ≡ 2 ^ level * width + 2 ^ level * width → LevelIn width level a e g (put_mid a (e - a) log r') r'
  put_level {r'} n = record {
    at = h.at;
    fits = h.fits;
    is = ap₂ (λ (u v : List ℕ). u ++ (r' ++ v)) before_is (ap (drop (e - a)) rest_is ∙ drop_at r (drop e g) (e - a) size);
    long = n;
  }

  -- what stands before is lent, and cleared
  pub front_long : length (take a log) ≡ a
  front_long = ap length before_is ∙ front

  pub cleared : {z : List ℕ} → z ≡ replicate (length (take a log)) 0 → z ++ drop a log ≡ replicate a 0 ++ (r ++ drop e g)
  cleared ez = ap₂ ◌++◌ (ez ∙ ap (λ (n : ℕ). replicate n 0) front_long) rest_is

-- BOTH HALVES GATHERED: the second half is gathered from what the first left, which has the levels below as they were
module _ {width level a e : ℕ} (g g₁ g₂ rx ry : List ℕ) (at : Places width level a e) (fits : e ≤ length g) (ex : length rx ≡ width)
    (ey : length ry ≡ width)
    (first : g₁ ≡ sets g (half_start width level 0) (gathered 65537 width g 0 rx level))
    (second : g₂ ≡ sets g₁ (half_start width level 1) (gathered 65537 width g₁ 1 ry level)) where
  x : List ℕ
  x = gathered 65537 width g 0 rx level

  y : List ℕ
  y = gathered 65537 width g 1 ry level

  within : half_start width level 0 ≤ length g
  within = omega (arith, at.start_is, at.end_is)

  long_first : length x ≡ 2 ^ level * width
  unfolding x
  long_first = length_gathered 65537 width g rx level (omega arith) ex within

  long_second : length y ≡ 2 ^ level * width
  unfolding y
  long_second = length_gathered 65537 width g ry level (omega arith) ey within

  same_levels : gathered 65537 width g₁ 1 ry level ≡ y
  unfolding x y
  same_levels =
      gathered_same width level g₁ g ry level (omega arith) (omega arith)
      (ap (take (half_start width level 0)) first ∙ take_sets (half_start width level 0) g (half_start width level 0) x (omega arith))

  both_stored : g₂ ≡ sets g a (x ++ y)
  unfolding x
  both_stored =
      let em : half_start width level 1 ≡ a + length x = omega (arith, at.start_is, long_first) in
      second ∙ ap₂ (λ (u v : List ℕ). sets u (half_start width level 1) v) first same_levels
      ∙ ap₂ (λ (n m : ℕ). sets (sets g n x) m y) (sym at.start_is) em ∙ sym (sets_append g a x y)

  pub gathered_level : LevelIn width level a e g g₂ (gathered 65537 width g 0 rx level ++ gathered 65537 width g 1 ry level)
  unfolding x y
  gathered_level =
      let both : length (x ++ y) ≡ 2 ^ level * width + 2 ^ level * width = length-append x y ∙ ap₂ ◌+◌ long_first long_second in
      let ee : a + length (x ++ y) ≡ e = omega (arith, both, at.end_is) in
      record {
        at = at;
        fits = fits;
        is = both_stored ∙ sets-eq (x ++ y) g a (omega arith) ∙ ap (λ (n : ℕ). take a g ++ (x ++ y) ++ drop n g) ee
            ∙ append_assoc (take a g) (x ++ y) (drop e g);
        long = both;
      }

-- X takes the block as it is
pub scaled_one : (p : ℕ) → 0 < p → (l : List ℕ) → Words p l → scaled p 1 l ≡ l
unfolding scaled
scaled_one p h [] u = refl
scaled_one p h (x ∷ l) u = ap₂ ◌∷◌ (times_comm p h 1 x ∙ times_one p h x (u.word 0)) (scaled_one p h l (words_tail u))

-- BOTH HALVES FOLDED: the level is rebuilt
pub rebuilt_level : (h : Header) (g b : List ℕ) (level : ℕ) {rx ry r : List ℕ} → half_start (width h) level 0 ≤ length g → level ≤ h.k → h.k ≤ 10
    → length rx ≡ width h → rx ≡ new_row h 0 b → ry ≡ new_row h 1 b
    → r ≡ folded_both 65537 (root_of fermat) (width h) level (gathered 65537 (width h) g 0 rx level ++ gathered 65537 (width h) g 1 ry level)
    → r ≡ rebuilt_half h g 0 b level ++ rebuilt_half h g 1 b level
rebuilt_level h g b level {rx} {ry} f i t n ex ey er =
    let x = gathered 65537 (width h) g 0 rx level in
    let y = gathered 65537 (width h) g 1 ry level in
    let l : length x ≡ 2 ^ level * width h = length_gathered 65537 (width h) g rx level (omega arith) n f in
    let half = folded 65537 (root_of fermat) (width h) level in
    er ∙ ap₂ (λ (u v : List ℕ). half u ++ half v) (take_at x y (2 ^ level * width h) l) (drop_at x y (2 ^ level * width h) l)
    ∙ ap₂ (λ (u v : List ℕ). half (gathered 65537 (width h) g 0 u level) ++ half (gathered 65537 (width h) g 1 v level)) ex ey
    ∙ ap₂ ◌++◌ (folded_gathered h g b level (omega arith) f i t) (folded_gathered h g b level (omega arith) f i t)

-- ITS WORDS are of the field
words_half : (h : Header) (g : List ℕ) (y : ℕ) {b : List ℕ} (l : ℕ) → Words 65537 b → Words 65537 (rebuilt_half h g y b l)
unfolding rebuilt_half
words_half h g zero zero u = u
words_half h g (suc y) zero u = words_scaled 65537 (lit< tt) _ _
words_half h g y (suc l) u = words_lifted 65537 (width h) _ _ _ _ (lit< tt) (λ j t. words_mixed 65537 (lit< tt) _ _ _)

pub words_rebuilt : (h : Header) (g : List ℕ) {b : List ℕ} (l : ℕ) → Words 65537 b → Words 65537 (rebuilt h g b l)
words_rebuilt h g l u = words_append 65537 (lit< tt) (words_half h g 0 l u) (words_half h g 1 l u)

pub finished : (h : Header) (g b : List ℕ) (level : ℕ) {a e : ℕ} {r : List ℕ} → Places (width h) level a e
    → r ≡ rebuilt_half h g 0 b level ++ rebuilt_half h g 1 b level
    → replicate a 0 ++ (r ++ drop e g) ≡ log_with h g b level
finished h g b level {a} {e} {r} at er =
    ap₂ (λ (u v : ℕ). replicate u 0 ++ (r ++ drop v g)) (place_start at) (place_end at)
    ∙ ap (λ (u : List ℕ). replicate (level_at h level) 0 ++ (u ++ drop (level_at h level + stripe_size h level) g)) er
