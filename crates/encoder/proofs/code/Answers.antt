-- `encoder::code` meets its contract: the blocks are turned over the second half, and each half is mixed in its place. Assumes nothing.
use Rattle.std.proofs.Common.{◌≡◌, List, ◌++◌, ℕ, suc, ◌+◌, ◌-◌, ◌^◌, length, take, drop, sym, ap, ap₂, subst, ◌∙◌, arith}
use borrow.Rule.Slice.PartMut.{put_mid}
use lib.Dec.{lit<}
use lib.Seq.{sets, take_at, length-take-le}
use Rattle.field.specs.Words.{Words}
use Rattle.code.specs.Rows.{lifted}
use Rattle.code.specs.Transform.{transform, turned}
use Rattle.code.specs.declared.Stripe.{Stripe}
use Rattle.code.specs.Stripe.{coded, coded_rows, coded_stripe, root_in, block_count, block_words}
use Rattle.code.proofs.Shapes.{length_transform, length_turned, words_turned}
use Rattle.code.proofs.Lifting.{length_lifted, words_lifted, lifted_then, lifted_both}
use Rattle.code.proofs.RowLaws.{sets_behind, Parts, lent_front, lent_rest, put_front, put_rest}
use Rattle.encoder.proofs.code.Goals as goal

-- X and Y of all columns
coded_rows_lem : (w k l t width : ℕ) (bs x z : List ℕ) → x ≡ lifted width (2 ^ l) (2 ^ l) (transform 65537 w k l) bs
    → z ≡ lifted width (2 ^ l) (2 ^ l) (transform 65537 w k l) (lifted width (2 ^ l) (2 ^ l) (turned 65537 w k t) bs)
    → x ++ z ≡ coded_rows 65537 w k l t width bs
unfolding coded_rows coded
coded_rows_lem w k l t width bs x z ex ez =
    let n = 2 ^ l in
    let T = transform 65537 w k l in
    let U = turned 65537 w k t in
    ap₂ ◌++◌ ex (ez ∙ lifted_then width n n n U T bs (λ c h. length_turned 65537 w k t c ∙ h))
    ∙ lifted_both width n n n T (λ c. T (U c)) bs (length_transform 65537 w k l)
    ∙ ap (λ (m : ℕ). lifted width n m (coded 65537 w k l t) bs) {x = n + n} {y = 2 ^ suc l} (omega arith)

-- turned over the second half
turned_behind : (st : Stripe) (u : List ℕ) {n : ℕ} {v : List ℕ} → length u ≡ block_words st + block_words st → n ≡ block_words st
    → v ≡ sets u n (lifted st.width (block_count st) (block_count st) (turned 65537 (root_in st) st.k st.first) (take (block_words st) u))
    → v ≡ take (block_words st) u ++ lifted st.width (block_count st) (block_count st) (turned 65537 (root_in st) st.k st.first) (take (block_words st) u)
turned_behind st u long half_is e =
    (rw half_is at e) ∙ sets_behind (block_words st) u _ (long ∙ ap (λ (m : ℕ). block_words st + m) (sym (length_lifted _ _ _ _ _)))

-- and the first half the blocks
front_words : (a b : List ℕ) {n : ℕ} {v : List ℕ} → v ≡ a ++ b → length a ≡ n → Words 65537 a → Words 65537 (take n v)
front_words a b {n} e long w = rw (e, take_at a b n long) w

-- the part after each call, where u is as it is given: v, with the blocks in its first half, of n words, and the turned ones behind; x is the first half, mixed
module _ (st : Stripe) (n : ℕ) (u v x : List ℕ) (half_is : n ≡ block_words st) (long : length u ≡ block_words st + block_words st)
    (ev : v ≡ take (block_words st) u ++ lifted st.width (block_count st) (block_count st) (turned 65537 (root_in st) st.k st.first) (take (block_words st) u))
    (ex : x ≡ lifted st.width (block_count st) (block_count st) (transform 65537 (root_in st) st.k st.level) (take n v)) where
  abbrev blocks : List ℕ
  blocks = take (block_words st) u

  abbrev turned_blocks : List ℕ
  turned_blocks = lifted st.width (block_count st) (block_count st) (turned 65537 (root_in st) st.k st.first) blocks

  turned_parts : Parts n v blocks turned_blocks
  turned_parts = record { is = ev; long = length-take-le (block_words st) u (omega arith) ∙ sym half_is }

  -- X stands first
  mixed : x ≡ lifted st.width (block_count st) (block_count st) (transform 65537 (root_in st) st.k st.level) blocks
  mixed = ex ∙ ap (lifted st.width (block_count st) (block_count st) (transform 65537 (root_in st) st.k st.level)) (lent_front turned_parts)

  abbrev after_mix : List ℕ
  after_mix = x ++ drop n v

  mixed_parts : Parts n after_mix x turned_blocks
  mixed_parts = put_front turned_parts (ap length mixed ∙ length_lifted _ _ _ _ _ ∙ sym half_is)

  mix_words : Words 65537 (take (length after_mix - n) (drop n after_mix))
  mix_words =
      subst (Words 65537) (sym (lent_rest mixed_parts)) (words_lifted 65537 _ _ _ _ _ (lit< tt) (λ j b. words_turned 65537 (lit< tt) _ _ _ _))

  all_coded : (z : List ℕ)
      → z ≡ lifted st.width (block_count st) (block_count st) (transform 65537 (root_in st) st.k st.level) (take (length after_mix - n) (drop n after_mix))
      → put_mid n (length after_mix - n) after_mix z ≡ coded_stripe st blocks
  all_coded z ez =
      (put_rest mixed_parts z).is
      ∙ coded_rows_lem (root_in st) st.k st.level st.first st.width blocks x z mixed
      (ez ∙ ap (lifted st.width (block_count st) (block_count st) (transform 65537 (root_in st) st.k st.level)) (lent_rest mixed_parts))

pub cross_half-requires-clause-words : goal.cross_half-requires-clause-words
cross_half-requires-clause-words c =
    let st = c.args.st.stripe in
    front_words _ _ (turned_behind st c.args.part.now c.requires.part_len c.half_size-half.ensures c.turn.ensures)
    (length-take-le (block_words st) c.args.part.now (omega (arith, c.requires.part_len)) ∙ sym c.half_size-half.ensures) c.requires.words

pub cross_half-requires-2-clause-words : goal.cross_half-requires-2-clause-words
cross_half-requires-2-clause-words c =
    let st = c.args.st.stripe in
    mix_words st c.half_size-half.result c.args.part.now c.turn.new.part c.cross_half.new.half c.half_size-half.ensures c.requires.part_len
    (turned_behind st c.args.part.now c.requires.part_len c.half_size-half.ensures c.turn.ensures) c.cross_half.ensures

pub returns : goal.returns
returns c =
    let st = c.args.st.stripe in
    all_coded st c.half_size-half.result c.args.part.now c.turn.new.part c.cross_half.new.half c.half_size-half.ensures c.requires.part_len
    (turned_behind st c.args.part.now c.requires.part_len c.half_size-half.ensures c.turn.ensures) c.cross_half.ensures
    c.cross_half-2.new.half c.cross_half-2.ensures
