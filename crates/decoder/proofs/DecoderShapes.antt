-- How many levels there are, the length of what each step of the decoder gives, its words, and that they are words of the field. Assumes nothing.
use mathlib.Core.Path.{◌≡◌, ◌∙◌}
use mathlib.Core.Bool.{Bool, false}
use mathlib.Core.List.{List}
use Prim.Native.Nat.{ℕ, suc, ◌+◌, ◌^◌, ◌≤◌, ◌<◌}
use native.Mathlib.Omega.{arith}
use lib.ListN.{length, get_or, take, drop}
use lib.Seq.{get_or-take}
use Rattle.field.specs.Power.{power}
use Rattle.field.specs.Words.{Words, table}
use Rattle.field.proofs.Laws.{minus_lt, times_lt}
use Rattle.field.proofs.Powers.{power_lt}
use Rattle.field.proofs.WordLists.{words_take, words_drop, words_append, words_table, length_table, get_or_table}
use Rattle.code.specs.Transform.{transform, untransform, turned}
use Rattle.code.specs.declared.Stripe.{Stripe}
use Rattle.code.specs.Stripe.{Numbers}
use Rattle.decoder.specs.steps.Decoder.{raised_at, raised, weighed_at, weighed, halves_unmixed, derived_at, derived, evaluated, selected_at, selected}
use Rattle.field.proofs.Booleans.{choice_lt}
use Rattle.code.proofs.Shapes.{take_half, drop_half, length_halves, length_transform, length_untransform, length_turned, append_low, append_high}
use Rattle.code.proofs.Shapes.{words_transform, words_untransform, words_turned}

-- a stripe has at most eleven levels
pub few_levels : {st : Stripe} → Numbers st → st.level ≤ 10
few_levels h = omega (arith, h.within, h.small)

-- the powers of g that are the factors
pub raised_at_lem : (p g l : ℕ) (es : List ℕ) (i : ℕ) → i < 2 ^ suc l → get_or (raised p g l es) i 0 ≡ power p g (get_or es i 0)
unfolding raised_at
raised_at_lem p g l es i b = get_or_table (2 ^ suc l) i (raised_at p g es) b

pub words_raised : (p : ℕ) → 1 < p → (g l : ℕ) (es : List ℕ) → Words p (raised p g l es)
unfolding raised_at
words_raised p h g l es = words_table p (omega arith) (2 ^ suc l) (raised_at p g es) (λ i _. power_lt p h g (get_or es i 0))

-- lengths
module _ (p l : ℕ) where
  pub length_weighed : (ms : List Bool) (ws c : List ℕ) → length (weighed p l ms ws c) ≡ 2 ^ suc l
  unfolding weighed
  length_weighed ms ws c = length_table (2 ^ suc l) (weighed_at p ms ws c)

  pub length_halves_unmixed : (w k t : ℕ) (c : List ℕ) → length c ≡ 2 ^ suc l → length (halves_unmixed p w k l t c) ≡ 2 ^ suc l
  unfolding halves_unmixed
  length_halves_unmixed w k t c e =
      let y = untransform p w k l (drop (2 ^ l) c) in
      length_halves l (untransform p w k l (take (2 ^ l) c)) (turned p w k t y) (length_untransform p w k l (take (2 ^ l) c) (take_half l c e))
      (length_turned p w k t y ∙ length_untransform p w k l (drop (2 ^ l) c) (drop_half l c e))

  pub length_derived : (c : List ℕ) → length c ≡ 2 ^ suc l → length (derived p l c) ≡ 2 ^ suc l
  unfolding derived
  length_derived c e = length_halves l (take (2 ^ l) c) (table (2 ^ l) (derived_at p l c)) (take_half l c e) (length_table (2 ^ l) (derived_at p l c))

  pub length_evaluated : (w k : ℕ) (c : List ℕ) → length c ≡ 2 ^ suc l → length (evaluated p w k l c) ≡ 2 ^ suc l
  unfolding evaluated
  length_evaluated w k c e =
      length_halves l (transform p w k l (take (2 ^ l) c)) (transform p w k l (drop (2 ^ l) c)) (length_transform p w k l (take (2 ^ l) c) (take_half l c e))
      (length_transform p w k l (drop (2 ^ l) c) (drop_half l c e))

  pub length_selected : (ms : List Bool) (ws c : List ℕ) → length (selected p l ms ws c) ≡ 2 ^ l
  unfolding selected
  length_selected ms ws c = length_table (2 ^ l) (selected_at p l ms ws c)

  -- words at an index
  pub weighed_at_lem : (ms : List Bool) (ws c : List ℕ) (i : ℕ) → i < 2 ^ suc l → get_or (weighed p l ms ws c) i 0 ≡ weighed_at p ms ws c i
  unfolding weighed
  weighed_at_lem ms ws c i b = get_or_table (2 ^ suc l) i (weighed_at p ms ws c) b

  pub derived_low : (c : List ℕ) (i : ℕ) → length c ≡ 2 ^ suc l → i < 2 ^ l → get_or (derived p l c) i 0 ≡ get_or c i 0
  unfolding derived
  derived_low c i e b = append_low (take (2 ^ l) c) (table (2 ^ l) (derived_at p l c)) (take_half l c e) i b ∙ get_or-take (2 ^ l) c i 0 b

  pub derived_high : (c : List ℕ) (i : ℕ) → length c ≡ 2 ^ suc l → i < 2 ^ l → get_or (derived p l c) (2 ^ l + i) 0 ≡ derived_at p l c i
  unfolding derived
  derived_high c i e b = append_high (take (2 ^ l) c) (table (2 ^ l) (derived_at p l c)) (take_half l c e) i ∙ get_or_table (2 ^ l) i (derived_at p l c) b

  pub selected_at_lem : (ms : List Bool) (ws c : List ℕ) (i : ℕ) → i < 2 ^ l → get_or (selected p l ms ws c) i 0 ≡ selected_at p l ms ws c i
  unfolding selected
  selected_at_lem ms ws c i b = get_or_table (2 ^ l) i (selected_at p l ms ws c) b

-- words of the field
module _ (p : ℕ) (h : 0 < p) (l : ℕ) where
  pub words_weighed : (ms : List Bool) (ws c : List ℕ) → Words p (weighed p l ms ws c)
  unfolding weighed weighed_at
  words_weighed ms ws c = words_table p h (2 ^ suc l) (weighed_at p ms ws c) (λ i _. choice_lt (get_or ms i false) h (times_lt p h _ _))

  pub words_halves_unmixed : (w k t : ℕ) {c : List ℕ} → Words p c → Words p (halves_unmixed p w k l t c)
  unfolding halves_unmixed
  words_halves_unmixed w k t {c} u =
      words_append p h {a = untransform p w k l (take (2 ^ l) c)} (words_untransform p h w k l (words_take p h (2 ^ l) u))
      (words_turned p h w k t (untransform p w k l (drop (2 ^ l) c)))

  pub words_derived : {c : List ℕ} → Words p c → Words p (derived p l c)
  unfolding derived derived_at
  words_derived {c} u = words_append p h {a = take (2 ^ l) c} (words_take p h (2 ^ l) u) (words_table p h (2 ^ l) (derived_at p l c) (λ i _. minus_lt p h _ _))

  pub words_evaluated : (w k : ℕ) {c : List ℕ} → Words p c → Words p (evaluated p w k l c)
  unfolding evaluated
  words_evaluated w k {c} u =
      words_append p h {a = transform p w k l (take (2 ^ l) c)} (words_transform p h w k l (words_take p h (2 ^ l) u))
      (words_transform p h w k l (words_drop p h (2 ^ l) u))

  pub words_selected : (ms : List Bool) (ws c : List ℕ) → Words p (selected p l ms ws c)
  unfolding selected selected_at
  words_selected ms ws c = words_table p h (2 ^ l) (selected_at p l ms ws c) (λ i _. times_lt p h _ _)
