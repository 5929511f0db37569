-- TWO READINGS, EXCHANGED, AND THE SAME ONE TWICE: which of them a stripe is taken from, that their agreeing does not depend on their order, and what a
-- call then answers and leaves. The room TwoReadings of specs/promises. Assumes nothing.
use mathlib.Core.Path.{◌≡◌, refl, sym, ap, ap₂, ◌∙◌}
use mathlib.Core.Bool.{Bool, true, false, ◌&&◌, ◌||◌, and_comm, and_self, and_self_left, or_comm}
use mathlib.Core.List.{List, []}
use Prim.Native.Nat.{ℕ, suc, ◌+◌, ◌*◌, ◌^◌}
use native.Mathlib.Decide.{dec_lt, ℕ_discrete}
use native.Mathlib.Omega.{arith}
use borrow.Author.Tests.{eqb-true, eq-eqb}
use lib.Dec.{eqb}
use lib.ListN.{length, replicate}
use Rattle.std.proofs.lemmas.Bool.{or_right}
use Rattle.field.proofs.Booleans.{same_truth, if_else}
use Rattle.layout.specs.declared.Header.{Header}
use Rattle.layout.specs.Header.{width, raw_size, scratch_size, image_size, has_stripe, stripe_at}
use Rattle.layout.specs.Refusals.{Tests, done, refusal, if_taken}
use Rattle.layout.proofs.Refusals.{if_refused}
use Rattle.image.specs.Image.{word_at}
use Rattle.image.specs.Erasures.{erasures_in, is_erased, erasures_fit}
use Rattle.image.specs.Loading.{stripe_in}
use Rattle.judging.specs.Decoding.{Decoded}
use Rattle.recovery.specs.Verdicts.{Verdict}
use Rattle.recovery.specs.Recovery.{Recovered, records, recover}
use Rattle.recovery.specs.RecoveryCall.{recover_early, unnamed, answer_of, recovered_words}
use Rattle.two_readings.specs.Agreeing.{same_word, position_agrees, agrees_if_needed, readings_agree}
use Rattle.two_readings.specs.Choosing.{chosen, decoding_of_two}
use Rattle.two_readings.specs.RecoverTwoCall.{recover_two_early}
use Rattle.two_readings.specs.TwoTests.{two_tests}
use Rattle.two_readings.proofs.AllBelow.{all_true, all_alike}
use Rattle.two_readings.proofs.Chosen.{chosen_second, chosen_first}
use Rattle.vault.specs.promises.Losses.{Needed}
use Rattle.vault.specs.promises.Recovering.{in_image}
use Rattle.vault.specs.promises.TwoReadings.{SecondHasMore, ChoiceIs, ExchangedShelf, Ties, ExchangedStripe, Exchanged, TwiceIsOnce}
use Rattle.vault.proofs.StripesEnd.{stripes_alike}
use Rattle.vault.proofs.TwoNumbers.{two_asked_iff}

-- THE READING that a stripe is taken from
pub choice_is : ChoiceIs
choice_is h m e m' e' l = (
  λ q. ap₂ (λ (x y : List ℕ). in_image h x y l) (chosen_second h e e' l m m' q) (chosen_second h e e' l e e' q),
  λ d. ap₂ (λ (x y : List ℕ). in_image h x y l) (chosen_first h e e' l m m' d) (chosen_first h e e' l e e' d),
)

-- AGREEING, exchanged
equal_exchanged : (a b : ℕ) → eqb a b ≡ eqb b a
equal_exchanged a b = same_truth (eqb a b) (eqb b a) (λ t. eq-eqb b a (sym (eqb-true a b t))) (λ t. eq-eqb a b (sym (eqb-true b a t)))

word_exchanged : (m m' : List ℕ) (at j : ℕ) → same_word m m' at j ≡ same_word m' m at j
unfolding same_word
word_exchanged m m' at j = equal_exchanged (word_at m (at + j)) (word_at m' (at + j))

module _ (h : Header) (m e m' e' : List ℕ) where
  position_exchanged : (l i : ℕ) → position_agrees h m e m' e' l i ≡ position_agrees h m' e' m e l i
  unfolding position_agrees
  position_exchanged l i =
      ap₂ (λ (a b : Bool). a || b) (or_comm (is_erased h (erasures_in e) l i) (is_erased h (erasures_in e') l i))
      (all_alike (width h) _ _ (λ j b. word_exchanged m m' (stripe_at h l + i * width h) j))

  stripe_exchanged : (l : ℕ) → agrees_if_needed h m e m' e' l ≡ agrees_if_needed h m' e' m e l
  unfolding agrees_if_needed
  stripe_exchanged l = ap (λ (b : Bool). if_else (has_stripe h l) b true) (all_alike (2 ^ suc l) _ _ (λ i b. position_exchanged l i))

  agree_exchanged : readings_agree h m e m' e' ≡ readings_agree h m' e' m e
  agree_exchanged = all_alike (suc h.k) _ _ (λ l b. stripe_exchanged l)

-- and the same reading twice
word_itself : (m : List ℕ) (at j : ℕ) → same_word m m at j ≡ true
unfolding same_word
word_itself m at j = eq-eqb (word_at m (at + j)) (word_at m (at + j)) refl

module _ (h : Header) (m e : List ℕ) where
  position_itself : (l i : ℕ) → position_agrees h m e m e l i ≡ true
  unfolding position_agrees
  position_itself l i = or_right _ _ (all_true (width h) _ (word_itself m (stripe_at h l + i * width h)))

  stripe_itself : (l : ℕ) → agrees_if_needed h m e m e l ≡ true
  unfolding agrees_if_needed
  stripe_itself l = either (has_stripe h l) (all_true (2 ^ suc l) _ (position_itself l))
    where
      either : (t : Bool) {b : Bool} → b ≡ true → if_else t b true ≡ true
      either true q = q
      either false q = refl

  agree_itself : readings_agree h m e m e ≡ true
  agree_itself = all_true (suc h.k) _ stripe_itself

-- THE TESTS, exchanged and of the same reading twice
swap_sizes : (a b sizes : Bool) → (a && (b && sizes)) ≡ (b && (a && sizes))
swap_sizes true b sizes = refl
swap_sizes false true sizes = refl
swap_sizes false false sizes = refl

tests_exchanged : (h : Header) (m e m' e' : List ℕ) (sizes : Bool) (rest : Tests)
    → refusal (two_tests h m e m' e' sizes rest) ≡ refusal (two_tests h m' e' m e sizes rest)
tests_exchanged h m e m' e' sizes rest =
    rw (
      swap_sizes (eqb (length m) (image_size h)) (eqb (length m') (image_size h)) sizes,
      and_comm (erasures_fit h e) (erasures_fit h e'),
      agree_exchanged h m e m' e',
    ) refl

early_once : (h : Header) (m e out scratch : List ℕ) → recover_two_early h m e m e out scratch ≡ recover_early h m e out scratch
unfolding refusal
early_once h m e out scratch =
    let sizes = eqb (length out) (raw_size h) && eqb (length scratch) (scratch_size h) in
    rw (and_self_left (eqb (length m) (image_size h)) sizes, and_self (erasures_fit h e), agree_itself h m e) refl

pub exchanged_shelf : ExchangedShelf
exchanged_shelf h m e m' e' l = tests_exchanged h m e m' e' true _

-- ONE STRIPE
module _ (h : Header) (e e' : List ℕ) (l : ℕ) (apart : Ties h e e' l → ⊥) {A : Type 0} (x y : A) where
  choice_exchanged : chosen h e e' l x y ≡ chosen h e' e l y x
  choice_exchanged = by (dec_lt _ _)
    where
      by : Dec (SecondHasMore h e e' l) → chosen h e e' l x y ≡ chosen h e' e l y x
      by (yes q) = chosen_second h e e' l x y q ∙ sym (chosen_first h e' e l y x (λ t. omega arith))
      by (no d) = chosen_first h e e' l x y d ∙ sym (chosen_second h e' e l y x (omega arith))

pub exchanged_stripe : ExchangedStripe
exchanged_stripe h m e m' e' l apart =
    let images = choice_exchanged h e e' l apart m m' in (
      ap₂ (λ (x y : List ℕ). in_image h x y l) images (choice_exchanged h e e' l apart e e'),
      ap₂ (λ (n : ℕ) (x : List ℕ). if_taken n (stripe_in h x l) []) (exchanged_shelf h m e m' e' l) images,
    )

-- WHAT A CALL ANSWERS AND LEAVES is by the number of its tests, and by what needed stripes decode to
module _ (h : Header) (out scratch : List ℕ) where
  abbrev answers : ℕ → Recovered → Verdict
  answers n x = if_taken n (answer_of x) (unnamed n)

  abbrev leaves : ℕ → Recovered → List ℕ
  leaves n x = if_taken n (recovered_words x (raw_size h)) out

  abbrev room : ℕ → List ℕ
  room n = if_taken n (replicate (scratch_size h) 0) scratch

  -- and where a test of the call fails, by that number alone
  call_alike : {n n' : ℕ} → n ≡ n' → {d d' : ℕ → Decoded} → (n ≡ 0 → (l : ℕ) → Needed h l → d l ≡ d' l)
      → (answers n (recover h d) ≡ answers n' (recover h d')) × (leaves n (recover h d) ≡ leaves n' (recover h d')) × (room n ≡ room n')
  call_alike {n} {n'} e {d} {d'} same = by (ℕ_discrete n 0)
    where
      by : Dec (n ≡ 0)
          → (answers n (recover h d) ≡ answers n' (recover h d')) × (leaves n (recover h d) ≡ leaves n' (recover h d')) × (room n ≡ room n')
      by (yes z) = let x = stripes_alike h (records h) (same z) in (ap₂ answers e x, ap₂ leaves e x, ap room e)
      by (no f) =
          let f' : n' ≡ 0 → ⊥ = λ z. f (e ∙ z) in (
            if_refused _ _ f ∙ ap unnamed e ∙ sym (if_refused _ _ f'),
            if_refused (recovered_words (recover h d) (raw_size h)) out f ∙ sym (if_refused (recovered_words (recover h d') (raw_size h)) out f'),
            ap room e,
          )

pub exchanged : Exchanged
exchanged h m e m' e' out scratch tied = call_alike h out scratch (tests_exchanged h m e m' e' _ done) same
  where
    same : recover_two_early h m e m' e' out scratch ≡ 0 → (l : ℕ) → Needed h l → decoding_of_two h m e m' e' l ≡ decoding_of_two h m' e' m e l
    same asked l need = by (ℕ_discrete _ _)
      where
        by : Dec (Ties h e e' l) → decoding_of_two h m e m' e' l ≡ decoding_of_two h m' e' m e l
        by (yes t) =
            (choice_is h m e m' e' l).1 (λ q. omega arith) ∙ tied ((two_asked_iff h m e m' e' out scratch).0 asked) l need t
            ∙ sym ((choice_is h m' e' m e l).1 (λ q. omega arith))
        by (no apart) = (exchanged_stripe h m e m' e' l apart).0

pub twice_is_once : TwiceIsOnce
twice_is_once h m e out scratch =
    call_alike h out scratch (early_once h m e out scratch) (λ _ l need. (choice_is h m e m e l).1 (λ q. omega arith))
