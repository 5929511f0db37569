-- Erasures byte by byte: which lists are well formed, which positions survive, and what two images share. The room Erasures of specs/promises. Assumes nothing.
use mathlib.Core.Path.{◌≡◌, refl, sym, ap, ◌∙◌}
use mathlib.Core.Bool.{Bool, true, false, false≢true}
use mathlib.Core.List.{List, ◌∷◌}
use Prim.Native.Nat.{ℕ, zero, suc, ◌+◌, ◌*◌, ◌-◌, ◌/◌, ◌%◌, ◌^◌, ◌≤◌, ◌<◌}
use native.Mathlib.Nat.{suc-mul}
use native.Mathlib.Decide.{dec_lt}
use native.Mathlib.Omega.{arith}
use lib.Arith.{digits_lt}
use lib.Dec.{eqb}
use lib.ListN.{length, get_or}
use borrow.Author.Tests.{eqb-true, eq-eqb}
use Rattle.std.specs.Prelude.{◌↔◌}
use Rattle.field.proofs.Booleans.{both_true, first_true, second_true}
use Rattle.decoder.specs.Decoding.{survivors_from}
use Rattle.decoder.proofs.Survivors.{survivors_are}
use Rattle.layout.specs.declared.Header.{Header}
use Rattle.layout.specs.Header.{width, image_size, stripe_at}
use Rattle.image.specs.Image.{word_at}
use Rattle.image.specs.Erasures.{erasures_in, touched, position_at, is_erased}
use Rattle.two_readings.proofs.Comparing as Marks
use Rattle.vault.specs.promises.Decoding.{marks, words_in}
use Rattle.vault.specs.promises.Losses.{Needed}
use Rattle.vault.specs.promises.Erasures.{four_bytes, WordIs, offset_at, size_at, InPair, WellFormed, WellFormedIff, stripe_place, InPosition, Untouched}
use Rattle.vault.specs.promises.Erasures.{MarkedIff, Among, SurvivesIff, SurvivorsRise, SameWordsIff, SameOutside}
use Rattle.vault.proofs.StripeDecoding.{words_stand}
use Rattle.vault.proofs.PairsByBytes.{number_by_bytes, from_here, Rising, Clear, ArePairs, rise, risen, touch_none, untouched}
use Rattle.vault.proofs.StripeCall.{needed_within}

pub word_is : WordIs
word_is m q = number_by_bytes m (4 * q)

-- WELL FORMED is what the test of a list asks of its pairs
pairs_are : (e : List ℕ) → ArePairs (offset_at e) (size_at e) e
pairs_are e = record { offset = λ j. number_by_bytes e (8 * j); size = λ j. number_by_bytes e (8 * j + 4) }

rising_formed : (h : Header) (e : List ℕ) → length e % 8 ≡ 0 → Rising (offset_at e) (size_at e) 0 (image_size h) 0 (length e / 8) → WellFormed h e
rising_formed h e w R = record {
  whole = w;
  some = λ j b. R.some j (omega arith) (omega arith);
  inside = λ j b. R.inside j (omega arith) (omega arith);
  rising = λ j b. R.apart j (omega arith) (omega arith);
}

formed_rising : (h : Header) (e : List ℕ) → WellFormed h e → Rising (offset_at e) (size_at e) 0 (image_size h) 0 (length e / 8)
formed_rising h e W = record {
  first = λ b. omega arith;
  some = λ j a b. W.some j (omega arith);
  inside = λ j a b. W.inside j (omega arith);
  apart = λ j a b. W.rising j (omega arith);
}

pub well_formed_iff : WellFormedIff
well_formed_iff h e = (
  λ t. rising_formed h e (eqb-true (length e % 8) 0 (first_true _ _ t)) (risen (pairs_are e) 0 (image_size h) 0 (length e / 8) (second_true _ _ t)),
  λ W. both_true (eq-eqb (length e % 8) 0 W.whole) (rise (pairs_are e) 0 (image_size h) 0 (length e / 8) (formed_rising h e W)),
)

-- NO PAIR HAS ONE OF THE BYTES from a up to b if all are clear of them; and the other way round if no pair is empty
module _ (e : List ℕ) (a b : ℕ) where
  abbrev AllClear : Type 0
  AllClear = Clear (offset_at e) (size_at e) a b 0 (length e / 8)

  abbrev NoByte : Type 0
  NoByte = (x : ℕ) → a ≤ x → x < b → InPair e x → ⊥

  clear_bytes : AllClear → NoByte
  clear_bytes C x u v P = C P.pair (omega arith) (omega arith) (omega arith) (omega arith)

  bytes_clear : ((j : ℕ) → 8 * j + 8 ≤ length e → 1 ≤ size_at e j) → a < b → NoByte → AllClear
  bytes_clear some ab F j u v x y = at (dec_lt a (offset_at e j))
    where
      at : Dec (a < offset_at e j) → ⊥
      at (yes t) =
          F (offset_at e j) (omega arith) x (record { pair = j; among = omega arith; from = omega arith; to = omega (arith, some j (omega arith)) })
      at (no t) = F a (omega arith) ab (record { pair = j; among = omega arith; from = omega arith; to = y })

-- WHERE A STRIPE BEGINS in the image, and a word of it by its bytes
pub place_is : (h : Header) (l : ℕ) → stripe_at h l ≡ stripe_place h l
place_is h l =
    ap (λ (n : ℕ). elim (eqb l h.k) [ true ↦ 0 | false ↦ n * suc h.s + (2 ^ suc l - 2) * suc h.s ]) {x = 2 ^ suc h.k} {y = 2 * 2 ^ h.k} (omega arith)

pub word_by_bytes : (h : Header) (m : List ℕ) (l x : ℕ) → word_at m (stripe_at h l + x) ≡ four_bytes m (4 * (stripe_place h l + x))
word_by_bytes h m l x = word_is m (stripe_at h l + x) ∙ ap (λ (n : ℕ). four_bytes m (4 * (n + x))) (place_is h l)

-- a stripe's word j of position i
pub stripe_word : (h : Header) (m : List ℕ) (l i j : ℕ) → i < 2 ^ suc l → j < suc h.s
    → get_or (words_in h m l) (i * suc h.s + j) 0 ≡ four_bytes m (4 * (stripe_place h l + (i * suc h.s + j)))
stripe_word h m l i j a b = words_stand h m l (i * suc h.s + j) (digits_lt a b) ∙ word_by_bytes h m l (i * suc h.s + j)

-- THE BYTES OF A POSITION, from `begin` up to `end`
module _ (h : Header) (l i : ℕ) where
  abbrev begin : ℕ
  begin = position_at h l i

  abbrev end : ℕ
  end = begin + 4 * width h

  from_is : 4 * (stripe_place h l + i * suc h.s) ≡ begin
  from_is = omega (arith, place_is h l)

  to_is : 4 * (stripe_place h l + suc i * suc h.s) ≡ end
  to_is = omega (arith, place_is h l, suc-mul i (suc h.s))

  in_position : (x : ℕ) → begin ≤ x → x < end → InPosition h l i x
  in_position x a b = record { from = rw from_is a; to = rw to_is b }

  module _ (e : List ℕ) where
    abbrev AllApart : Type 0
    AllApart = AllClear e begin end

    clear_untouched : AllApart → Untouched h e l i
    clear_untouched C x P = clear_bytes e begin end C x (rw from_is at P.from) (rw to_is at P.to)

    untouched_clear : WellFormed h e → Untouched h e l i → AllApart
    untouched_clear W U = bytes_clear e begin end W.some (omega arith) (λ x a b. U x (in_position x a b))

    -- what is not erased is untouched, and the other way round
    pub erased_iff : WellFormed h e → (is_erased h (erasures_in e) l i ≡ false) ↔ Untouched h e l i
    erased_iff W = (
      λ q. clear_untouched (untouched (pairs_are e) begin end 0 (length e / 8) q),
      λ U. touch_none (pairs_are e) begin end 0 (length e / 8) (untouched_clear W U),
    )

    -- its mark tells whether a pair touches it
    module _ (few : h.k ≤ 10) (within : l ≤ h.k) (low : i < 2 ^ suc l) where
      mark_is : get_or (marks h e l) i false ≡ touched begin end (erasures_in e)
      mark_is = Marks.mark_is h l i few within low (erasures_in e)

      unmarked_clear : get_or (marks h e l) i false ≡ false → AllApart
      unmarked_clear q = untouched (pairs_are e) begin end 0 (length e / 8) (sym mark_is ∙ q)

pub marked_iff : MarkedIff
marked_iff h e l i few within W low =
    let m = mark_is h l i e few within low in
    let u = erased_iff h l i e W in
    (λ q. u.0 (sym m ∙ q), λ U. m ∙ u.1 U)

-- THE SURVIVORS are all that are not marked
later : (b : Bool) (i x : ℕ) (s : List ℕ) → Among x s → Among x (elim b [ true ↦ s | false ↦ i ∷ s ])
later true i x s A = A
later false i x s A = record { place = suc A.place; within = omega (arith, A.within); stands = A.stands }

here : (b : Bool) (i : ℕ) (s : List ℕ) → b ≡ false → Among i (elim b [ true ↦ s | false ↦ i ∷ s ])
here true i s e = absurd (false≢true (sym e))
here false i s e = record { place = 0; within = omega arith; stands = refl }

among_survivors : (ms : List Bool) (i n x : ℕ) → i ≤ x → x < i + n → get_or ms x false ≡ false → Among x (survivors_from ms i n)
unfolding survivors_from
among_survivors ms i zero x a b q = absurd (omega arith)
among_survivors ms i (suc n) x a b q =
    from_here (λ (y : ℕ). y < i + suc n → get_or ms y false ≡ false → Among y (survivors_from ms i (suc n))) i
    (λ v r. here (get_or ms i false) i (survivors_from ms (suc i) n) r)
    (λ y u v r. later (get_or ms i false) i y (survivors_from ms (suc i) n) (among_survivors ms (suc i) n y u (omega arith) r)) x a b q

pub survives_iff : SurvivesIff
survives_iff h e l i few within W =
    let S = survivors_are (marks h e l) 0 (2 ^ suc l) in (
      λ A.
          let low : i < 2 ^ suc l = omega (arith, S.high A.place A.within, A.stands) in
          let free : get_or (marks h e l) i false ≡ false = rw A.stands at (S.kept A.place A.within) in
          (low, (marked_iff h e l i few within W low).0 free),
      λ t. among_survivors (marks h e l) 0 (2 ^ suc l) i (omega arith) (omega (arith, t.0)) ((marked_iff h e l i few within W t.0).1 t.1),
    )

pub survivors_rise : SurvivorsRise
survivors_rise h e l = (survivors_are (marks h e l) 0 (2 ^ suc l)).rising

-- TWO IMAGES have the same words that survive where the four bytes of each are the same
pub same_words_iff : SameWordsIff
same_words_iff h e one other few W =
    let free = λ (l : ℕ) (needed : Needed h l) (i : ℕ) (low : i < 2 ^ suc l). marked_iff h e l i few (needed_within h l needed) W low in (
      λ S l i j needed low b U.
          let x : ℕ = i * suc h.s + j in
          sym (word_by_bytes h one l x) ∙ S.same l needed i j low b ((free l needed i low).1 U) ∙ word_by_bytes h other l x,
      λ F. record {
        same = λ l needed i j low b q.
            let x : ℕ = i * suc h.s + j in
            word_by_bytes h one l x ∙ F l i j needed low b ((free l needed i low).0 q) ∙ sym (word_by_bytes h other l x);
      },
    )

-- and they have where they are equal outside the pairs
same_four : (one other : List ℕ) (x : ℕ) → ((y : ℕ) → x ≤ y → y < x + 4 → get_or one y 0 ≡ get_or other y 0) → four_bytes one x ≡ four_bytes other x
same_four one other x f =
    omega (
      arith,
      f x (omega arith) (omega arith),
      f (x + 1) (omega arith) (omega arith),
      f (x + 2) (omega arith) (omega arith),
      f (x + 3) (omega arith) (omega arith),
    )

pub same_outside : SameOutside
same_outside h e one other few same = record {
  same = λ l needed i j low b q.
      let x = 4 * (stripe_at h l + (i * width h + j)) in
      let U : Untouched h e l i = clear_untouched h l i e (unmarked_clear h l i e few (needed_within h l needed) low q) in
      number_by_bytes one x ∙ same_four one other x (λ y u v. same y (U y (in_position h l i y (omega arith) (omega arith))))
      ∙ sym (number_by_bytes other x);
}
