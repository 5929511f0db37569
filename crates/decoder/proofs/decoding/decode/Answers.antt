-- `decoder::decoding::decode` meets its contract: the rows are weighed, or stand as they are where nothing is erased, the check on S and D is `consistent`, and
-- the blocks are those decoded, either way. Assumes nothing.
use Rattle.std.proofs.Common.{arith, ◌≡◌, ◌≤◌, ◌∙◌, sym, ap, ap₂, Bool, true, false, List, ◌++◌, ℕ, ◌+◌, ◌-◌, length, take, drop, replicate}
use lib.Dec.{lit<}
use borrow.Rule.Slice.PartMut.{put_mid}
use lib.ListN.{take-append-drop, length-drop}
use lib.Seq.{take_at, length-take-le}
use Rattle.field.specs.Power.{inverse}
use Rattle.field.specs.Words.{Words}
use Rattle.field.proofs.Primes.{fermat_prime, fermat_root}
use Rattle.code.specs.declared.Stripe.{Stripe}
use Rattle.code.specs.Rows.{lifted}
use Rattle.code.specs.Stripe.{Numbers, root_in, position_count, block_count, block_words, stripe_words}
use Rattle.code.proofs.Lifting.{length_lifted, two_halves}
use Rattle.code.proofs.RowLaws.{Parts, lent_rest, put_rest}
use Rattle.decoder.specs.Decoding.{is_consistent, blocks_in}
use Rattle.decoder.specs.Promises.{Parameters, Enough}
use Rattle.decoder.specs.steps.Decoder.{Factors, erased_count, raised, left_of, interpolated, unscaled, halves_column}
use Rattle.decoder.specs.steps.Decoder as Decoder
use Rattle.decoder.specs.steps.RowTests.{low_rows}
use Rattle.decoder.proofs.DecodeRows.{Holds, weighed_holds, spared_holds, halves_holds, holds_words, check_is, interpolated_blocks, unscaled_blocks}
use Rattle.decoder.proofs.DecodeRows.{leaves_blocks, leaves_zeros}
use Rattle.decoder.proofs.decoding.decode.Goals as goal
use Rattle.decoder.proofs.decoding.decode.Goals.{Joined-erased-gt0, then-erased-gt0, else-erased-gt0, then-erased-gt0-2, else-erased-gt0-2}

-- WHAT IS ASKED of the arguments, e is the count of erased positions
record Given (st : Stripe) (ms : List Bool) (ws rows : List ℕ) (e : ℕ) : Type 0 where
  numbers : Numbers st
  enough : Enough st.level ms
  are : Factors st ms ws
  long : length rows ≡ stripe_words st
  words : Words 65537 rows
  erased : e ≡ erased_count st.level ms

module _ {st : Stripe} {ms : List Bool} {ws rows : List ℕ} {e : ℕ} (g : Given st ms ws rows e) where
  stripe : Parameters 65537 (root_in st) st.k st.level st.first
  stripe = record { prime = fermat_prime; root = fermat_root _ (omega (arith, g.numbers.small)); within = g.numbers.within; aligned = g.numbers.aligned }

  -- THE PART after each step: f of each column
  abbrev Now : (List ℕ → List ℕ) → List ℕ → Type 0
  Now f x = Holds 65537 st.width (position_count st) (position_count st) rows f x

  abbrev weighed : List ℕ → List ℕ
  weighed c = Decoder.weighed 65537 st.level ms (Decoder.factors 65537 (root_in st) st.k st.level ms) c

  abbrev unmixed : List ℕ → List ℕ
  unmixed c = halves_column 65537 (root_in st) st.k st.level st.first ms c

  -- weighed, or not, and halves_unmixed
  weigh_now : {x y : List ℕ} → x ≡ y
      → y ≡ lifted st.width (position_count st) (position_count st) (Decoder.weighed 65537 st.level ms (raised 65537 3 st.level ws)) rows → Now weighed x
  weigh_now ex ey = rw ex (weighed_holds 65537 (root_in st) st.k st.level st.first st.width ms stripe g.enough g.words g.are.are ey)

  spare_now : {x : List ℕ} → e ≤ 0 → x ≡ rows → Now weighed x
  spare_now z ex =
      rw ex (spared_holds 65537 (root_in st) st.k st.level st.first st.width ms stripe g.enough g.words (omega (arith, g.erased)) g.long)

  halves_now : {x s : List ℕ} → Now weighed x
      → s ≡ lifted st.width (position_count st) (position_count st) (Decoder.halves_unmixed 65537 (inverse 65537 (root_in st)) st.k st.level st.first) x
      → Now unmixed s
  halves_now = halves_holds 65537 (root_in st) st.k st.level st.first st.width ms stripe g.enough g.words

  module _ {s : List ℕ} (S : Now unmixed s) where
    checked : {b : Bool} → b ≡ low_rows st.level e st.width s → b ≡ is_consistent st ms rows
    checked eb = eb ∙ check_is 65537 (root_in st) st.k st.level st.first st.width ms stripe g.enough g.words S g.erased

    -- the blocks, by either way
    interpolated_now : {x : List ℕ} → true ≡ is_consistent st ms rows
        → x ≡ lifted st.width (position_count st) (block_count st) (interpolated 65537 (root_in st) st.k st.level ms (raised 65537 3 st.level ws)) s
        → x ≡ blocks_in st ms rows
    interpolated_now c = interpolated_blocks 65537 (root_in st) st.k st.level st.first st.width ms stripe g.enough g.words (sym c) S g.are.are

    unscaled_now : {x : List ℕ} → e ≤ 0 → true ≡ is_consistent st ms rows
        → x ≡ lifted st.width (position_count st) (block_count st) (unscaled 65537 st.level) s ++ drop (block_words st) s
        → take (block_words st) x ≡ blocks_in st ms rows
    unscaled_now z c ex =
        let r = lifted st.width (position_count st) (block_count st) (unscaled 65537 st.level) s in
        unscaled_blocks 65537 (root_in st) st.k st.level st.first st.width ms stripe g.enough g.words (sym c) S (omega (arith, g.erased))
        (rw ex (take_at r (drop (block_words st) s) (block_words st) (length_lifted st.width (position_count st) (block_count st) (unscaled 65537 st.level) s)))

  -- WHAT IS LEFT once the rest of the part x is filled with zeros, of two halves of h words
  module _ (x : List ℕ) {h : ℕ} (eh : h ≡ block_words st) (long : length x ≡ length rows) where
    all_is : length x ≡ h + h
    all_is = omega (arith, g.long, two_halves st.level st.width)

    refused : {y : List ℕ} → false ≡ is_consistent st ms rows → y ≡ replicate (length x) 0 → y ≡ left_of st ms rows
    refused c ey =
        ey ∙ ap (λ (i : ℕ). replicate i 0) (long ∙ g.long) ∙ sym (leaves_zeros 65537 (root_in st) st.k st.level st.first st.width ms rows (sym c))

    decoded : {z : List ℕ} → true ≡ is_consistent st ms rows → take (block_words st) x ≡ blocks_in st ms rows
        → z ≡ replicate (length (take (length x - h) (drop h x))) 0 → put_mid h (length x - h) x z ≡ left_of st ms rows
    decoded {z} c eb ez =
        let p : Parts h x (take h x) (drop h x) = record { is = sym (take-append-drop h x); long = length-take-le h x (omega (arith, all_is)) } in
        let e : length (take (length x - h) (drop h x)) ≡ block_words st =
        ap length (lent_rest p) ∙ length-drop h x ∙ omega (arith, all_is) in
        (put_rest p z).is ∙ ap₂ (λ (i : ℕ) (b : List ℕ). take i x ++ b) eh (ez ∙ ap (λ (i : ℕ). replicate i 0) e)
        ∙ ap (λ (b : List ℕ). b ++ replicate (block_words st) 0) eb
        ∙ sym (leaves_blocks 65537 (root_in st) st.k st.level st.first st.width ms rows (sym c))

-- WHERE THE TWO WAYS JOIN, the part weighed or as it is: what is asked, and the part
given_at : (c : Joined-erased-gt0) → let a = c.args in Given a.st.stripe a.marks.now a.factors.now a.part.now c.count_erased-erased.result
given_at c =
    let r = c.requires in
    record {
      numbers = c.args.st.numbers;
      enough = r.enough.1;
      are = r.factors_are;
      long = r.part_len;
      words = r.words;
      erased = c.count_erased-erased.ensures;
    }

weighed_at_lem : (c : Joined-erased-gt0) → Now (given_at c) (weighed (given_at c)) c.if-erased-gt0.part
weighed_at_lem c =
    elim c.if-erased-gt0.branch [
      | then-erased-gt0 w ↦ weigh_now (given_at c) w.part-is w.weigh.ensures
      | else-erased-gt0 w ↦ spare_now (given_at c) w.if-erased-gt0.false w.part-is
    ]

pub unmix_halves-requires-clause-words : goal.unmix_halves-requires-clause-words
unmix_halves-requires-clause-words c =
    let j = (goal.at.unmix_halves-requires-clause-words c).Joined-erased-gt0 in
    holds_words (weighed_at_lem j) (lit< tt) c.requires.words

pub returns-then-not-has_low_degree : goal.returns-then-not-has_low_degree
returns-then-not-has_low_degree c =
    let j = (goal.at.returns-then-not-has_low_degree c).Joined-erased-gt0 in
    let e = checked (given_at j) (halves_now (given_at j) (weighed_at_lem j) c.unmix_halves.ensures)
    (sym c.if-not-has_low_degree.true ∙ c.has_low_degree.ensures) in
    record {
      value = e;
      part_after = refused (given_at j) c.unmix_halves.new.part c.half_size-half.ensures (omega arith) e (c.fill.ensures.after (λ y q. q));
    }

pub interpolate-requires-clause-words : goal.interpolate-requires-clause-words
interpolate-requires-clause-words c =
    let j = (goal.at.interpolate-requires-clause-words c).Joined-erased-gt0 in
    holds_words (halves_now (given_at j) (weighed_at_lem j) c.unmix_halves.ensures) (lit< tt) c.requires.words

pub unscale-requires-clause-words : goal.unscale-requires-clause-words
unscale-requires-clause-words c =
    let j = (goal.at.unscale-requires-clause-words c).Joined-erased-gt0 in
    holds_words (halves_now (given_at j) (weighed_at_lem j) c.unmix_halves.ensures) (lit< tt) c.requires.words

pub returns : goal.returns
returns c =
    let a = c.args in
    let j = (goal.at.returns c).Joined-erased-gt0 in
    let S = halves_now (given_at j) (weighed_at_lem j) c.unmix_halves.ensures in
    let e = checked (given_at j) S (sym c.if-not-has_low_degree.false ∙ c.has_low_degree.ensures) in
    let b : take (block_words a.st.stripe) c.if-erased-gt0-2.part ≡ blocks_in a.st.stripe a.marks.now a.part.now =
    elim c.if-erased-gt0-2.branch [
      | then-erased-gt0-2 w ↦ interpolated_now (given_at j) S e (ap (take (block_words a.st.stripe)) w.part-is ∙ w.interpolate.ensures)
      | else-erased-gt0-2 w ↦ unscaled_now (given_at j) S w.if-erased-gt0-2.false e (w.part-is ∙ w.unscale.ensures)
    ] in
    record {
      value = e;
      part_after = decoded (given_at j) c.if-erased-gt0-2.part c.half_size-half.ensures (omega arith) e b (c.fill-2.ensures.after (λ y q. q));
    }
