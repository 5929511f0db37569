-- `stripe_decoding::decoding::decode_stripe` meets its contract, by the laws of proofs/DecodedWords. Assumes nothing.
use Rattle.std.proofs.Common.{◌≡◌, refl, sym, ap, ◌∙◌, ◌≤◌, length, rules}
use Rattle.code.specs.Stripe.{block_words}
use Rattle.layout.specs.Header.{stripe_of}
use Rattle.layout.specs.Refusals.{answer_number}
use Rattle.layout.proofs.Refusals.{ok_number, err_number}
use Rattle.image.specs.Erasures.{erasures_in, marks_of}
use Rattle.image.specs.Image.{words_of}
use Rattle.image.specs.Loading.{stripe_in}
use Rattle.judging.specs.Decoding.{decoded_words}
use Rattle.stripe_decoding.specs.Decoding.{decode_stripe}
use Rattle.stripe_decoding.proofs.DecodedWords.{Comes, comes, blocks_inside, size_inside, words_left, cleared_last}
use Rattle.stripe_decoding.proofs.decoding.decode_stripe.Goals.{Joined-is_ok, then-is_ok, else-is_ok}
use Rattle.stripe_decoding.proofs.decoding.decode_stripe.Goals as goal

-- the words that stay: those of the blocks where the stripe is taken, and else none
some : (c : Joined-is_ok) → answer_number c.lay_stripe-answer.result ≡ 0 → c.if-is_ok.size ≡ block_words (stripe_of c.args.reading.header.header c.args.level)
some c z = elim c.if-is_ok.branch [
  | then-is_ok w ↦ w.size-is ∙ rw (w.two_to.ensures, w.width.ensures) refl
  | else-is_ok w ↦ absurd (err_number c.lay_stripe-answer.result (sym c.is_ok.ensures.value ∙ w.if-is_ok.false) z)
]

none : (c : Joined-is_ok) → (answer_number c.lay_stripe-answer.result ≡ 0 → ⊥) → c.if-is_ok.size ≡ 0
none c d = elim c.if-is_ok.branch [
  | then-is_ok w ↦ absurd (d (ok_number c.lay_stripe-answer.result (sym c.is_ok.ensures.value ∙ w.if-is_ok.true)))
  | else-is_ok w ↦ w.size-is
]

found : (c : Joined-is_ok) → let h = c.args.reading.header.header in let l = c.args.level in
    Comes (block_words (stripe_of h l)) (decode_stripe h c.args.reading.image.now (erasures_in c.args.reading.erasures.now) l)
found c =
    let r = c.args.reading in
    let h = r.header.header in
    comes (stripe_of h c.args.level) (marks_of h (erasures_in r.erasures.now) c.args.level) (words_of (stripe_in h r.image.now c.args.level))

ends : (c : Joined-is_ok) → c.if-is_ok.size ≤ length c.lay_stripe-answer.new.out
ends c =
    let h = c.args.reading.header.header in
    size_inside (stripe_of h c.args.level) (found c) c.lay_stripe-answer.ensures.value (some c) (none c)
    (rw (c.lay_stripe-answer.auto.out, c.requires.out_len.0) (blocks_inside h c.args.level c.requires.within))

pub slice_bounds-fill-start : goal.slice_bounds-fill-start
slice_bounds-fill-start c = let e = ends (goal.at.slice_bounds-fill-start c).Joined-is_ok in search rules

pub slice_bounds-fill-count : goal.slice_bounds-fill-count
slice_bounds-fill-count c = ends (goal.at.slice_bounds-fill-count c).Joined-is_ok

pub returns-clause-out_after : goal.returns-clause-out_after
returns-clause-out_after c =
    let r = c.args.reading in
    let h = r.header.header in
    let l = c.args.level in
    let d = decode_stripe h r.image.now (erasures_in r.erasures.now) l in
    let j = (goal.at.returns-clause-out_after c).Joined-is_ok in
    cleared_last c.lay_stripe-answer.new.out c.fill-2.new.self c.if-is_ok.size (ends j) (c.fill-2.ensures.after (λ y e. e))
    ∙ words_left (stripe_of h l) (found j) c.lay_stripe-answer.ensures.value (some j) (none j) c.args.out.now c.lay_stripe-answer.new.out
    c.lay_stripe-answer.ensures.out_after
    ∙ ap (decoded_words d) (c.lay_stripe-answer.auto.out ∙ c.requires.out_len.0)
