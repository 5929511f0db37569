-- The `lay_stripe` of two readings meets its contract. Assumes nothing.
use Rattle.std.proofs.Common.{◌≡◌, refl, sym, ap, ◌∙◌, ℕ, List}
use Rattle.field.proofs.Booleans.{if_else_true, if_else_false}
use Rattle.layout.specs.declared.Header.{Header}
use Rattle.image.specs.Erasures.{erasures_in}
use Rattle.judging.specs.Decoding.{decoded_number}
use Rattle.stripe_decoding.specs.Decoding.{decode_stripe}
use Rattle.two_readings.specs.Choosing.{chosen}
use Rattle.two_readings.specs.steps.Pairs.{IsReading}
use Rattle.two_readings.proofs.pair.TwoReadingsReadings.lay_stripe.Goals.{Joined-self-level, then-self-level, else-self-level}
use Rattle.two_readings.proofs.pair.TwoReadingsReadings.lay_stripe.Goals as goal

-- the reading that the stripe is taken from
taken : (c : Joined-self-level) → let r = c.args.self in let h = r.first.header.header in let e = r.first.erasures.now in let e' = r.second.erasures.now in
    IsReading h (chosen h e e' c.args.level r.first.image.now r.second.image.now) (chosen h e e' c.args.level e e') c.if-self-level.reading
taken c =
    let r = c.args.self in
    let t = r.choice c.args.level c.requires.there in
    elim c.if-self-level.branch [
      | then-self-level w ↦ let u = sym t ∙ w.if-self-level.true in rw w.reading-is
          (record { header = r.one_header; image = sym (if_else_true _ _ _ u); erasures = sym (if_else_true _ _ _ u) })
      | else-self-level w ↦ let u = sym t ∙ w.if-self-level.false in rw w.reading-is
          (record { header = refl; image = sym (if_else_false _ _ _ u); erasures = sym (if_else_false _ _ _ u) })
    ]

same : {g h : Header} {m n e f : List ℕ} (l : ℕ) → g ≡ h → m ≡ n → e ≡ f → decode_stripe g m (erasures_in e) l ≡ decode_stripe h n (erasures_in f) l
same l p q r = rw (p, q, r) refl

pub returns-clause-value : goal.returns-clause-value
returns-clause-value c =
    let k = taken (goal.at.returns-clause-value c).Joined-self-level in
    c.lay_stripe.ensures.value ∙ ap decoded_number (same c.args.level k.header k.image k.erasures)
