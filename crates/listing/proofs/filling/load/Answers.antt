-- `listing::filling::load` meets its contract: each turn stores the word of two bytes. Assumes nothing.
use Rattle.std.proofs.Common.{refl, sym, ap, ap₂, ◌∙◌, ℕ, ◌<◌, ◌+◌, ◌*◌, length, arith, add-one, get_or, get_or-set_other, get_or-set_same, below_more}
use Rattle.std.proofs.lemmas.List.{ext_get_or}
use Rattle.listing.specs.Listing.{pairs}
use Rattle.listing.proofs.Writes.{length_pairs, pair_at}
use Rattle.listing.proofs.filling.load.Goals as goal

pub loop-i-preserved : goal.loop-i-preserved
loop-i-preserved c =
    let i = c.loop-i.i in
    let bytes = c.args.bytes.now in
    let room : i < length c.loop-i.words = omega arith in
    let low = c.from.ensures in
    let high = c.from-in-loop-i.ensures ∙ ap (λ (j : ℕ). get_or bytes j 0) (add-one (2 * i)) in
    let b = c.loop-i-test.true in
    below_more _ _ (λ k h. get_or-set_other c.loop-i.words i k _ 0 (omega arith) ∙ c.loop-i.invariant k h)
    (get_or-set_same c.loop-i.words i _ 0 room ∙ ap₂ (λ (x y : ℕ). x + 256 * y) low high ∙ sym (pair_at bytes i (2 * i) refl (omega (arith, c.requires))))

pub returns : goal.returns
returns c =
    let bytes = c.args.bytes.now in
    let long = length_pairs bytes (length c.args.words.now) c.requires in
    ext_get_or 0 c.loop-i.words (pairs bytes) (omega (arith, long)) (λ k b. c.loop-i.invariant k (omega arith))
