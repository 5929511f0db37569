-- `listing::list` meets its contract: what is put at the front of the buffer is the listing. Assumes nothing.
use Rattle.std.proofs.Common.{◌≡◌, sym, ap, ◌∙◌, List, ℕ, ◌++◌, min, length, take, drop, arith}
use Rattle.print_lines.specs.Putting.{put, put_end}
use Rattle.print_lines.proofs.PutTexts.{front_end, front_put}
use Rattle.listing.specs.Listing.{Filled, fill, text_of, listing}
use Rattle.listing.proofs.Opening.{InRange}
use Rattle.listing.proofs.Inputs.{short_input, out_of_range, in_range}
use Rattle.listing.proofs.list.Goals as goal

module _ (input l : List ℕ) {f : Filled} (e : fill input ≡ f) where
  listed_end : {n : ℕ} → n ≡ put_end l 0 (text_of f) → n ≡ min (length (listing input)) (length l)
  listed_end p = p ∙ ap (λ (x : Filled). put_end l 0 (text_of x)) (sym e) ∙ front_end l (listing input)

  listed : {l' : List ℕ} → l' ≡ put l 0 (text_of f) → l' ≡ take (length l) (listing input) ++ drop (length (listing input)) l
  listed p = p ∙ ap (λ (x : Filled). put l 0 (text_of x)) (sym e) ∙ front_put l (listing input)

pub returns-in_default-clause-value : goal.returns-in_default-clause-value
returns-in_default-clause-value c =
    let a = c.args in listed_end a.input.now a.out.now (short_input a.input.now c.in_default.len_below) c.put_refusal.ensures.value

pub returns-in_default-clause-out_after : goal.returns-in_default-clause-out_after
returns-in_default-clause-out_after c =
    let a = c.args in listed a.input.now a.out.now (short_input a.input.now c.in_default.len_below) c.put_refusal.ensures.out_after

pub returns-then-k-lt1-clause-value : goal.returns-then-k-lt1-clause-value
returns-then-k-lt1-clause-value c =
    let a = c.args in
    let d : InRange c.from-k.result c.from-s.result → ⊥ = λ r. omega (arith, c.then-k-lt1.either, r) in
    listed_end a.input.now a.out.now (out_of_range a.input.now c.in-len2-up.len_at_least c.from-k.ensures c.from-s.ensures d)
    c.put_refusal-then-k-lt1.ensures.value

pub returns-then-k-lt1-clause-out_after : goal.returns-then-k-lt1-clause-out_after
returns-then-k-lt1-clause-out_after c =
    let a = c.args in
    let d : InRange c.from-k.result c.from-s.result → ⊥ = λ r. omega (arith, c.then-k-lt1.either, r) in
    listed a.input.now a.out.now (out_of_range a.input.now c.in-len2-up.len_at_least c.from-k.ensures c.from-s.ensures d)
    c.put_refusal-then-k-lt1.ensures.out_after

pub returns-clause-value : goal.returns-clause-value
returns-clause-value c =
    let a = c.args in
    let r : InRange c.from-k.result c.from-s.result = (c.if-k-lt1.false, c.if-k-gt5.false, c.if-s-lt1.false, c.if-s-gt16.false) in
    listed_end a.input.now a.out.now (in_range a.input.now c.in-len2-up.len_at_least c.from-k.ensures c.from-s.ensures r) c.list_writes.ensures.value

pub returns-clause-out_after : goal.returns-clause-out_after
returns-clause-out_after c =
    let a = c.args in
    let r : InRange c.from-k.result c.from-s.result = (c.if-k-lt1.false, c.if-k-gt5.false, c.if-s-lt1.false, c.if-s-gt16.false) in
    listed a.input.now a.out.now (in_range a.input.now c.in-len2-up.len_at_least c.from-k.ensures c.from-s.ensures r) c.list_writes.ensures.out_after
