-- `decoder::decoding::same_row` meets its contract. Assumes nothing.
use Rattle.std.proofs.Common.{◌≡◌, ℕ, ◌+◌, ◌-◌, ◌∙◌, ap₂, take, drop, arith}
use lib.Dec.{eqb}
use Rattle.std.specs.Cmp.Lexicographic.{pointwise}
use Rattle.std.proofs.lemmas.Bool.Decides.{Decides-eqb}
use Rattle.std.proofs.lemmas.Slice.Eq.{slice_eq-Decides}
use Rattle.decoder.proofs.AllTo.{parts_same}
use Rattle.decoder.proofs.decoding.same_row.Goals as goal

pub returns : goal.returns
returns c =
    let a = c.args in
    let l = a.part.now in
    let low : a.low + a.width - a.low ≡ a.width = omega arith in
    let high : a.high + a.width - a.high ≡ a.width = omega arith in
    parts_same a.width a.low a.high l c.requires.0 c.requires.1
    (slice_eq-Decides Decides-eqb (take a.width (drop a.low l)) (take a.width (drop a.high l)) _
    (c.eq.ensures ∙ ap₂ (λ (m n : ℕ). pointwise eqb (take m (drop a.low l)) (take n (drop a.high l))) low high))
