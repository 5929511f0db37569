-- `store::writing::copy_reduced` meets its contract: what is copied stands before the place that it is copied to. Assumes nothing.
use Rattle.std.proofs.Common.{◌≡◌, ℕ, List, ◌++◌, ◌+◌, ◌-◌, ◌≤◌, length, take, drop, sym, ap, ap₂, ◌∙◌, arith}
use Rattle.std.proofs.lemmas.List.Edits.{sets}
use Rattle.field.proofs.WordLists.{part_inside}
use Rattle.store.specs.Buffers.{reduced}
use Rattle.store.proofs.Stores.{length_copy, put_over}
use Rattle.store.proofs.writing.copy_reduced.Goals as goal

copied : (log : List ℕ) (from to n : ℕ) {x y r : List ℕ} → from + n ≤ to → to + n ≤ length log → x ≡ take to log → y ≡ drop to log
    → r ≡ reduced 65537 (take (from + n - from) (drop from x))
    → x ++ (r ++ drop n y) ≡ sets log to (reduced 65537 (take n (drop from log)))
copied log from to n {r = r} b h ex ey er =
    let es : from + n - from ≡ n = omega arith in
    let part : r ≡ reduced 65537 (take n (drop from log)) =
    er ∙ ap (reduced 65537) (ap₂ (λ (m : ℕ) (z : List ℕ). take m (drop from z)) es ex ∙ part_inside from n to log b) in
    rw (ex, ey) (put_over to n log r (sym (ap length part ∙ length_copy 65537 from n log (omega arith))) h) ∙ ap (sets log to) part

pub returns : goal.returns
returns c =
    let a = c.args in
    let e = c.split_at_mut-below.ensures in
    copied a.log.now a.from a.to a.count c.requires.count_bound c.requires.count_in_bounds e.front e.back c.reduce_row.ensures
