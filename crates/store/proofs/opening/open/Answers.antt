-- `store::opening::open` meets its contract. Assumes nothing.
use mathlib.Core.Path.{◌≡◌, sym, ap, ◌∙◌}
use mathlib.Core.List.{List}
use Prim.Native.Nat.{ℕ}
use lib.ListN.{length, replicate}
use Rattle.layout.specs.Header.{header_of, raw_size, full_size}
use Rattle.layout.proofs.Refusals.{if_taken_lem}
use Rattle.store.specs.Buffers.{Buffers, buffers, opened}
use Rattle.store.specs.StoreCalls.{open_number, open_leaves}
use Rattle.store.proofs.OpenRefusals.{open_taken, open_words}
use Rattle.store.proofs.opening.open.Goals as goal

emptied : (k s : ℕ) (r f g : List ℕ) {x : List ℕ} → open_number k s r f g ≡ 0 → x ≡ replicate (length g) 0 → x ≡ (open_leaves k s r f g).log
emptied k s r f g e q =
    q ∙ ap (λ (n : ℕ). replicate n 0) (open_taken k s r f g e).log_long
    ∙ ap (λ (b : Buffers). b.log) (sym (if_taken_lem (opened (header_of k s 0) r) (buffers r f g) e))

pub build-requires-clause-lengths : goal.build-requires-clause-lengths
build-requires-clause-lengths c =
    let e = c.in_ok-valid.ensures in
    let t = open_taken c.args.k c.args.s c.args.raw.now c.args.full.now c.args.log.now (sym e.number) in
    (t.raw_long ∙ ap raw_size (sym e.same), t.full_long ∙ ap full_size (sym e.same))

pub build-requires-clause-whole_words : goal.build-requires-clause-whole_words
build-requires-clause-whole_words c =
    record { words_of = λ _. open_words c.args.k c.args.s c.args.raw.now c.args.full.now c.args.log.now (sym c.in_ok-valid.ensures.number) }

pub returns-clause-log_after : goal.returns-clause-log_after
returns-clause-log_after c =
    emptied c.args.k c.args.s c.args.raw.now c.args.full.now c.args.log.now (sym c.in_ok-valid.ensures.number) (c.fill.ensures.after (λ y e. e))
