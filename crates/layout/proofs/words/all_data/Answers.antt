-- `layout::words::all_data` meets its contract. Assumes nothing.
use Rattle.std.proofs.Common.{◌≡◌, ◌&&◌, ◌<◌, ◌≤◌, ◌+◌, ℕ, List, length, drop, get_or, Bool, sym, ap, ◌∙◌, true, false, le-leb}
use Rattle.std.proofs.lemmas.Bool.{lt-leb}
use Rattle.field.proofs.Booleans.{second_false, only_first}
use Rattle.field.proofs.EveryWord.{every_next, every_end}
use Rattle.layout.specs.Records.{is_data, are_data}
use Rattle.layout.proofs.words.all_data.Goals as goal
use Rattle.layout.proofs.words.all_data.Goals.{then-word-gt65535, else-word-gt65535}

large : (l : List ℕ) (fit : Bool) (i : ℕ) → i < length l → are_data l ≡ (fit && are_data (drop i l)) → 65535 < get_or l i 0
    → are_data l ≡ (false && are_data (drop (i + 1) l))
large l fit i b h w = h ∙ second_false fit (every_next is_data l i false b (lt-leb _ 65535 w))

small : (l : List ℕ) (fit : Bool) (i : ℕ) → i < length l → are_data l ≡ (fit && are_data (drop i l)) → get_or l i 0 ≤ 65535
    → are_data l ≡ (fit && are_data (drop (i + 1) l))
small l fit i b h w = h ∙ ap (λ (r : Bool). fit && r) (every_next is_data l i true b (le-leb _ 65535 w))

pub loop-word-preserved : goal.loop-word-preserved
loop-word-preserved c =
    let l = c.args.words.now in
    let i = c.loop-word.word-index in
    let h = c.loop-word.invariant in
    let b = c.loop-word-test.true in
    elim c.if-word-gt65535.branch [
      | then-word-gt65535 w ↦ rw w.fit-is (large l c.loop-word.fit i b h w.if-word-gt65535.true)
      | else-word-gt65535 w ↦ rw w.fit-is (small l c.loop-word.fit i b h w.if-word-gt65535.false)
    ]

pub returns : goal.returns
returns c = sym (c.loop-word.invariant ∙ only_first c.loop-word.fit (every_end is_data c.args.words.now c.loop-word.word-index c.loop-word-test.false))
