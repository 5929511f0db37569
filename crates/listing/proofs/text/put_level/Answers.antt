-- `listing::text::put_level` meets its contract: the lines of the level's part of the log, where it is filled. Assumes nothing.
use Rattle.std.proofs.Common.{◌≡◌, refl, sym, ap, ◌∙◌, ◌≤◌, ◌<◌, ◌+◌, ◌*◌, ◌-◌, ◌^◌, suc, ℕ, List, length, take, drop, arith, add-one}
use Rattle.std.proofs.Common.{length-drop, length-take-le}
use Rattle.print_lines.specs.Putting.{put, put_end}
use Rattle.print_lines.proofs.PutTexts.{left_all, none_end, none_now}
use Rattle.layout.specs.declared.Header.{Header}
use Rattle.layout.specs.Header.{log_size}
use Rattle.listing.specs.Listing.{level_text}
use Rattle.listing.proofs.Lines.{level_fits, level_empty, level_lines}
use Rattle.listing.proofs.text.put_level.Goals as goal

part_long : (l : List ℕ) (a n : ℕ) → a + n ≤ length l → length (take (a + n - a) (drop a l)) ≡ n
part_long l a n b =
    let e : a + n - a ≡ n = omega arith in
    let room : n ≤ length (drop a l) = rw length-drop (omega arith) in
    rw e (length-take-le n (drop a l) room)

pub returns-then-not-is_filled-clause-value : goal.returns-then-not-is_filled-clause-value
returns-then-not-is_filled-clause-value c =
    let a = c.args in
    let t = level_text a.header a.log.now a.level in
    none_end (left_all t c.requires.at) (level_empty a.header a.log.now a.level (sym c.is_filled.ensures ∙ c.if-not-is_filled.true))

pub returns-then-not-is_filled-clause-out_after : goal.returns-then-not-is_filled-clause-out_after
returns-then-not-is_filled-clause-out_after c =
    let a = c.args in
    let t = level_text a.header a.log.now a.level in
    none_now (left_all t c.requires.at) (level_empty a.header a.log.now a.level (sym c.is_filled.ensures ∙ c.if-not-is_filled.true))

-- the level's part of the log, of which each position has w words
room : (h : Header) (log : List ℕ) (l : ℕ) {n : ℕ} → l < h.k → length log ≡ log_size h → n ≡ 2 ^ (l + 1)
    → (n - 2) * (h.s + 1) + n * (h.s + 1) ≤ length log
room h log l {n} b long e =
    let m : n ≡ 2 ^ suc l = e ∙ ap (λ (x : ℕ). 2 ^ x) (add-one l) in
    rw (m, add-one) (omega (arith, level_fits (suc h.s) l h.k b, long))

pub slice_bounds-put_positions-end : goal.slice_bounds-put_positions-end
slice_bounds-put_positions-end c =
    let a = c.args in room a.header a.log.now a.level c.requires.ranges.0 c.requires.log_len c.two_to-count.ensures

pub put_positions-requires-clause-rows_len : goal.put_positions-requires-clause-rows_len
put_positions-requires-clause-rows_len c =
    let a = c.args in
    let n = c.two_to-count.result in
    part_long a.log.now ((n - 2) * (a.header.s + 1)) (n * (a.header.s + 1))
    (room a.header a.log.now a.level c.requires.ranges.0 c.requires.log_len c.two_to-count.ensures)

pub returns-clause-value : goal.returns-clause-value
returns-clause-value c =
    let a = c.args in
    let e = level_lines a.header a.log.now a.level (sym c.is_filled.ensures ∙ c.if-not-is_filled.false) refl refl c.two_to-count.ensures refl refl in
    c.put_positions.ensures.value ∙ ap (put_end a.out.now a.at) (sym e)

pub returns-clause-out_after : goal.returns-clause-out_after
returns-clause-out_after c =
    let a = c.args in
    let e = level_lines a.header a.log.now a.level (sym c.is_filled.ensures ∙ c.if-not-is_filled.false) refl refl c.two_to-count.ensures refl refl in
    c.put_positions.ensures.out_after ∙ ap (put a.out.now a.at) (sym e)
