-- `listing::text::put_rack` meets its contract: the full stripe, and then the levels. Assumes nothing.
use Rattle.std.proofs.Common.{◌≡◌, refl, ◌++◌, ℕ, List, ◌+◌, ◌^◌, arith, add-one}
use Rattle.layout.specs.declared.Header.{Header}
use Rattle.print_lines.specs.Putting.{put, put_end}
use Rattle.print_lines.proofs.PutTexts.{Left, left_all, left_turn, last_end, last_now}
use Rattle.listing.specs.Listing.{positions, levels_text, rack_text}
use Rattle.listing.proofs.text.put_rack.Goals as goal

-- only the levels are still to be put
full_put : (h : Header) (full log : List ℕ) {n a : ℕ} {l l' : List ℕ} → n ≡ 2 ^ (h.k + 1) → a ≡ put_end l 0 (positions 67 (h.s + 1) full 0 n)
    → l' ≡ put l 0 (positions 67 (h.s + 1) full 0 n) → Left l 0 (rack_text h full log) l' a (levels_text h log 0 h.k)
full_put h full log {n} {l = l} en f g =
    let same : rack_text h full log ≡ positions 67 (h.s + 1) full 0 n ++ levels_text h log 0 h.k = rw (en, add-one h.k, add-one h.s) refl in
    left_turn (left_all {l = l} {a = 0} (rack_text h full log) (omega arith)) (positions 67 (h.s + 1) full 0 n) (levels_text h log 0 h.k) same f g

pub put_levels-requires-clause-at : goal.put_levels-requires-clause-at
put_levels-requires-clause-at c =
    let a = c.args in
    let p = c.put_positions-levels.ensures in
    (full_put a.header a.full.now a.log.now c.two_to-count.ensures p.value p.out_after).inside

pub returns-clause-value : goal.returns-clause-value
returns-clause-value c =
    let a = c.args in
    let p = c.put_positions-levels.ensures in
    last_end (full_put a.header a.full.now a.log.now c.two_to-count.ensures p.value p.out_after) c.put_levels.ensures.value

pub returns-clause-out_after : goal.returns-clause-out_after
returns-clause-out_after c =
    let a = c.args in
    let p = c.put_positions-levels.ensures in
    last_now (full_put a.header a.full.now a.log.now c.two_to-count.ensures p.value p.out_after) c.put_levels.ensures.out_after
