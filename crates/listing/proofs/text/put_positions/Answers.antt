-- `listing::text::put_positions` meets its contract: each turn puts a line. Assumes nothing.
use Rattle.std.proofs.Common.{◌≡◌, sym, ap, ap₂, ◌∙◌, ℕ, List, ◌++◌, suc, ◌+◌, ◌*◌, ◌-◌, ◌<◌, length-drop, arith}
use native.Mathlib.Nat.{sub-zero}
use Rattle.print_lines.proofs.PutTexts.{left_all, left_turn, none_end, none_now}
use Rattle.listing.specs.Listing.{line, positions}
use Rattle.listing.proofs.Lines.{positions_next, positions_done}
use Rattle.listing.proofs.text.put_positions.Goals as goal

-- one row fewer
rows_left : (n i w : ℕ) {m : ℕ} → i < n → m ≡ (n - i) * w → m - w ≡ (n - (i + 1)) * w
rows_left n i w b e = let s : n - i ≡ suc (n - (i + 1)) = omega arith in omega (arith, e ∙ ap (λ (x : ℕ). x * w) s)

pub loop-position-init : goal.loop-position-init
loop-position-init c =
    rw sub-zero (record { rows = c.requires.rows_len; text = left_all (positions c.args.name c.args.width c.args.rows.now 0 c.args.count) c.requires.at })

pub loop-position-preserved : goal.loop-position-preserved
loop-position-preserved c =
    let a = c.args in
    let i = c.loop-position.position in
    let rest = c.loop-position.rest.now in
    let e = c.split_at.ensures in
    let p = c.put_line-to.ensures in
    record {
      rows = rw (e.back, length-drop a.width rest) (rows_left a.count i a.width c.loop-position-test.true c.loop-position.invariant.rows);
      text = left_turn c.loop-position.invariant.text (line a.name i c.split_at.result.0.now)
          (positions a.name a.width c.split_at.result.1.now (i + 1) (a.count - (i + 1)))
          (positions_next a.name a.width rest i a.count c.loop-position-test.true
          ∙ ap₂ (λ (row behind : List ℕ). line a.name i row ++ positions a.name a.width behind (i + 1) (a.count - (i + 1))) (sym e.front) (sym e.back))
          p.value p.out_after;
    }

pub returns-clause-value : goal.returns-clause-value
returns-clause-value c =
    let a = c.args in
    none_end c.loop-position.invariant.text
    (positions_done a.name a.width c.loop-position.rest.now c.loop-position.position a.count c.loop-position-test.false)

pub returns-clause-out_after : goal.returns-clause-out_after
returns-clause-out_after c =
    let a = c.args in
    none_now c.loop-position.invariant.text
    (positions_done a.name a.width c.loop-position.rest.now c.loop-position.position a.count c.loop-position-test.false)
