-- `taking_back::finding::find_from` meets its contract, by the laws of proofs/FindingBack. Assumes nothing.
use mathlib.Core.Path.{refl, sym, ◌∙◌}
use Rattle.std.proofs.Common.{◌^◌, arith}
use Rattle.layout.specs.Header.{width}
use Rattle.layout.proofs.Refusals.{not_zero}
use Rattle.stripe_decoding.proofs.DecodedWords.{blocks_inside}
use Rattle.taking_back.proofs.HeldStripes.{decoding, held_laid}
use Rattle.taking_back.proofs.FindingBack.{last_told, found_inside, before_failed, seek_start, seek_skip, seek_fails, seek_found, seek_on, end_fails, end_found}
use Rattle.taking_back.proofs.finding.find_from.Goals.{then-is_filled+in_ok-decode+in_default, else-is_filled}
use Rattle.taking_back.proofs.finding.find_from.Goals as goal

pub loop-l-init : goal.loop-l-init
loop-l-init c =
    let a = c.args in
    seek_start a.held.header.header (decoding a.held) a.record a.level c.requires.bounds.0

pub returns-in_err-decode-clause-value : goal.returns-in_err-decode-clause-value
returns-in_err-decode-clause-value c =
    let a = c.args in
    let h = a.held.header.header in
    before_failed (width h) c.decode.new.out _ c.from_residual.result c.from_residual.ensures.1
    ∙ seek_fails h (decoding a.held) a.record c.loop-l.invariant c.loop-l-test.true (sym c.is_filled.ensures ∙ c.if-is_filled.true)
    c.in_err-decode.ensures.value (not_zero _)

pub last_of-found-requires : goal.last_of-found-requires
last_of-found-requires c =
    let h = c.args.held.header.header in
    let b = blocks_inside h c.loop-l.l (omega (arith, c.loop-l-test.true)) in (
      rw c.width-width.ensures (omega arith),
      rw (c.two_to.ensures, c.width-width.ensures) (omega (arith, b, c.decode.auto.out, c.loop-l.auto.out, c.requires.lengths.0)),
    )

pub returns-in-Some-clause-value : goal.returns-in-Some-clause-value
returns-in-Some-clause-value c =
    let a = c.args in
    let h = a.held.header.header in
    let e = c.in_ok-decode.ensures in
    let L = held_laid a.held c.loop-l.l e.value refl c.loop-l.out (e.out_after refl) in
    seek_found h (decoding a.held) a.record c.loop-l.invariant c.loop-l-test.true (sym c.is_filled.ensures ∙ c.if-is_filled.true) L
    (last_told c.decode.new.out c.args.record c.width-width.ensures c.two_to.ensures c.in-Some.ensures)

pub returns-in-Some-clause-inside : goal.returns-in-Some-clause-inside
returns-in-Some-clause-inside c =
    let h = c.args.held.header.header in
    found_inside h c.loop-l.l (2 ^ c.loop-l.l) c.decode.new.out c.args.record (omega (arith, c.loop-l-test.true)) (omega arith)
    (last_told c.decode.new.out c.args.record c.width-width.ensures c.two_to.ensures c.in-Some.ensures)

pub loop-l-preserved : goal.loop-l-preserved
loop-l-preserved c =
    let a = c.args in
    let h = a.held.header.header in
    elim c.if-is_filled.branch [
      | then-is_filled+in_ok-decode+in_default w ↦
          let e = w.in_ok-decode.ensures in
          let L = held_laid a.held c.loop-l.l e.value refl c.loop-l.out (e.out_after refl) in
          seek_on h (decoding a.held) a.record c.loop-l.invariant c.loop-l-test.true (sym c.is_filled.ensures ∙ w.if-is_filled.true) L
          (last_told w.decode.new.out c.args.record c.width-width.ensures w.two_to.ensures w.in_default.ensures)
      | else-is_filled w ↦
          seek_skip h (decoding a.held) a.record c.loop-l.invariant c.loop-l-test.true (sym c.is_filled.ensures ∙ w.if-is_filled.false)
    ]

pub returns-in_err-decode-2-clause-value : goal.returns-in_err-decode-2-clause-value
returns-in_err-decode-2-clause-value c =
    let a = c.args in
    let h = a.held.header.header in
    before_failed (width h) c.decode-2.new.out _ c.from_residual-in_err-decode-2.result c.from_residual-in_err-decode-2.ensures.1
    ∙ end_fails h (decoding a.held) a.record c.loop-l.invariant c.loop-l-test.false c.in_err-decode-2.ensures.value (not_zero _)

pub returns-clause-value : goal.returns-clause-value
returns-clause-value c =
    let a = c.args in
    let h = a.held.header.header in
    let e = c.in_ok-decode-2.ensures in
    let L = held_laid a.held h.k e.value refl c.loop-l.out (e.out_after refl) in
    end_found h (decoding a.held) a.record c.loop-l.invariant c.loop-l-test.false L c.requires.bounds.1
