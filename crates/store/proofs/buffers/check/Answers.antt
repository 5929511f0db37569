-- `store::buffers::check` meets its contract: each test that holds or fails, in turn. Assumes nothing.
use Rattle.std.proofs.Common.{◌∙◌, refl, ap}
use Rattle.layout.specs.Header.{raw_size, full_size, log_size}
use Rattle.layout.proofs.Refusals.{header_passed_on, header_taken, first_refused, second_refused, third_refused, sizes_hold, none_fails}
use Rattle.store.proofs.buffers.check.Goals as goal
use Rattle.store.proofs.buffers.check.Goals.{then-raw-raw_size-via-then-raw-raw_size, then-raw-raw_size-via-else-raw-raw_size+then-full-full_size}
use Rattle.store.proofs.buffers.check.Goals.{then-raw-raw_size-via-else-raw-raw_size+else-full-full_size+then-log-log_size}

pub returns-in_err-valid-clause-number : goal.returns-in_err-valid-clause-number
returns-in_err-valid-clause-number c = header_passed_on c.args.header _ c.from_residual.result _ c.from_residual.ensures.1 c.in_err-valid.ensures

pub returns-then-raw-raw_size-clause-number : goal.returns-then-raw-raw_size-clause-number
returns-then-raw-raw_size-clause-number c =
    let same = c.in_ok-valid.ensures in
    let h = header_taken _ _ same c.in_ok-valid.valid.fits in
    let raw = c.raw_size.ensures ∙ ap raw_size same in
    elim c.then-raw-raw_size.branch [
      | then-raw-raw_size-via-then-raw-raw_size w ↦ first_refused h _ refl raw _ w.if-raw-raw_size.true
      | then-raw-raw_size-via-else-raw-raw_size+then-full-full_size w ↦
          second_refused h _ refl raw w.if-raw-raw_size.false (w.full_size.ensures ∙ ap full_size same) _ w.if-full-full_size.true
      | then-raw-raw_size-via-else-raw-raw_size+else-full-full_size+then-log-log_size w ↦
          third_refused h _ refl raw w.if-raw-raw_size.false (w.full_size.ensures ∙ ap full_size same) w.if-full-full_size.false
          (w.log_size.ensures ∙ ap log_size same) w.if-log-log_size.true
    ]

pub returns-clause-number : goal.returns-clause-number
returns-clause-number c =
    let same = c.in_ok-valid.ensures in
    sizes_hold (header_taken _ _ same c.in_ok-valid.valid.fits) _ refl (c.raw_size.ensures ∙ ap raw_size same) c.if-raw-raw_size.false
    (c.full_size.ensures ∙ ap full_size same) c.if-full-full_size.false (c.log_size.ensures ∙ ap log_size same) c.if-log-log_size.false none_fails
