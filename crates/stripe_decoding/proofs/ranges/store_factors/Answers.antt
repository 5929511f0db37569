-- `stripe_decoding::ranges::store_factors` meets its contract: the logarithms of the weights and the zeros after them, or zeros alone. Assumes nothing.
use Rattle.std.proofs.Common.{◌^◌, ◌≤◌, replicate, ℕ, suc, drop, sym, ◌∙◌, arith}
use lib.Dec.{lit<}
use lib.Pow.{pow_mono}
use Rattle.field.specs.Words.{Words}
use Rattle.code.specs.declared.Stripe.{Stripe}
use Rattle.code.specs.Stripe.{Numbers}
use Rattle.decoder.proofs.Survivors.{erased_half}
use Rattle.decoder.proofs.FactorWords.{logs_factors, no_factors}
use Rattle.field.proofs.WordLists.{words_replicate, words_drop}
use lib.ListN.{length-replicate}
use Rattle.stripe_decoding.proofs.ranges.store_factors.Goals as goal

few : (st : Stripe) → Numbers st → 2 ^ suc st.level ≤ 2048
few st n = pow_mono {i = suc st.level} {j = 11} (omega (arith, n.within, n.small))

zeros : (n : ℕ) → Words 65536 (drop n (replicate 2048 0))
zeros n = words_drop 65536 (lit< tt) n (words_replicate 65536 (lit< tt) 2048 0 (lit< tt))

pub store_logs-requires-clause-level_bound_2 : goal.store_logs-requires-clause-level_bound_2
store_logs-requires-clause-level_bound_2 c = erased_half c.args.ready.vault.valid.stripe.level c.args.ready.marks.now c.args.ready.ready.enough

pub store_logs-requires-clause-logs_len : goal.store_logs-requires-clause-logs_len
store_logs-requires-clause-logs_len c = rw (c.requires.factors_are, length-replicate) (few c.args.ready.vault.valid.stripe c.args.ready.vault.fits.numbers)

pub returns-then-count_erased-gt0 : goal.returns-then-count_erased-gt0
returns-then-count_erased-gt0 c =
    let a = c.args in
    let n = 2 ^ suc a.ready.vault.valid.stripe.level in
    rw (c.store_logs.ensures, c.requires.factors_are)
    (logs_factors a.ready.vault.valid.stripe a.ready.marks.now (drop n (replicate 2048 0)) c.args.ready.vault.fits.numbers (zeros n))

pub returns-else-count_erased-gt0 : goal.returns-else-count_erased-gt0
returns-else-count_erased-gt0 c =
    let a = c.args in
    rw c.requires.factors_are
    (no_factors a.ready.vault.valid.stripe a.ready.marks.now c.args.ready.vault.fits.numbers (sym c.count_erased.ensures ∙ omega arith))
