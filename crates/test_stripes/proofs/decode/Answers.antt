-- `test_stripes::decode` is safe and ends: it decodes only where its count of erased positions shows that half survive, and its factors are the logarithms of
-- the weights with zeros behind them. Assumes nothing.
use Rattle.std.proofs.Common.{ℕ, List, drop, replicate, arith}
use lib.Dec.{lit<}
use Rattle.field.specs.Words.{Words}
use Rattle.field.proofs.WordLists.{words_replicate, words_drop}
use Rattle.code.specs.declared.Stripe.{Stripe}
use Rattle.code.specs.Stripe.{position_count}
use Rattle.decoder.proofs.Survivors.{enough, erased_half}
use Rattle.decoder.proofs.FactorWords.{logs_factors}
use Rattle.test_stripes.proofs.Room.{room}
use Rattle.test_stripes.proofs.decode.Goals as goal

-- what stands behind the logarithms
abbrev behind : Stripe → List ℕ
behind st = drop (position_count st) (replicate 2048 0)

words_behind : (st : Stripe) → Words 65536 (behind st)
words_behind st = words_drop 65536 (lit< tt) (position_count st) (words_replicate 65536 (lit< tt) 2048 0 (lit< tt))

pub store_logs-requires-clause-level_bound_2 : goal.store_logs-requires-clause-level_bound_2
store_logs-requires-clause-level_bound_2 c =
    erased_half _ _
    (enough c.args.st.stripe.level c.args.marks.now (omega (arith, c.requires.marks_len, c.count_erased-erased.ensures, c.if-marks-erased.false)))

pub store_logs-requires-clause-logs_len : goal.store_logs-requires-clause-logs_len
store_logs-requires-clause-logs_len c = room c.args.st.stripe c.args.st.numbers

pub store_logs-requires-clause-room : goal.store_logs-requires-clause-room
store_logs-requires-clause-room c = omega (arith, room c.args.st.stripe c.args.st.numbers)

pub decode-requires-clause-factors_are : goal.decode-requires-clause-factors_are
decode-requires-clause-factors_are c =
    let st = c.args.st.stripe in
    rw c.store_logs.ensures (logs_factors st c.args.marks.now (behind st) c.args.st.numbers (words_behind st))
