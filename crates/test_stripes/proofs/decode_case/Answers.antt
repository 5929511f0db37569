-- `test_stripes::decode_case` is safe and ends: the marks have room for every stripe. Assumes nothing.
use Rattle.std.proofs.Common.{rules, sym}
use lib.Seq.{length-take-le}
use Rattle.test_stripes.proofs.Room.{counted}
use Rattle.test_stripes.proofs.decode_case.Goals as goal

pub slice_bounds-all-end : goal.slice_bounds-all-end
slice_bounds-all-end g c = counted c.args.st.stripe c.args.st.numbers c.position_count-positions.ensures

pub slice_bounds-marks-end : goal.slice_bounds-marks-end
slice_bounds-marks-end g c = sym (length-take-le _ _ (counted c.args.st.stripe c.args.st.numbers c.position_count-positions.ensures))

pub decode-answer-requires-clause-marks_len : goal.decode-answer-requires-clause-marks_len
decode-answer-requires-clause-marks_len g c =
    let low = counted c.args.st.stripe c.args.st.numbers c.position_count-positions.ensures in
    search rules
