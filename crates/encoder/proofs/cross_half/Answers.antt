-- `encoder::cross_half` meets its contract: what a level's root gives is the same for every k (proofs/Levels). Assumes nothing.
use Rattle.std.proofs.Common.{◌∙◌}
use Rattle.encoder.proofs.Levels.{rows_crossed}
use Rattle.encoder.proofs.cross_half.Goals as goal

pub returns : goal.returns
returns g c =
    let st = c.args.st.stripe in
    c.cross_all.ensures ∙ rows_crossed st.width st.k st.level c.args.half.now c.args.st.numbers.within c.args.st.numbers.small g.D.Direction.unmixing
