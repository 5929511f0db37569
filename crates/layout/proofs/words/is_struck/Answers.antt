-- `layout::words::is_struck` meets its contract. Assumes nothing.
use Rattle.std.proofs.Common.{◌↔◌, IsTrue, rules}
use Rattle.std.specs.List.{AllPass}
use Rattle.field.proofs.EveryWord.{every_told}
use Rattle.layout.specs.Records.{is_struck_word}
use Rattle.layout.proofs.words.is_struck.Goals as goal

pub returns : goal.returns
returns c =
    let told : IsTrue c.all.result ↔ AllPass is_struck_word c.args.words.now = search rules in
    every_told is_struck_word c.args.words.now told
