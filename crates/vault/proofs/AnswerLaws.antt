-- The promises of the room Answers, which hold as they are defined. Assumes nothing.
use mathlib.Core.Path.{refl}
use Rattle.vault.specs.promises.Answers.{NumberRead, OpeningRead, WriteRead, PartRead, VerdictRead, PlaceRead, HeaderHas, BuffersHave}
use Rattle.vault.specs.promises.Answers.{OpenAnswers, WriteAnswers, StrikeAnswers, BackAnswers}

pub number_read : NumberRead
number_read T given refusal = (refl, refl)

pub opening_read : OpeningRead
opening_read h refusal = (refl, refl, refl, refl)

pub write_read : WriteRead
write_read before h refusal = (refl, refl, refl, refl)

pub part_read : PartRead
part_read part refusal = (refl, refl)

pub verdict_read : VerdictRead
verdict_read T given refusal l = (refl, refl, refl)

pub place_read : PlaceRead
place_read reading start count refusal = (refl, refl, refl, refl, refl, refl)

pub header_has : HeaderHas
header_has k s c = (refl, refl, refl)

pub buffers_have : BuffersHave
buffers_have raw full log = (refl, refl, refl)

pub open_answers : OpenAnswers
open_answers k s raw full log = refl

pub write_answers : WriteAnswers
write_answers v i b = (refl, refl, refl)

pub strike_answers : StrikeAnswers
strike_answers v i = (refl, refl, refl)

pub back_answers : BackAnswers
back_answers v scratch = (refl, refl, refl)
