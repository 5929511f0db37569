-- ALL PROMISES of the vault, room by room. What its parts promise by themselves is in crates/decoder/specs/Promises.antt (the code, the table of powers) and
-- crates/judging/specs/Promises.antt (the words of a stripe). `proved` of proofs/Proved is a term of this record: with one promise missing it is refused.
-- Assumes nothing.
use Rattle.vault.specs.promises.Demands.{Demands}
use Rattle.vault.specs.promises.Histories.{Histories}
use Rattle.vault.specs.promises.Decoding.{Decoding}
use Rattle.vault.specs.promises.Losses.{Losses}
use Rattle.vault.specs.promises.Erasures.{Erasures}
use Rattle.vault.specs.promises.Table.{Table}
use Rattle.vault.specs.promises.Numbers.{Numbers}
use Rattle.vault.specs.promises.Leaving.{Leaving}
use Rattle.vault.specs.promises.Recovering.{Recovering}
use Rattle.vault.specs.promises.Coding.{Coding}
use Rattle.vault.specs.promises.Writing.{Writing}
use Rattle.vault.specs.promises.TakingBack.{TakingBack}
use Rattle.vault.specs.promises.TwoReadings.{TwoReadings}
use Rattle.vault.specs.promises.Answers.{Answers}
use Rattle.vault.specs.promises.Explaining.{Explaining}
use Rattle.vault.specs.promises.Blanks.{Blanks}
use Rattle.vault.specs.promises.Strikes.{Strikes}
use Rattle.vault.specs.promises.Boundary.{Boundary}
use Rattle.vault.specs.promises.Openings.{Openings}
use Rattle.vault.specs.Worked.{Holds, examples, blank_examples}
use Rattle.vault.specs.WorkedBytes.{byte_examples, stripe_examples, stray_examples, fault_examples}
use Rattle.vault.specs.WorkedBytes.{history_examples, half_examples, number_examples, answer_examples}
use Rattle.vault.specs.WorkedBack.{back_examples, back_faults, back_histories}
use Rattle.vault.specs.WorkedTwo.{two_examples, two_faults, shelf_examples}
use Rattle.vault.specs.WorkedStrikes.{strike_examples, read_examples, struck_examples, strike_histories, struck_blocks, eight_examples}

-- the three demands, what else is promised, and the worked examples
pub record Promises : Type 1 where
  pub demands : Demands
  pub histories : Histories
  pub decoding : Decoding
  pub losses : Losses
  pub erasures : Erasures
  pub table : Table
  pub numbers : Numbers
  pub leaving : Leaving
  pub recovering : Recovering
  pub coding : Coding
  pub writing : Writing
  pub taking_back : TakingBack
  pub two_readings : TwoReadings
  pub answers : Answers
  pub explaining : Explaining
  pub blanks : Blanks
  pub strikes : Strikes
  pub boundary : Boundary
  pub openings : Openings
  pub worked : Holds examples
  pub worked_blanks : Holds blank_examples
  pub worked_bytes : Holds byte_examples
  pub worked_stripes : Holds stripe_examples
  pub worked_strays : Holds stray_examples
  pub worked_faults : Holds fault_examples
  pub worked_histories : Holds history_examples
  pub worked_halves : Holds half_examples
  pub worked_numbers : Holds number_examples
  pub worked_answers : Holds answer_examples
  pub worked_back : Holds back_examples
  pub worked_back_faults : Holds back_faults
  pub worked_back_histories : Holds back_histories
  pub worked_two : Holds two_examples
  pub worked_two_faults : Holds two_faults
  pub worked_shelves : Holds shelf_examples
  pub worked_strikes : Holds strike_examples
  pub worked_reads : Holds read_examples
  pub worked_struck : Holds struck_examples
  pub worked_strike_histories : Holds strike_histories
  pub worked_struck_blocks : Holds struck_blocks
  pub worked_eight : Holds eight_examples
