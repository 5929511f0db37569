-- What finding a record's write before leaves: a block among those that the output begins with. Assumes nothing: these are definitions.
use Rattle.std.specs.Prelude.{◌≡◌, List, ℕ, suc, ◌*◌, ◌≤◌, Result, Ok, Err}
use Rattle.layout.specs.declared.Header.{Header}
use Rattle.layout.specs.declared.refusal.Refusal.{Refusal}
use Rattle.layout.specs.Header.{width, out_size}
use Rattle.layout.specs.Refusals.{number_of}
use Rattle.judging.specs.Decoding.{Decoded, decoded, block_data}
use Rattle.splitting.specs.Splitting.{lowest_of}
use Rattle.taking_back.specs.declared.finding.Found.{Found}
use Rattle.taking_back.specs.TakingBack.{Before, fails, found, record_taken, stopped, goes, goes_back}

-- the record before, by the block's place in the output
abbrev pub before_in : (width : ℕ) → (out : List ℕ) → Result ℕ Refusal → Before
before_in width out (Ok j) = found (block_data width out j)
before_in width out (Err e) = fails (number_of e)

-- WHAT TAKING BACK COMES TO, by the record that was written last and the place in the output of its block before. bs are the lowest level's blocks, which the
-- output held, and need not hold any more
pub record Goes (h : Header) (d : ℕ → Decoded) (out : List ℕ) (at : Found) : Type 0 where
  pub blocks : List ℕ
  pub decoded_as : d (lowest_of h) ≡ decoded blocks
  pub number_is : record_taken h blocks ≡ at.record
  pub comes : goes_back h d ≡ goes blocks (block_data (width h) out at.block)
  pub inside : suc at.block * width h ≤ out_size h

abbrev pub FindsBack : Header → (decoding : ℕ → Decoded) → (out : List ℕ) → Result Found Refusal → Type 0
FindsBack h d out (Ok at) = Goes h d out at
FindsBack h d out (Err e) = goes_back h d ≡ stopped (number_of e)
