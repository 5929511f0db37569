-- What the tests 1, 2, 3 and 13 give of a call that is lent two readings. Assumes nothing: these are definitions.
use Rattle.std.specs.Prelude.{◌≡◌, List, ℕ, Result, IfOk}
use Rattle.layout.specs.declared.Header.{Header}
use Rattle.layout.specs.declared.refusal.Refusal.{Refusal}
use Rattle.image.specs.declared.reading.Reading.{Reading}
use Rattle.two_readings.specs.declared.pair.TwoReadings.{TwoReadings}

-- where they are taken, the header, the images and the erasure lists that were lent
pub record IsReading (h : Header) (m e : List ℕ) (r : Reading) : Type 0 where
  pub header : r.header.header ≡ h
  pub image : r.image.now ≡ m
  pub erasures : r.erasures.now ≡ e

abbrev pub ReadsTwo : Header → (image erasures image' erasures' : List ℕ) → Result TwoReadings Refusal → Type 0
ReadsTwo h m e m' e' r = IfOk r (λ x. IsReading h m e x.first × IsReading h m' e' x.second)
