-- What the tests 1 to 3 give of a call that is lent an image. Assumes nothing: these are definitions.
use Rattle.std.specs.Prelude.{◌≡◌, List, ℕ, Result, IfOk}
use Rattle.layout.specs.declared.Header.{Header}
use Rattle.layout.specs.declared.refusal.Refusal.{Refusal}
use Rattle.image.specs.declared.reading.Reading.{Reading}

-- where they are taken, the header, the image and the erasure list that were lent
abbrev pub Reads : Header → (image erasures : List ℕ) → Result Reading Refusal → Type 0
Reads h m e r = IfOk r (λ x. (x.header.header ≡ h) × (x.image.now ≡ m) × (x.erasures.now ≡ e))
