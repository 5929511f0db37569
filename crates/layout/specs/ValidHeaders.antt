-- What test 1 gives of a header. Assumes nothing: these are definitions.
use Rattle.std.specs.Prelude.{◌≡◌, false, Result, MatchResult}
use Rattle.layout.specs.declared.Header.{Header}
use Rattle.layout.specs.declared.refusal.Refusal.{Refusal}
use Rattle.layout.specs.declared.refusal.Refusal.TheVariants.{HeaderRange}
use Rattle.layout.specs.declared.valid_header.ValidHeader.{ValidHeader}
use Rattle.layout.specs.Header.{header_fits}

-- the header itself where it fits, and refusal 1 where it does not
abbrev pub Checks : Header → Result ValidHeader Refusal → Type 0
Checks h r = MatchResult r (λ v. v.header ≡ h) (λ e. (e ≡ HeaderRange) × (header_fits h ≡ false))
