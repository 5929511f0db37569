-- What recovery and explaining answer: a number, and the stripe at fault where one is named. Assumes nothing: these are definitions.
use Rattle.std.specs.Prelude.{Bool, true, false, ℕ, Option, Some, None, Result, Ok, Err}
use Rattle.layout.specs.Refusals.{number_of}
use Rattle.recovery.specs.declared.fault.Fault.{Fault}

pub record Verdict : Type 0 where
  pub number : ℕ
  pub named : Bool
  pub stripe : ℕ

abbrev pub named_by : (number : ℕ) → Option ℕ → Verdict
named_by number None = record { number = number; named = false; stripe = 0 }
named_by number (Some l) = record { number = number; named = true; stripe = l }

-- what an answer says: 0 and no stripe if the call is taken
abbrev pub verdict_of : {A : Type 0} → Result A Fault → Verdict
verdict_of (Ok x) = named_by 0 None
verdict_of (Err f) = named_by (number_of f.refusal) f.stripe
