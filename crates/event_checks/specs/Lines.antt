-- Lines of a table of refusals or faults, and the first that applies.
use Rattle.std.specs.Prelude.{List, [], ◌∷◌, Bool, true, false, if◌then◌else◌, Option, Some, None}
use Rattle.at_event.specs.declared.refusal.Refusal.{Refusal}

-- a refusal, and whether its condition applies
abbrev pub RefusalLine : Type 0
RefusalLine = Refusal × Bool

-- the first refusal, or whatever else the lines tell, whose condition applies
abbrev pub first_of : {A : Type 0} → List (A × Bool) → Option A
first_of [] = None
first_of (line ∷ lines) = if line.1 then Some line.0 else first_of lines

-- the refusals that judges alone show: the host isn't the account's home, and the signature is bad
abbrev pub is_judged : Refusal → Bool
is_judged Refusal.NotHome = true
is_judged Refusal.BadSignature = true
is_judged other = false
