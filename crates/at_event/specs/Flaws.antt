-- What a reader of fields answers.
use Rattle.std.specs.Prelude.{Option, Some, None, Result}
use Rattle.at_cid.specs.Memory.{Finds}
use Rattle.at_event.specs.declared.flaw.Flaw.{Flaw}

-- what a flaw says of the fields: nothing where memory ran out
abbrev pub flaw_of : Flaw → Option Flaw
flaw_of Flaw.BadField = Some Flaw.BadField
flaw_of Flaw.Memory = None

-- The reader found this, seen by view, and nothing where a field is missing or of another form,
-- unless memory ran out.
abbrev pub Reads : {X Y : Type 0} → (X → Y) → Result X Flaw → Option Y → Type 0
Reads view result found = Finds view flaw_of result found
