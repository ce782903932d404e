-- The events that are held, and which of them comes next (own).
use Rattle.std.specs.Prelude.{◌≡◌, ℕ, ◌+◌, List, [], ◌∷◌, Option, Some, None, Result, Ok, Err, nat_le, if◌then◌else◌}
use Rattle.event_window.specs.declared.fault.EventsFault.{EventsFault}

-- an event: its number, and its message
abbrev pub Event : Type 0
Event = ℕ × List ℕ

-- the numbers that are held, in order, the events among them that are shown, and the last number
-- that was given
pub record Held : Type 0 where
  pub numbers : List ℕ
  pub shown : List Event
  pub last : ℕ

abbrev pub first_or : List ℕ → ℕ → ℕ
first_or [] n = n
first_or (x ∷ xs) n = x

-- the first number, or the one behind the last where none is held
abbrev pub oldest_of : Held → ℕ
oldest_of held = first_or held.numbers (held.last + 1)

-- the first event above a number, if there is one
abbrev pub event_above : ℕ → List Event → Option Event
event_above seq [] = None
event_above seq (e ∷ events) = if nat_le e.0 seq then event_above seq events else Some e

-- This is the next event above a number, and its message is in the room.
abbrev pub IsNext : ℕ → List Event → Option ℕ → List ℕ → Type 0
IsNext seq events None room = event_above seq events ≡ None
IsNext seq events (Some n) room = event_above seq events ≡ Some (n, room)

-- up to which number events were given, after this answer
abbrev pub given_after : ℕ → Result (Option ℕ) EventsFault → ℕ
given_after before (Ok (Some n)) = n
given_after before other = before

-- where damage was found last, after this answer
abbrev pub damage_after : {A : Type 0} → Option ℕ → Result A EventsFault → Option ℕ
damage_after before (Err (EventsFault.BadLog place)) = Some place
damage_after before other = before
