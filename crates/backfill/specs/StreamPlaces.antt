-- How far the messages that follow a cursor were given.
use Rattle.std.specs.Prelude.{ℕ, List, [], Some}
use Rattle.event_window.specs.Held.{Held}
use Rattle.backfill.specs.Served.{messages_of, rising_above, served}
use Rattle.backfill.specs.declared.stream_place.StreamPlace.{StreamPlace}

-- what is left of them
abbrev pub left_of : Held → StreamPlace → List (List ℕ)
left_of held (StreamPlace.Start cursor) = served held (Some cursor)
left_of held (StreamPlace.Behind seq) = messages_of (rising_above seq held.shown)
left_of held StreamPlace.End = []
