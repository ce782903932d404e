-- Sessions of guests, and their lines (own): numbers are decimal, and each line ends in a line
-- feed.
use Rattle.std.specs.Prelude.{◌≡◌, ◌⊎◌, ℕ, ◌+◌, ◌-◌, List, [], ◌∷◌, ◌++◌, length, nat_lt, Bool, Option, Some, None, Result, Ok, Err, codes, if◌then◌else◌}
use Rattle.std.specs.List.{AllByRecursion}
use Rattle.at_cid.specs.Counts.{Rose}
use Rattle.event_window.specs.Held.{Held}
use Rattle.relay_io.specs.declared.door.Guest.{Guest}
use Rattle.relay_io.specs.declared.door.Turn.{Turn}
use Rattle.report_lines.specs.Lines.{numbered}
use Rattle.backfill.specs.Served.{notice, served, served_events}
use Rattle.backfill.specs.Serving.{sendings}
use Rattle.backfill.specs.Target.{cursor_in}
use Rattle.backfill.specs.declared.target_fault.TargetFault.{TargetFault}
use Rattle.read_run.specs.declared.session.Session.{Session}

-- ---- their lines

-- what is told of a session
abbrev pub told : Session → List ℕ
told (Session.Sent cursor events) = numbered (codes " cursor ") cursor
    ++ numbered (codes " sent ") events
told (Session.Future cursor) = numbered (codes " future ") cursor
told Session.BadTarget = codes " bad target"
told Session.NoHandshake = codes " no handshake"
told (Session.Failed events) = numbered (codes " failed after ") events

-- the line of the session of this number
abbrev pub session_line : ℕ → Session → List ℕ
session_line number session = numbered (codes "session ") number ++ (told session ++ 10 ∷ [])

-- the last line
abbrev pub sessions_end_line : ℕ → List ℕ
sessions_end_line count = numbered (codes "end ") count ++ codes " sessions\n"

-- ---- what comes of them

-- what comes of a guest who was sent all that is to be sent
abbrev pub session_of : Held → Option ℕ → Session
session_of held None = Session.Sent held.last 0
session_of held (Some cursor) = if nat_lt held.last cursor then Session.Future cursor
    else Session.Sent cursor (length (served_events held (Some cursor)))

-- what comes of a guest who was sent `events` events, or is told that the cursor is above the last
-- number
abbrev pub came_of : ℕ → Option ℕ → ℕ → Bool → Session
came_of last None events future = Session.Sent last events
came_of last (Some cursor) events future =
    if future then Session.Future cursor else Session.Sent cursor events

-- a front of what is to be sent, by what the target asks for: nothing where it is refused
abbrev pub IsSentInPart : Held → Result (Option ℕ) TargetFault → List (List ℕ) → Type 0
IsSentInPart held (Ok cursor) sent = (left : List (List ℕ)) × (served held cursor ≡ sent ++ left)
IsSentInPart held (Err fault) sent = sent ≡ []

-- how many events a front has
abbrev pub events_sent : Held → Result (Option ℕ) TargetFault → List (List ℕ) → ℕ
events_sent held (Ok cursor) sent = length sent - length (notice held cursor)
events_sent held (Err fault) sent = 0

-- all that is to be sent was sent, by what the target asks for: nothing where it is refused
abbrev pub IsSentWhole : Held → Result (Option ℕ) TargetFault → List (List ℕ) → Session → Type 0
IsSentWhole held (Ok cursor) sent session = (sent ≡ served held cursor)
    × (session ≡ session_of held cursor)
IsSentWhole held (Err fault) sent session = (sent ≡ []) × (session ≡ Session.BadTarget)

-- the session failed, after a front of it
abbrev pub IsFailed : Held → Result (Option ℕ) TargetFault → List (List ℕ) → Session → Type 0
IsFailed held asked sent session = IsSentInPart held asked sent
    × (session ≡ Session.Failed (events_sent held asked sent))

-- A guest who came: what was sent, what came of the session, and the count of failed sendings and
-- endings after it.
pub record Visit : Type 0 where
  pub guest : Guest
  pub sent : List (List ℕ)
  pub session : Session
  pub faults : ℕ

-- what a guest was sent, and what came of it
abbrev pub IsVisit : Held → Guest → List (List ℕ) → Session → Type 0
IsVisit held (Guest.Target target) sent session = IsSentWhole held (cursor_in target) sent session
    ⊎ IsFailed held (cursor_in target) sent session
IsVisit held Guest.NoHandshake sent session = (sent ≡ []) × (session ≡ Session.NoHandshake)
IsVisit held Guest.End sent session = ⊥

-- each of these visits was such
abbrev pub AllVisits : Held → List Visit → Type 0
AllVisits held visits = AllByRecursion (λ v. IsVisit held v.guest v.sent v.session) visits

-- how a session ends at the door: closed, or failed; without a handshake there is none to end
abbrev pub ending_of : Session → List Turn
ending_of (Session.Failed events) = Turn.Failed ∷ []
ending_of Session.NoHandshake = []
ending_of session = Turn.Closed ∷ []

-- the count of the failures of sessions: it rose where this one failed, and else stands
abbrev pub IsCounted : Session → ℕ → ℕ → Type 0
IsCounted (Session.Failed events) before now = Rose before now
IsCounted session before now = now ≡ before

-- it did in each of these sessions, from one to the next
abbrev pub AreCounted : ℕ → List Visit → ℕ → Type 0
AreCounted before [] now = now ≡ before
AreCounted before (v ∷ visits) now = IsCounted v.session before v.faults
    × AreCounted v.faults visits now

-- their guests, in order
abbrev pub guests_of : List Visit → List Guest
guests_of [] = []
guests_of (v ∷ visits) = v.guest ∷ guests_of visits

-- what happened at the door: each came, was sent this, and the session ended
abbrev pub turns_of : List Visit → List Turn
turns_of [] = []
turns_of (v ∷ visits) = Turn.Came v.guest
    ∷ (sendings v.sent ++ (ending_of v.session ++ turns_of visits))

-- their lines, numbered from the one after n
abbrev pub lines_behind : ℕ → List Visit → List ℕ
lines_behind n [] = []
lines_behind n (v ∷ visits) = session_line (n + 1) v.session ++ lines_behind (n + 1) visits
