-- What answering the requests of a wire does (own).
use Rattle.std.specs.Prelude.{◌≡◌, ◌⊎◌, ℕ, ◌≤◌, Bool, true, false, List, [], ◌∷◌, ◌++◌, length, map, Result, Ok, Err, IsTrue}
use Rattle.relay_io.specs.Streams.{AddsFront}
use Rattle.relay_io.specs.declared.wire.Exchange.{Exchange}
use Rattle.relay_row.specs.declared.row.Row.{Row}
use Rattle.relay_query.specs.Replies.{IsReplyTo}
use Rattle.run_base.specs.Place.{Place, Tells}
use Rattle.run_base.specs.declared.status.Status.{Status}
use Rattle.read_run.specs.AtWire.{AtWire}
use Rattle.read_run.specs.OnRead.{OnRead}
use Rattle.read_run.specs.Rounds.{RoundsAreCounted, AreReplies, IsSendCounted, Round, queries_end_line, exchanges_of, round_lines, request_line, requests_of, sent_of, told_of}

-- Which requests were taken: where it is done `count`, or all that came; none where the disks
-- weren't opened. One came that wasn't answered only where memory ran out.
abbrev pub RequestsAreTaken : Bool → Status → ℕ → List Round → List (List ℕ) → List (List ℕ)
    → Type 0
RequestsAreTaken tells Status.Done count rounds cut left =
    (cut ≡ []) × ((length rounds ≡ count) ⊎ (IsTrue tells → left ≡ []))
RequestsAreTaken tells Status.WriteFault count rounds cut left = cut ≡ []
RequestsAreTaken tells Status.Wire count rounds cut left = cut ≡ []
RequestsAreTaken tells Status.Memory count rounds cut left = length cut ≤ 1
RequestsAreTaken tells status count rounds cut left = (cut ≡ []) × (rounds ≡ [])

-- Requests were answered by the rows of the journal J, in the order of the wire and at most
-- `count`.
pub record Queried (tells : Bool) (count : ℕ) (J : List Row) (wire wire_now : AtWire)
    (status : Status) : Type 0 where
  pub rounds : List Round
  -- the requests that came and weren't answered
  pub cut : List (List ℕ)
  pub replies : AreReplies J rounds
  pub few : length rounds ≤ count
  pub requests : IsTrue tells → wire.requests ≡ requests_of rounds ++ (cut ++ wire_now.requests)
  pub exchanges : IsTrue tells
      → wire_now.exchanges ≡ wire.exchanges ++ (exchanges_of rounds ++ map Exchange.Came cut)
  pub counted : RoundsAreCounted wire.faults rounds wire_now.faults
  pub taken : RequestsAreTaken tells status count rounds cut wire_now.requests

-- their lines, and the last one
abbrev pub query_lines : {tells : Bool} {count : ℕ} {J : List Row} {wire wire_now : AtWire}
    {status : Status} → Queried tells count J wire wire_now status → List ℕ
query_lines q = round_lines 0 q.rounds

abbrev pub queries_end : {tells : Bool} {count : ℕ} {J : List Row} {wire wire_now : AtWire}
    {status : Status} → Queried tells count J wire wire_now status → List ℕ
queries_end q = queries_end_line (length q.rounds)

-- Requests were answered by the journal J of two disks, and their lines were written.
pub record AnsweredBy (t : Tells) (wire_tells : Bool) (most count : ℕ) (J : List Row)
    (wire wire_now : AtWire) (old new : Place) (status : Status) : Type 0 where
  pub queried : Queried wire_tells count J wire wire_now status
  pub does : OnRead t most J (query_lines queried) (queries_end queried) old new status

-- ---- one of them

-- no request came
abbrev pub IsStill : Bool → AtWire → AtWire → Type 0
IsStill tells old new =
    IsTrue tells → (new.requests ≡ old.requests) × (new.exchanges ≡ old.exchanges)

-- The next request came into the room; or none is left; or the wire failed.
abbrev pub Comes : Bool → List ℕ → AtWire → AtWire → Result Bool Status → Type 0
Comes tells room old new (Ok true) = IsTrue tells
    → (old.requests ≡ room ∷ new.requests)
    × (new.exchanges ≡ old.exchanges ++ Exchange.Came room ∷ [])
Comes tells room old new (Ok false) = (IsTrue tells → new.requests ≡ []) × IsStill tells old new
Comes tells room old new (Err status) = IsStill tells old new

-- A reply was made to the request by the rows of a journal, and sent, or its sending failed.
pub record Replied (tells : Bool) (J : List Row) (request reply : List ℕ) (sent : Bool)
    (old new : AtWire) : Type 0 where
  pub is : IsReplyTo J request reply
  pub requests : IsTrue tells → new.requests ≡ old.requests
  pub exchanges : IsTrue tells → new.exchanges ≡ old.exchanges ++ sent_of sent reply
  pub counted : IsSendCounted sent old.faults new.faults

-- none was made, for want of memory
abbrev pub IsUnreplied : AtWire → AtWire → List ℕ → List ℕ → Status → Type 0
IsUnreplied old new before after status =
    (status ≡ Status.Memory) × ((new ≡ old) × (after ≡ before))

-- The request of this number was answered, and its line was written, or a front of it; or it wasn't
-- answered.
abbrev pub Answered : Bool → Bool → List Row → ℕ → List ℕ → AtWire → AtWire → List ℕ → List ℕ
    → Result (Unit {0}) Status → Type 0
Answered tells told J number request old new before after (Ok done) =
    (reply : List ℕ) × (sent : Bool) × Replied tells J request reply sent old new
    × (IsTrue told → after ≡ before ++ request_line number (told_of sent reply))
Answered tells told J number request old new before after (Err status) =
    ((reply : List ℕ) × (sent : Bool) × Replied tells J request reply sent old new
    × (IsTrue told → AddsFront before after (request_line number (told_of sent reply))))
    ⊎ IsUnreplied old new before after status
