-- What a run of a command does to the outside (own).
use Rattle.std.specs.Prelude.{◌≡◌, ◌≢◌, Option, ℕ, ◌+◌, ◌≤◌, ◌<◌, Bool, true, false, List, [], ◌++◌, length, IsTrue, ◌⊎◌}
use Rattle.at_authority.specs.Panels.{IsSpent}
use Rattle.at_cid.specs.Counts.{Rose}
use Rattle.at_syntax.specs.Did.{method_of}
use Rattle.account_state.specs.Folds.{account}
use Rattle.host_state.specs.Folds.{hosts}
use Rattle.take_run.specs.Ends.{MayEndFollowing, MayEndIngesting}
use Rattle.take_run.specs.Ingested.{Followed, Ingested, input_at}
use Rattle.take_run.specs.Taken.{Unopened}
use Rattle.relay_disk.specs.Disk.{View}
use Rattle.relay_io.specs.Streams.{AddsFront}
use Rattle.relay_io.specs.declared.feed.TheConstants.{LONGEST_FEED_MESSAGE}
use Rattle.relay_row.specs.declared.row.Row.{Row}
use Rattle.mirror_run.specs.Ends.{MayEndMirroring}
use Rattle.mirror_run.specs.Mirrored.{Mirrored}
use Rattle.relay_run.specs.Cutting.{WasCut}
use Rattle.relay_run.specs.Lines.{MayEndCutting, MayEndOperating, MayEndShowing, MayEndSyncing}
use Rattle.relay_run.specs.Shown.{TextShown}
use Rattle.relay_run.specs.Behind.{WasOperated, WasSynced}
use Rattle.run_base.specs.Ends.{AreOnlyRead, HoldsJournal, IsQuiet, Shows}
use Rattle.run_base.specs.Place.{Faults, Place as Parts, Tells, at_place, counts, tells_of}
use Rattle.run_base.specs.declared.status.Status.{Status}
use Rattle.read_run.specs.AtDoor.{AtDoor}
use Rattle.read_run.specs.AtWire.{AtWire}
use Rattle.read_run.specs.Ends.{IsOfDisks, MayEndQuerying, MayEndReading, MayEndServing}
use Rattle.read_run.specs.Guests.{ServedAt}
use Rattle.read_run.specs.Lines.{LinesWritten}
use Rattle.read_run.specs.Queried.{AnsweredBy}
use Rattle.read_run.specs.Replayed.{Replayed}
use Rattle.report_lines.specs.StateLines.{account_text, hosts_text}
use Rattle.store_take.specs.declared.message.Message.{Message}
use Rattle.take_run.specs.Tapes.{AreRecords, encoded_records}
use Rattle.trial_run.specs.Tried.{MayEndTrying, Tried}
use Rattle.relay_cli.specs.declared.command.Command.{Command}
use Rattle.relay_store.specs.declared.limits.TheConstants.{LONGEST}
use Rattle.relay_cli.specs.declared.verdict.CheckVerdict.{CheckVerdict}
use Rattle.relay_cli.specs.Statuses.{status_of}
use Rattle.relay_cli.specs.Report.{check_line}
use Rattle.relay_cli.specs.Verdicts.{IsVerdict}

-- what the input has left and the output has taken, where they tell it, and their counts of faults
pub record Streams : Type 0 where
  pub input_told : Bool
  pub left : List ℕ
  pub read_faults : ℕ
  pub output_told : Bool
  pub written : List ℕ
  pub write_faults : ℕ

abbrev pub streams : Bool → List ℕ → ℕ → Bool → List ℕ → ℕ → Streams
streams input_told left read_faults output_told written write_faults = record {
  input_told = input_told;
  left = left;
  read_faults = read_faults;
  output_told = output_told;
  written = written;
  write_faults = write_faults;
}

-- nothing was written
abbrev pub WroteNothing : Streams → Streams → Type 0
WroteNothing old new = IsTrue old.output_told → new.written ≡ old.written

-- The whole input was read, it is at most so long, and the verdict on it as one message is this.
pub record IsChecked (limit : ℕ) (old new : Streams) (verdict : CheckVerdict) : Type 0 where
  pub short : length old.left ≤ limit
  pub read : new.left ≡ []
  pub verdict_is : IsVerdict old.left verdict

-- The run came to a verdict: the status is its status, and its line was written.
pub record CameTo (limit : ℕ) (old new : Streams) (status : Status)
    (verdict : CheckVerdict) : Type 0 where
  pub judged : IsTrue old.input_told → IsChecked limit old new verdict
  pub status_is : status ≡ status_of verdict
  pub line : IsTrue old.output_told → new.written ≡ old.written ++ check_line verdict

-- The run came to a verdict, and a call of the output failed: a front of the line was written.
pub record StoppedAt (limit : ℕ) (old new : Streams) (verdict : CheckVerdict) : Type 0 where
  pub judged : IsTrue old.input_told → IsChecked limit old new verdict
  pub line : IsTrue old.output_told → AddsFront old.written new.written (check_line verdict)
  pub cause : Rose old.write_faults new.write_faults

-- The input has a byte past the limit, which was the last one read.
abbrev pub IsTooLong : ℕ → Streams → Streams → Type 0
IsTooLong limit old new = IsTrue old.input_told → length old.left ≡ limit + 1 + length new.left

-- What `check` does on a message of at most so many bytes.
abbrev pub Checked : ℕ → Streams → Streams → Status → Type 0
Checked limit old new Status.Usage = ⊥
Checked limit old new Status.ReadFault = Rose old.read_faults new.read_faults × WroteNothing old new
Checked limit old new Status.WriteFault = (verdict : CheckVerdict) × StoppedAt limit old new verdict
Checked limit old new Status.TooLong = IsTooLong limit old new × WroteNothing old new
Checked limit old new Status.Memory = WroteNothing old new
Checked limit old new status = (verdict : CheckVerdict) × CameTo limit old new status verdict

-- which of the objects of a run tell what they hold
pub record OutsideTells : Type 0 where
  pub disk : Bool
  pub clock : Bool
  pub repos : Bool
  pub input : Bool
  pub output : Bool
  pub feed : Bool
  pub door : Bool
  pub wire : Bool

abbrev pub outside_tells : Bool → Bool → Bool → Bool → Bool → Bool → Bool → Bool → OutsideTells
outside_tells disk clock repos input output feed door wire = record {
  disk = disk;
  clock = clock;
  repos = repos;
  input = input;
  output = output;
  feed = feed;
  door = door;
  wire = wire;
}

-- of those that a command on the journal is handed
abbrev pub parts_tell : OutsideTells → Tells
parts_tell t = tells_of t.disk t.clock t.repos t.output

-- how often each object of a run has failed; of the wire, to give the next request
abbrev pub faults : ℕ → ℕ → ℕ → ℕ → ℕ → ℕ → ℕ → ℕ → ℕ → Faults
faults one two repos clock output input feed door wire = record {
  one = one;
  two = two;
  repos = repos;
  clock = clock;
  output = output;
  input = input;
  feed = feed;
  door = door;
  wire = wire;
}

-- the parts, with how often the input, the feed, the door and the wire have failed
abbrev pub with_counts : ℕ → ℕ → ℕ → ℕ → Parts → Parts
with_counts input feed door wire p = record p {
  failed = record p.failed { input = input; feed = feed; door = door; wire = wire };
}

-- What the objects of a run hold at one moment: the two disks, what the judges, the clock and the
-- repositories tell, what is written, and how often each object has failed (its parts); what is
-- left of the input; what the feed gives of each host behind each number, and what is left of the
-- stream that is open; who comes to the door, and what happened there; the requests of the wire,
-- and what happened on it.
pub record Place : Type 1 where
  pub parts : Parts
  pub left : List ℕ
  pub given : List ℕ → ℕ → List (List ℕ)
  pub coming : List (List ℕ)
  pub door : AtDoor
  pub wire : AtWire

abbrev pub place : Parts → List ℕ → (List ℕ → ℕ → List (List ℕ)) → List (List ℕ) → AtDoor → AtWire
    → Place
place parts left given coming door wire = record {
  parts = parts;
  left = left;
  given = given;
  coming = coming;
  door = door;
  wire = wire;
}

-- what the objects of a run hold, by what is seen of each: of the parts that are one value, of the
-- input, of the feed, of the door and of the wire
abbrev pub place_seen : {S I F G W : Type 0} → (S → Parts) → (I → List ℕ) → (I → ℕ)
    → (F → List ℕ → ℕ → List (List ℕ)) → (F → List (List ℕ)) → (F → ℕ)
    → (G → AtDoor) → (G → ℕ) → (W → AtWire) → (W → ℕ) → S → I → F → G → W → Place
place_seen parts left inputs given coming feeds door doors wire wires s i f g w = place
    (with_counts (inputs i) (feeds f) (doors g) (wires w) (parts s))
    (left i) (given f) (coming f) (door g) (wire w)

-- the parts that a command on the journal is handed as one value: no input, feed, door or wire is
-- among them, so that these count 0
abbrev pub handed : Parts → Parts
handed p = at_place p.one p.two p.around p.written
    (counts p.failed.one p.failed.two p.failed.repos p.failed.clock p.failed.output)

-- the input and the output
abbrev pub streams_at : OutsideTells → Place → Streams
streams_at t p =
    streams t.input p.left p.parts.failed.input t.output p.parts.written p.parts.failed.output

-- Of the disks alone something was asked: nothing was written, taken or sent, nobody was asked, and
-- no other part failed.
pub record IsUntouched (old new : Place) : Type 0 where
  pub around : new.parts.around ≡ old.parts.around
  pub written : new.parts.written ≡ old.parts.written
  pub failed : new.parts.failed
      ≡ record old.parts.failed { one = new.parts.failed.one; two = new.parts.failed.two }
  pub left : new.left ≡ old.left
  pub given : new.given ≡ old.given
  pub coming : new.coming ≡ old.coming
  pub door : new.door ≡ old.door
  pub wire : new.wire ≡ old.wire

-- nothing was done, and unless a disk failed the two were only read
abbrev pub NothingDone : Place → Place → Status → Type 0
NothingDone old new status = AreOnlyRead status old.parts new.parts × IsUntouched old new

-- what a command does with the journal of the two disks, where they tell it
abbrev pub OnJournal : OutsideTells → Place → (List Row → Type 0) → Type 0
OnJournal t p Does = (J : List Row) → HoldsJournal (parts_tell t) J p.parts → Does J

-- A command on the journal ended with one of its statuses, which says what the disks held; and this
-- came of their journal.
pub record Commanded (t : OutsideTells) (old : Place) (status : Status)
    (May : Status → Type 0) (Came : List Row → Type 0) : Type 0 where
  pub may : May status
  pub shows : IsTrue t.disk → Shows status old.parts.one.content old.parts.two.content
  pub came : OnJournal t old Came

-- So did an operator's: it reads no input, and writes nothing after a fault of the store.
pub record ByOperator (t : OutsideTells) (old new : Place) (status : Status)
    (May : Status → Type 0) (Came : List Row → Type 0) : Type 0 where
  pub commanded : Commanded t old status May Came
  pub unread : new.left ≡ old.left
  pub quiet : IsTrue t.output → IsQuiet status old.parts.written new.parts.written

-- a text of the journal is shown, and nothing else is asked
abbrev pub IsShown : (List Row → List ℕ) → OutsideTells → Place → Place → Status → Type 0
IsShown text t old new status = (new.parts.around ≡ old.parts.around)
    × ByOperator t old new status MayEndShowing (λ J. TextShown (parts_tell t) LONGEST J (text J)
    (handed old.parts) (handed new.parts) status)

-- an account is taken down or restored at a time, of which the clock is asked; no authority is
-- asked, so none is missing
abbrev pub RanOperated : List ℕ → Bool → List ℕ → OutsideTells → Place → Place → Status → Type 0
RanOperated did down time t old new status =
    (new.parts.around.panel ≡ old.parts.around.panel)
    × ByOperator t old new status MayEndOperating (λ J. WasOperated (parts_tell t) LONGEST J
    did down time (handed old.parts) (handed new.parts) status)

-- an account's repository is fetched and taken over at a time, of which judges, clock and
-- repositories are asked; where authorities are missing, they are those of the account's method
abbrev pub IsSynced : List ℕ → List ℕ → OutsideTells → Place → Place → Status → Type 0
IsSynced did time t old new status =
    (status ≡ Status.Authority → IsSpent (new.parts.around.panel (method_of did)))
    × ByOperator t old new status MayEndSyncing (λ J. WasSynced (parts_tell t) LONGEST J
    did time (handed old.parts) (handed new.parts) status)

-- the parts with other disks, which are seen so
abbrev pub with_disks : {D : Type 0} → (D → View) → Parts → D × D → Parts
with_disks view p pair = record p { one = view pair.0; two = view pair.1 }

-- the journal is cut at a number, and nothing else is asked
abbrev pub RanCut : {D : Type 0} → (D → View) → ℕ → OutsideTells → Place → Place → Status → Type 0
RanCut view seq t old new status = (new.parts.around ≡ old.parts.around)
    × ByOperator t old new status MayEndCutting (λ J. WasCut (with_disks view old.parts)
    (parts_tell t) LONGEST J seq (handed old.parts) (handed new.parts) status)

-- the disks weren't opened, and nothing else was done
abbrev pub WasUnopened : OutsideTells → List Row → Place → Place → Status → Type 0
WasUnopened t J old new status =
    Unopened (parts_tell t) LONGEST J (handed old.parts) (handed new.parts) status
    × IsUntouched old new

-- A tape was to be taken into the journal: the disks weren't opened, or it was taken and ended so. A
-- whole tape shows no fault, and isn't too long: where nothing fails it is taken, unless memory runs
-- out, the log is full, or the numbers or the authorities end.
pub record IsIngested (t : OutsideTells) (old new : Place) (status : Status) : Type 0 where
  pub commanded : Commanded t old status MayEndIngesting (λ J. WasUnopened t J old new status
      ⊎ Ingested (parts_tell t) t.input LONGEST LONGEST J (handed old.parts) (handed new.parts)
      (input_at old.left old.parts.failed.input) (input_at new.left new.parts.failed.input) status)
  pub whole : OnJournal t old (λ J. IsTrue t.input → (messages : List Message)
      → AreRecords messages → old.left ≡ encoded_records messages
      → length (encoded_records messages) < LONGEST
      → ((at : ℕ) → status ≢ Status.BadTape at) × (status ≢ Status.TooLong))

-- a host was to be followed: the disks weren't opened, or messages of its feed were taken into the
-- journal, and it ended so; the input isn't read
abbrev pub IsFollowed : List ℕ → ℕ → OutsideTells → Place → Place → Status → Type 0
IsFollowed host count t old new status = (new.left ≡ old.left)
    × Commanded t old status MayEndFollowing (λ J. WasUnopened t J old new status
    ⊎ Followed (parts_tell t) t.feed host LONGEST count J (handed old.parts) (handed new.parts)
    (old.given host) new.coming status)

-- The journal was to be read, and nobody was asked, and no input was read.
pub record IsRead (t : OutsideTells) (old new : Place) (status : Status)
    (May : Status → Type 0) (Came : List Row → Type 0) : Type 0 where
  pub commanded : Commanded t old status May Came
  pub unasked : new.parts.around ≡ old.parts.around
  pub unread : new.left ≡ old.left

-- the messages that are served after this cursor are written
abbrev pub IsReplayed : ℕ → OutsideTells → Place → Place → Status → Type 0
IsReplayed cursor t old new status = IsRead t old new status MayEndReading (λ J.
    Replayed (parts_tell t) LONGEST J cursor (handed old.parts) (handed new.parts) status)

-- guests are served
abbrev pub IsServed : ℕ → OutsideTells → Place → Place → Status → Type 0
IsServed count t old new status = IsRead t old new status MayEndServing (λ J.
    ServedAt (parts_tell t) t.door LONGEST count J old.door new.door
    (handed old.parts) (handed new.parts) status)

-- requests are answered; where the disks ended it none was taken, and nothing was written
abbrev pub IsQueried : ℕ → OutsideTells → Place → Place → Status → Type 0
IsQueried count t old new status =
    (IsOfDisks status → (new.wire ≡ old.wire) × (new.parts.written ≡ old.parts.written))
    × IsRead t old new status MayEndQuerying (λ J.
    AnsweredBy (parts_tell t) t.wire LONGEST count J old.wire new.wire
    (handed old.parts) (handed new.parts) status)

-- the lines of operations are written
abbrev pub AreLinesGiven : ℕ → Option (List ℕ) → OutsideTells → Place → Place → Status → Type 0
AreLinesGiven cursor collection t old new status = IsRead t old new status MayEndReading (λ J.
    LinesWritten (parts_tell t) LONGEST J collection cursor
    (handed old.parts) (handed new.parts) status)

-- A trial was run on two disks of its own, which hold these bytes in the end; of what was handed in
-- it has the output alone.
abbrev pub IsTried : ℕ → ℕ → OutsideTells → Place → Place → Status → Type 0
IsTried start count t old new status = MayEndTrying status × ((first second : List ℕ)
    × Tried t.output start count first second old.parts.written new.parts.written status)

-- the stream on the input was to be mirrored, and ended so
abbrev pub IsMirroredFrom : OutsideTells → Place → Place → Status → Type 0
IsMirroredFrom t old new status = MayEndMirroring status
    × Mirrored t.input t.output t.repos LONGEST old.parts.around.repository old.left
    old.parts.written new.parts.written status

-- whether a command works on the journal
abbrev pub is_on_journal : Command → Bool
is_on_journal Command.Check = false
is_on_journal (Command.Trial start count) = false
is_on_journal Command.Mirror = false
is_on_journal command = true

-- whether a command reads the input, asks the repositories, the feed, the door or the wire
abbrev pub uses_input : Command → Bool
uses_input Command.Check = true
uses_input Command.Ingest = true
uses_input Command.Mirror = true
uses_input command = false

abbrev pub uses_repos : Command → Bool
uses_repos Command.Ingest = true
uses_repos (Command.Follow host count) = true
uses_repos (Command.Sync did time) = true
uses_repos Command.Mirror = true
uses_repos command = false

abbrev pub uses_feed : Command → Bool
uses_feed (Command.Follow host count) = true
uses_feed command = false

abbrev pub uses_door : Command → Bool
uses_door (Command.Serve count) = true
uses_door command = false

abbrev pub uses_wire : Command → Bool
uses_wire (Command.Query count) = true
uses_wire command = false

-- What a run of each command does, on disks that are seen so.
abbrev pub HasRun : {D : Type 0} → (D → View) → OutsideTells → Place → Place → Status → Command
    → Type 0
HasRun view t old new status Command.Check =
    Checked LONGEST_FEED_MESSAGE (streams_at t old) (streams_at t new) status
HasRun view t old new status Command.Ingest = IsIngested t old new status
HasRun view t old new status (Command.Account did) =
    IsShown (λ J. account_text did (account did J)) t old new status
HasRun view t old new status Command.Hosts =
    IsShown (λ J. hosts_text (hosts J)) t old new status
HasRun view t old new status (Command.Takedown did time) =
    RanOperated did true time t old new status
HasRun view t old new status (Command.Restore did time) =
    RanOperated did false time t old new status
HasRun view t old new status (Command.Sync did time) =
    IsSynced did time t old new status
HasRun view t old new status (Command.Cut seq) = RanCut view seq t old new status
HasRun view t old new status (Command.Follow host count) =
    IsFollowed host count t old new status
HasRun view t old new status (Command.Replay cursor) = IsReplayed cursor t old new status
HasRun view t old new status (Command.Serve count) = IsServed count t old new status
HasRun view t old new status (Command.Trial start count) = IsTried start count t old new status
HasRun view t old new status Command.Mirror = IsMirroredFrom t old new status
HasRun view t old new status (Command.Query count) = IsQueried count t old new status
HasRun view t old new status (Command.Lines cursor collection) =
    AreLinesGiven cursor collection t old new status
