-- What holds of all journals and of all runs.
use Rattle.std.specs.Prelude.{◌≡◌, ℕ, ◌+◌, ◌<◌, Bool, true, List, [], ◌∷◌, ◌++◌, Option, Ok, Err, Some, None, if◌then◌else◌}
use Rattle.std.specs.List.{AllByRecursion}
use Rattle.at_cid.specs.Link.{IsBytes}
use Rattle.at_event.specs.Events.{IsEvent}
use Rattle.at_event.specs.declared.frame.Frame.{Frame}
use Rattle.relay_row.specs.Journal.{IsJournal}
use Rattle.relay_row.specs.declared.fetched.Whole.{Whole}
use Rattle.relay_row.specs.declared.operated.Operated.{Operated}
use Rattle.relay_row.specs.declared.row.Row.{Row}
use Rattle.at_event.specs.Formed.{IsShortText}
use Rattle.at_event.specs.Seen.{Seen}
use Rattle.at_event.specs.declared.head.Head.{Head}
use Rattle.at_event.specs.declared.refusal.Refusal.{Refusal}
use Rattle.relay_row.specs.Folds.{cursor, last_seq, seq_in}
use Rattle.relay_row.specs.Rules.{names_did, names_host}
use Rattle.at_cid.specs.declared.limits.TheConstants.{NUMBERS}
use Rattle.relay_row.specs.declared.taken.Taken.{Taken}
use Rattle.account_state.specs.Folds.{account}
use Rattle.relay_core.specs.Answering.{row_of}
use Rattle.relay_core.specs.Decide.{Checks, Outside, found, decided, passed, whole_under}
use Rattle.relay_core.specs.Opening.{OpensRight}
use Rattle.relay_core.specs.Operating.{operated_as}
use Rattle.relay_core.specs.Table.{did_of, next_of}
use Rattle.relay_core.specs.declared.answers.Answers.{Answers}
use Rattle.relay_core.specs.declared.decision.Decision.{Decision}
use Rattle.relay_core.specs.declared.decision.Next.{Next}
use Rattle.relay_core.specs.Runs.{Message, Run}
use Rattle.relay_core.specs.Worlds.{World, RunsIn}
use Rattle.relay_law.specs.Calls.{SayWhatCallsAnswer, as_read}
use Rattle.relay_law.specs.Carried.{AreOfKnown, CarriesOver}
use Rattle.relay_law.specs.Chains.{chains}
use Rattle.relay_law.specs.Covered.{IsCovered}
use Rattle.relay_law.specs.Faithful.{AreReadBack, IsFaithfulJournal, IsReadBack, SendsWhatItKeeps, SendWhatTheyKeep}
use Rattle.relay_law.specs.Heads.{BlockGives, FetchesGive}
use Rattle.relay_law.specs.Formed.{IsReadFrame, AreAnswersFor, AreFormedFor, IsFormedFound}
use Rattle.relay_law.specs.Histories.{Point, LivesFrom, AllCome}
use Rattle.relay_law.specs.Merges.{Merge, OneHome, Agree}
use Rattle.relay_law.specs.Right.{AreRight, LinksRight}
use Rattle.relay_law.specs.Sound.{IsSound, AllReplay}

-- the events among messages are read from their payloads
abbrev pub AreEvents : List Message → Type 0
AreEvents [] = Unit {0}
AreEvents ((host, Ok (Frame.Event e)) ∷ messages) = IsEvent e × AreEvents messages
AreEvents ((host, Ok (Frame.Faulty seq)) ∷ messages) = AreEvents messages
AreEvents ((host, Ok Frame.Info) ∷ messages) = AreEvents messages
AreEvents ((host, Ok Frame.Error) ∷ messages) = AreEvents messages
AreEvents ((host, Ok Frame.Unknown) ∷ messages) = AreEvents messages
AreEvents ((host, Err fault) ∷ messages) = AreEvents messages

-- A run behind a sound journal leaves a sound journal, whatever the hosts sent and whatever was
-- answered, as long as the checks are right.
abbrev pub RunsStaySound : Type 0
RunsStaySound = (checks : Checks) → AreRight checks
    → (J : List Row) (messages : List Message) (rows : List Row)
    → AreEvents messages → IsJournal (J ++ rows) → IsSound J → Run checks J messages rows
    → IsSound (J ++ rows)

-- Each chain of a sound journal replays from its base.
abbrev pub SoundReplays : Type 0
SoundReplays = (rows : List Row) → IsSound rows → (did : List ℕ) → AllReplay (chains did rows)

-- Each front of a sound journal is sound.
abbrev pub FrontsAreSound : Type 0
FrontsAreSound = (xs ys : List Row) → IsSound (xs ++ ys) → IsSound xs

-- The rows that operators' commands make leave a sound journal sound.
pub record OperatorsStaySound : Type 0 where
  pub operated : (rows : List Row) (o : Operated) → IsSound rows
      → IsSound (rows ++ Row.Operated o ∷ [])
  pub synced : (rows : List Row) (did : List ℕ) (whole : Whole) (moment : Option ℕ) → IsSound rows
      → IsSound (rows ++ Row.Synced did whole moment ∷ [])

-- Checks that open and link rightly are right: what leads from root to root replays.
abbrev pub ChecksAreRight : Type 0
ChecksAreRight = (checks : Checks) → OpensRight checks → LinksRight checks → AreRight checks

-- Some checks open and link rightly.
abbrev pub SomeChecksAreRight : Type 0
SomeChecksAreRight = (checks : Checks) × OpensRight checks × LinksRight checks

-- What the calls that check events answer is what checks that open and link rightly say.
abbrev pub CallsAnswerRight : Type 0
CallsAnswerRight = (checks : Checks) → OpensRight checks → LinksRight checks
    → SayWhatCallsAnswer checks

-- The events that hosts sent are made of the fields of their payloads.
abbrev pub SentAreEvents : Type 0
SentAreEvents = (sent : List (List ℕ × List ℕ)) → AllByRecursion (λ m. IsBytes m.1) sent
    → AreEvents (as_read sent)

-- A store's run behind a sound journal leaves a sound journal, whatever bytes the hosts sent and
-- whatever was answered: a run by whichever checks open and link rightly, as its calls do.
abbrev pub StoresStaySound : Type 0
StoresStaySound = (J : List Row) (sent : List (List ℕ × List ℕ)) (rows : List Row)
    → AllByRecursion (λ m. IsBytes m.1) sent → IsJournal (J ++ rows) → IsSound J
    → ((checks : Checks) → OpensRight checks → LinksRight checks → Run checks J (as_read sent) rows)
    → IsSound (J ++ rows)

-- Behind one journal, in one world, two merges of the same hosts' streams leave the same accounts
-- and the same cursors, and of every host, aside from the numbers given, the same rows.
abbrev pub MergesAgree : Type 0
MergesAgree = (checks : Checks) (w : World) (J : List Row) (ended : List (List ℕ))
    (one other : List Message) (ones others : List Row)
    → Merge one other → OneHome w one → RunsIn checks w J ended one ones
    → RunsIn checks w J ended other others → Agree checks J ones others

-- A covered commit is accepted where its home and its signature are good, and else refused for one
-- of the two alone.
abbrev pub CoveredAreAccepted : Type 0
CoveredAreAccepted = (checks : Checks) → OpensRight checks → LinksRight checks
    → (J : List Row) (host : List ℕ) (e : Seen) (o : Outside) (t : Taken) → IsEvent e
    → IsCovered J host e o.moment
    → decided checks (last_seq J) (account e.did J) host (Frame.Event e) o ≡ Some t
    → t.refusal ≡ (if o.home then (if o.verdict then None else Some Refusal.BadSignature)
    else Some Refusal.NotHome)

-- the row of an operator's command, and that of a repository that an operator had fetched
abbrev pub operated_row : List Row → List ℕ → Bool → List ℕ → Option ℕ → Row
operated_row J did down time moment =
    Row.Operated (operated_as (last_seq J) (account did J) did down time moment)

abbrev pub synced_row : List Row → List ℕ → List ℕ → Head → ℕ → List ℕ → Option ℕ → Row
synced_row J did time head records block moment =
    Row.Synced did (whole_under did time head records block (last_seq J + 1)) moment

-- The rows that operators' commands make send what they keep, whatever the time is that they bear,
-- if it is a short text; that of a repository that was fetched is read back, whatever its block.
pub record OperatorsAreFaithful : Type 0 where
  pub operated : (J : List Row) (did : List ℕ) (down : Bool) (time : List ℕ) (moment : Option ℕ)
      → IsShortText time → IsJournal (J ++ operated_row J did down time moment ∷ [])
      → SendsWhatItKeeps J (operated_row J did down time moment)
  pub synced : (J : List Row) (did time : List ℕ) (head : Head) (records : ℕ) (block : List ℕ)
      (moment : Option ℕ) → IsShortText time
      → IsJournal (J ++ synced_row J did time head records block moment ∷ [])
      → IsReadBack (synced_row J did time head records block moment)

-- The rows of a run are read back, whatever the checks.
abbrev pub RunsAreReadBack : Type 0
RunsAreReadBack = (checks : Checks) (J : List Row) (messages : List Message) (rows : List Row)
    → AreEvents messages → IsJournal (J ++ rows) → Run checks J messages rows → AreReadBack rows

-- No run accepts a commit of an account that was lost, as long as the checks are right.
abbrev pub RunsFollowKnown : Type 0
RunsFollowKnown = (checks : Checks) → AreRight checks
    → (J : List Row) (messages : List Message) (rows : List Row) → Run checks J messages rows
    → AreOfKnown J rows

-- Where the front of a sound journal gives way to rows that carry it over, the journal stays sound,
-- as long as no commit behind the front is of an account that was lost.
abbrev pub CarriedStaySound : Type 0
CarriedStaySound = (front others carried : List Row) → IsJournal (front ++ others)
    → IsSound (front ++ others) → AreOfKnown front others → CarriesOver front carried
    → IsSound (carried ++ others)

-- Over every list of calls, failures, crashes and openings, each journal that a later store has
-- comes from the one that is open now by rows added at its end and by cuts at numbers that were
-- held.
abbrev pub JournalsComeOn : Type 0
JournalsComeOn = (p : Point) (points : List Point) (J : List Row) → LivesFrom p points
    → p.serves ≡ Some J → AllCome J points

-- A message that is decided makes a row that is well formed and keeps the order of its journal,
-- whatever was answered, as long as opening and linking were answered rightly and the number that
-- the row gives is one.
abbrev pub MadeRowsAreFormed : Type 0
MadeRowsAreFormed = (J : List Row) (host : List ℕ) (frame : Frame) (x : Answers) (d : Decision)
    (row : Row)
    → IsJournal J → names_host host ≡ true → IsReadFrame frame
    → AreAnswersFor (last_seq J) (account (did_of frame) J) frame x
    → next_of (cursor host J) (account (did_of frame) J) frame x ≡ Next.Done d
    → row_of (last_seq J) host frame d x ≡ Some row
    → seq_in row < NUMBERS → IsJournal (J ++ row ∷ [])

-- The same of the row that is decided for answers to all questions, as long as the checks open and
-- link rightly.
abbrev pub DecidedRowsAreFormed : Type 0
DecidedRowsAreFormed = (checks : Checks) → OpensRight checks → LinksRight checks
    → (J : List Row) (host : List ℕ) (frame : Frame) (o : Outside) (t : Taken)
    → IsJournal J → names_host host ≡ true → IsReadFrame frame → AreFormedFor (last_seq J) frame o
    → passed (cursor host J) frame ≡ None
    → decided checks (last_seq J) (account (did_of frame) J) host frame o ≡ Some t
    → seq_in (Row.Taken t) < NUMBERS → IsJournal (J ++ Row.Taken t ∷ [])

-- The row that takes an account down or restores it, at a time and a moment, is well formed and
-- keeps the order of its journal, as long as a number is left.
abbrev pub OperatedRowsAreFormed : Type 0
OperatedRowsAreFormed = (J : List Row) (did : List ℕ) (down : Bool) (time : List ℕ) (moment : ℕ)
    → IsJournal J → names_did did ≡ true → IsShortText time → moment < NUMBERS
    → last_seq J + 1 < NUMBERS
    → IsJournal (J ++ Row.Operated (operated_as (last_seq J) (account did J) did down time
    (Some moment)) ∷ [])

-- The same of the row that takes over a repository that was fetched at an operator's command.
abbrev pub SyncedRowsAreFormed : Type 0
SyncedRowsAreFormed = (J : List Row) (did time : List ℕ) (head : Head) (records : ℕ)
    (block : List ℕ) (moment : ℕ)
    → IsJournal J → names_did did ≡ true
    → IsFormedFound (last_seq J) did time (found head records block) → moment < NUMBERS
    → last_seq J + 1 < NUMBERS
    → IsJournal (J ++ Row.Synced did (whole_under did time head records block (last_seq J + 1))
    (Some moment) ∷ [])

-- The rows of a run of right checks, and so of a store's, send what they keep, as long as what was
-- fetched was given by its blocks.
abbrev pub RunsAreFaithful : Type 0
RunsAreFaithful = (checks : Checks) → OpensRight checks → LinksRight checks
    → (J : List Row) (messages : List Message) (rows : List Row)
    → AreEvents messages → IsJournal (J ++ rows) → FetchesGive rows → Run checks J messages rows
    → SendWhatTheyKeep J rows

-- a run of each checks that open and link rightly gives these rows, whatever bytes the hosts sent
abbrev pub IsRightRun : List Row → List (List ℕ × List ℕ) → List Row → Type 0
IsRightRun J sent rows =
    (checks : Checks) → OpensRight checks → LinksRight checks → Run checks J (as_read sent) rows

-- The journals that a relay writes are faithful: the empty one; what a store's run adds, whatever
-- bytes the hosts sent and whatever was answered, as long as the block of each repository that was
-- fetched gives its head; the rows that operators' commands make; and one whose front gives way to
-- rows that carry it over. So is each front of one.
pub record JournalsStayFaithful : Type 0 where
  pub none : IsFaithfulJournal []
  pub run : (J : List Row) (sent : List (List ℕ × List ℕ)) (rows : List Row)
      → IsFaithfulJournal J → AllByRecursion (λ m. IsBytes m.1) sent → IsJournal (J ++ rows)
      → FetchesGive rows → IsRightRun J sent rows → IsFaithfulJournal (J ++ rows)
  pub operated : (J : List Row) (did : List ℕ) (down : Bool) (time : List ℕ) (moment : Option ℕ)
      → IsFaithfulJournal J → IsShortText time
      → IsJournal (J ++ operated_row J did down time moment ∷ [])
      → IsFaithfulJournal (J ++ operated_row J did down time moment ∷ [])
  pub synced : (J : List Row) (did time : List ℕ) (head : Head) (records : ℕ) (block : List ℕ)
      (moment : Option ℕ) → IsFaithfulJournal J → IsShortText time → BlockGives head block
      → IsJournal (J ++ synced_row J did time head records block moment ∷ [])
      → IsFaithfulJournal (J ++ synced_row J did time head records block moment ∷ [])
  pub cut : (front others carried : List Row) → IsFaithfulJournal (front ++ others)
      → CarriesOver front carried → IsJournal (carried ++ others)
      → IsFaithfulJournal (carried ++ others)
  pub front : (front others : List Row) → IsFaithfulJournal (front ++ others)
      → IsFaithfulJournal front
