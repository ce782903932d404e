-- Laws of well formed rows, each without one of its premises.
use Rattle.std.specs.Prelude.{◌≡◌, ℕ, ◌+◌, ◌<◌, Bool, true, List, [], ◌∷◌, ◌++◌, Some, None}
use Rattle.at_event.specs.Formed.{IsShortText}
use Rattle.at_event.specs.declared.frame.Frame.{Frame}
use Rattle.at_event.specs.declared.head.Head.{Head}
use Rattle.relay_row.specs.Folds.{cursor, last_seq, seq_in}
use Rattle.relay_row.specs.Journal.{IsJournal}
use Rattle.relay_row.specs.Rules.{names_did, names_host}
use Rattle.at_cid.specs.declared.limits.TheConstants.{NUMBERS}
use Rattle.relay_row.specs.declared.row.Row.{Row}
use Rattle.relay_row.specs.declared.taken.Taken.{Taken}
use Rattle.account_state.specs.Folds.{account}
use Rattle.relay_core.specs.Answering.{row_of}
use Rattle.relay_core.specs.Decide.{Checks, Outside, found, decided, passed, whole_under}
use Rattle.relay_core.specs.Opening.{OpensRight}
use Rattle.relay_core.specs.Operating.{operated_as}
use Rattle.relay_core.specs.Table.{did_of, next_of}
use Rattle.relay_core.specs.declared.answers.Answers.{Answers}
use Rattle.relay_core.specs.declared.decision.Decision.{Decision}
use Rattle.relay_core.specs.declared.decision.Next.{Next}
use Rattle.relay_law.specs.Formed.{IsReadFrame, AreAnswersFor, AreFormedFor, IsFormedFound}
use Rattle.relay_law.specs.Right.{LinksRight}

-- the row that takes an account down or restores it
abbrev pub word : List Row → List ℕ → Bool → List ℕ → ℕ → Row
word J did down time moment = Row.Operated
    (operated_as (last_seq J) (account did J) did down time (Some moment))

-- The row of an account that is taken down or restored may be ill formed, or break the order ..
pub record OperatedMayBeIllFormed : Type 0 where
  -- where there was no journal
  pub journal : ((J : List Row) (did : List ℕ) (down : Bool) (time : List ℕ) (moment : ℕ)
      → names_did did ≡ true → IsShortText time → moment < NUMBERS → last_seq J + 1 < NUMBERS
      → IsJournal (J ++ word J did down time moment ∷ [])) → ⊥
  -- where the account has no DID
  pub did : ((J : List Row) (did : List ℕ) (down : Bool) (time : List ℕ) (moment : ℕ) → IsJournal J
      → IsShortText time → moment < NUMBERS → last_seq J + 1 < NUMBERS
      → IsJournal (J ++ word J did down time moment ∷ [])) → ⊥
  -- where the time is no text
  pub time : ((J : List Row) (did : List ℕ) (down : Bool) (time : List ℕ) (moment : ℕ) → IsJournal J
      → names_did did ≡ true → moment < NUMBERS → last_seq J + 1 < NUMBERS
      → IsJournal (J ++ word J did down time moment ∷ [])) → ⊥
  -- where the moment is no number
  pub moment : ((J : List Row) (did : List ℕ) (down : Bool) (time : List ℕ) (moment : ℕ)
      → IsJournal J → names_did did ≡ true → IsShortText time → last_seq J + 1 < NUMBERS
      → IsJournal (J ++ word J did down time moment ∷ [])) → ⊥
  -- where no number is left
  pub number : ((J : List Row) (did : List ℕ) (down : Bool) (time : List ℕ) (moment : ℕ)
      → IsJournal J → names_did did ≡ true → IsShortText time → moment < NUMBERS
      → IsJournal (J ++ word J did down time moment ∷ [])) → ⊥

-- the row of a repository that was fetched at an operator's command
abbrev pub repository : List Row → List ℕ → List ℕ → Head → ℕ → List ℕ → ℕ → Row
repository J did time head records block moment =
    Row.Synced did (whole_under did time head records block (last_seq J + 1)) (Some moment)

-- The row of a repository that was fetched at an operator's command may be ill formed, or break the
-- order ..
pub record SyncedMayBeIllFormed : Type 0 where
  -- where there was no journal
  pub journal : ((J : List Row) (did time : List ℕ) (head : Head) (records : ℕ) (block : List ℕ)
      (moment : ℕ) → names_did did ≡ true
      → IsFormedFound (last_seq J) did time (found head records block) → moment < NUMBERS
      → last_seq J + 1 < NUMBERS → IsJournal
      (J ++ repository J did time head records block moment ∷ [])) → ⊥
  -- where the account has no DID
  pub did : ((J : List Row) (did time : List ℕ) (head : Head) (records : ℕ) (block : List ℕ)
      (moment : ℕ) → IsJournal J → IsFormedFound (last_seq J) did time (found head records block)
      → moment < NUMBERS → last_seq J + 1 < NUMBERS
      → IsJournal (J ++ repository J did time head records block moment ∷ [])) → ⊥
  -- where what was found hasn't its forms
  pub fetched : ((J : List Row) (did time : List ℕ) (head : Head) (records : ℕ) (block : List ℕ)
      (moment : ℕ) → IsJournal J → names_did did ≡ true → moment < NUMBERS
      → last_seq J + 1 < NUMBERS → IsJournal
      (J ++ repository J did time head records block moment ∷ [])) → ⊥
  -- where the moment is no number
  pub moment : ((J : List Row) (did time : List ℕ) (head : Head) (records : ℕ) (block : List ℕ)
      (moment : ℕ) → IsJournal J → names_did did ≡ true
      → IsFormedFound (last_seq J) did time (found head records block) → last_seq J + 1 < NUMBERS
      → IsJournal (J ++ repository J did time head records block moment ∷ [])) → ⊥
  -- where no number is left
  pub number : ((J : List Row) (did time : List ℕ) (head : Head) (records : ℕ) (block : List ℕ)
      (moment : ℕ) → IsJournal J → names_did did ≡ true
      → IsFormedFound (last_seq J) did time (found head records block) → moment < NUMBERS
      → IsJournal (J ++ repository J did time head records block moment ∷ [])) → ⊥

-- The row that is made of a message may be ill formed, or break the order ..
pub record MadeMayBeIllFormed : Type 0 where
  -- where there was no journal
  pub journal : ((J : List Row) (host : List ℕ) (frame : Frame) (x : Answers) (d : Decision)
      (row : Row) → names_host host ≡ true → IsReadFrame frame
      → AreAnswersFor (last_seq J) (account (did_of frame) J) frame x
      → next_of (cursor host J) (account (did_of frame) J) frame x ≡ Next.Done d
      → row_of (last_seq J) host frame d x ≡ Some row → seq_in row < NUMBERS
      → IsJournal (J ++ row ∷ [])) → ⊥
  -- where the host has no name
  pub host : ((J : List Row) (host : List ℕ) (frame : Frame) (x : Answers) (d : Decision)
      (row : Row) → IsJournal J → IsReadFrame frame
      → AreAnswersFor (last_seq J) (account (did_of frame) J) frame x
      → next_of (cursor host J) (account (did_of frame) J) frame x ≡ Next.Done d
      → row_of (last_seq J) host frame d x ≡ Some row → seq_in row < NUMBERS
      → IsJournal (J ++ row ∷ [])) → ⊥
  -- where the frame isn't one that is read
  pub frame : ((J : List Row) (host : List ℕ) (frame : Frame) (x : Answers) (d : Decision)
      (row : Row) → IsJournal J → names_host host ≡ true
      → AreAnswersFor (last_seq J) (account (did_of frame) J) frame x
      → next_of (cursor host J) (account (did_of frame) J) frame x ≡ Next.Done d
      → row_of (last_seq J) host frame d x ≡ Some row → seq_in row < NUMBERS
      → IsJournal (J ++ row ∷ [])) → ⊥
  -- where an answer isn't right
  pub answers : ((J : List Row) (host : List ℕ) (frame : Frame) (x : Answers) (d : Decision)
      (row : Row) → IsJournal J → names_host host ≡ true → IsReadFrame frame
      → next_of (cursor host J) (account (did_of frame) J) frame x ≡ Next.Done d
      → row_of (last_seq J) host frame d x ≡ Some row → seq_in row < NUMBERS
      → IsJournal (J ++ row ∷ [])) → ⊥
  -- where the message isn't decided
  pub next : ((J : List Row) (host : List ℕ) (frame : Frame) (x : Answers) (d : Decision)
      (row : Row) → IsJournal J → names_host host ≡ true → IsReadFrame frame
      → AreAnswersFor (last_seq J) (account (did_of frame) J) frame x
      → row_of (last_seq J) host frame d x ≡ Some row → seq_in row < NUMBERS
      → IsJournal (J ++ row ∷ [])) → ⊥
  -- where the row isn't its own
  pub row : ((J : List Row) (host : List ℕ) (frame : Frame) (x : Answers) (d : Decision) (row : Row)
      → IsJournal J → names_host host ≡ true → IsReadFrame frame
      → AreAnswersFor (last_seq J) (account (did_of frame) J) frame x
      → next_of (cursor host J) (account (did_of frame) J) frame x ≡ Next.Done d
      → seq_in row < NUMBERS → IsJournal (J ++ row ∷ [])) → ⊥
  -- where no number is left
  pub number : ((J : List Row) (host : List ℕ) (frame : Frame) (x : Answers) (d : Decision)
      (row : Row) → IsJournal J → names_host host ≡ true → IsReadFrame frame
      → AreAnswersFor (last_seq J) (account (did_of frame) J) frame x
      → next_of (cursor host J) (account (did_of frame) J) frame x ≡ Next.Done d
      → row_of (last_seq J) host frame d x ≡ Some row → IsJournal (J ++ row ∷ [])) → ⊥

-- The row that is decided for answers to all questions may be ill formed, or break the order ..
pub record DecidedMayBeIllFormed : Type 0 where
  -- where the checks don't open rightly
  pub opens : ((checks : Checks) → LinksRight checks
      → (J : List Row) (host : List ℕ) (frame : Frame) (o : Outside) (t : Taken) → IsJournal J
      → names_host host ≡ true → IsReadFrame frame → AreFormedFor (last_seq J) frame o
      → passed (cursor host J) frame ≡ None
      → decided checks (last_seq J) (account (did_of frame) J) host frame o ≡ Some t
      → seq_in (Row.Taken t) < NUMBERS → IsJournal (J ++ Row.Taken t ∷ [])) → ⊥
  -- where they don't link rightly
  pub links : ((checks : Checks) → OpensRight checks
      → (J : List Row) (host : List ℕ) (frame : Frame) (o : Outside) (t : Taken) → IsJournal J
      → names_host host ≡ true → IsReadFrame frame → AreFormedFor (last_seq J) frame o
      → passed (cursor host J) frame ≡ None
      → decided checks (last_seq J) (account (did_of frame) J) host frame o ≡ Some t
      → seq_in (Row.Taken t) < NUMBERS → IsJournal (J ++ Row.Taken t ∷ [])) → ⊥
  -- where there was no journal
  pub journal : ((checks : Checks) → OpensRight checks → LinksRight checks
      → (J : List Row) (host : List ℕ) (frame : Frame) (o : Outside) (t : Taken)
      → names_host host ≡ true → IsReadFrame frame → AreFormedFor (last_seq J) frame o
      → passed (cursor host J) frame ≡ None
      → decided checks (last_seq J) (account (did_of frame) J) host frame o ≡ Some t
      → seq_in (Row.Taken t) < NUMBERS → IsJournal (J ++ Row.Taken t ∷ [])) → ⊥
  -- where the host has no name
  pub host : ((checks : Checks) → OpensRight checks → LinksRight checks
      → (J : List Row) (host : List ℕ) (frame : Frame) (o : Outside) (t : Taken) → IsJournal J
      → IsReadFrame frame → AreFormedFor (last_seq J) frame o → passed (cursor host J) frame ≡ None
      → decided checks (last_seq J) (account (did_of frame) J) host frame o ≡ Some t
      → seq_in (Row.Taken t) < NUMBERS → IsJournal (J ++ Row.Taken t ∷ [])) → ⊥
  -- where the frame isn't one that is read
  pub frame : ((checks : Checks) → OpensRight checks → LinksRight checks
      → (J : List Row) (host : List ℕ) (frame : Frame) (o : Outside) (t : Taken) → IsJournal J
      → names_host host ≡ true → AreFormedFor (last_seq J) frame o
      → passed (cursor host J) frame ≡ None
      → decided checks (last_seq J) (account (did_of frame) J) host frame o ≡ Some t
      → seq_in (Row.Taken t) < NUMBERS → IsJournal (J ++ Row.Taken t ∷ [])) → ⊥
  -- where an answer from outside isn't in form
  pub answers : ((checks : Checks) → OpensRight checks → LinksRight checks
      → (J : List Row) (host : List ℕ) (frame : Frame) (o : Outside) (t : Taken) → IsJournal J
      → names_host host ≡ true → IsReadFrame frame → passed (cursor host J) frame ≡ None
      → decided checks (last_seq J) (account (did_of frame) J) host frame o ≡ Some t
      → seq_in (Row.Taken t) < NUMBERS → IsJournal (J ++ Row.Taken t ∷ [])) → ⊥
  -- where the message is passed over
  pub over : ((checks : Checks) → OpensRight checks → LinksRight checks
      → (J : List Row) (host : List ℕ) (frame : Frame) (o : Outside) (t : Taken) → IsJournal J
      → names_host host ≡ true → IsReadFrame frame → AreFormedFor (last_seq J) frame o
      → decided checks (last_seq J) (account (did_of frame) J) host frame o ≡ Some t
      → seq_in (Row.Taken t) < NUMBERS → IsJournal (J ++ Row.Taken t ∷ [])) → ⊥
  -- where the row isn't what is decided
  pub own : ((checks : Checks) → OpensRight checks → LinksRight checks
      → (J : List Row) (host : List ℕ) (frame : Frame) (o : Outside) (t : Taken) → IsJournal J
      → names_host host ≡ true → IsReadFrame frame → AreFormedFor (last_seq J) frame o
      → passed (cursor host J) frame ≡ None → seq_in (Row.Taken t) < NUMBERS
      → IsJournal (J ++ Row.Taken t ∷ [])) → ⊥
  -- where no number is left
  pub number : ((checks : Checks) → OpensRight checks → LinksRight checks
      → (J : List Row) (host : List ℕ) (frame : Frame) (o : Outside) (t : Taken) → IsJournal J
      → names_host host ≡ true → IsReadFrame frame → AreFormedFor (last_seq J) frame o
      → passed (cursor host J) frame ≡ None
      → decided checks (last_seq J) (account (did_of frame) J) host frame o ≡ Some t
      → IsJournal (J ++ Row.Taken t ∷ [])) → ⊥
