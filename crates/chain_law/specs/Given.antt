-- Journals that a relay made: behind the rows before it, each row is what comes of a message or of
-- an operator's command (own).
use Rattle.std.specs.Prelude.{◌≡◌, ⊤, ◌⊎◌, ℕ, ◌+◌, List, [], ◌∷◌, ◌++◌, Option, None}
use Rattle.at_cid.specs.Link.{IsBytes}
use Rattle.at_event.specs.Events.{IsEvent}
use Rattle.at_event.specs.Formed.{IsShortText}
use Rattle.at_event.specs.Seen.{Seen}
use Rattle.at_event.specs.declared.head.Head.{Head}
use Rattle.relay_row.specs.Folds.{last_seq}
use Rattle.relay_row.specs.declared.fetched.Whole.{Whole}
use Rattle.relay_row.specs.declared.operated.Operated.{Operated}
use Rattle.relay_row.specs.declared.row.Row.{Row}
use Rattle.relay_row.specs.declared.taken.Taken.{Taken}
use Rattle.account_state.specs.Folds.{account, last_rev}
use Rattle.repo_sync.specs.Repository.{IsWhole}
use Rattle.repo_sync.specs.declared.found.Found.{Found as Checked}
use Rattle.relay_core.specs.Decide.{Checks, Outside, Found, absent, unfit, found, event_taken_at, whole_under}
use Rattle.relay_core.specs.Operating.{operate_refusal, operated_as, sync_refusal}
use Rattle.relay_core.specs.Rows.{faulty_taken}

-- The bytes of some repository of the DID, not below the least revision, come to this head, and to
-- this block of its commit.
pub record IsOfRepository (did : List ℕ) (least : Option ℕ) (head : Head)
    (block : List ℕ) : Type 0 where
  pub bytes : List ℕ
  pub are : IsBytes bytes
  pub checked : Checked
  pub whole : IsWhole did least bytes checked
  pub head_is : checked.head ≡ head
  pub block_is : checked.block ≡ block

-- what was found, where it was taken over, is what some repository comes to
abbrev pub IsFoundOfRepository : List ℕ → Option ℕ → Found → Type 0
IsFoundOfRepository did least absent = ⊤
IsFoundOfRepository did least (unfit n) = ⊤
IsFoundOfRepository did least (found head records block) = IsOfRepository did least head block

-- an event that a host sent was decided, for some answers
pub record IsOfEvent (checks : Checks) (J : List Row) (t : Taken) : Type 0 where
  pub host : List ℕ
  pub event : Seen
  pub outside : Outside
  pub moment : Option ℕ
  pub read : IsEvent event
  pub fetched : IsFoundOfRepository event.did (last_rev (account event.did J).repo) outside.fetched
  pub is : t ≡ event_taken_at checks (last_seq J) (account event.did J) host event outside moment

-- an event with a bad field was
pub record IsOfFaulty (t : Taken) : Type 0 where
  pub host : List ℕ
  pub seq : ℕ
  pub moment : Option ℕ
  pub is : t ≡ faulty_taken host seq moment

-- an operator asked for a repository, at a time
pub record IsOfSync (J : List Row) (did : List ℕ) (whole : Whole) : Type 0 where
  pub time : List ℕ
  pub short : IsShortText time
  pub allowed : sync_refusal (account did J) ≡ None
  pub head : Head
  pub records : ℕ
  pub block : List ℕ
  pub fetched : IsOfRepository did (last_rev (account did J).repo) head block
  pub is : whole ≡ whole_under did time head records block (last_seq J + 1)

-- an operator took an account down or restored it, at a time
pub record IsOfTakedown (J : List Row) (o : Operated) : Type 0 where
  pub time : List ℕ
  pub short : IsShortText time
  pub allowed : operate_refusal (account o.did J) o.down ≡ None
  pub is : o ≡ operated_as (last_seq J) (account o.did J) o.did o.down time o.moment

-- Behind the journal J, the row is what comes of a message or of an operator's command, or it was
-- carried over a cut.
abbrev pub IsGiven : Checks → List Row → Row → Type 0
IsGiven checks J (Row.Taken t) = IsOfEvent checks J t ⊎ IsOfFaulty t
IsGiven checks J (Row.Synced did whole moment) = IsOfSync J did whole
IsGiven checks J (Row.Operated o) = IsOfTakedown J o
IsGiven checks J (Row.Carried c) = ⊤

-- Behind the journal J, so is each of these, one after another.
abbrev pub AreGiven : Checks → List Row → List Row → Type 0
AreGiven checks J [] = ⊤
AreGiven checks J (row ∷ rows) = IsGiven checks J row × AreGiven checks (J ++ row ∷ []) rows
