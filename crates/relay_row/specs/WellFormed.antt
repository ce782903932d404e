-- When a row is well formed, record by record: what its numbers, texts, links and bytes are, and
-- what goes with what (own).
-- `Rules` says the same as a test, which a law shows.
use Rattle.std.specs.Prelude.{⊤, ◌≡◌, ◌≢◌, ◌⊎◌, ◌↔◌, ℕ, ◌^◌, ◌<◌, ◌≤◌, List, [], length, Option, Some, None, IfSome, IsSome, IsTrue, IsUtf8}
use Rattle.at_cid.specs.Link.{IsBytes, IsLink, IsNodeLink}
use Rattle.at_cbor.specs.Encoding.{IsString}
use Rattle.at_syntax.specs.Did.{IsDid}
use Rattle.at_syntax.specs.Host.{is_host}
use Rattle.at_event.specs.declared.head.Head.{Head}
use Rattle.at_event.specs.Refusals.{code_of}
use Rattle.at_event.specs.declared.refusal.Refusal.{Refusal}
use Rattle.at_cid.specs.declared.limits.TheConstants.{NUMBERS}
use Rattle.at_form.specs.declared.forms.TheConstants.{LONGEST_SHORT_TEXT}
use Rattle.relay_row.specs.declared.limits.TheConstants.{PLACES}
use Rattle.relay_row.specs.declared.fetched.Whole.{Whole}
use Rattle.relay_row.specs.declared.fetched.Fetched.{Fetched}
use Rattle.relay_row.specs.declared.taken.Effect.{Effect}
use Rattle.relay_row.specs.declared.taken.Taken.{Taken}
use Rattle.relay_row.specs.declared.operated.Operated.{Operated}
use Rattle.relay_row.specs.declared.carried.CarriedAccount.{CarriedAccount}
use Rattle.relay_row.specs.declared.carried.CarriedRepo.{CarriedRepo}
use Rattle.relay_row.specs.declared.carried.Carried.{Carried}
use Rattle.relay_row.specs.declared.row.Row.{Row}

-- ---- what rows are made of

-- the number of an event, or of a host's stream that began
pub record IsGiven (n : ℕ) : Type 0 where
  pub positive : 0 < n
  pub number : n < NUMBERS

-- a text in UTF-8
pub record IsUtf8Text (text : List ℕ) : Type 0 where
  pub bytes : IsBytes text
  pub utf8 : IsUtf8 text

-- the name of a host
pub record IsHostName (name : List ℕ) : Type 0 where
  pub text : IsUtf8Text name
  pub host : IsTrue (is_host name)

-- a DID
pub record IsDidText (name : List ℕ) : Type 0 where
  pub text : IsUtf8Text name
  pub did : IsDid name

-- what a host says of an account that it doesn't serve
pub record IsStatusText (status : List ℕ) : Type 0 where
  pub text : IsUtf8Text status
  pub short : length status ≤ LONGEST_SHORT_TEXT

-- the message of an event
pub record IsMessage (bytes : List ℕ) : Type 0 where
  pub string : IsString bytes
  pub some : 0 < length bytes

-- the newest commit of a repository: a TID of 64 bits, the root of its tree, and its link
pub record IsHead (h : Head) : Type 0 where
  pub rev : h.rev < 2 ^ 64
  pub data_root : IsNodeLink h.data_root
  pub commit : IsLink h.commit

-- a repository that was taken over, with its `#sync` event
pub record IsWhole (w : Whole) : Type 0 where
  pub seq : IsGiven w.seq
  pub head : IsHead w.head
  pub records : w.records < NUMBERS
  pub message : IsMessage w.message

-- ---- messages that were taken

-- what a refusal says beside its number: a node, the node that was due and the one that was found,
-- or the place of an operation
abbrev pub IsDetail : Refusal → Type 0
IsDetail (Refusal.BadNode link) = IsNodeLink link
IsDetail (Refusal.OtherData want got) = IsNodeLink want × IsNodeLink got
IsDetail (Refusal.OtherOp place) = place < PLACES
IsDetail (Refusal.NotCovered place) = place < PLACES
IsDetail refusal = ⊤

-- the refusals after which the account is lost, so that its repository is fetched: too big, behind
-- a gap, or without proof
abbrev pub IsLoss : Refusal → Type 0
IsLoss Refusal.TooBig = ⊤
IsLoss Refusal.Gap = ⊤
IsLoss (Refusal.BadNode link) = ⊤
IsLoss (Refusal.OtherOp place) = ⊤
IsLoss (Refusal.NotCovered place) = ⊤
IsLoss (Refusal.OtherData want got) = ⊤
IsLoss refusal = ⊥

-- the refusals of messages, of which the one of a revision ahead of its time is judged at a moment
abbrev pub IsOfMessage : Option ℕ → Refusal → Type 0
IsOfMessage moment refusal = (code_of refusal ≤ code_of Refusal.TooLong)
    ⊎ ((refusal ≡ Refusal.FutureRev) × IsSome moment)

-- the number of why a repository was refused: 1 to 7, 9 or 10, and where the row keeps a moment
-- also 12
abbrev pub IsRepoNumber : Option ℕ → ℕ → Type 0
IsRepoNumber moment n = ((1 ≤ n) × (n ≤ 7)) ⊎ ((n ≡ 9) ⊎ ((n ≡ 10) ⊎ (IsSome moment × (n ≡ 12))))

-- what became of a fetch
abbrev pub IsFetch : Option ℕ → Fetched → Type 0
IsFetch moment Fetched.NotAsked = ⊤
IsFetch moment Fetched.Absent = ⊤
IsFetch moment (Fetched.Refused n) = IsRepoNumber moment n
IsFetch moment (Fetched.Whole w) = IsWhole w

-- what an accepted event of a kind does: a `#commit` (1) and a `#sync` (2) set the head, an
-- `#identity` (3) does nothing, and an `#account` (4) says whether the account is active
abbrev pub IsEffectOf : ℕ → Effect → Type 0
IsEffectOf kind (Effect.Repo head) = ((kind ≡ 1) ⊎ (kind ≡ 2)) × IsHead head
IsEffectOf kind Effect.Nothing = kind ≡ 3
IsEffectOf kind (Effect.Account active status) = (kind ≡ 4) × IfSome status IsStatusText

-- It goes out under a number.
pub record GoesOut (t : Taken) : Type 0 where
  pub seq : IsGiven t.seq
  pub message : IsMessage t.message

-- It is held back, which an `#account` alone may be.
pub record IsHeldBack (t : Taken) : Type 0 where
  pub kind : t.kind ≡ 4
  pub seq : t.seq ≡ 0
  pub message : t.message ≡ []

-- A message that was accepted.
pub record IsAcceptedRow (t : Taken) : Type 0 where
  pub effect : IsEffectOf t.kind t.effect
  pub fetched : t.fetched ≡ Fetched.NotAsked
  pub sent : GoesOut t ⊎ IsHeldBack t

-- A message that was refused: nothing goes out, its account stays, and a fetch follows exactly
-- where it is lost. It has no kind exactly where it didn't read.
pub record IsRefusedRow (r : Refusal) (t : Taken) : Type 0 where
  pub code : IsOfMessage t.moment r
  pub detail : IsDetail r
  pub kind : t.kind ≤ 4
  pub unread : (t.kind ≡ 0) ↔ (r ≡ Refusal.BadEvent)
  pub effect : t.effect ≡ Effect.Nothing
  pub due : IsLoss r ↔ (t.fetched ≢ Fetched.NotAsked)
  pub fetched : IsFetch t.moment t.fetched
  pub seq : t.seq ≡ 0
  pub message : t.message ≡ []

-- it was accepted, or refused
abbrev pub IsJudged : Option Refusal → Taken → Type 0
IsJudged None t = IsAcceptedRow t
IsJudged (Some r) t = IsRefusedRow r t

-- A message that was taken: it names its host, and its account exactly where it read.
pub record IsTakenRow (t : Taken) : Type 0 where
  pub host : IsHostName t.host
  pub host_seq : t.host_seq < NUMBERS
  pub unnamed : t.kind ≡ 0 → t.did ≡ []
  pub named : t.kind ≢ 0 → IsDidText t.did
  pub moment : IfSome t.moment (λ n. n < NUMBERS)
  pub judged : IsJudged t.refusal t

-- ---- rows of the other kinds

-- A repository that was fetched at an operator's command.
pub record IsSyncedRow (account : List ℕ) (fetched : Whole) (at : Option ℕ) : Type 0 where
  pub did : IsDidText account
  pub whole : IsWhole fetched
  pub moment : IfSome at (λ n. n < NUMBERS)

-- A word of an operator on an account, which goes out as an event.
pub record IsOperatedRow (o : Operated) : Type 0 where
  pub did : IsDidText o.did
  pub seq : IsGiven o.seq
  pub message : IsMessage o.message
  pub moment : IfSome o.moment (λ n. n < NUMBERS)

-- A host that is carried over behind a cut, with its cursor.
pub record IsCarriedHost (name : List ℕ) (seq : ℕ) : Type 0 where
  pub host : IsHostName name
  pub cursor : IsGiven seq

-- the repository of an account that is carried over
abbrev pub IsCarriedRepo : CarriedRepo → Type 0
IsCarriedRepo CarriedRepo.Missing = ⊤
IsCarriedRepo (CarriedRepo.Good head) = IsHead head
IsCarriedRepo (CarriedRepo.Lost rev) = IfSome rev (λ n. n < 2 ^ 64)

-- An account that is carried over behind a cut.
pub record IsCarriedAccount (a : CarriedAccount) : Type 0 where
  pub did : IsDidText a.did
  pub status : IfSome a.status IsStatusText
  pub repo : IsCarriedRepo a.repo

-- ---- all of them

abbrev pub IsWellFormed : Row → Type 0
IsWellFormed (Row.Taken t) = IsTakenRow t
IsWellFormed (Row.Synced did whole moment) = IsSyncedRow did whole moment
IsWellFormed (Row.Operated o) = IsOperatedRow o
IsWellFormed (Row.Carried (Carried.Last seq)) = IsGiven seq
IsWellFormed (Row.Carried (Carried.Host host cursor)) = IsCarriedHost host cursor
IsWellFormed (Row.Carried (Carried.Account a)) = IsCarriedAccount a
