-- Faithful journals: what is sent out is read as what the rows keep, with the heads of its commits.
use Rattle.std.specs.Prelude.{◌≡◌, ◌≢◌, ℕ, false, List, [], ◌∷◌, ◌++◌, Ok, IsTrue}
use Rattle.std.specs.List.{AllByRecursion}
use Rattle.at_event.specs.Frames.{frame_of}
use Rattle.at_event.specs.Seen.{Seen}
use Rattle.at_event.specs.declared.event.AccountEvent.{AccountEvent}
use Rattle.at_event.specs.declared.event.Body.{Body}
use Rattle.at_event.specs.declared.event.SyncEvent.{SyncEvent}
use Rattle.at_event.specs.declared.frame.Frame.{Frame}
use Rattle.relay_row.specs.Journal.{IsJournal}
use Rattle.relay_row.specs.declared.fetched.Fetched.{Fetched}
use Rattle.relay_row.specs.declared.fetched.Whole.{Whole}
use Rattle.relay_row.specs.declared.operated.Operated.{Operated}
use Rattle.relay_row.specs.declared.row.Row.{Row}
use Rattle.relay_row.specs.declared.taken.Effect.{Effect}
use Rattle.relay_row.specs.declared.taken.Taken.{Taken}
use Rattle.account_state.specs.Folds.{account}
use Rattle.account_state.specs.declared.repo.Repo.{Repo}
use Rattle.relay_core.specs.Opening.{IsHeadOf}
use Rattle.relay_core.specs.Rows.{kind_number}
use Rattle.relay_law.specs.Heads.{GivesHead}
use Rattle.relay_law.specs.Sound.{IsSound}

-- a message is read as an event of this account, under this number, that says this
pub record ReadsAs (message did : List ℕ) (seq : ℕ) (Says : Body → Type 0) : Type 0 where
  pub event : Seen
  pub reads : frame_of message ≡ Ok (Frame.Event event)
  pub did_is : event.did ≡ did
  pub seq_is : event.seq ≡ seq
  pub says : Says event.body

-- an `#account`, not active where the account is taken down
abbrev pub IsCommandOf : Operated → Body → Type 0
IsCommandOf o body = (account : AccountEvent) × (body ≡ Body.Account account)
    × (IsTrue o.down → account.active ≡ false)

-- an event of the row's kind, where the row gives its own message a number; an accepted commit or
-- `#sync` gives the head that its row keeps
abbrev pub SendsEvent : Repo → Taken → Effect → Type 0
SendsEvent before t (Effect.Repo head) = ReadsAs t.message t.did t.seq
    (λ body. (kind_number body ≡ t.kind) × GivesHead before head body)
SendsEvent before t effect = t.seq ≢ 0
    → ReadsAs t.message t.did t.seq (λ body. kind_number body ≡ t.kind)

-- the relay's own `#sync` gives the head of the repository that was taken over: that of the commit
-- object in its blocks
abbrev pub SendsSync : List ℕ → Whole → Type 0
SendsSync did w = ReadsAs w.message did w.seq
    (λ body. (kind_number body ≡ 2) × IsHeadOf body w.head)

-- this holds of the repository that was taken over, where one was
abbrev pub HoldsOfWhole : (Whole → Type 0) → Fetched → Type 0
HoldsOfWhole Holds (Fetched.Whole w) = Holds w
HoldsOfWhole Holds fetched = Unit {0}

-- After the journal J, each message that the row sends is read as an event of the row's account,
-- under its number, that says what the row keeps.
abbrev pub SendsWhatItKeeps : List Row → Row → Type 0
SendsWhatItKeeps J (Row.Taken t) = SendsEvent (account t.did J).repo t t.effect
    × HoldsOfWhole (SendsSync t.did) t.fetched
SendsWhatItKeeps J (Row.Synced did whole moment) = SendsSync did whole
SendsWhatItKeeps J (Row.Operated o) = ReadsAs o.message o.did o.seq (IsCommandOf o)
SendsWhatItKeeps J (Row.Carried c) = Unit {0}

abbrev pub SendWhatTheyKeep : List Row → List Row → Type 0
SendWhatTheyKeep J [] = Unit {0}
SendWhatTheyKeep J (row ∷ rows) = SendsWhatItKeeps J row × SendWhatTheyKeep (J ++ row ∷ []) rows

-- A journal is faithful: it is sound, and each message that it sends is read as what its row keeps.
pub record IsFaithfulJournal (J : List Row) : Type 0 where
  pub journal : IsJournal J
  pub sound : IsSound J
  pub sends : SendWhatTheyKeep [] J

-- the relay's own `#sync`, whatever its blocks, is at the revision of the head that was taken over
abbrev pub SendsRev : List ℕ → Whole → Type 0
SendsRev did w = ReadsAs w.message did w.seq
    (λ body. (sync : SyncEvent) × (body ≡ Body.Sync sync) × (sync.rev ≡ w.head.rev))

-- What a row sends is read back, whatever head it keeps: an event as that of a row that keeps none,
-- and the relay's own `#sync` at the revision that was taken over.
abbrev pub IsReadBack : Row → Type 0
IsReadBack (Row.Taken t) = SendsEvent Repo.Missing t Effect.Nothing
    × HoldsOfWhole (SendsRev t.did) t.fetched
IsReadBack (Row.Synced did whole moment) = SendsRev did whole
IsReadBack row = SendsWhatItKeeps [] row

abbrev pub AreReadBack : List Row → Type 0
AreReadBack rows = AllByRecursion (λ row. IsReadBack row) rows
