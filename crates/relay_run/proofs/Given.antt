-- The rows of operators' commands leave a journal of which each row is given such a one, and so does a cut.
use Rattle.std.proofs.Common.{◌≡◌, ℕ, List, [], ◌∷◌, ◌++◌, Bool, true, false, Option, Some, None, IsTrue, refl, sym, subst}
use Rattle.std.proofs.lemmas.List.{append-nil}
use Rattle.at_authority.specs.Panels.{Panel}
use Rattle.at_event.specs.Formed.{IsShortText}
use Rattle.at_event.specs.declared.refusal.Refusal.{Refusal}
use Rattle.relay_row.specs.Journal.{IsJournal}
use Rattle.relay_row.specs.declared.row.Row.{Row}
use Rattle.account_state.specs.Folds.{account}
use Rattle.relay_core.specs.Decide.{Checks}
use Rattle.relay_core.specs.Entries.{Holds}
use Rattle.relay_core.specs.Operating.{sync_refusal}
use Rattle.relay_core.specs.declared.journal_state.Core.{Core}
use Rattle.cut_law.specs.Cut.{MayCut, cut}
use Rattle.cut_law.proofs.Cutting.{cut_is}
use Rattle.chain_law.specs.Given.{AreGiven, IsGiven}
use Rattle.relay_step.specs.Around.{Around}
use Rattle.relay_step.specs.Commands.{OperatedAt, SyncedAt, rows_commanded}
use Rattle.relay_step.specs.Fetching.{AreBytes, told_where}
use Rattle.relay_step.specs.Operators.{IsOperated, IsSyncedBy, IsSyncedNow}
use Rattle.relay_step.specs.declared.command.CommandAnswer.{CommandAnswer}
use Rattle.chain_law.specs.Made.{GiveBytes}
use Rattle.chain_law.proofs.Journals.{cut_given}
use Rattle.chain_law.proofs.Making.{joined_given, operated_given, synced_given}

-- what a command leaves of such a journal
abbrev pub Gives : Type 0 → List Row → CommandAnswer → Type 0
Gives bytes J command = (checks : Checks) → bytes → AreGiven checks [] J → AreGiven checks [] (J ++ rows_commanded command)

row_gives : (checks : Checks) (J : List Row) (command : CommandAnswer) → ((row : Row) → command ≡ CommandAnswer.Made row → IsGiven checks J row) → AreGiven checks [] J → AreGiven checks [] (J ++ rows_commanded command)
row_gives checks J (CommandAnswer.Made row) each given = joined_given checks J (row ∷ []) [] given (each row refl, tt)
row_gives checks J (CommandAnswer.Refused r) each given = subst (λ (K : List Row). AreGiven checks [] K) (sym (append-nil J)) given

-- ---- an account that is taken down or restored

pub operated_gives : (bytes : Type 0) (told : Bool) (core : Core) (J : List Row) (did : List ℕ) (down : Bool) (time moments left : List ℕ) → IsShortText time → Holds core J → (command : CommandAnswer) → OperatedAt told core did down time moments command left → Gives bytes J command
operated_gives bytes told core J did down time moments left short holds command at checks b given =
    row_gives checks J command (λ row is. operated_given checks J did down time at.moment row short (subst (λ (w : CommandAnswer). IsOperated J did down time at.moment w) is (at.operated J holds))) given

-- ---- a repository that is fetched

-- some repository, which is bytes, comes to the same
record OfSome (refusal : Option Refusal) (old : Panel) (J : List Row) (did time : List ℕ) (moment : ℕ) (command : CommandAnswer) (new : Panel) : Type 0 where
  repository : Option (List ℕ)
  bytes : AreBytes repository
  by : IsSyncedBy refusal old J did time moment (Some repository) command new

untold : (refusal : Option Refusal) (old : Panel) (J : List Row) (did time : List ℕ) (moment : ℕ) (command : CommandAnswer) (new : Panel) → IsSyncedBy refusal old J did time moment None command new → OfSome refusal old J did time moment command new
untold (Some r) old J did time moment command new by = record { repository = None; bytes = tt; by = by }
untold None old J did time moment command new by =
    let from = by.fetch.fetched in
    record { repository = from.0; bytes = from.1; by = record { found = by.found; fetch = record { calls = by.fetch.calls; fetched = from.2; made = by.fetch.made }; command_is = by.command_is } }

told_or_not : (tells : Bool) (repository : List ℕ → Option (List ℕ)) (old : Panel) (J : List Row) (did time : List ℕ) (moment : ℕ) (command : CommandAnswer) (new : Panel) → (IsTrue tells → GiveBytes repository)
    → IsSyncedNow old J did time moment (told_where tells (repository did)) command new → OfSome (sync_refusal (account did J)) old J did time moment command new
told_or_not true repository old J did time moment command new bytes by = record { repository = repository did; bytes = bytes refl did; by = by }
told_or_not false repository old J did time moment command new bytes by = untold (sync_refusal (account did J)) old J did time moment command new by

pub synced_gives : (clock_told repos_told : Bool) (core : Core) (J : List Row) (did time : List ℕ) (old new : Around) → IsShortText time → Holds core J → (command : CommandAnswer) → SyncedAt clock_told repos_told core did time old command new
    → Gives (IsTrue repos_told → GiveBytes old.repository) J command
synced_gives clock_told repos_told core J did time old new short holds command at checks bytes given =
    let of = told_or_not repos_told old.repository old.panel J did time at.moment command new.panel bytes (at.synced J holds) in
    row_gives checks J command (λ row is.
    synced_given checks old.panel new.panel J did time at.moment of.repository row short of.bytes
    (subst (λ (w : CommandAnswer). IsSyncedNow old.panel J did time at.moment (Some of.repository) w new.panel) is of.by)) given

-- ---- a cut

pub cut_gives : (J : List Row) (c : ℕ) → MayCut J c → IsJournal J → (checks : Checks) → AreGiven checks [] J → AreGiven checks [] (cut J c)
cut_gives J c may is checks given = cut_given checks J (cut J c) given c (cut_is J c is may)
