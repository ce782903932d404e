-- A merge while it is taken. No public clause cites this file.
use Rattle.std.specs.Prelude.{◌≡◌, ℕ, Bool, true, List, [], ◌∷◌, Option, Some, None, IsTrue}
use Rattle.std.specs.List.{AllByRecursion, filter}
use Rattle.std.specs.Str.{bytes_eq}
use Rattle.at_cbor.specs.Encoding.{IsString}
use Rattle.relay_disk.specs.Disk.{View}
use Rattle.relay_io.specs.Memory.{moments_of}
use Rattle.relay_io.specs.MemoryRepos.{repository_in}
use Rattle.relay_step.specs.Steps.{Step, ended_by_all, rows}
use Rattle.relay_store.specs.Store.{Keeps, seen_in}
use Rattle.trial_run.specs.Merging.{AreTaken, Sent}
use Rattle.trial_run.specs.declared.merging.Merge.{Merge}

-- one host is wanted, or all are
abbrev pub is_chosen : Option (List ℕ) → List ℕ → Bool
is_chosen None host = true
is_chosen (Some name) host = bytes_eq name host

-- those of one host, or all
abbrev pub those : Option (List ℕ) → Sent → Sent
those wanted sent = filter (λ m. is_chosen wanted m.0) sent

-- each message is a string of bytes
abbrev pub AreStrings : Sent → Type 0
AreStrings sent = AllByRecursion (λ m. IsString m.1) sent

-- These messages were taken into the store of a disk, from the empty journal on.
pub record IsMerged (sent : Sent) (merge : Merge) (v : View) : Type 0 where
  pub steps : List Step
  pub taken : AreTaken sent steps
  pub strings : AreStrings sent
  pub none_ended : ended_by_all steps [] ≡ []
  pub keeps : Keeps (rows steps) (seen_in merge.store) v
  pub goes : IsTrue (seen_in merge.store).log.is_open
  pub moments : moments_of merge.clock ≡ 0 ∷ []
  pub none : (did : List ℕ) → repository_in merge.repos did ≡ None
