-- Messages as those that a host gives, one after another.
use Rattle.std.specs.Prelude.{◌≡◌, ◌≢◌, ◌⊎◌, ◌≤◌, ℕ, Bool, true, List, [], ◌∷◌, ◌++◌, length, IsTrue}
use Rattle.std.specs.List.{AllByRecursion}
use Rattle.relay_row.specs.declared.row.Row.{Row}
use Rattle.relay_core.specs.Runs.{has_ended}
use Rattle.relay_step.specs.Steps.{Step, after_end, ended_by_all}
use Rattle.store_take.specs.declared.message.Message.{Message}
use Rattle.run_base.specs.Place.{Place, Tells}
use Rattle.run_base.specs.declared.status.Status.{Status}
use Rattle.take_run.specs.Taken.{StepsTaken, all_read, all_steps}

-- the bytes of each
abbrev pub bytes_of_messages : List Message → List (List ℕ)
bytes_of_messages [] = []
bytes_of_messages (m ∷ messages) = m.bytes ∷ bytes_of_messages messages

-- each is of this host
abbrev pub AreOf : List ℕ → List Message → Type 0
AreOf host messages = AllByRecursion (λ m. m.host ≡ host) messages

-- none was taken after the end of its host
abbrev pub NoneBehindEnd : List Step → Type 0
NoneBehindEnd steps = AllByRecursion (λ s. s.decided ≢ after_end) steps

-- It is done where so many messages were taken, none is left, or the host has ended.
abbrev pub IsDoneAt : List ℕ → ℕ → List Step → List (List ℕ) → Status → Type 0
IsDoneAt host count steps rest status = status ≡ Status.Done
    → (length steps ≡ count) ⊎ ((rest ≡ []) ⊎ (has_ended (ended_by_all steps []) host ≡ true))

-- Of what a host gives, `count` messages at most were read, and none after its end: those in front,
-- and the others are left, whatever was left before.
pub record IsOnStream (host : List ℕ) (count : ℕ) (before after : List (List ℕ) → Type 0)
    {t : Tells} {J : List Row} {old new : Place} {status : Status}
    (s : StepsTaken t J [] old new status) : Type 0 where
  pub hosts : AreOf host (all_read s)
  pub few : length (all_read s) ≤ count
  pub live : NoneBehindEnd (all_steps s)
  pub front : (given : List (List ℕ)) → before given → (rest : List (List ℕ)) × after rest
      × (given ≡ bytes_of_messages (all_read s) ++ rest)
      × IsDoneAt host count (all_steps s) rest status

-- what is left of the feed, or nothing where a call of it failed
abbrev pub IsLeft : Status → List (List ℕ) → List (List ℕ) → Type 0
IsLeft Status.Feed left rest = (left ≡ rest) ⊎ (left ≡ [])
IsLeft status left rest = left ≡ rest

-- So it is of a feed, where it tells what it gives.
abbrev pub IsOnFeed : Bool → List ℕ → ℕ → List (List ℕ) → List (List ℕ)
    → {t : Tells} {J : List Row} {old new : Place} {status : Status}
    → StepsTaken t J [] old new status → Type 0
IsOnFeed feed_tells host count given left {status = status} s =
    IsOnStream host count (λ all. IsTrue feed_tells × (all ≡ given))
    (λ rest. IsLeft status left rest) s
