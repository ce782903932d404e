-- What a mirror holds after the messages that were taken of a stream. No public clause cites this
-- file.
use Rattle.std.specs.Prelude.{◌≡◌, ◌⊎◌, ℕ, Bool, false, List, [], ◌++◌, length, IsTrue}
use Rattle.backfill.specs.Writing.{with_length}
use Rattle.mirror.specs.Held.{IsHeld}
use Rattle.mirror.specs.Repository.{Repositories}
use Rattle.mirror.specs.State.{held_by, is_known}
use Rattle.mirror.specs.declared.keeping.Mirror.{Mirror}
use Rattle.run_base.specs.declared.status.Status.{Status}
use Rattle.mirror_run.specs.Mirrored.{IsRestLeft}
use Rattle.mirror_run.specs.Stream.{AreGood, event_count, last_seq_behind, tell_of}
use Rattle.mirror_run.specs.declared.reader.StreamFault.{StreamFault}
use Rattle.mirror.specs.declared.fault.MirrorFault.{MirrorFault}

-- The messages at the front of the input were taken up to a place, with so many events, and this is
-- left.
pub record HasTaken (input_tells repositories_tell : Bool) (repositories : Repositories)
    (input left : List ℕ) (place : ℕ)
    (mirror : Mirror) (events : ℕ) : Type 0 where
  pub messages : List (List ℕ)
  pub good : AreGood 0 messages
  pub split : IsTrue input_tells → input ≡ with_length messages ++ left
  pub place_is : place ≡ length (with_length messages)
  pub last : mirror.last ≡ last_seq_behind 0 messages
  pub held : IsTrue repositories_tell → (did : List ℕ)
      → IsHeld repositories did messages (held_by mirror did)
  pub known : (did : List ℕ) → is_known mirror did ≡ tell_of did messages
  pub named : tell_of [] messages ≡ false
  pub count : events ≡ event_count messages

-- The whole input was taken.
abbrev pub HasTakenAll : Bool → Bool → Repositories → List ℕ → Mirror → ℕ → Type 0
HasTakenAll input_tells repositories_tell repositories input mirror events =
    (place : ℕ) × HasTaken input_tells repositories_tell repositories input [] place mirror events

-- Messages at the front of the input were taken, and then it ended so.
pub record HasStopped (input_tells tell : Bool) (repositories : Repositories) (limit : ℕ)
    (input : List ℕ) (status : Status) : Type 0 where
  pub left : List ℕ
  pub place : ℕ
  pub mirror : Mirror
  pub events : ℕ
  pub taken : HasTaken input_tells tell repositories input left place mirror events
  pub rest : IsTrue input_tells → IsRestLeft limit status taken.messages left

-- the ends before anything is written: what stands from a place on can't be taken; or the input is
-- too long; or a call of it or of the repositories failed; or memory ran out
abbrev pub IsEarly : Status → Type 0
IsEarly status = ((place : ℕ) × (status ≡ Status.BadStream place)) ⊎ ((status ≡ Status.TooLong)
    ⊎ ((status ≡ Status.ReadFault) ⊎ ((status ≡ Status.Repos) ⊎ (status ≡ Status.Memory))))

-- the status that a fault of the stream brings
abbrev pub status_of_stream : StreamFault → ℕ → Status
status_of_stream StreamFault.Bad place = Status.BadStream place
status_of_stream StreamFault.Failed place = Status.ReadFault
status_of_stream StreamFault.Limit place = Status.TooLong
status_of_stream StreamFault.Memory place = Status.Memory

-- the status that a message brings which wasn't taken
abbrev pub status_of_message : MirrorFault → ℕ → Status
status_of_message MirrorFault.BadMessage place = Status.BadStream place
status_of_message MirrorFault.Repos place = Status.Repos
status_of_message MirrorFault.Memory place = Status.Memory
