-- Groups of records that are read (own). No public clause cites this file.
use Rattle.std.specs.Prelude.{◌≡◌, ◌<◌, ℕ, ◌+◌, List, [], ◌∷◌, ◌++◌, length}
use Rattle.at_cid.specs.Counts.{Rose}
use Rattle.store_take.specs.declared.message.Message.{Message}
use Rattle.tape.specs.Reading.{coming, held, taken}
use Rattle.tape.specs.Shown.{NeedsMore}
use Rattle.tape.specs.declared.fault.TapeFault.{TapeFault}
use Rattle.tape.specs.declared.tape.Tape.{Tape}
use Rattle.take_run.specs.Tapes.{ShowsFault, encoded_records}
use Rattle.take_run.specs.declared.group.Rest.{Rest}

-- a group of records was read, and this is to come
abbrev pub AreRead : Tape → List ℕ → List Message → List ℕ → Type 0
AreRead old before group rest = coming old before ≡ encoded_records group ++ rest

-- what follows on a group, where the reader is after it and this is left of the source
abbrev pub FollowsOn : Tape → List ℕ → Rest → Type 0
FollowsOn new after Rest.More = Unit {0}
FollowsOn new after Rest.Nothing = (held new ≡ []) × (after ≡ []) × (taken new < new.most)
FollowsOn new after (Rest.Fault (TapeFault.Torn place)) = ShowsFault (coming new after)
    × (place ≡ new.place)
FollowsOn new after (Rest.Fault (TapeFault.BadName place)) = ShowsFault (coming new after)
    × (place ≡ new.place)
FollowsOn new after (Rest.Fault (TapeFault.TooLong place)) = ShowsFault (coming new after)
    × (place ≡ new.place)
FollowsOn new after (Rest.Fault TapeFault.Failed) = NeedsMore (held new)
FollowsOn new after (Rest.Fault TapeFault.Budget) = NeedsMore (held new) × (taken new ≡ new.most)
FollowsOn new after (Rest.Fault TapeFault.Memory) = Unit {0}

-- A group of records was read, and this follows on it.
pub record IsGroup (old : Tape) (before : List ℕ) (new : Tape) (after : List ℕ)
    (group : List Message) (rest : Rest) : Type 0 where
  pub read : AreRead old before group (coming new after)
  pub follows : FollowsOn new after rest

-- the count of faults rose where a read failed, and nowhere else
abbrev pub ReadFailed : Rest → ℕ → ℕ → Type 0
ReadFailed (Rest.Fault TapeFault.Failed) before now = Rose before now
ReadFailed rest before now = now ≡ before

-- how many bytes messages have together
abbrev pub bytes_together : List Message → ℕ
bytes_together [] = 0
bytes_together (m ∷ messages) = length m.bytes + bytes_together messages
