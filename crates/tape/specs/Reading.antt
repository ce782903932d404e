-- What a reader of a tape answers.
use Rattle.std.specs.Prelude.{◌≡◌, ◌<◌, ◌+◌, ℕ, List, [], ◌++◌, length, Option, Some, None, Result, Ok, Err}
use Rattle.tape.specs.declared.record.Record.{Record}
use Rattle.tape.specs.declared.fault.TapeFault.{TapeFault}
use Rattle.tape.specs.declared.tape.Tape.{Tape}
use Rattle.tape.specs.Format.{record_bytes, IsRecord}
use Rattle.tape.specs.Shown.{nothing, found, bad_name, too_long, cut, Shows, NeedsMore}
use Rattle.tape.specs.ReadAhead.{items}

-- the bytes that were taken and aren't used yet
abbrev pub held : Tape → List ℕ
held tape = items tape.window

-- what is to come: what was taken and isn't used yet, then what the source has left
abbrev pub coming : Tape → List ℕ → List ℕ
coming tape left = held tape ++ left

-- how many bytes of the tape were taken
abbrev pub taken : Tape → ℕ
taken tape = tape.place + length (held tape)

-- nothing was used of what is to come
abbrev pub Stays : Tape → List ℕ → Tape → List ℕ → Type 0
Stays old before new after = coming new after ≡ coming old before

-- the source has ended, and more would have been taken
abbrev pub Ends : Tape → List ℕ → Tape → List ℕ → Type 0
Ends old before new after = Stays old before new after × (after ≡ []) × (taken new < new.most)

-- What is answered, of a source that tells what it has left.
abbrev pub IsNext : Tape → List ℕ → Tape → List ℕ → Result (Option Record) TapeFault → Type 0
IsNext old before new after (Ok (Some r)) =
    Shows (coming old before) (found r.host r.message (coming new after))
IsNext old before new after (Ok None) =
    Shows (coming old before) nothing × Ends old before new after
IsNext old before new after (Err (TapeFault.Torn place)) =
    Shows (coming old before) cut × Ends old before new after
IsNext old before new after (Err (TapeFault.BadName place)) =
    Shows (held new) bad_name × Stays old before new after
IsNext old before new after (Err (TapeFault.TooLong place)) =
    Shows (held new) too_long × Stays old before new after
IsNext old before new after (Err TapeFault.Failed) =
    NeedsMore (held new) × Stays old before new after
IsNext old before new after (Err TapeFault.Budget) =
    NeedsMore (held new) × (taken new ≡ new.most) × Stays old before new after
IsNext old before new after (Err TapeFault.Memory) = Stays old before new after

-- Where the reader is then, of every source: behind a record, and else where it was. A place that
-- is told is where it was.
abbrev pub IsPlaced : ℕ → ℕ → Result (Option Record) TapeFault → Type 0
IsPlaced old new (Ok (Some r)) = IsRecord r.host r.message × (r.place ≡ old)
    × (new ≡ old + length (record_bytes r.host r.message))
IsPlaced old new (Ok None) = new ≡ old
IsPlaced old new (Err (TapeFault.Torn place)) = (place ≡ old) × (new ≡ old)
IsPlaced old new (Err (TapeFault.BadName place)) = (place ≡ old) × (new ≡ old)
IsPlaced old new (Err (TapeFault.TooLong place)) = (place ≡ old) × (new ≡ old)
IsPlaced old new (Err TapeFault.Failed) = new ≡ old
IsPlaced old new (Err TapeFault.Budget) = new ≡ old
IsPlaced old new (Err TapeFault.Memory) = new ≡ old

-- a call may answer this: some reader and some source behind it
pub record MayAnswer (old : Tape) (before : List ℕ)
    (answer : Result (Option Record) TapeFault) : Type 0 where
  pub new : Tape
  pub after : List ℕ
  pub next : IsNext old before new after answer
  pub placed : IsPlaced old.place new.place answer
  pub most : new.most ≡ old.most

-- no failed read and no running out of memory
abbrev pub IsTold : Result (Option Record) TapeFault → Type 0
IsTold (Ok answer) = Unit {0}
IsTold (Err TapeFault.Failed) = ⊥
IsTold (Err TapeFault.Memory) = ⊥
IsTold (Err fault) = Unit {0}
