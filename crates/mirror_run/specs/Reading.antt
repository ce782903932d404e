-- What a reader of a stream answers. No public clause cites this file.
use Rattle.std.specs.Prelude.{◌≡◌, ◌≢◌, ◌≤◌, ⊤, ℕ, ◌+◌, List, [], ◌++◌, length, Option, Some, None, Result, Ok, Err}
use Rattle.at_cid.specs.Lengths.{length_prefixed}
use Rattle.relay_io.specs.declared.feed.TheConstants.{LONGEST_FEED_MESSAGE}
use Rattle.tape.specs.ReadAhead.{items}
use Rattle.mirror_run.specs.Stream.{EndsInMessage}
use Rattle.mirror_run.specs.declared.reader.StreamFault.{StreamFault}
use Rattle.mirror_run.specs.declared.reader.MessageReader.{MessageReader}

-- the bytes that were taken and aren't used yet
abbrev pub held : MessageReader → List ℕ
held reader = items reader.window

-- what is to come: what was taken and isn't used yet, then what the source has left
abbrev pub coming : MessageReader → List ℕ → List ℕ
coming reader left = held reader ++ left

-- how many bytes of the stream were taken
abbrev pub taken : MessageReader → ℕ
taken reader = reader.place + length (held reader)

-- Something is there, and no whole message at its front that is short enough.
pub record HasNoMessage (bytes : List ℕ) : Type 0 where
  pub some : bytes ≢ []
  pub none : (m more : List ℕ) → bytes ≡ length_prefixed m ++ more → length m ≤ LONGEST_FEED_MESSAGE
      → ⊥

-- As many bytes as may be were taken, and they end inside a message.
pub record IsSpent (place most : ℕ) (bytes : List ℕ) : Type 0 where
  pub part : List ℕ
  pub after : List ℕ
  pub split : bytes ≡ part ++ after
  pub ends : EndsInMessage part
  pub whole : place + length part ≡ most

-- What is answered, of a source that tells what it has left.
abbrev pub IsNext : MessageReader → List ℕ → MessageReader → List ℕ
    → Result (Option (List ℕ)) StreamFault → Type 0
IsNext old before new after (Ok (Some m)) =
    coming old before ≡ length_prefixed m ++ coming new after
IsNext old before new after (Ok None) = coming old before ≡ []
IsNext old before new after (Err StreamFault.Bad) = HasNoMessage (coming old before)
IsNext old before new after (Err StreamFault.Failed) = ⊤
IsNext old before new after (Err StreamFault.Limit) = IsSpent old.place old.most (coming old before)
IsNext old before new after (Err StreamFault.Memory) = ⊤

-- Where the reader is then, of every source: behind a message, and else where it was.
abbrev pub IsPlaced : ℕ → ℕ → Result (Option (List ℕ)) StreamFault → Type 0
IsPlaced old new (Ok (Some m)) = (length m ≤ LONGEST_FEED_MESSAGE)
    × (new ≡ old + length (length_prefixed m))
IsPlaced old new (Ok None) = new ≡ old
IsPlaced old new (Err fault) = new ≡ old

-- what is answered where the source has ended
abbrev pub IsEnd : List ℕ → Result (Option (List ℕ)) StreamFault → Type 0
IsEnd bytes (Ok (Some m)) = ⊥
IsEnd bytes (Ok None) = bytes ≡ []
IsEnd bytes (Err StreamFault.Bad) = bytes ≢ []
IsEnd bytes (Err StreamFault.Failed) = ⊥
IsEnd bytes (Err StreamFault.Limit) = ⊥
IsEnd bytes (Err StreamFault.Memory) = ⊥

-- what is answered where no piece was taken
abbrev pub HasNoPiece : StreamFault → Type 0
HasNoPiece StreamFault.Failed = Unit {0}
HasNoPiece StreamFault.Limit = Unit {0}
HasNoPiece StreamFault.Memory = Unit {0}
HasNoPiece StreamFault.Bad = ⊥
