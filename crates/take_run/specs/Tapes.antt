-- Messages as the records of a tape.
use Rattle.std.specs.Prelude.{◌≡◌, ◌⊎◌, ◌≤◌, ◌<◌, ℕ, ◌+◌, List, [], ◌∷◌, ◌++◌, length}
use Rattle.at_cid.specs.Link.{IsBytes}
use Rattle.store_take.specs.declared.message.Message.{Message}
use Rattle.tape.specs.Format.{record_bytes, IsRecord}
use Rattle.tape.specs.Shown.{Shows, NeedsMore, bad_name, too_long, cut}
use Rattle.run_base.specs.declared.status.Status.{Status}

-- the bytes of their records, one after another
abbrev pub encoded_records : List Message → List ℕ
encoded_records [] = []
encoded_records (m ∷ messages) = record_bytes m.host m.bytes ++ encoded_records messages

-- each can stand in a record
abbrev pub AreRecords : List Message → Type 0
AreRecords [] = Unit {0}
AreRecords (m ∷ messages) = IsRecord m.host m.bytes × IsBytes m.bytes × AreRecords messages

-- bytes at whose front a record is at fault: its name is no host's, its message is too long, or
-- they end inside it
abbrev pub ShowsFault : List ℕ → Type 0
ShowsFault bytes = Shows bytes bad_name ⊎ (Shows bytes too_long ⊎ Shows bytes cut)

-- What ends a tape after records of so many bytes, of which this part was taken after them, and
-- that is left. Where it is done there is nothing more, and the limit wasn't reached. At a bad
-- place what stands after the records shows a fault, and the place is where they end. Where a read
-- failed or the limit was reached, the part is none, or that of a record that is cut.
abbrev pub EndsTape : ℕ → ℕ → List ℕ → List ℕ → Status → Type 0
EndsTape limit size part after Status.Done = (part ≡ []) × (after ≡ []) × (size < limit)
EndsTape limit size part after (Status.BadTape place) = ShowsFault (part ++ after) × (place ≡ size)
EndsTape limit size part after Status.ReadFault = NeedsMore part
EndsTape limit size part after Status.TooLong = NeedsMore part × (size + length part ≡ limit)
EndsTape limit size part after status = Unit {0}

-- Of an input, before and after: the records of the messages stand at its front, and after them
-- this part was taken, which is `limit` bytes in all at most.
pub record IsOnTape (limit : ℕ) (before after : List ℕ) (messages : List Message) (status : Status)
    : Type 0 where
  pub part : List ℕ
  pub front : before ≡ encoded_records messages ++ (part ++ after)
  pub within : length (encoded_records messages) + length part ≤ limit
  pub ends : EndsTape limit (length (encoded_records messages)) part after status
