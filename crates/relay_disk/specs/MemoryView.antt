-- What contracts see of a disk in memory.
use Rattle.std.specs.Prelude.{◌≡◌, ◌⊎◌, ℕ, ◌+◌, ◌-◌, ◌^◌, ◌<◌, min, List, [], ◌∷◌, ◌++◌, Contains}
use Rattle.relay_disk.specs.Disk.{View}
use Rattle.relay_disk.specs.Works.{Moment, opened, after, view_of}
use Rattle.relay_disk.specs.Memory.{works_of}
use Rattle.relay_disk.specs.declared.call.Call.{Call}
use Rattle.relay_disk.specs.declared.memory.MemoryDisk.{MemoryDisk}

abbrev pub memory_view : MemoryDisk → View
memory_view d = view_of d.first.items (works_of d.calls.items d.pieces.items) d.room.failures.faults

-- the content, what a crash may leave, and the content at the last sync with the calls since
abbrev pub moment_of : MemoryDisk → Moment
moment_of d = after (opened d.first.items) (works_of d.calls.items d.pieces.items)

-- the calls that were done, in their order
abbrev pub calls_of : MemoryDisk → List Call
calls_of d = d.calls.items

-- the numbers of the calls that fail, the first of which is 1
abbrev pub failing : MemoryDisk → List ℕ
failing d = d.room.failures.listed.items

-- how many calls it has taken
abbrev pub taken : MemoryDisk → ℕ
taken d = d.room.failures.taken

-- the room: so many calls more, and so many bytes in their writes
abbrev pub spare_calls : MemoryDisk → ℕ
spare_calls d = d.room.calls

abbrev pub spare_bytes : MemoryDisk → ℕ
spare_bytes d = d.room.bytes

-- The next call, which writes so many bytes, is to fail: its number is listed, or it goes past the
-- room.
abbrev pub IsToFail : ℕ → MemoryDisk → Type 0
IsToFail bytes d = Contains (failing d) (min (taken d + 1) (2 ^ 64 - 1))
    ⊎ ((spare_calls d ≡ 0) ⊎ (spare_bytes d < bytes))

-- a call was taken
pub record Takes (old new : MemoryDisk) : Type 0 where
  pub number : taken new ≡ min (taken old + 1) (2 ^ 64 - 1)
  pub same_failing : failing new ≡ failing old

-- it was done, and wrote so many bytes
pub record Does (call : Call) (bytes : ℕ) (old new : MemoryDisk) : Type 0 where
  pub recorded : calls_of new ≡ calls_of old ++ call ∷ []
  pub used_calls : spare_calls new + 1 ≡ spare_calls old
  pub used_bytes : spare_bytes new + bytes ≡ spare_bytes old

-- or it wasn't
pub record DoesNothing (old new : MemoryDisk) : Type 0 where
  pub recorded : calls_of new ≡ calls_of old
  pub same_calls : spare_calls new ≡ spare_calls old
  pub same_bytes : spare_bytes new ≡ spare_bytes old
