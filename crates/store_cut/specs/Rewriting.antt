-- A journal that is written anew into a log that is being built, each row as a body of its own
-- (own).
use Rattle.std.specs.Prelude.{◌≡◌, ◌⊎◌, ⊤, ℕ, ◌+◌, ◌<◌, Bool, List, [], ◌∷◌, ◌++◌, length, IsTrue}
use Rattle.std.specs.List.{AllByRecursion}
use Rattle.relay_disk.specs.Disk.{View}
use Rattle.relay_disk.specs.Moments.{LeavesOnly}
use Rattle.gate_log.specs.Image.{made, records}
use Rattle.gate_log.specs.Build.{HasBuilt, IsBuiltOn, IsClosed}
use Rattle.gate_log.specs.declared.limits.TheConstants.{BODY_LENGTHS}
use Rattle.row_codec.specs.Bodies.{rows_body}
use Rattle.relay_row.specs.declared.row.Row.{Row}
use Rattle.relay_core.specs.Entries.{Holds}
use Rattle.relay_store.specs.PendingBodies.{end_of}
use Rattle.relay_store.specs.Journals.{bytes_of}
use Rattle.relay_store.specs.Places.{places_behind}
use Rattle.relay_store.specs.declared.fault.StoreFault.{StoreFault}
use Rattle.store_cut.specs.declared.rewriting.Rewrite.{Rewrite}

-- a body for each row
abbrev pub singles : List Row → List (List Row)
singles [] = []
singles (row ∷ rows) = (row ∷ []) ∷ singles rows

-- a body of this row alone is short enough for a log
abbrev pub IsShort : Row → Type 0
IsShort row = length (rows_body (row ∷ [])) < BODY_LENGTHS

-- and so it is of each of these rows
abbrev pub AllShort : List Row → Type 0
AllShort rows = AllByRecursion IsShort rows

-- where the next body goes behind a body for each of these rows
abbrev pub end_behind : ℕ → List Row → ℕ
end_behind end rows = end + length (records (bytes_of (singles rows)))

-- A body for each of these rows was added behind the closed gate, and they are known.
pub record IsCopied (tells : Bool) (rows : List Row) (old new : Rewrite) (v w : View) : Type 0 where
  pub format : new.build.format ≡ old.build.format
  pub most : new.build.most ≡ old.build.most
  pub end : new.build.end ≡ end_behind old.build.end rows
  pub fits : (rows ≡ []) ⊎ (new.build.end < old.build.most)
  pub on : IsTrue tells → IsBuiltOn w new.build
  pub added : IsTrue tells → (bodies : List (List ℕ)) → HasBuilt bodies old.build v
      → HasBuilt (bodies ++ bytes_of (singles rows)) new.build w
  pub core : (J : List Row) → Holds old.core J → Holds new.core (J ++ rows)
  pub window : (before : List (List Row))
      → old.build.end ≡ length (made old.build.format (bytes_of before))
      → new.window.places ≡ old.window.places
      ++ places_behind old.build.format before (singles rows)
  -- a crash on the way leaves the gate closed
  pub run : IsTrue tells → LeavesOnly IsClosed v w
  pub steady : w.faults ≡ v.faults

-- One of these rows has no room, as a body of its own behind those before it: with the closed gate
-- behind it, it would end there. Those before it have room.
pub record RewriteHasNoRoom (end most : ℕ) (rows : List Row) (e : ℕ) : Type 0 where
  pub before : List Row
  pub row : Row
  pub after : List Row
  pub split : rows ≡ before ++ row ∷ after
  pub there : e ≡ end_of (end_behind end before) (row ∷ [])
  pub past : most < e
  pub fits : (before ≡ []) ⊎ (end_behind end before < most)

-- Some rows were added, of which this holds.
abbrev pub CopiedAs : Bool → (List Row → Type 0) → Rewrite → Rewrite → View → View → Type 0
CopiedAs tells P old new v w = (rows : List Row) × IsCopied tells rows old new v w × P rows

-- what writing a journal anew may answer
abbrev pub IsOfRewriting : StoreFault → Type 0
IsOfRewriting StoreFault.Disk = ⊤
IsOfRewriting (StoreFault.BadLog place) = ⊤
IsOfRewriting (StoreFault.Full end) = ⊤
IsOfRewriting StoreFault.SeqEnd = ⊥
IsOfRewriting StoreFault.Authority = ⊥
IsOfRewriting StoreFault.Repos = ⊥
IsOfRewriting StoreFault.Memory = ⊤
IsOfRewriting StoreFault.Clock = ⊥

-- and what adding rows may
abbrev pub IsOfAdding : StoreFault → Type 0
IsOfAdding (StoreFault.BadLog place) = ⊥
IsOfAdding fault = IsOfRewriting fault
