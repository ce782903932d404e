-- A log that is being built behind a closed gate, and what a crash may leave of it.
use Rattle.std.specs.Prelude.{◌≡◌, ◌≢◌, ◌⊎◌, ◌<◌, ℕ, List, [], ◌∷◌, ◌++◌, length, drop, get_or}
use Rattle.relay_disk.specs.Disk.{View}
use Rattle.gate_log.specs.declared.format.Format.{Format}
use Rattle.at_cid.specs.declared.limits.TheConstants.{NUMBERS}
use Rattle.gate_log.specs.declared.limits.TheConstants.{EMPTY_LEN}
use Rattle.gate_log.specs.Image.{made, records, IsMade, AreShort, generation}

-- a build as contracts see it: the format with the generation, where the next record goes, how far
-- records may go, and the records that aren't written yet
pub record BuildState : Type 0 where
  pub format : Format
  pub end : ℕ
  pub most : ℕ
  pub waiting : List ℕ

-- the first byte isn't an open gate
abbrev pub IsClosed : List ℕ → Type 0
IsClosed c = get_or c 0 0 ≢ 1

-- bytes that are picked of no pair
abbrev pub IsIdle : List ℕ → Type 0
IsIdle c = IsClosed c ⊎ (length c < EMPTY_LEN)

-- with a closed gate in front
abbrev pub shut : List ℕ → List ℕ
shut bytes = 0 ∷ drop 1 bytes

-- The disk holds the front and these bodies' records behind a closed gate, and a crash leaves that
-- gate closed.
pub record Builds (format : Format) (bodies : List (List ℕ)) (end : ℕ) (v : View) : Type 0 where
  pub ends : end ≡ length (made format bodies)
  pub now : v.content ≡ shut (made format bodies ++ 0 ∷ [])
  pub left : (c : List ℕ) → v.may_leave c → IsClosed c
  pub short : AreShort bodies
  pub below : generation format < NUMBERS

-- The disk is the one that was begun on; the records on it and those that wait have these bodies.
pub record HasBuilt (bodies : List (List ℕ)) (build : BuildState) (v : View) : Type 0 where
  pub on_disk : List (List ℕ)
  pub held : List (List ℕ)
  pub split : bodies ≡ on_disk ++ held
  pub waits : build.waiting ≡ records held
  pub ends : build.end ≡ length (made build.format bodies)
  pub short : AreShort bodies
  pub built : Builds build.format on_disk (length (made build.format on_disk)) v

-- The disk is the one that was begun on.
abbrev pub IsBuiltOn : View → BuildState → Type 0
IsBuiltOn v build = (bodies : List (List ℕ)) × HasBuilt bodies build v

-- what a crash could leave before, or bytes that are picked of no pair
abbrev pub IsFormerOrIdle : View → List ℕ → Type 0
IsFormerOrIdle v c = v.may_leave c ⊎ IsIdle c

-- the whole log, or a closed gate
abbrev pub IsClosedOrMade : Format → List (List ℕ) → List ℕ → Type 0
IsClosedOrMade format bodies c = IsClosed c ⊎ IsMade format bodies c
