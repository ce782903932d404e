-- What mirroring a stream does (own).
use Rattle.std.specs.Prelude.{◌≡◌, ⊤, ℕ, ◌+◌, Bool, List, [], ◌∷◌, ◌++◌, length, IsTrue}
use Rattle.std.specs.declared.cmp.Ordering.TheVariants.{Less}
use Rattle.std.specs.List.{AllByRecursion, list_any}
use Rattle.std.specs.Str.{bytes_eq}
use Rattle.at_cid.specs.Order.{key_cmp}
use Rattle.backfill.specs.Writing.{with_length}
use Rattle.mirror.specs.Held.{IsHeld}
use Rattle.mirror.specs.Repository.{Repositories}
use Rattle.mirror.specs.declared.holding.Holding.{Holding}
use Rattle.run_base.specs.Ends.{Writes}
use Rattle.run_base.specs.declared.status.Status.{Status}
use Rattle.mirror_run.specs.Lines.{mirror_end_line, mirror_line}
use Rattle.mirror_run.specs.Stream.{AreGood, EndsInMessage, IsBadBehind, event_count, tell_of}

-- a name stands before each of these, in the order of bytes
abbrev pub AllBehind : List ℕ → List (List ℕ) → Type 0
AllBehind did dids = AllByRecursion (λ d. key_cmp did d ≡ Less) dids

-- each name stands before all later ones
abbrev pub Ascend : List (List ℕ) → Type 0
Ascend [] = Unit {0}
Ascend (did ∷ dids) = AllBehind did dids × Ascend dids

-- the lines of DIDs, by what is held of each behind the messages
abbrev pub AreLines : Bool → Repositories → List (List ℕ) → List (List ℕ) → List ℕ → Type 0
AreLines tell repositories messages [] text = text ≡ []
AreLines tell repositories messages (did ∷ dids) text =
    (held : Holding) × (rest : List ℕ) × (IsTrue tell → IsHeld repositories did messages held)
    × (text ≡ mirror_line did held ++ rest) × AreLines tell repositories messages dids rest

-- The text has a line for each DID of which the messages have a commit or a `#sync`, in ascending
-- order, and then the number of events.
pub record IsMirrorText (tell : Bool) (repositories : Repositories) (messages : List (List ℕ))
    (text : List ℕ) : Type 0 where
  pub dids : List (List ℕ)
  pub lines : List ℕ
  pub ascend : Ascend dids
  pub told : (did : List ℕ) → list_any (bytes_eq did) dids ≡ tell_of did messages
  pub are : AreLines tell repositories messages dids lines
  pub whole : text ≡ lines ++ mirror_end_line (event_count messages)

-- The whole text was written where all was done, and a front of it where writing failed or memory
-- ran out. At every other end nothing was.
abbrev pub IsMirrorWritten : Bool → Repositories → Status → List (List ℕ) → List ℕ → List ℕ
    → Type 0
IsMirrorWritten tell repositories status messages old new =
    (text : List ℕ) × IsMirrorText tell repositories messages text × Writes status [] text old new

-- What stands in the input behind the messages that were taken, by how it ended: nothing; what
-- can't be taken, at its place; or more than may be taken, of which a front of a message was.
abbrev pub IsRestLeft : ℕ → Status → List (List ℕ) → List ℕ → Type 0
IsRestLeft limit Status.Done messages rest = rest ≡ []
IsRestLeft limit Status.WriteFault messages rest = rest ≡ []
IsRestLeft limit (Status.BadStream place) messages rest =
    (place ≡ length (with_length messages)) × IsBadBehind messages rest
IsRestLeft limit Status.TooLong messages rest =
    (part : List ℕ) × (after : List ℕ) × (rest ≡ part ++ after) × EndsInMessage part
    × (length (with_length messages) + length part ≡ limit)
IsRestLeft limit status messages rest = ⊤

-- A stream was mirrored, of which at most so many bytes may be taken: these messages at its front
-- were taken, and their text was written.
pub record Mirrored (input_tells output_tells repositories_tell : Bool) (limit : ℕ)
    (repositories : Repositories)
    (input old new : List ℕ) (status : Status) : Type 0 where
  pub messages : List (List ℕ)
  pub rest : List ℕ
  pub good : AreGood 0 messages
  pub split : IsTrue input_tells → input ≡ with_length messages ++ rest
  pub left : IsTrue input_tells → IsRestLeft limit status messages rest
  pub written : IsTrue output_tells
      → IsMirrorWritten repositories_tell repositories status messages old new
