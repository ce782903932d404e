-- Journals, as the bodies of a log hold them (own).
use Rattle.std.specs.Prelude.{◌≡◌, ◌⊎◌, ℕ, List, [], ◌∷◌, ◌++◌, length}
use Rattle.std.specs.List.{AllByRecursion}
use Rattle.relay_disk.specs.Disk.{View}
use Rattle.gate_log.specs.declared.format.Format.{Format}
use Rattle.gate_log.specs.declared.picking.Side.{Side}
use Rattle.gate_log.specs.Image.{made, IsMade}
use Rattle.gate_log.specs.Pick.{IsPairImage, IsPicked, IsBadPairAt, of_side}
use Rattle.row_codec.specs.Bodies.{rows_body, IsBody}
use Rattle.relay_row.specs.Journal.{IsJournal}
use Rattle.relay_row.specs.declared.row.Row.{Row}

-- the rows of bodies, joined
abbrev pub joined : List (List Row) → List Row
joined [] = []
joined (rows ∷ bodies) = rows ++ joined bodies

-- the bytes of each body
abbrev pub bytes_of : List (List Row) → List (List ℕ)
bytes_of [] = []
bytes_of (rows ∷ bodies) = rows_body rows ∷ bytes_of bodies

-- each has the rows of a body
abbrev pub AllBodies : List (List Row) → Type 0
AllBodies bodies = AllByRecursion (λ rows. IsBody rows (rows_body rows)) bodies

-- bodies whose rows, joined, are the journal
pub record AreBodiesOf (J : List Row) (bodies : List (List Row)) : Type 0 where
  pub each : AllBodies bodies
  pub rows : joined bodies ≡ J
  pub journal : IsJournal J

-- Bytes of a made log of this format that has this journal.
pub record IsLogOf (format : Format) (J : List Row) (bytes : List ℕ) : Type 0 where
  pub bodies : List (List Row)
  pub are : AreBodiesOf J bodies
  pub is_made : IsMade format (bytes_of bodies) bytes

-- The bytes of two disks that are an image of this journal: so are those of the side that is
-- picked.
pub record IsPairImageOf (J : List Row) (one two : List ℕ) : Type 0 where
  pub bodies : List (List Row)
  pub are : AreBodiesOf J bodies
  pub image : IsPairImage (bytes_of bodies) one two

-- a log of the journal, or of the journal followed by these rows
abbrev pub IsOneOf : Format → List Row → List Row → List ℕ → Type 0
IsOneOf format J rows c = IsLogOf format J c ⊎ IsLogOf format (J ++ rows) c

-- All pairs that a crash may leave are images of journals.
abbrev pub LeavesPairJournals : View → View → Type 0
LeavesPairJournals one two = (c d : List ℕ) → one.may_leave c → two.may_leave d → (J : List Row)
    × IsPairImageOf J c d

-- A crash may leave a pair of images of this journal.
abbrev pub MayBePairJournal : View → View → List Row → Type 0
MayBePairJournal one two J = (c : List ℕ) × (d : List ℕ) × one.may_leave c × two.may_leave d
    × IsPairImageOf J c d

-- an image of one of the journals that a crash might have left before
abbrev pub IsPairJournalOfOne : View → View → List ℕ → List ℕ → Type 0
IsPairJournalOfOne one two c d = (J : List Row) × MayBePairJournal one two J × IsPairImageOf J c d

-- The log's bodies have rows of a journal, up to the one at this place: that has none, or they
-- break the order.
pub record IsBadBodyAt (place : ℕ) (bytes : List ℕ) : Type 0 where
  pub format : Format
  pub before : List (List Row)
  pub body : List ℕ
  pub behind : List (List ℕ)
  pub is_made : IsMade format (bytes_of before ++ body ∷ behind) bytes
  pub each : AllBodies before
  pub journal : IsJournal (joined before)
  pub here : place ≡ length (made format (bytes_of before))
  pub bad : (rows : List Row) → IsBody rows body → IsJournal (joined before ++ rows) → ⊥

-- The bytes of two disks are no image of a journal, and this is the place where they show it: where
-- the log shows it, and where that is none, the place of the first body that is bad.
abbrev pub IsBadPairJournalAt : ℕ → List ℕ → List ℕ → Type 0
IsBadPairJournalAt place one two = IsBadPairAt place one two
    ⊎ ((side : Side) × IsPicked one two side × IsBadBodyAt place (of_side side one two))
