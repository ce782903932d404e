-- The law of histories, without one of its premises.
use Rattle.std.specs.Prelude.{◌≡◌, ◌⊎◌, List, [], ◌∷◌, Option, Some, None}
use Rattle.relay_row.specs.declared.row.Row.{Row}
use Rattle.relay_law.specs.Histories.{Change, IsChanged, Point, IsIn, Stands, Calls, Opens, NextOf, LivesFrom, AllCome}

-- a point follows another by a call, or by an opening where no store is open, that are these
abbrev pub NextBy : (List Row → Point → Type 0) → (Point → Point → Type 0) → Option (List Row)
    → Point → Point → Type 0
NextBy calls opens None p next = opens p next
NextBy calls opens (Some J) p next = calls J next

-- a list of points, each of which follows the one before it by one of these
abbrev pub LivesBy : (List Row → Point → Type 0) → (Point → Point → Type 0) → Point → List Point
    → Type 0
LivesBy calls opens p [] = Stands p
LivesBy calls opens p (next ∷ points) = Stands p × NextBy calls opens p.serves p next
    × LivesBy calls opens next points

-- over these histories, each journal comes from the one that is open now
abbrev pub JournalsComeBy : (List Row → Point → Type 0) → (Point → Point → Type 0) → Type 0
JournalsComeBy calls opens = (p : Point) (points : List Point) (J : List Row)
    → LivesBy calls opens p points → p.serves ≡ Some J → AllCome J points

-- a call that ends with any journal open, or none
pub record CallsToAny (J : List Row) (next : Point) : Type 0 where
  pub change : Change
  pub changed : List Row
  pub is_change : IsChanged J change changed
  pub leaves : (K : List Row) → IsIn K next.leaves → (K ≡ J) ⊎ (K ≡ changed)

-- a call that makes no change that there is
pub record CallsByAny (J : List Row) (next : Point) : Type 0 where
  pub changed : List Row
  pub ends : (next.serves ≡ Some changed) ⊎ ((next.serves ≡ Some J) ⊎ (next.serves ≡ None))
  pub leaves : (K : List Row) → IsIn K next.leaves → (K ≡ J) ⊎ (K ≡ changed)

-- a call that leaves anything on the disks
pub record CallsLeavingAny (J : List Row) (next : Point) : Type 0 where
  pub change : Change
  pub changed : List Row
  pub is_change : IsChanged J change changed
  pub ends : (next.serves ≡ Some changed) ⊎ ((next.serves ≡ Some J) ⊎ (next.serves ≡ None))

-- an opening of any journal
pub record OpensAny (p next : Point) : Type 0 where
  pub leaves : (K : List Row) → IsIn K next.leaves → IsIn K p.leaves

-- an opening that leaves anything on the disks
pub record OpensLeavingAny (p next : Point) : Type 0 where
  pub ends : (J : List Row) → next.serves ≡ Some J → IsIn J p.leaves

-- histories in which the disks of an open store may stand for anything
abbrev pub LivesUnfounded : Point → List Point → Type 0
LivesUnfounded p [] = Unit {0}
LivesUnfounded p (next ∷ points) = NextOf p.serves p next × LivesUnfounded next points

-- What the disks of an open store stand for is no premise that is wanted: calls say what they
-- leave, whatever was there.
abbrev pub UnfoundedComeOn : Type 0
UnfoundedComeOn = (p : Point) (points : List Point) (J : List Row) → LivesUnfounded p points
    → p.serves ≡ Some J → AllCome J points

-- A journal may be of other rows than those before it ..
pub record JournalsMayBeOthers : Type 0 where
  -- where a call ends with a journal that it didn't make
  pub ends : JournalsComeBy CallsToAny Opens → ⊥
  -- where what it makes is no change
  pub changes : JournalsComeBy CallsByAny Opens → ⊥
  -- where it leaves something else on the disks
  pub leaves : JournalsComeBy CallsLeavingAny Opens → ⊥
  -- where an opening opens something else than the disks stand for
  pub opens : JournalsComeBy Calls OpensAny → ⊥
  -- where it leaves something else on them
  pub opens_leave : JournalsComeBy Calls OpensLeavingAny → ⊥
  -- where it isn't the one that is open now
  pub serves : ((p : Point) (points : List Point) (J : List Row) → LivesFrom p points
      → AllCome J points) → ⊥
