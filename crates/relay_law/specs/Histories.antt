-- Histories: what becomes of the journal of a store over its calls, failures, crashes and openings
-- (own).
use Rattle.std.specs.Prelude.{◌≡◌, ◌≢◌, ◌⊎◌, ℕ, ◌≤◌, true, List, [], ◌∷◌, ◌++◌, Option, Some, None, nat_le, nat_lt}
use Rattle.std.specs.List.{AllByRecursion, list_all}
use Rattle.relay_row.specs.Folds.{cursor, events, last_seq}
use Rattle.relay_row.specs.declared.row.Row.{Row}
use Rattle.relay_law.specs.Carried.{CarriesOver}

-- A journal is cut at a number up to its last one: the front that sent out the events up to it, of
-- which there are some, gives way to rows that carry it over, with its last number and each host's
-- cursor; the events behind it have greater numbers.
pub record IsCut (J : List Row) (number : ℕ) (cut : List Row) : Type 0 where
  pub front : List Row
  pub others : List Row
  pub carried : List Row
  pub held : number ≤ last_seq J
  pub whole : J ≡ front ++ others
  pub now : cut ≡ carried ++ others
  pub some : events front ≢ []
  pub up_to : list_all (λ event. nat_le event.0 number) (events front) ≡ true
  pub above : list_all (λ event. nat_lt number event.0) (events others) ≡ true
  pub over : CarriesOver front carried
  pub last : last_seq carried ≡ last_seq front
  pub cursors : (host : List ℕ) → cursor host carried ≡ cursor host front

-- what a call does to a journal: it adds rows at its end, or cuts it at a number
pub data Change : Type 0 where
  adds : List Row → Change
  cuts : ℕ → Change

abbrev pub IsChanged : List Row → Change → List Row → Type 0
IsChanged J (adds rows) K = K ≡ J ++ rows
IsChanged J (cuts number) K = IsCut J number K

-- by these changes, one after another, a journal comes from another
abbrev pub AreChanged : List Row → List Change → List Row → Type 0
AreChanged J [] K = K ≡ J
AreChanged J (change ∷ changes) K = (middle : List Row) × IsChanged J change middle
    × AreChanged middle changes K

abbrev pub Comes : List Row → List Row → Type 0
Comes J K = (changes : List Change) × AreChanged J changes K

-- Between two calls: the journal of the store, where one is open, and the journals for which the
-- disks stand, by one or another of the bytes that a crash there may leave.
pub record Point : Type 0 where
  pub serves : Option (List Row)
  pub leaves : List (List Row)

abbrev pub IsIn : List Row → List (List Row) → Type 0
IsIn J [] = ⊥
IsIn J (K ∷ journals) = (J ≡ K) ⊎ IsIn J journals

-- where a store is open, the disks stand for its journal alone
abbrev pub Stands : Point → Type 0
Stands p = (J : List Row) → p.serves ≡ Some J → (K : List Row) → IsIn K p.leaves → K ≡ J

-- A call of a store with this journal, that was to make a change: it ended so, or with nothing
-- changed, or the store is no longer open, after a failure of the disks or a crash; and the disks
-- stand for the one journal or for the other.
pub record Calls (J : List Row) (next : Point) : Type 0 where
  pub change : Change
  pub changed : List Row
  pub is_change : IsChanged J change changed
  pub ends : (next.serves ≡ Some changed) ⊎ ((next.serves ≡ Some J) ⊎ (next.serves ≡ None))
  pub leaves : (K : List Row) → IsIn K next.leaves → (K ≡ J) ⊎ (K ≡ changed)

-- An opening: it opens a journal for which the disks stand, or fails, or a crash ends it; and the
-- disks stand for nothing new.
pub record Opens (p next : Point) : Type 0 where
  pub ends : (J : List Row) → next.serves ≡ Some J → IsIn J p.leaves
  pub leaves : (K : List Row) → IsIn K next.leaves → IsIn K p.leaves

abbrev pub NextOf : Option (List Row) → Point → Point → Type 0
NextOf None p next = Opens p next
NextOf (Some J) p next = Calls J next

-- a list of points, each of which follows the one before it by a call, or by an opening where no
-- store is open
abbrev pub LivesFrom : Point → List Point → Type 0
LivesFrom p [] = Stands p
LivesFrom p (next ∷ points) = Stands p × NextOf p.serves p next × LivesFrom next points

-- every journal that is open at one of these points comes from this one
abbrev pub AllCome : List Row → List Point → Type 0
AllCome J points = AllByRecursion (λ p. (K : List Row) → p.serves ≡ Some K → Comes J K) points
