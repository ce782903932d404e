-- A disk as contracts see it, what its calls do, and what a crash may leave of them.
use Rattle.std.specs.Prelude.{◌≡◌, ◌⊎◌, ◌↔◌, ◌+◌, ◌≤◌, ℕ, min, max, List, ◌++◌, length, take, drop}

-- A disk at one moment.
pub record View : Type 1 where
  -- The bytes that a read gives, if the disk tells them. If it doesn't, no answer of a call is tied
  -- to this list.
  pub content : List ℕ
  -- what a crash now may leave
  pub may_leave : List ℕ → Type 0
  -- the moment, a number that never falls
  pub moment : ℕ
  -- what a crash at some moment from that one on may have left
  pub left_since : ℕ → List ℕ → Type 0
  -- how often the disk has failed
  pub faults : ℕ

-- the list with these bytes from this place on
abbrev pub written : ℕ → List ℕ → List ℕ → List ℕ
written place bytes old = take place old ++ bytes ++ drop (place + length bytes) old

-- A write of n bytes, done in any part: any bytes in its range, the same elsewhere, any size
-- between.
pub record Torn (place n : ℕ) (old new : List ℕ) : Type 0 where
  pub before : take place new ≡ take place old
  pub after : drop (place + n) new ≡ drop (place + n) old
  pub no_shorter : length old ≤ length new
  pub no_longer : length new ≤ max (length old) (place + n)

-- A cut, done in any part: some size between, the same bytes.
pub record Cut (size : ℕ) (old new : List ℕ) : Type 0 where
  pub no_shorter : min size (length old) ≤ length new
  pub front : new ≡ take (length new) old

-- nothing to do
abbrev pub Same : List ℕ → List ℕ → Type 0
Same old new = new ≡ old

-- One call, whatever it answers: its work was done in some part.
pub record Goes (part : List ℕ → List ℕ → Type 0) (old new : View) : Type 0 where
  pub content : part old.content new.content
  -- what a crash may leave is some part of the work on something that one before could leave
  pub follows : (c : List ℕ) → new.may_leave c → (d : List ℕ) × old.may_leave d × part d c
  -- time goes on, and forgets nothing
  pub later : old.moment ≤ new.moment
  pub nothing_else : (t : ℕ) (c : List ℕ) → t ≤ old.moment
      → new.left_since t c → old.left_since t c ⊎ new.may_leave c
  pub keeps : (t : ℕ) (c : List ℕ) → t ≤ old.moment → old.left_since t c → new.left_since t c
  pub counts : old.faults ≤ new.faults

-- Nothing of the disk has changed.
pub record IsAsBefore (old new : View) : Type 0 where
  pub content : new.content ≡ old.content
  pub may_leave : (c : List ℕ) → new.may_leave c ↔ old.may_leave c
  pub moment : new.moment ≡ old.moment
  pub left_since : (t : ℕ) (c : List ℕ) → new.left_since t c ↔ old.left_since t c
  pub faults : new.faults ≡ old.faults

-- a crash leaves the content and nothing else
abbrev pub IsSynced : View → Type 0
IsSynced v = (c : List ℕ) → v.may_leave c → c ≡ v.content

-- The disk holds these bytes, and a crash leaves them and nothing else.
pub record IsSettled (v : View) (bytes : List ℕ) : Type 0 where
  pub content : v.content ≡ bytes
  pub only : (c : List ℕ) → v.may_leave c → c ≡ bytes

-- What holds of a disk at each moment.
pub record IsDisk (v : View) : Type 0 where
  -- its content is one of those that a crash now may leave
  pub possible : v.may_leave v.content
  -- this moment is one of those since an earlier one, and the only one since itself
  pub counts_now : (t : ℕ) (c : List ℕ) → t ≤ v.moment → v.may_leave c → v.left_since t c
  pub only_now : (c : List ℕ) → v.left_since v.moment c → v.may_leave c
