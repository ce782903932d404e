-- What calls that were done make of a content, and what a crash may leave of them.
use Rattle.std.specs.Prelude.{◌≡◌, ◌⊎◌, ◌≤◌, ℕ, List, [], ◌∷◌, ◌++◌, length, take, refl}
use Rattle.std.proofs.Common.{inl, sym, subst}
use Rattle.std.proofs.Math.Nat.{le_refl}
use Rattle.std.proofs.lemmas.List.{take_all}
use Rattle.relay_disk.specs.Disk.{View, Torn, Cut, IsDisk, written}

-- a call that changes what a disk holds or what a crash may leave
pub data Work : Type 0 where
  wrote : (place : ℕ) (bytes : List ℕ) → Work
  cut_to : (size : ℕ) → Work
  synced : Work

-- a disk between two calls
pub record Moment : Type 1 where
  pub content : List ℕ
  -- what a crash there may leave
  pub may_leave : List ℕ → Type 0
  -- the content at the last sync, and the calls since
  pub settled : List ℕ
  pub since : List Work

-- a disk with this content, synced
abbrev pub opened : List ℕ → Moment
opened bytes = record { content = bytes; may_leave = λ c. c ≡ bytes; settled = bytes; since = [] }

-- the work was done whole, or in some part on something that a crash could leave before
abbrev pub WholeOrPart : List ℕ → (List ℕ → List ℕ → Type 0) → (List ℕ → Type 0) → List ℕ → Type 0
WholeOrPart whole part before c = (c ≡ whole) ⊎ ((d : List ℕ) × before d × part d c)

-- after a work that is done whole, or which a crash cuts short
abbrev pub changed : Moment → Work → List ℕ → (List ℕ → List ℕ → Type 0) → Moment
changed m work whole part = record {
  content = whole;
  may_leave = WholeOrPart whole part m.may_leave;
  settled = m.settled;
  since = m.since ++ work ∷ [];
}

abbrev pub next : Moment → Work → Moment
next m (wrote place bytes) =
    changed m (wrote place bytes) (written place bytes m.content) (Torn place (length bytes))
next m (cut_to size) = changed m (cut_to size) (take size m.content) (Cut size)
next m synced = opened m.content

-- after these calls
abbrev pub after : Moment → List Work → Moment
after m [] = m
after m (work ∷ works) = after (next m work) works

-- what a crash after some of the calls, from the t-th on, may have left
abbrev pub LeftSince : Moment → List Work → ℕ → List ℕ → Type 0
LeftSince m works t c =
    (k : ℕ) × (t ≤ k) × (k ≤ length works) × (after m (take k works)).may_leave c

-- a disk that had this content first, and these calls since
abbrev pub view_of : List ℕ → List Work → ℕ → View
view_of first works faults =
    let now = after (opened first) works in
    record {
      content = now.content;
      may_leave = now.may_leave;
      moment = length works;
      left_since = LeftSince (opened first) works;
      faults = faults;
    }

-- the content is one of those that a crash may leave
pub possible : (m : Moment) (works : List Work) → m.may_leave m.content
    → (after m works).may_leave (after m works).content
possible m [] is = is
possible m (wrote place bytes ∷ works) is = possible (next m (wrote place bytes)) works (inl refl)
possible m (cut_to size ∷ works) is = possible (next m (cut_to size)) works (inl refl)
possible m (synced ∷ works) is = possible (next m synced) works refl

pub view_is_disk : (first : List ℕ) (works : List Work) (faults : ℕ)
    → IsDisk (view_of first works faults)
view_is_disk first works faults = record {
  possible = possible (opened first) works refl;
  counts_now = λ t c le now. (
    length works,
    le,
    le_refl _,
    subst (λ ws.
        (after (opened first) ws).may_leave c)
        (sym (take_all (length works) works (le_refl _))) now,
  );
  only_now = λ c left. subst (λ ws. (after (opened first) ws).may_leave c)
      (take_all left.0 works left.1) left.3;
}
