-- The disk model in its own words: which bytes a crash may leave between two syncs.
use Rattle.std.specs.Prelude.{◌≡◌, ◌⊎◌, ◌+◌, ◌≤◌, ◌<◌, ℕ, min, max, List, [], ◌∷◌, length, get_or}
use Rattle.std.specs.Coded.{×_prop, Unit-prop, le_prop}
use Rattle.relay_disk.specs.Works.{Work, wrote, cut_to, synced}

-- the least and the greatest size since a sync at this size
abbrev pub least : ℕ → ℕ → List Work → ℕ
least so_far size [] = so_far
least so_far size (wrote place bytes ∷ works) = least so_far (max size (place + length bytes)) works
least so_far size (cut_to to ∷ works) = least (min so_far (min to size)) (min to size) works
least so_far size (synced ∷ works) = least so_far size works

abbrev pub greatest : ℕ → ℕ → List Work → ℕ
greatest so_far size [] = so_far
greatest so_far size (wrote place bytes ∷ works) =
    greatest (max so_far (place + length bytes)) (max size (place + length bytes)) works
greatest so_far size (cut_to to ∷ works) = greatest so_far (min to size) works
greatest so_far size (synced ∷ works) = greatest so_far size works

-- a write covers this place
abbrev pub IsInRange : ℕ → List Work → Type 0
IsInRange i [] = ⊥
IsInRange i (wrote place bytes ∷ works) =
    ((place ≤ i) × (i < place + length bytes)) ⊎ IsInRange i works
IsInRange i (cut_to to ∷ works) = IsInRange i works
IsInRange i (synced ∷ works) = IsInRange i works

-- no sync among them
abbrev pub IsUnsynced : List Work → Type 0
IsUnsynced [] = Unit {0}
IsUnsynced (wrote place bytes ∷ works) = IsUnsynced works
IsUnsynced (cut_to to ∷ works) = IsUnsynced works
IsUnsynced (synced ∷ works) = ⊥

-- any bytes in each range written since the sync and in the part past the size at it, the same
-- elsewhere, and a size between the least and the greatest since
pub record IsWithin (content : List ℕ) (works : List Work) (image : List ℕ) : Type 0 where
  pub no_shorter : least (length content) (length content) works ≤ length image
  pub no_longer : length image ≤ greatest (length content) (length content) works
  pub same : (i : ℕ) → i < length image → i < length content
      → (IsInRange i works → ⊥) → get_or image i 0 ≡ get_or content i 0

-- each write begins inside, or at the end
abbrev pub AreInside : ℕ → List Work → Type 0
AreInside size [] = Unit {0}
AreInside size (wrote place bytes ∷ works) =
    (place ≤ size) × AreInside (max size (place + length bytes)) works
AreInside size (cut_to to ∷ works) = AreInside (min to size) works
AreInside size (synced ∷ works) = AreInside size works

pub AreInside-prop : (size : ℕ) (works : List Work) → IsProp (AreInside size works)
AreInside-prop size [] = Unit-prop
AreInside-prop size (wrote place bytes ∷ works) =
    ×_prop le_prop (AreInside-prop (max size (place + length bytes)) works)
AreInside-prop size (cut_to to ∷ works) = AreInside-prop (min to size) works
AreInside-prop size (synced ∷ works) = AreInside-prop size works
