-- The images that a disk in memory offers as the worst cases of a crash.
use Rattle.std.specs.Prelude.{◌≡◌, ◌-◌, ◌<◌, ℕ, List, length, get_or}
use Rattle.relay_disk.specs.Works.{Work, Moment}
use Rattle.relay_disk.specs.Ranges.{IsInRange}

-- these bytes, each of them inverted that a write among the works covers
pub record IsInverted (bytes : List ℕ) (works : List Work) (image : List ℕ) : Type 0 where
  pub size : length image ≡ length bytes
  pub covered : (i : ℕ) → i < length bytes → IsInRange i works
      → get_or image i 0 ≡ 255 - get_or bytes i 0
  pub elsewhere : (i : ℕ) → i < length bytes
      → (IsInRange i works → ⊥) → get_or image i 0 ≡ get_or bytes i 0

-- image i: the content, the content at the last sync, the content with the ranges written since
-- inverted
pub record IsWorst (i : ℕ) (m : Moment) (image : List ℕ) : Type 0 where
  pub content : i ≡ 0 → image ≡ m.content
  pub settled : i ≡ 1 → image ≡ m.settled
  pub inverted : i ≡ 2 → IsInverted m.content m.since image
