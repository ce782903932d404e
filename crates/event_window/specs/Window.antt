-- The places of events, in the order of their numbers (own).
use Rattle.std.specs.Prelude.{◌≡◌, ℕ, ◌<◌, ◌≤◌, Bool, List, [], ◌∷◌, ◌++◌, nat_le, if◌then◌else◌}
use Rattle.event_window.specs.declared.place.Place.{Place}

-- the places, and for how many more there is room
pub record WindowState : Type 0 where
  pub places : List Place
  pub spare : ℕ

-- the numbers rise, from above this one on
abbrev pub AreAbove : ℕ → List Place → Type 0
AreAbove n [] = Unit {0}
AreAbove n (p ∷ places) = (n < p.seq) × AreAbove p.seq places

abbrev pub is_at_most : ℕ → Place → Bool
is_at_most seq p = nat_le p.seq seq

-- the places of the numbers above a number
abbrev pub all_above : ℕ → List Place → List Place
all_above seq [] = []
all_above seq (p ∷ places) = if is_at_most seq p then all_above seq places else p ∷ places

-- This is the last of the places of the numbers up to a number.
pub record IsLastUpto (seq : ℕ) (p : Place) (places : List Place) : Type 0 where
  pub front : List Place
  pub split : places ≡ front ++ p ∷ all_above seq places
  pub low : p.seq ≤ seq
