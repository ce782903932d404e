-- Who is asked: for each DID method a list of authorities in their order, of which those in front
-- have fallen.
use Rattle.std.specs.Prelude.{◌≡◌, ℕ, zero, suc, Bool, true, false, ◌≤◌, ◌<◌, ◌⊎◌, List, [], ◌∷◌, length, drop, map, get_or, Option, if◌then◌else◌}
use Rattle.std.specs.List.{AllByRecursion}
use Rattle.std.specs.Str.{bytes_eq}
use Rattle.at_authority.specs.Queries.{Telling}
use Rattle.at_authority.specs.Answers.{Rises}

-- an authority on such a list: its value, where it tells it, and its count of faults
pub record Entry : Type 0 where
  pub value : Option Telling
  pub faults : ℕ

pub record Authorities : Type 0 where
  pub entries : List Entry
  pub fallen : ℕ

-- the list of authorities of each method
abbrev pub Panel : Type 0
Panel = List ℕ → Authorities

abbrev pub values : Authorities → List (Option Telling)
values authorities = map (λ entry. entry.value) authorities.entries

-- the values of those that live, the first of them first
abbrev pub living : Authorities → List (Option Telling)
living authorities = drop authorities.fallen (values authorities)

abbrev pub faults_at : Authorities → ℕ → ℕ
faults_at authorities i = get_or (map (λ entry. entry.faults) authorities.entries) i 0

-- all that ever sat there have fallen
pub record IsSpent (authorities : Authorities) : Type 0 where
  pub had : 0 < authorities.fallen
  pub gone : authorities.fallen ≡ length authorities.entries

-- Some of those in front fall, and none comes back: an authority falls exactly where its count of
-- faults rises
pub record Falls (old new : Authorities) : Type 0 where
  pub as_many : length new.entries ≡ length old.entries
  pub later : old.fallen ≤ new.fallen
  pub within : new.fallen ≤ length new.entries
  pub rose : (i : ℕ) → old.fallen ≤ i → i < new.fallen → Rises (faults_at old i) (faults_at new i)
  pub steady : (i : ℕ) → (i < old.fallen) ⊎ (new.fallen ≤ i) → faults_at new i ≡ faults_at old i

-- a list of authorities in memory, of authorities that are seen by what they tell and their faults
abbrev pub authorities_of : {A : Type 0} → (A → Option Telling) → (A → ℕ) → List A → ℕ → Authorities
authorities_of tells faults authorities fallen = record {
  entries = map (λ a. record { value = tells a; faults = faults a }) authorities;
  fallen = fallen;
}

-- the list of authorities of a method that never had an authority
abbrev pub never : Authorities
never = record { entries = []; fallen = 0 }

-- the list of authorities that stands under a name
abbrev pub authorities_at : {B : Type 0} → (B → List ℕ)
    → (B → Authorities) → List B → List ℕ → Authorities
authorities_at method authorities [] name = never
authorities_at method authorities (b ∷ others) name = if bytes_eq (method b) name then authorities b
    else authorities_at method authorities others name

-- the first that passes a test stands at this place
abbrev pub FirstAt : {B : Type 0} → (B → Bool) → List B → ℕ → Type 0
FirstAt passes [] i = ⊥
FirstAt passes (b ∷ others) zero = passes b ≡ true
FirstAt passes (b ∷ others) (suc i) = (passes b ≡ false) × FirstAt passes others i

abbrev pub NonePasses : {B : Type 0} → (B → Bool) → List B → Type 0
NonePasses passes others = AllByRecursion (λ b. passes b ≡ false) others
