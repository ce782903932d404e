-- What calls come to over a run: who has fallen, and who has answered, by ranks.
use Rattle.std.specs.Prelude.{◌≡◌, ℕ, ◌+◌, ◌-◌, ◌<◌, ◌≤◌, ◌⊎◌, Bool, List, [], ◌∷◌, length, drop, Option}
use Rattle.std.specs.List.{AllByRecursion}
use Rattle.at_syntax.specs.Did.{method_of}
use Rattle.at_authority.specs.Queries.{Query, Telling, did_asked}
use Rattle.at_authority.specs.Answers.{Says, Rises}
use Rattle.at_authority.specs.Panels.{Authorities, living, faults_at}
use Rattle.at_authority.specs.Calls.{Call, answers}

-- Over any calls: none comes back, and an authority falls exactly where its count of faults rises
pub record HasFallen (old new : Authorities) : Type 0 where
  pub as_many : length new.entries ≡ length old.entries
  pub later : old.fallen ≤ new.fallen
  pub rose : (i : ℕ) → old.fallen ≤ i → i < new.fallen → Rises (faults_at old i) (faults_at new i)
  pub steady : (i : ℕ) → (i < old.fallen) ⊎ (new.fallen ≤ i) → faults_at new i ≡ faults_at old i

-- the first of these answers
abbrev pub FirstSays : List (Option Telling) → Query → Bool → Type 0
FirstSays [] q good = ⊥
FirstSays (value ∷ others) q good = Says value q good

-- The rank of an authority is the number of those behind it, so it stays when one in front falls.
-- The one of this rank answers so
pub record SaysAtRank (rank : ℕ) (authorities : Authorities) (q : Query) (good : Bool)
    : Type 0 where
  pub lives : rank < length (living authorities)
  pub says : FirstSays (drop (length (living authorities) - (rank + 1)) (living authorities)) q good

-- the last of the questions was answered by the first of these
abbrev pub LastSays : List (Query × Bool) → List (Option Telling) → Type 0
LastSays [] values = Unit {0}
LastSays (a ∷ []) values = FirstSays values a.0 a.1
LastSays (a ∷ b ∷ asked) values = LastSays (b ∷ asked) values

-- Questions were asked of a list of authorities: those that live in the end have their values, each
-- answer is that of an authority that lived in the beginning, of the rank of the one that is first
-- in the end or a greater one, and the last is that of the first
pub record ByRanks (old : Authorities) (asked : List (Query × Bool)) (new : Authorities)
    : Type 0 where
  pub fewer : length (living new) ≤ length (living old)
  pub values : living new ≡ drop (length (living old) - length (living new)) (living old)
  pub each : AllByRecursion
      (λ a. (rank : ℕ) × (length (living new) ≤ rank + 1) × SaysAtRank rank old a.0 a.1) asked
  pub last : LastSays asked (living new)

-- a question with its answer, as a call
abbrev pub answered : Query × Bool → Call
answered a = answers a.0 a.1

-- the questions are about DIDs of a method
abbrev pub AreOf : List ℕ → List (Query × Bool) → Type 0
AreOf name asked = AllByRecursion (λ a. method_of (did_asked a.0) ≡ name) asked
