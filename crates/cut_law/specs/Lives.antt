-- What becomes of rows and events of a journal over changes of it: rows that are added, and cuts
-- (own).
use Rattle.std.specs.Prelude.{◌≡◌, ◌⊎◌, ℕ, Bool, true, List, [], ◌∷◌, Contains}
use Rattle.relay_row.specs.Journal.{IsJournal}
use Rattle.relay_row.specs.declared.row.Row.{Row}
use Rattle.relay_law.specs.Histories.{Change, adds, cuts, AreChanged}

-- each of the journals from J to K is one
abbrev pub AreJournals : (J : List Row) (changes : List Change) (K : List Row)
    → AreChanged J changes K → Type 0
AreJournals J [] K came = IsJournal J
AreJournals J (change ∷ changes) K (middle, is, came) = IsJournal J
    × AreJournals middle changes K came

-- all cuts are at numbers that pass
abbrev pub AllCuts : (ℕ → Bool) → List Change → Type 0
AllCuts passes [] = Unit {0}
AllCuts passes (adds rows ∷ changes) = AllCuts passes changes
AllCuts passes (cuts number ∷ changes) = (passes number ≡ true) × AllCuts passes changes

-- The journal K comes from J by rows that were added and by cuts at numbers that pass, and each
-- journal between them is one.
pub record ComesFrom (passes : ℕ → Bool) (J K : List Row) : Type 0 where
  pub changes : List Change
  pub came : AreChanged J changes K
  pub journals : AreJournals J changes K came
  pub numbers : AllCuts passes changes

-- a row is of the front that one of the cuts took
abbrev pub WasCut : Row → (J : List Row) (changes : List Change) (K : List Row)
    → AreChanged J changes K → Type 0
WasCut row J [] K came = ⊥
WasCut row J (adds rows ∷ changes) K (middle, is, came) = WasCut row middle changes K came
WasCut row J (cuts number ∷ changes) K (middle, is, came) = Contains is.front row
    ⊎ WasCut row middle changes K came
