-- Journals whose front gives way to rows that carry over what it came to (own).
use Rattle.std.specs.Prelude.{◌≡◌, ◌≢◌, ℕ, true, List, [], ◌∷◌, ◌++◌, Option}
use Rattle.std.specs.List.{list_all}
use Rattle.relay_row.specs.Journal.{IsJournal, is_carried_row}
use Rattle.relay_row.specs.declared.row.Row.{Row}
use Rattle.account_state.specs.Folds.{account}
use Rattle.account_state.specs.declared.repo.Repo.{Repo}
use Rattle.relay_law.specs.Chains.{commits, part_of}

-- the commit that a row accepts, where it does, is of an account that wasn't lost
abbrev pub IsOfKnown : List Row → Row → Type 0
IsOfKnown before row = (did message data_root : List ℕ) (rev : Option ℕ)
    → part_of did row ≡ commits message data_root → (account did before).repo ≢ Repo.Lost rev

-- Behind the journal J, no commit that these rows accept is of an account that was lost.
abbrev pub AreOfKnown : List Row → List Row → Type 0
AreOfKnown J [] = Unit {0}
AreOfKnown J (row ∷ rows) = IsOfKnown J row × AreOfKnown (J ++ row ∷ []) rows

-- Carried rows, in order, leave every account as the rows of a front leave it.
pub record CarriesOver (front carried : List Row) : Type 0 where
  pub are_carried : list_all is_carried_row carried ≡ true
  pub journal : IsJournal carried
  pub accounts : (did : List ℕ) → account did carried ≡ account did front
