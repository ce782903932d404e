-- What a call of the judges is, and calls one after another.
use Rattle.std.specs.Prelude.{◌≡◌, ◌≢◌, ℕ, Bool, false, List, [], ◌∷◌, drop, Option, option_map, Result, Ok, Err}
use Rattle.at_syntax.specs.Did.{method_of}
use Rattle.at_authority.specs.declared.judges.JudgeFault.{JudgeFault}
use Rattle.at_authority.specs.Queries.{Query, Telling, did_asked, refreshed}
use Rattle.at_authority.specs.Answers.{Says}
use Rattle.at_authority.specs.Panels.{Entry, Authorities, Panel, Falls, values, living}

-- a question with its answer, a refresh, or a call about a DID that came to nothing
pub data Call : Type 0 where
  answers : Query → Bool → Call
  refreshes : List ℕ → Call
  fails : List ℕ → Call

abbrev pub did_called : Call → List ℕ
did_called (answers q good) = did_asked q
did_called (refreshes did) = did
did_called (fails did) = did

-- what a call about a DID was, by what it returned
abbrev pub returned : {A : Type 0} → List ℕ → (A → Call) → Result A JudgeFault → Call
returned did call (Ok x) = call x
returned did call (Err fault) = fails did

-- what a call has to do with the value of the authority that it asks
abbrev pub Turns : Call → Option Telling → Option Telling → Type 0
Turns (answers q good) old new = (new ≡ old) × Says old q good
Turns (refreshes did) old new = new ≡ option_map (refreshed did) old
Turns (fails did) old new = new ≡ old

-- Where nobody lives, a method that never had an authority says no, and one whose authorities have
-- all fallen says nothing
abbrev pub NobodySays : Call → List Entry → Type 0
NobodySays (answers q good) all = (all ≡ []) × (good ≡ false)
NobodySays (refreshes did) all = all ≡ []
NobodySays (fails did) all = Unit {0}

-- the first that lives is asked, and the others stay as they are
abbrev pub Does : Call → List Entry → List (Option Telling) → List (Option Telling) → Type 0
Does call all [] new = (new ≡ []) × NobodySays call all
Does call all (value ∷ others) new =
    (after : Option Telling) × (new ≡ after ∷ others) × Turns call value after

-- a call on its list of authorities: some fall, and the first of those that live on does what is
-- asked
pub record Asks (call : Call) (old new : Authorities) : Type 0 where
  pub falls : Falls old new
  pub does : Does call new.entries (drop new.fallen (values old)) (living new)

-- a call: it asks the list of authorities of the DID's method, and no other method is touched
pub record IsCall (call : Call) (old new : Panel) : Type 0 where
  pub asks : Asks call (old (method_of (did_called call))) (new (method_of (did_called call)))
  pub others : (name : List ℕ) → name ≢ method_of (did_called call) → new name ≡ old name

-- calls one after another
abbrev pub AreCalls : Panel → List Call → Panel → Type 0
AreCalls old [] new = new ≡ old
AreCalls old (call ∷ calls) new = (mid : Panel) × IsCall call old mid × AreCalls mid calls new
