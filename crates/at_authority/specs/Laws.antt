-- What holds of all tables and all calls of judges.
use Rattle.std.specs.Prelude.{◌≡◌, ℕ, ◌<◌, ◌⊎◌, Bool, List, ◌++◌, length, map, Some, None, if◌then◌else◌, IsTrue}
use Rattle.std.specs.Str.{bytes_eq}
use Rattle.at_syntax.specs.Did.{is_did}
use Rattle.at_authority.specs.Queries.{Query}
use Rattle.at_authority.specs.Tables.{IsTable, IsBadAt, IsTrustLine, IsGoodLine, home_line, home_by}
use Rattle.at_authority.specs.Panels.{Panel}
use Rattle.at_authority.specs.Calls.{Call, AreCalls}
use Rattle.at_authority.specs.Ranks.{HasFallen, ByRanks, answered, AreOf}

-- a text is a table of one list of lines at most
abbrev pub TextTellsLines : Type 0
TextTellsLines = (text : List ℕ) (lines others : List (List ℕ))
    → IsTable text lines → IsTable text others → lines ≡ others

-- a table has no bad line
abbrev pub TablesAreGood : Type 0
TablesAreGood = (text : List ℕ) (lines : List (List ℕ)) (number : ℕ)
    → IsTable text lines → IsBadAt number text → ⊥

-- one line is the first bad one
abbrev pub OneLineIsBad : Type 0
OneLineIsBad = (text : List ℕ) (number other : ℕ)
    → IsBadAt number text → IsBadAt other text → number ≡ other

-- a home line gives its DID its host, and no other DID any
abbrev pub HomeLinesNameHomes : Type 0
HomeLinesNameHomes = (did host other : List ℕ) → IsTrue (is_did did)
    → home_by other (home_line did host) ≡ (if bytes_eq did other then Some host else None)

-- the other lines give no DID a home
abbrev pub OtherLinesNameNone : Type 0
OtherLinesNameNone = (did line : List ℕ)
    → IsTrustLine line ⊎ IsGoodLine line → home_by did line ≡ None

-- calls behind calls are calls
abbrev pub CallsJoin : Type 0
CallsJoin = (old mid new : Panel) (calls more : List Call) → AreCalls old calls mid
    → AreCalls mid more new → AreCalls old (calls ++ more) new

-- calls come apart at each place
abbrev pub CallsPart : Type 0
CallsPart = (old new : Panel) (calls more : List Call) → AreCalls old (calls ++ more) new
    → (mid : Panel) × AreCalls old calls mid × AreCalls mid more new

-- on every list of authorities none comes back over calls, and an authority falls exactly where its
-- count of faults rises
abbrev pub CallsFell : Type 0
CallsFell = (old new : Panel) (calls : List Call) → AreCalls old calls new
    → (name : List ℕ) → HasFallen (old name) (new name)

-- questions about a method that ever had an authority are answered by ranks
abbrev pub AnswersHaveRanks : Type 0
AnswersHaveRanks = (old new : Panel) (name : List ℕ) (asked : List (Query × Bool))
    → AreOf name asked → 0 < length (old name).entries
    → AreCalls old (map answered asked) new → ByRanks (old name) asked (new name)
