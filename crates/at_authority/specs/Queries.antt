-- What an authority is asked about a DID, and what it may tell of itself.
use Rattle.std.specs.Prelude.{ℕ, List, Bool, if◌then◌else◌}
use Rattle.std.specs.Str.{bytes_eq}

-- whether a host is the home of a DID; whether a signature under a digest is good for it
pub data Query : Type 0 where
  asks_home : List ℕ → List ℕ → Query
  asks_verdict : List ℕ → List ℕ → List ℕ → Query

abbrev pub did_asked : Query → List ℕ
did_asked (asks_home did host) = did
did_asked (asks_verdict did digest sig) = did

-- The value of an authority: how it answers now, and how it will answer about a DID that it
-- refreshes
pub record Telling : Type 0 where
  pub now : Query → Bool
  pub later : Query → Bool

-- after a refresh it answers about that DID as foretold, and about all others as before
abbrev pub refreshed : List ℕ → Telling → Telling
refreshed did value = record {
  now = λ q. if bytes_eq did (did_asked q) then value.later q else value.now q;
  later = value.later;
}
