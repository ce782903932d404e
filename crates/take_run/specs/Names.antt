-- The names by which the hosts that have ended are looked up (own). No public clause cites this
-- file.
use Rattle.std.specs.Prelude.{◌≡◌, ℕ, List, String}
use Rattle.std.specs.BTreeSet.{BTreeSet, contains_text}
use Rattle.std.specs.Global.{Global}
use Rattle.relay_core.specs.Runs.{has_ended}

-- they are those of these hosts
abbrev pub AreNamesOf : BTreeSet (String Global) → List (List ℕ) → Type 0
AreNamesOf names ended = (host : List ℕ) → contains_text names host ≡ has_ended ended host
