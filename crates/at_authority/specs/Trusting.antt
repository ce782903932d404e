-- Judges that say yes to everything.
use Rattle.std.specs.Prelude.{[], ◌∷◌, true, Some}
use Rattle.at_authority.specs.Queries.{Telling}
use Rattle.at_authority.specs.Panels.{Authorities}

abbrev pub always : Telling
always = record { now = λ q. true; later = λ q. true }

-- one authority, which says yes and never falls
abbrev pub trusting : Authorities
trusting = record { entries = record { value = Some always; faults = 0 } ∷ []; fallen = 0 }
