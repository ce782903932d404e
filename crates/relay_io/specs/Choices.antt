-- A statement by a test.
use Rattle.std.specs.Prelude.{Bool, true, false}

-- the one where the test holds, the other where it doesn't
abbrev pub WhereElse : Bool → Type 0 → Type 0 → Type 0
WhereElse true held other = held
WhereElse false held other = other
