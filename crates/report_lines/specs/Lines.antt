-- Texts of which reports' lines are made (own): numbers are decimal.
use Rattle.std.specs.Prelude.{ℕ, List, ◌++◌, decimal}

-- a word and a number
abbrev pub numbered : List ℕ → ℕ → List ℕ
numbered command n = command ++ decimal n
