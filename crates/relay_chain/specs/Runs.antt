-- The words of the program, and what the second relay works on (own).
use Rattle.std.specs.Prelude.{◌≡◌, ℕ, List, [], ◌∷◌, IsTrue, Option}
use Rattle.at_authority.specs.Trusting.{trusting}
use Rattle.at_syntax.specs.Host.{is_host}
use Rattle.relay_disk.specs.Disk.{View}
use Rattle.relay_step.specs.Around.{around}
use Rattle.run_base.specs.Place.{Place, at_place, counts}

-- the words are the name of a host alone
pub record AreHost (words : List (List ℕ)) (host : List ℕ) : Type 0 where
  pub words_are : words ≡ host ∷ []
  pub is_name : IsTrue (is_host host)

-- the second relay's disks, what its clock and its repositories tell, what is written, and how
-- often these have failed; whoever is asked for homes and signatures says yes
abbrev pub second_place : View → View → List ℕ → (List ℕ → Option (List ℕ)) → List ℕ
    → ℕ → ℕ → ℕ → Place
second_place one two moments repository written repos clock output = at_place one two
    (around (λ name. trusting) moments repository) written
    (counts one.faults two.faults repos clock output)
