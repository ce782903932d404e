-- Blocks that are hashed in pieces as they are encoded. No clause that another crate sees cites it.
use Rattle.std.specs.Prelude.{◌≡◌, ℕ, List, ◌++◌}
use Rattle.sha2.specs.declared.Sha256.{Sha256}
use Rattle.sha2.specs.Hashers.{Holds256}

-- the bytes are those that the hasher was given, and then those that lie in the room behind what
-- was there before
pub record IsInPieces (before : List ℕ) (hash : Sha256) (room bytes : List ℕ) : Type 0 where
  pub given : List ℕ
  pub lying : List ℕ
  pub holds : Holds256 hash given
  pub lies : room ≡ before ++ lying
  pub whole : bytes ≡ given ++ lying
