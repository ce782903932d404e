-- What is written of a mirror. No public clause cites this file.
use Rattle.std.specs.Prelude.{◌≡◌, ℕ, List, ◌++◌}
use Rattle.std.specs.List.{flat_map, list_any}
use Rattle.std.specs.Str.{bytes_eq}
use Rattle.mirror.specs.State.{held_by, is_known}
use Rattle.mirror.specs.declared.keeping.Mirror.{Mirror}
use Rattle.mirror_run.specs.Lines.{mirror_line}
use Rattle.mirror_run.specs.Mirrored.{Ascend}

-- the line of a DID, by what a mirror holds
abbrev pub line_in : Mirror → List ℕ → List ℕ
line_in mirror did = mirror_line did (held_by mirror did)

abbrev pub lines_in : Mirror → List (List ℕ) → List ℕ
lines_in mirror dids = flat_map (line_in mirror) dids

-- These are the DIDs that a mirror knows, in ascending order.
pub record AreKnown (mirror : Mirror) (dids : List (List ℕ)) : Type 0 where
  pub ascend : Ascend dids
  pub known : (did : List ℕ) → list_any (bytes_eq did) dids ≡ is_known mirror did

-- A front of the text was added to what was written, and the rest waits.
pub record Moves (old new text waiting : List ℕ) : Type 0 where
  pub done : List ℕ
  pub added : new ≡ old ++ done
  pub split : text ≡ done ++ waiting
