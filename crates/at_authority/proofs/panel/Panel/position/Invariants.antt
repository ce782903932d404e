use Rattle.std.proofs.Common.{◌≡◌, ℕ, ◌<◌, false, get_or, string_bytes}
use Rattle.std.specs.Str.{bytes_eq}
use Rattle.at_authority.proofs.panel.Panel.position.Given as goal

abbrev pub invariant-loop-i : goal.invariant-loop-i
invariant-loop-i g l = (k : ℕ) (d : _) → k < l.i → bytes_eq (string_bytes (get_or l.self.lists.items k d).method) l.name ≡ false
