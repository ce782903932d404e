use Rattle.std.proofs.Common.{◌≡◌, ◌+◌, ◌*◌, ◌/◌, ◌≤◌, [], length, min, true, vec_len}
use Rattle.std.specs.List.{list_all}
use Rattle.std.specs.Prelude.{map}
use Rattle.std.specs.Vec.{vec_capacity}
use Rattle.at_cid.specs.Link.{IsBytes}
use Rattle.mst_node.specs.declared.taking.TheConstants.{FEWEST_ENTRY_BYTES}
use Rattle.mst_node.specs.Taking.{entries_at}
use Rattle.mst_node.proofs.Rounds.{SoFar}
use Rattle.mst_node.proofs.taking.take_entries.Given as goal

abbrev pub invariant-entries : goal.invariant-entries
invariant-entries g l = record {
  so_far : SoFar (map g.E.Keyed.entry l.entries.items) l.count l.counter l.rest (entries_at l.count [] l.bytes);
  bare : list_all g.E.Keyed.is_bare l.entries.items ≡ true;
  bytes : IsBytes l.rest;
  behind : l.counter * FEWEST_ENTRY_BYTES + length l.rest ≤ length l.bytes;
  counted : vec_len l.entries ≡ l.counter;
  room : vec_capacity l.entries ≡ min l.count (length l.bytes / FEWEST_ENTRY_BYTES);
}
