use Rattle.std.proofs.Common.{◌≡◌, map, drop}
use Rattle.at_cbor.specs.Item.{fields_of}
use Rattle.at_cbor.specs.Kinds.{place_from}
use Rattle.at_cbor.specs.View.{pair_of}
use Rattle.at_cbor.proofs.lookup.place_of.Given as goal

abbrev pub invariant-loop-place : goal.invariant-loop-place
invariant-loop-place l = place_from l.place (fields_of (map pair_of (drop l.place l.fields))) l.name ≡ place_from 0 (fields_of (map pair_of l.fields)) l.name
