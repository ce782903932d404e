use Rattle.std.proofs.Common.{◌≡◌, ◌+◌, ◌*◌, length, None}
use Rattle.std.specs.Prelude.{option_map}
use Rattle.mst_node.specs.Covers.{part_encoded, right_encoded}
use Rattle.mst_view.specs.Layered.{AllAt, rest_items}
use Rattle.relay_gen.specs.Covers.{on_ways}
use Rattle.relay_gen.specs.Messages.{with_blocks}
use Rattle.relay_gen.specs.Walks.{IsRange}
use Rattle.relay_gen.proofs.covering.+cover.Given as goal

abbrev pub decreases-cover_below : goal.decreases-cover_below
decreases-cover_below l = 3 * l.layer

abbrev pub decreases-cover_parts : goal.decreases-cover_parts
decreases-cover_parts l = 3 * l.layer + 1

abbrev pub decreases-cover_branch : goal.decreases-cover_branch
decreases-cover_branch l = 3 * l.branch.now.layer + 2

abbrev pub decreases-cover_parts-parts : goal.decreases-cover_parts-parts
decreases-cover_parts-parts l = length l.rest

abbrev pub invariant-cover_parts-parts : goal.invariant-cover_parts-parts
invariant-cover_parts-parts l =
    let high = option_map (λ k. k.now) l.high in record {
      at : AllAt l.layer l.rest;
      range : IsRange None high (rest_items l.layer l.rest);
      blocks : with_blocks l.blocks (on_ways l.paths (right_encoded (part_encoded l.layer) l.layer high (rest_items l.layer l.rest))) ≡ with_blocks l.fn.blocks (on_ways l.paths (right_encoded (part_encoded l.layer) l.layer high (rest_items l.layer l.parts)));
    }
