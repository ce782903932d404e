-- The blocks that are given with a commit.
use Rattle.std.proofs.Common.{◌≡◌, ℕ, ◌==◌, true, List, [], ◌∷◌, length, map, refl, sym, ap, ◌∙◌, arith}
use Rattle.at_cid.specs.Link.{cid}
use Rattle.at_car.specs.Blocks.{BlockMap, kept}
use Rattle.at_cbor.specs.Encoding.{info_of, tail_of}
use Rattle.mst_list.specs.declared.item.Item.{Item}
use Rattle.mst_list.specs.declared.op.Op.{Op}
use Rattle.mst_node.proofs.Layers.{eqb_yes}
use Rattle.mst_node.specs.NodeBytes.{node_bytes}
use Rattle.mst_node.specs.Trees.{nodes, part_link, part_nodes}
use Rattle.relay_gen.specs.declared.records.Record.{Record}
use Rattle.relay_gen.specs.Covers.{covered_keys, blocks_given}
use Rattle.relay_gen.specs.Messages.{with_blocks}
use Rattle.relay_gen.specs.Records.{item_of}
use Rattle.relay_gen.specs.Walks.{given_for}

abbrev pub empty_block : List ℕ
empty_block = 0xa2 ∷ 0x61 ∷ 0x65 ∷ 0x80 ∷ 0x61 ∷ 0x6c ∷ 0xf6 ∷ []

empty_nodes : nodes [] ≡ empty_block ∷ []
unfolding node_bytes part_link part_nodes info_of tail_of
empty_nodes = refl

pub given_is : (t : List Item) (ops : List Op) → given_for t (covered_keys t ops) ≡ blocks_given t ops
given_is [] ops = refl
given_is (x ∷ t) ops = refl

none_there : (rs : List Record) → (length rs == 0) ≡ true → map item_of rs ≡ []
none_there [] e = refl
none_there (r ∷ rs) e = let z = eqb_yes (length (r ∷ rs)) 0 e in absurd (omega arith)

-- where there are no records the empty node is given
pub empty_given : (rs : List Record) (keys : List (List ℕ)) (m : BlockMap) (link : List ℕ) → (length rs == 0) ≡ true → link ≡ cid empty_block → kept m link empty_block ≡ with_blocks m (given_for (map item_of rs) keys)
empty_given rs keys m link none l =
    ap (λ k. kept m k empty_block) l ∙ ap (with_blocks m) (sym empty_nodes) ∙ ap (λ t. with_blocks m (given_for t keys)) (sym (none_there rs none))
