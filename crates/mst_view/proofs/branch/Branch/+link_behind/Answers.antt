use Rattle.std.proofs.Common.{◌≡◌, ℕ, List, [], ◌++◌, length, drop, sym, ap, subst, ◌∙◌, Option, Some, arith, add-one}
use Rattle.std.proofs.lemmas.List.{drop_all}
use Rattle.at_cid.specs.Link.{cid}
use Rattle.mst_node.specs.Trees.{encode_layer}
use Rattle.at_cbor.specs.Encoding.{encoding}
use Rattle.mst_node.specs.NodeBytes.{node_bytes, node_front, entry_item, entries_encoding}
use Rattle.mst_view.specs.Value.{Layered}
use Rattle.mst_view.specs.Layered.{below_link, entries_of}
use Rattle.mst_view.specs.declared.branch.Part.{Part}
use Rattle.mst_view.proofs.Encoded.{link_is}
use Rattle.mst_view.proofs.Pieces.{all_hashed}
use Rattle.mst_view.proofs.Behind.{IsEncodedOn, encoding_begun, encoded_on, encoding_ended, next_entry, entries_counted}
use Rattle.mst_view.proofs.branch.Branch.+link_behind.Goals as goal
use Rattle.mst_view.proofs.branch.Branch.+link_behind.Goals.{in-Empty, in-Hole, in-Tree+in_ok-link_behind-in-Tree, in-Empty-below, in-Hole-below, in-Tree-below+in_ok-link_behind-in-Tree-below}

pub loop-part-init : goal.loop-part-init
loop-part-init t c =
    let parts = c.as_slice-parts.result.now in let room = c.args.room.now in
    let same : c.match-self-2.room ≡ room = elim c.match-self-2.branch [
      | in-Empty w ↦ w.room-is
      | in-Hole w ↦ w.room-is
      | in-Tree+in_ok-link_behind-in-Tree w ↦ w.room-is ∙ w.in_ok-link_behind-in-Tree.ensures.room
    ] in
    encoding_begun _ (node_front (length (entries_of parts))) (entries_encoding [] (entries_of parts)) c.new-hash.ensures
    (c.in_ok-write_front.ensures ∙ ap (λ (r : List ℕ). r ++ node_front (length parts)) same ∙ ap (λ n. room ++ node_front n) (sym (entries_counted parts)))

pub loop-part-preserved : goal.loop-part-preserved
loop-part-preserved t c =
    let parts = c.as_slice-parts.result.now in let p = c.part-item.result in let last = c.loop-part.last.now in
    let right : c.match-part.right ≡ below_link p.below = elim c.match-part.branch [
      | in-Empty-below w ↦ w.right-is ∙ sym (ap below_link w.in-Empty-below.is)
      | in-Hole-below w ↦ w.right-is ∙ sym (ap below_link w.in-Hole-below.is)
      | in-Tree-below+in_ok-link_behind-in-Tree-below w ↦ w.right-is ∙ ap Some (w.in_ok-link_behind-in-Tree-below.ensures.link ∙ ap (λ (v : Layered). cid (encode_layer v.layer v.items)) w.deref-in-Tree-below.ensures) ∙ sym (ap below_link w.in-Tree-below.is)
    ] in
    let same : c.match-part.room ≡ c.loop-part.room = elim c.match-part.branch [
      | in-Empty-below w ↦ w.room-is
      | in-Hole-below w ↦ w.room-is
      | in-Tree-below+in_ok-link_behind-in-Tree-below w ↦ w.room-is ∙ w.in_ok-link_behind-in-Tree-below.ensures.room
    ] in
    let E : List ℕ → Option (List ℕ) → List ℕ = λ k r. encoding (entry_item last (record { key = k; value = p.value; right = r })) in
    let made : c.write_entry.new.out ≡ c.loop-part.room ++ E p.key (below_link p.below) =
    c.in_ok-write_entry.ensures ∙ ap (λ (o : List ℕ). o ++ E c.as_slice.result.now c.match-part.right) same
    ∙ ap (λ (k : List ℕ). c.loop-part.room ++ E k c.match-part.right) c.as_slice.ensures.value ∙ ap (λ (r : Option (List ℕ)). c.loop-part.room ++ E p.key r) right in
    rw (add-one, c.as_slice-last.ensures.value)
    (encoded_on (E p.key (below_link p.below)) _ _ _ _ made (λ bytes. c.hand_over_piece.ensures c.args.room.now bytes c.len-start.ensures)
    (subst (λ (rest : List ℕ). IsEncodedOn c.args.room.now c.loop-part.hash c.loop-part.room rest (node_front (length (entries_of parts)) ++ entries_encoding [] (entries_of parts)))
    (next_entry last parts c.loop-part.part-index p (omega arith) c.part-item.is) c.loop-part.invariant))

pub returns-clause-link : goal.returns-clause-link
returns-clause-link t c =
    let first = c.self.inside.first in let parts = c.as_slice-parts.result.now in let es = entries_of parts in
    let left : c.match-self-2.left ≡ below_link first = elim c.match-self-2.branch [
      | in-Empty w ↦ w.left-is ∙ sym (ap below_link w.in-Empty.is)
      | in-Hole w ↦ w.left-is ∙ sym (ap below_link w.in-Hole.is)
      | in-Tree+in_ok-link_behind-in-Tree w ↦ w.left-is ∙ ap Some (w.in_ok-link_behind-in-Tree.ensures.link ∙ ap (λ (v : Layered). cid (encode_layer v.layer v.items)) w.deref.ensures) ∙ sym (ap below_link w.in-Tree.is)
    ] in
    let none : entries_encoding c.loop-part.last.now (entries_of (drop c.loop-part.part-index parts)) ≡ [] =
    ap (λ (x : List Part). entries_encoding c.loop-part.last.now (entries_of x)) (drop_all c.loop-part.part-index parts (let low = c.loop-part-test.false in omega arith)) in
    let encoded = encoding_ended c.match-self-2.left es _ c.in_ok-write_end.ensures
    (subst (λ (rest : List ℕ). IsEncodedOn c.args.room.now c.loop-part.hash c.loop-part.room rest (node_front (length es) ++ entries_encoding [] es)) none c.loop-part.invariant) in
    c.hashed_link.ensures _ (all_hashed c.hand_over.new.hash c.len-start.result c.len-start.ensures c.hand_over.ensures.hash encoded)
    ∙ ap cid (ap (λ l. node_bytes l es) left ∙ ap (λ (x : List Part). node_bytes (below_link first) (entries_of x)) c.as_slice-parts.ensures.value)
    ∙ link_is c.self.inside.layer first c.self.inside.rest.items c.args.self.now c.self.invariant.first_lies c.self.invariant.all_at c.self.view_is
