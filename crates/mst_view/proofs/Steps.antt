-- Steps of a reading.
use Rattle.std.proofs.Common.{◌≡◌, ℕ, zero, suc, ◌<◌, true, List, [], ◌∷◌, ◌++◌, length, get_or, refl, sym, ap, ◌∙◌, Option, Some, None, Result, Ok, Err, arith, append_assoc, append-nil, length-append}
use Rattle.std.specs.FinMap.{FinMap}
use Rattle.at_cid.specs.Link.{cid}
use Rattle.at_car.specs.Blocks.{AreLinked}
use Rattle.at_car.proofs.Linked.{node_link}
use Rattle.mst_node.specs.Covers.{AreUnderNodeLinks}
use Rattle.mst_list.specs.declared.item.Item.{Item}
use Rattle.mst_list.specs.declared.item.Item.TheVariants.{Key}
use Rattle.at_cid.specs.Order.{key_cmp}
use Rattle.mst_list.specs.Height.{height}
use Rattle.mst_node.specs.declared.entry.Entry.{Entry}
use Rattle.mst_node.specs.NodeBytes.{node_bytes}
use Rattle.mst_node.specs.Nodes.{Node, EntriesAscend, IsSoundReader}
use Rattle.mst_node.specs.NodeFaults.{AreEntriesAt, next_bound}
use Rattle.mst_node.specs.Fits.{is_some_node}
use Rattle.mst_node.specs.TreeReading.{go_on, rights_of}
use Rattle.mst_node.specs.Trees.{encode_layer}
use Rattle.mst_node.proofs.Readers.{node_of_is_reader, told_encodes}
use Rattle.mst_view.proofs.Encoded.{encoded_node}
use Rattle.mst_view.specs.Layered.{LiesBelow, AllAt, below_items, rest_items, below_link, entries_of}
use Rattle.mst_view.specs.declared.branch.Below.{Below}
use Rattle.mst_view.specs.declared.branch.Below.TheVariants.{Empty, Hole as Stub, Tree}
use Rattle.mst_view.specs.declared.branch.Part.{Part}
use Rattle.mst_node.specs.Reading.{node_of}
use Rattle.mst_view.specs.Steps.{with_front, AllHang}
use Rattle.at_cid.specs.Memory.{Fails}

-- the reader of nodes is sound
pub sound : IsSoundReader node_of
sound = node_of_is_reader.sound

-- the keys of a node that is told from a block ascend
pub ascends : (b : List ℕ) (n : Node) → node_of b ≡ Some n → EntriesAscend None n.1
ascends b n e = (told_encodes b n e).is_node.ascend

-- what blocks under links of theirs tell of the links of kind Node
pub nodes_under : (B : FinMap key_cmp (List ℕ)) → AreLinked B → AreUnderNodeLinks B
nodes_under B linked c b kind at = node_link c b (linked c b at) kind.node

pub above_zero : (h : ℕ) (o : Option (List ℕ)) (c : List ℕ) → (h ≡ 0 → o ≡ None) → o ≡ Some c → 0 < h
above_zero zero o c f e = let bad = f refl in absurd (cc)
above_zero (suc h) o c f e = omega arith

pub hang_of : (h : ℕ) (low high : Option (List ℕ)) (es : List Entry) → AreEntriesAt h low high es → AllHang h es
hang_of h low high [] a = tt
hang_of h low high (e ∷ es) a = ((a.0.at, a.0.right, a.0.lowest), hang_of h (Some e.key) high es a.1)

-- parts that are put at the end
pub at_pushed : (h : ℕ) (parts : List Part) (p : Part) → AllAt h parts → height p.key ≡ h → LiesBelow h p.below → AllAt h (parts ++ p ∷ [])
at_pushed h [] p a k l = (k, l, tt)
at_pushed h (q ∷ parts) p a k l = (a.0, a.1, at_pushed h parts p a.2 k l)

-- the key of a part has the layer's height
pub part_at_height : (h : ℕ) (parts : List Part) (i : ℕ) (p : Part) → AllAt h parts → i < length parts → p ≡ get_or parts i p → height p.key ≡ h
part_at_height h [] i p l low is = absurd (omega arith)
part_at_height h (q ∷ parts) zero p l low is = ap (λ (x : Part). height x.key) is ∙ l.0
part_at_height h (q ∷ parts) (suc i) p l low is = part_at_height h parts i p l.2 (omega arith) is

pub items_pushed : (h : ℕ) (parts : List Part) (p : Part) (G : List Item) → rest_items h (parts ++ p ∷ []) ++ G ≡ rest_items h parts ++ (Key p.key p.value ∷ (below_items h p.below ++ G))
items_pushed h [] p G = ap (λ F. Key p.key p.value ∷ (F ++ G)) (append-nil (below_items h p.below))
items_pushed h (q ∷ parts) p G = ap (λ F. Key q.key q.value ∷ F) (append_assoc (below_items h q.below) (rest_items h (parts ++ p ∷ [])) G ∙ ap (λ F. below_items h q.below ++ F) (items_pushed h parts p G) ∙ sym (append_assoc (below_items h q.below) (rest_items h parts) (Key p.key p.value ∷ (below_items h p.below ++ G))))

pub entries_pushed : (parts : List Part) (p : Part) (es : List Entry) → entries_of (parts ++ p ∷ []) ++ es ≡ entries_of parts ++ (record { key = p.key; value = p.value; right = below_link p.below } ∷ es)
entries_pushed [] p es = refl
entries_pushed (q ∷ parts) p es = ap (λ xs. record { key = q.key; value = q.value; right = below_link q.below } ∷ xs) (entries_pushed parts p es)

front_next : (front front' P : List Item) (k v : List ℕ) (r : Result (List Item) (List ℕ)) → ((G : List Item) → front' ++ G ≡ front ++ (Key k v ∷ (P ++ G))) → with_front front' r ≡ with_front front (go_on r (λ G. Ok (Key k v ∷ (P ++ G))))
front_next front front' P k v (Ok G) f = ap Ok (f G)
front_next front front' P k v (Err e) f = refl

-- one entry more is read
pub reads_on : (below : Option (List ℕ) → Option (List ℕ) → Option (List ℕ) → Result (List Item) (List ℕ)) (h : ℕ) (high : Option (List ℕ)) (parts : List Part) (p : Part) (e : Entry) (es : List Entry)
    → p.key ≡ e.key → p.value ≡ e.value → below (Some e.key) (next_bound high es) e.right ≡ Ok (below_items h p.below)
    → with_front (rest_items h (parts ++ p ∷ [])) (rights_of below high es) ≡ with_front (rest_items h parts) (rights_of below high (e ∷ es))
reads_on below h high parts p e es k v one =
    front_next (rest_items h parts) (rest_items h (parts ++ p ∷ [])) (below_items h p.below) p.key p.value (rights_of below high es) (items_pushed h parts p)
    ∙ ap (λ x. with_front (rest_items h parts) (go_on (rights_of below high es) (λ G. Ok (Key x p.value ∷ (below_items h p.below ++ G))))) k
    ∙ ap (λ x. with_front (rest_items h parts) (go_on (rights_of below high es) (λ G. Ok (Key e.key x ∷ (below_items h p.below ++ G))))) v
    ∙ ap (with_front (rest_items h parts)) (sym (rights_one below high e es (below_items h p.below) one))
  where
    rights_one : (below : Option (List ℕ) → Option (List ℕ) → Option (List ℕ) → Result (List Item) (List ℕ)) (high : Option (List ℕ)) (e : Entry) (es : List Entry) (P : List Item) → below (Some e.key) (next_bound high es) e.right ≡ Ok P → rights_of below high (e ∷ es) ≡ go_on (rights_of below high es) (λ G. Ok (Key e.key e.value ∷ (P ++ G)))
    rights_one below high e es P one = rw one refl

-- an entry whose subtree is at fault
pub reads_fault : (below : Option (List ℕ) → Option (List ℕ) → Option (List ℕ) → Result (List Item) (List ℕ)) (front : List Item) (high : Option (List ℕ)) (e : Entry) (es : List Entry) (f : List ℕ)
    → below (Some e.key) (next_bound high es) e.right ≡ Err f → with_front front (rights_of below high (e ∷ es)) ≡ Err f
reads_fault below front high e es f one = rw one refl

pub fails_on : {Y : Type 0} (o : Option (List ℕ)) (a b : Result Y (List ℕ)) → a ≡ b → Fails o b → Fails o a
fails_on None a b e f = tt
fails_on (Some c) a b e f = e ∙ f

-- the link of a node from the links of its parts
pub link_of_parts : (h : ℕ) (first : Below) (parts : List Part) (left : Option (List ℕ)) (es : List Entry) (link : List ℕ) → LiesBelow h first → AllAt h parts → below_link first ≡ left → entries_of parts ≡ es → link ≡ cid (node_bytes left es) → link ≡ cid (encode_layer h (below_items h first ++ rest_items h parts))
link_of_parts h first parts left es link l a f k e = e ∙ ap cid (sym (encoded_node h first parts l a ∙ ap (λ x. node_bytes x (entries_of parts)) f ∙ ap (node_bytes left) k))

some_first : (h : ℕ) (first : Below) (c : List ℕ) → LiesBelow h first → below_link first ≡ Some c → 0 < length (below_items h first)
some_first h Empty c l e = absurd (cc)
some_first h (Stub k) c l e = omega arith
some_first h (Tree b) c l e = l.1.some

pub some_items : (h : ℕ) (first : Below) (parts : List Part) (left : Option (List ℕ)) (es : List Entry) → LiesBelow h first → below_link first ≡ left → entries_of parts ≡ es → is_some_node (left, es) ≡ true → 0 < length (below_items h first ++ rest_items h parts)
some_items h first parts None [] l f k s = absurd (cc)
some_items h first [] None (e ∷ es) l f k s = absurd (cc)
some_items h first (p ∷ parts) None (e ∷ es) l f k s = let both = length-append (below_items h first) (rest_items h (p ∷ parts)) in omega arith
some_items h first parts (Some c) es l f k s = let low = some_first h first c l f in let both = length-append (below_items h first) (rest_items h parts) in omega arith
