-- The node that is taken from a block is the one that it encodes, and each node that a block encodes is taken.
use Rattle.std.proofs.Common.{◌≡◌, ℕ, zero, suc, ◌+◌, ◌*◌, ◌/◌, min, ◌<◌, ◌≤◌, ◌^◌, true, List, [], ◌∷◌, ◌++◌, length, take, drop, Option, Some, None, refl, sym, ap, ◌∙◌, subst, Less, arith, append_assoc, append-nil, length-append, length-drop, Err}
use Rattle.std.proofs.lemmas.List.{length-take}
use Rattle.std.proofs.lemmas.Option.{same_Some}
use Rattle.at_cid.specs.Link.{IsBytes, IsLink, is_link}
use Rattle.at_cid.specs.Order.{key_cmp}
use Rattle.at_cid.proofs.Links.{link_length}
use Rattle.at_cbor.specs.declared.major.Major.{Major}
use Rattle.at_cbor.specs.Item.{Item, items_of}
use Rattle.at_cbor.specs.Encoding.{info_of, tail_of, front_of, link_encoding, encoding, items_encoding, items_count}
use Rattle.at_cbor.proofs.Steps.{IsBytes-take, Takes, Takes-then}
use Rattle.mst_list.specs.Lists.{IsKey}
use Rattle.mst_node.specs.declared.entry.Entry.{Entry}
use Rattle.at_cbor.specs.Taking.{behind, number_at, string_at, link_from_front, link_item, child_at, all_of}
use Rattle.at_cbor.proofs.Taken.{bind_some, held, behind_takes, number_takes, number_again, string_takes, string_again, link_takes, link_again, child_takes, child_again}
use Rattle.mst_node.specs.NodeBytes.{shared, entry_item, entry_items, node_bytes}
use Rattle.mst_node.specs.Nodes.{Node, IsChildLink, AreFormedEntries, EntriesAscend, IsNode, Encodes}
use Rattle.mst_node.specs.declared.fault.NodeFault.{NodeFault}
use Rattle.mst_node.specs.declared.taking.TheConstants.{FEWEST_ENTRY_BYTES}
use Rattle.mst_node.specs.Taking.{IsTaken, Parts, parts_of, key_at, right_at, value_at, parts_at, may_follow, entry_made, entry_at, entries_at, front_at, end_at, node_at, next_at}
use Rattle.mst_node.specs.Reading.{key_before, node_of}
use Rattle.mst_node.proofs.Encoding.{entry_of, key_back, shared_at_most, end_bytes, node_parts}
use Rattle.mst_node.proofs.Writes.{entries_counted}
use Rattle.mst_node.proofs.Readers.{entries_count, encodes_told, none_told}
use Rattle.mst_node.proofs.Follows.{Follows, test_follows, follows_test}

-- ---- the parts of an entry

-- the bytes of an entry's parts, with what stands behind them
abbrev pub parts_before : Parts → List ℕ → List ℕ
parts_before p rest =
    0xa4 ∷ 0x61 ∷ 0x6b ∷ (encoding (Item.bytes p.tail) ++ (0x61 ∷ 0x70 ∷ (front_of Major.Unsigned p.count ++ (0x61 ∷ 0x74 ∷ (encoding (link_item p.right) ++ (0x61 ∷ 0x76 ∷ (link_encoding p.value ++ rest)))))))

record TakesParts (bytes : List ℕ) (x : Parts × List ℕ) : Type 0 where
  pub parts : bytes ≡ parts_before x.0 x.1
  pub rest_fits : IsBytes x.1
  pub tail : IsBytes x.0.tail
  pub right : IsChildLink x.0.right
  pub value : IsLink x.0.value

-- the bytes of what is said of a key, with what stands behind it
abbrev key_before_rest : List ℕ → ℕ → List ℕ → List ℕ
key_before_rest tail count rest = 0xa4 ∷ 0x61 ∷ 0x6b ∷ (encoding (Item.bytes tail) ++ (0x61 ∷ 0x70 ∷ (front_of Major.Unsigned count ++ rest)))

record TakesKey (bytes : List ℕ) (x : (List ℕ × ℕ) × List ℕ) : Type 0 where
  pub parts : bytes ≡ key_before_rest x.0.0 x.0.1 x.1
  pub rest_fits : IsBytes x.1
  pub tail : IsBytes x.0.0

key_take : (bytes : List ℕ) (x : (List ℕ × ℕ) × List ℕ) → IsBytes bytes → key_at bytes ≡ Some x → TakesKey bytes x
unfolding key_at
key_take bytes x fits e =
    let a = bind_some (behind (0xa4 ∷ 0x61 ∷ 0x6b ∷ []) bytes) _ x e in let ta = behind_takes _ bytes a.0 fits a.1 in
    let k = bind_some (string_at a.0) _ x a.2 in let tk = string_takes a.0 k.0 ta.rest_fits k.1 in
    let b = bind_some (behind (0x61 ∷ 0x70 ∷ []) k.0.1) _ x k.2 in let tb = behind_takes _ k.0.1 b.0 tk.0.rest_fits b.1 in
    let p = bind_some (number_at Major.Unsigned b.0) _ x b.2 in let tp = number_takes Major.Unsigned b.0 p.0 tb.rest_fits p.1 in
    subst (TakesKey bytes) (same_Some ((k.0.0, p.0.0), p.0.1) x p.2) (record {
      parts = ta.parts ∙ ap (λ (l : List ℕ). 0xa4 ∷ 0x61 ∷ 0x6b ∷ l) (tk.0.parts ∙ ap (λ (l : List ℕ). encoding (Item.bytes k.0.0) ++ l) (tb.parts ∙ ap (λ (l : List ℕ). 0x61 ∷ 0x70 ∷ l) tp.0.parts));
      rest_fits = tp.0.rest_fits;
      tail = tk.1;
    })

parts_take : (bytes : List ℕ) (x : Parts × List ℕ) → IsBytes bytes → parts_at bytes ≡ Some x → TakesParts bytes x
unfolding parts_at
parts_take bytes x fits e =
    let k = bind_some (key_at bytes) _ x e in let tk = key_take bytes k.0 fits k.1 in
    let t = bind_some (right_at k.0.1) _ x k.2 in
    let c = bind_some (behind (0x61 ∷ 0x74 ∷ []) k.0.1) child_at t.0 t.1 in let tc = behind_takes _ k.0.1 c.0 tk.rest_fits c.1 in
    let tt = child_takes c.0 t.0 tc.rest_fits c.2 in
    let v = bind_some (value_at t.0.1) _ x t.2 in
    let d = bind_some (behind (0x61 ∷ 0x76 ∷ []) t.0.1) link_from_front v.0 v.1 in let td = behind_takes _ t.0.1 d.0 tt.0.rest_fits d.1 in
    let tv = link_takes d.0 v.0 td.rest_fits d.2 in
    subst (TakesParts bytes) (same_Some (parts_of k.0.0.0 k.0.0.1 t.0.0 v.0.0, v.0.1) x v.2) (record {
      parts = tk.parts ∙ ap (key_before_rest k.0.0.0 k.0.0.1) (tc.parts ∙ ap (λ (l : List ℕ). 0x61 ∷ 0x74 ∷ l)
          (tt.0.parts ∙ ap (λ (l : List ℕ). encoding (link_item t.0.0) ++ l) (td.parts ∙ ap (λ (l : List ℕ). 0x61 ∷ 0x76 ∷ l) tv.0.parts)));
      rest_fits = tv.0.rest_fits;
      tail = tk.tail;
      right = tt.1;
      value = tv.1;
    })

parts_again : (p : Parts) (rest : List ℕ) → length p.tail < 2 ^ 64 → p.count < 2 ^ 64 → IsChildLink p.right → is_link p.value ≡ true → parts_at (parts_before p rest) ≡ Some (p, rest)
unfolding parts_at key_at behind
parts_again p rest short low right value =
    let d : List ℕ = link_encoding p.value ++ rest in
    let c : List ℕ = encoding (link_item p.right) ++ (0x61 ∷ 0x76 ∷ (link_encoding p.value ++ rest)) in
    rw (string_again p.tail _ short, number_again Major.Unsigned p.count _ low, child_again p.right _ right, link_again p.value rest value) refl

-- the parts of an entry, behind a key
abbrev pub parts_in : List ℕ → Entry → Parts
parts_in last e = parts_of (drop (shared last e.key) e.key) (shared last e.key) e.right e.value

regroup : (k p t v rest : List ℕ) → (k ++ (0x61 ∷ 0x70 ∷ (p ++ (0x61 ∷ 0x74 ∷ (t ++ (0x61 ∷ 0x76 ∷ (v ++ []))))))) ++ rest ≡ k ++ (0x61 ∷ 0x70 ∷ (p ++ (0x61 ∷ 0x74 ∷ (t ++ (0x61 ∷ 0x76 ∷ (v ++ rest))))))
regroup k p t v rest = simp (append_assoc, append-nil)

pub entry_parts : (last : List ℕ) (e : Entry) (rest : List ℕ) → encoding (entry_item last e) ++ rest ≡ parts_before (parts_in last e) rest
unfolding info_of tail_of
entry_parts last e rest =
    ap (λ (l : List ℕ). 0xa4 ∷ 0x61 ∷ 0x6b ∷ l) (regroup (encoding (Item.bytes (drop (shared last e.key) e.key))) (front_of Major.Unsigned (shared last e.key)) (encoding (link_item e.right)) (link_encoding e.value) rest)

-- ---- entries

bytes_join : (a b : List ℕ) → IsBytes a → IsBytes b → IsBytes (a ++ b)
bytes_join [] b fa fb i = fb i
bytes_join (x ∷ a) b fa fb zero = fa 0
bytes_join (x ∷ a) b fa fb (suc i) = bytes_join a b (λ j. fa (suc j)) fb i

record TakesEntry (last bytes : List ℕ) (x : Entry × List ℕ) : Type 0 where
  pub taken : Takes bytes (encoding (entry_item last x.0)) x.1
  pub key : IsKey x.0.key
  pub value : IsLink x.0.value
  pub right : IsChildLink x.0.right
  pub above : key_cmp last x.0.key ≡ Less

-- the parts are those of the entry that they make
parts_back : (last : List ℕ) (p : Parts) → Follows last p.count p.tail → parts_in last (entry_made last p) ≡ p
parts_back last p f =
    ap (λ (n : ℕ). parts_of (drop n (take p.count last ++ p.tail)) n p.right p.value) f.same ∙ ap (λ (l : List ℕ). parts_of l p.count p.right p.value) f.other

entry_take : (last bytes : List ℕ) (x : Entry × List ℕ) → IsBytes last → IsBytes bytes → entry_at last bytes ≡ Some x → TakesEntry last bytes x
unfolding entry_at
entry_take last bytes x before fits e =
    let p = bind_some (parts_at bytes) _ x e in
    let t = parts_take bytes p.0 fits p.1 in
    let h = held (may_follow last p.0.0.count p.0.0.tail) (Some (entry_made last p.0.0, p.0.1)) x p.2 in
    let m = test_follows last p.0.0.count p.0.0.tail h.0 in
    let front = length-take p.0.0.count last in let whole = length-append (take p.0.0.count last) p.0.0.tail in
    let within = m.within in let some = m.some in let short = m.short in
    subst (TakesEntry last bytes) (same_Some (entry_made last p.0.0, p.0.1) x h.1) (record {
      taken = record { parts = t.parts ∙ ap (λ (q : Parts). parts_before q p.0.1) (sym (parts_back last p.0.0 m.follows)) ∙ sym (entry_parts last (entry_made last p.0.0) p.0.1); rest_fits = t.rest_fits };
      key = record { least = omega arith; most = omega arith; bytes = bytes_join (take p.0.0.count last) p.0.0.tail (IsBytes-take p.0.0.count last before) t.tail };
      value = t.value;
      right = t.right;
      above = m.follows.above;
    })

entry_again : (last : List ℕ) (e : Entry) (rest : List ℕ) → IsKey e.key → IsLink e.value → IsChildLink e.right → key_cmp last e.key ≡ Less → entry_at last (encoding (entry_item last e) ++ rest) ≡ Some (e, rest)
unfolding entry_at
entry_again last e rest key value right above =
    let len = length-drop (shared last e.key) e.key in let least = shared_at_most last e.key in let most = key.most in
    let read : parts_at (encoding (entry_item last e) ++ rest) ≡ Some (parts_in last e, rest) =
    ap parts_at (entry_parts last e rest) ∙ parts_again (parts_in last e) rest (omega arith) (omega arith) right value.link in
    rw (read, follows_test last e.key key.most above) (ap (λ k. Some (entry_of k e.value e.right, rest)) (key_back last e.key))

-- no entry has fewer bytes
child_some : (o : Option (List ℕ)) → 1 ≤ length (encoding (link_item o))
child_some None = omega arith
child_some (Some link) = omega arith

parts_long : (p : Parts) (rest : List ℕ) → 1 ≤ length p.tail → IsLink p.value → FEWEST_ENTRY_BYTES + length rest ≤ length (parts_before p rest)
parts_long p rest some value =
    let K = encoding (Item.bytes p.tail) in let P = front_of Major.Unsigned p.count in let T = encoding (link_item p.right) in
    let v : List ℕ = 0x61 ∷ 0x76 ∷ (link_encoding p.value ++ rest) in let t : List ℕ = 0x61 ∷ 0x74 ∷ (T ++ v) in let q : List ℕ = 0x61 ∷ 0x70 ∷ (P ++ t) in
    let one = length-append K q in let two = length-append P t in let three = length-append T v in let four = length-append p.value rest in
    let key = length-append (front_of Major.Bytes (length p.tail)) p.tail in let child = child_some p.right in let link = link_length p.value value.link in
    omega arith

pub record HasFewest (bytes rest : List ℕ) : Type 0 where
  pub fewest : FEWEST_ENTRY_BYTES + length rest ≤ length bytes
  pub rest_fits : IsBytes rest

entry_fewest : (last bytes : List ℕ) (x : Entry × List ℕ) → IsBytes bytes → entry_at last bytes ≡ Some x → HasFewest bytes x.1
unfolding entry_at
entry_fewest last bytes x fits e =
    let p = bind_some (parts_at bytes) _ x e in
    let t = parts_take bytes p.0 fits p.1 in
    let h = held (may_follow last p.0.0.count p.0.0.tail) (Some (entry_made last p.0.0, p.0.1)) x p.2 in
    let m = test_follows last p.0.0.count p.0.0.tail h.0 in
    let long : FEWEST_ENTRY_BYTES + length p.0.1 ≤ length bytes = subst (λ (b : List ℕ). FEWEST_ENTRY_BYTES + length p.0.1 ≤ length b) (sym t.parts) (parts_long p.0.0 p.0.1 m.some t.value) in
    subst (λ (y : Entry × List ℕ). HasFewest bytes y.1) (same_Some (entry_made last p.0.0, p.0.1) x h.1) (record { fewest = long; rest_fits = t.rest_fits })

pub next_fewest : (front : List Entry) (bytes : List ℕ) (x : List Entry × List ℕ) → IsBytes bytes → next_at front bytes ≡ Some x → HasFewest bytes x.1
next_fewest front bytes x fits e =
    let a = bind_some (entry_at (key_before [] front) bytes) _ x e in
    subst (λ (y : List Entry × List ℕ). HasFewest bytes y.1) (same_Some (front ++ a.0.0 ∷ [], a.0.1) x a.2) (entry_fewest (key_before [] front) bytes a.0 fits a.1)

-- what stands behind the front of a block has no more bytes
pub front_within : (block : List ℕ) (x : ℕ × List ℕ) → IsBytes block → front_at block ≡ Some x → length x.1 ≤ length block
unfolding front_at
front_within block x fits e =
    let f = bind_some (behind (0xa2 ∷ 0x61 ∷ 0x65 ∷ []) block) (number_at Major.List) x e in let tf = behind_takes _ block f.0 fits f.1 in
    let tc = number_takes Major.List f.0 x tf.rest_fits f.2 in
    let whole = ap length tf.parts in let behind_front = ap length tc.0.parts in let added = length-append (front_of Major.List x.0) x.1 in
    omega arith

-- where another entry was found, there was room for it
pub room_left : (len capacity count size i left rest : ℕ) → len ≡ i → capacity ≡ min count (size / FEWEST_ENTRY_BYTES) → i < count → i * FEWEST_ENTRY_BYTES + left ≤ size → FEWEST_ENTRY_BYTES + rest ≤ left
    → len < capacity
room_left len capacity count size i left rest counted room more behind fewest = omega arith

record TakesEntries (last bytes : List ℕ) (n : ℕ) (x : List Entry × List ℕ) : Type 0 where
  pub taken : Takes bytes (items_encoding (items_of (entry_items last x.0))) x.1
  pub count : length x.0 ≡ n
  pub formed : AreFormedEntries x.0
  pub ascend : EntriesAscend (Some last) x.0

entries_take : (n : ℕ) (last bytes : List ℕ) (x : List Entry × List ℕ) → IsBytes last → IsBytes bytes → entries_at n last bytes ≡ Some x → TakesEntries last bytes n x
unfolding entries_at
entries_take zero last bytes x before fits e =
    subst (TakesEntries last bytes 0) (same_Some ([], bytes) x e) (record { taken = record { parts = refl; rest_fits = fits }; count = refl; formed = tt; ascend = tt })
entries_take (suc n) last bytes x before fits e =
    let a = bind_some (entry_at last bytes) _ x e in let ta = entry_take last bytes a.0 before fits a.1 in
    let b = bind_some (entries_at n a.0.0.key a.0.1) _ x a.2 in let tb = entries_take n a.0.0.key a.0.1 b.0 ta.key.bytes ta.taken.rest_fits b.1 in
    subst (TakesEntries last bytes (suc n)) (same_Some (a.0.0 ∷ b.0.0, b.0.1) x b.2) (record {
      taken = Takes-then bytes (encoding (entry_item last a.0.0)) a.0.1 (items_encoding (items_of (entry_items a.0.0.key b.0.0))) b.0.1 ta.taken tb.taken;
      count = ap suc tb.count;
      formed = ((ta.key, ta.value, ta.right), tb.formed);
      ascend = (ta.above, tb.ascend);
    })

entries_again : (last : List ℕ) (es : List Entry) (rest : List ℕ) → AreFormedEntries es → EntriesAscend (Some last) es → entries_at (length es) last (items_encoding (items_of (entry_items last es)) ++ rest) ≡ Some (es, rest)
unfolding entries_at
entries_again last [] rest f up = refl
entries_again last (e ∷ es) rest f up =
    let others = items_encoding (items_of (entry_items e.key es)) in
    ap (entries_at (suc (length es)) last) (append_assoc (encoding (entry_item last e)) others rest)
    ∙ rw (entry_again last e (items_encoding (items_of (entry_items e.key es)) ++ rest) f.0.0 f.0.1 f.0.2 up.0, entries_again e.key es rest f.1 up.1) refl

-- ---- nodes

all_taken : {A : Type 0} (x : A × List ℕ) (y : A) → all_of x ≡ Some y → (x.1 ≡ []) × (x.0 ≡ y)
all_taken (a, []) y e = (refl, same_Some a y e)
all_taken (a, b ∷ bytes) y e = absurd cc

-- each key is above the empty one
over_none : (k : List ℕ) → 1 ≤ length k → key_cmp [] k ≡ Less
unfolding key_cmp
over_none [] some = absurd (omega arith)
over_none (y ∷ k) some = refl

from_none : (es : List Entry) → AreFormedEntries es → EntriesAscend None es → EntriesAscend (Some []) es
from_none [] f up = tt
from_none (e ∷ es) f up = (over_none e.key f.0.0.least, up.1)

to_none : (es : List Entry) → EntriesAscend (Some []) es → EntriesAscend None es
to_none [] up = tt
to_none (e ∷ es) up = (tt, up.1)

pub node_take : (block : List ℕ) (n : Node) → IsBytes block → node_at block ≡ Some n → Encodes block n
unfolding node_at front_at end_at
node_take block n fits e =
    let c = bind_some (front_at block) _ n e in
    let f = bind_some (behind (0xa2 ∷ 0x61 ∷ 0x65 ∷ []) block) (number_at Major.List) c.0 c.1 in let tf = behind_takes _ block f.0 fits f.1 in
    let tc = number_takes Major.List f.0 c.0 tf.rest_fits f.2 in
    let es = bind_some (entries_at c.0.0 [] c.0.1) _ n c.2 in let te = entries_take c.0.0 [] c.0.1 es.0 (λ i. omega arith) tc.0.rest_fits es.1 in
    let l = bind_some (end_at es.0.1) _ n es.2 in
    let b = bind_some (behind (0x61 ∷ 0x6c ∷ []) es.0.1) _ l.0 l.1 in let tb = behind_takes _ es.0.1 b.0 te.taken.rest_fits b.1 in
    let k = bind_some (child_at b.0) _ l.0 b.2 in let tk = child_takes b.0 k.0 tb.rest_fits k.1 in
    let all = all_taken k.0 l.0 k.2 in
    let left_is : ◌≡◌ {A = Node} (k.0.0, es.0.0) (l.0, es.0.0) = ap (λ (o : Option (List ℕ)). (o, es.0.0)) all.1 in
    let count : c.0.0 ≡ items_count (items_of (entry_items [] es.0.0)) = sym te.count ∙ sym (entries_counted [] es.0.0) in
    let last : b.0 ≡ encoding (link_item k.0.0) ++ [] = tk.0.parts ∙ ap (λ (r : List ℕ). encoding (link_item k.0.0) ++ r) all.0 in
    let whole : block ≡ node_bytes k.0.0 es.0.0 =
    tf.parts ∙ ap (λ (r : List ℕ). 0xa2 ∷ 0x61 ∷ 0x65 ∷ r) (tc.0.parts ∙ ap (λ (m : ℕ). front_of Major.List m ++ c.0.1) count
    ∙ ap (λ (r : List ℕ). front_of Major.List (items_count (items_of (entry_items [] es.0.0))) ++ r) (te.taken.parts
    ∙ ap (λ (r : List ℕ). items_encoding (items_of (entry_items [] es.0.0)) ++ r) (tb.parts ∙ ap (λ (r : List ℕ). 0x61 ∷ 0x6c ∷ r) last))) ∙ sym (node_parts k.0.0 es.0.0) in
    subst (Encodes block) (left_is ∙ same_Some (l.0, es.0.0) n l.2) (record { is_node = record { left_link = tk.1; formed = te.formed; ascend = to_none es.0.0 te.ascend }; encoded = whole })

node_again : (left : Option (List ℕ)) (es : List Entry) → IsNode (left, es) → length es < 2 ^ 64 → node_at (node_bytes left es) ≡ Some (left, es)
unfolding node_at front_at end_at behind
node_again left es is low =
    let c = items_count (items_of (entry_items [] es)) in let B = items_encoding (items_of (entry_items [] es)) in
    let counted = entries_counted [] es in
    let read : entries_at (items_count (items_of (entry_items [] es))) [] (items_encoding (items_of (entry_items [] es)) ++ (0x61 ∷ end_bytes left)) ≡ Some (es, 0x61 ∷ end_bytes left) =
    ap (λ (n : ℕ). entries_at n [] (B ++ (0x61 ∷ end_bytes left))) counted ∙ entries_again [] es (0x61 ∷ end_bytes left) is.formed (from_none es is.formed is.ascend) in
    ap node_at (node_parts left es) ∙ rw (number_again Major.List c (B ++ (0x61 ∷ end_bytes left)) (omega arith), read, child_again left [] is.left_link) refl

-- where no node is taken from a block, it encodes none
pub untaken : (f : NodeFault) (block : List ℕ) (n : Node) → length block < 2 ^ 64 → IsTaken (λ (x : Node). x) (Err f) (node_at block) → f ≡ NodeFault.BadNode → Encodes block n → ⊥
untaken NodeFault.BadNode block n low none e s =
    let long = entries_count n.0 n.1 in let same = ap length s.encoded in
    let found : node_at block ≡ Some n = ap node_at s.encoded ∙ node_again n.0 n.1 s.is_node (omega arith) in
    let both : None ≡ Some n = sym none ∙ found in absurd cc
untaken NodeFault.Memory block n low none e s = absurd cc

-- what is taken from a block is the node that is told from it
pub told_taken : (block : List ℕ) (n : Node) → IsBytes block → node_at block ≡ Some n → node_of block ≡ Some n
told_taken block n bytes e = encodes_told block n (node_take block n bytes e)

pub none_taken : (f : NodeFault) (block : List ℕ) → length block < 2 ^ 63 → IsTaken (λ (x : Node). x) (Err f) (node_at block) → f ≡ NodeFault.BadNode → node_of block ≡ None
none_taken f block low none e = none_told block (λ n s. untaken f block n (omega (arith, low)) none e s)
