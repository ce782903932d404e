-- The operations of a commit, as they are read.
use Rattle.std.proofs.Common.{◌≡◌, ◌-◌, ℕ, List, [], ◌∷◌, Option, Some, None, codes, ap, ◌∙◌, subst}
use Rattle.at_cbor.specs.Item.{Item, Items, no_items, item, items_list}
use Rattle.at_cbor.specs.Kinds.{text_in, list_in, link_in, field_of}
use Rattle.at_cbor.specs.Encoding.{Fits, ItemsFit}
use Rattle.at_cbor.specs.Taking.{◌>>=◌}
use Rattle.at_cbor.proofs.Inside.{field_fits}
use Rattle.at_form.specs.Forms.{optional, required}
use Rattle.at_form.proofs.Held.{some_same, step_from}
use Rattle.at_event.specs.declared.ops.EventOp.{EventOp}
use Rattle.at_event.specs.Formed.{IsReadOp, AreReadOps}
use Rattle.at_event.specs.Table.{action_of, op_of, ops_of, ops_in}
use Rattle.at_event.proofs.Fields.{text_there, link_or_none}

record Parts (path cid prev : Type 0) : Type 0 where
  path_is : path
  cid_is : cid
  prev_is : prev

op_parts : (a p : Option (List ℕ)) (c q : Option (Option (List ℕ))) (x : EventOp) → (a >>= λ action. p >>= λ path. c >>= λ cid. q >>= λ prev. Some (record { action = action_of action; path = path; cid = cid; prev = prev })) ≡ Some x
    → Parts (p ≡ Some x.path) (c ≡ Some x.cid) (q ≡ Some x.prev)
op_parts None p c q x e = absurd cc
op_parts (Some a) None c q x e = absurd cc
op_parts (Some a) (Some p) None q x e = absurd cc
op_parts (Some a) (Some p) (Some c) None x e = absurd cc
op_parts (Some a) (Some p) (Some c) (Some q) x e =
    let same = some_same (record { action = action_of a; path = p; cid = c; prev = q }) x e in
    record { path_is = ap (λ (y : EventOp). Some y.path) same; cid_is = ap (λ (y : EventOp). Some y.cid) same; prev_is = ap (λ (y : EventOp). Some y.prev) same }

op_read : (i : Item) (depth : ℕ) (op : EventOp) → Fits i depth → op_of i ≡ Some op → IsReadOp op
unfolding op_of
op_read i depth op fits e =
    let parts = op_parts (required text_in i (codes "action")) (required text_in i (codes "path")) (optional link_in i (codes "cid")) (optional link_in i (codes "prev")) op e in
    record {
      path = text_there i depth fits (codes "path") op.path parts.path_is;
      cid = link_or_none i depth fits (codes "cid") op.cid parts.cid_is;
      prev = link_or_none i depth fits (codes "prev") op.prev parts.prev_is;
    }

all_read : (is : Items) (depth : ℕ) (ops : List EventOp) → ItemsFit is depth → ops_of (items_list is) ≡ Some ops → AreReadOps ops
unfolding ops_of
all_read no_items depth ops fits e = subst AreReadOps (some_same [] ops e) tt
all_read (item i is) depth ops fits e =
    let op = step_from (op_of i) (λ (op : EventOp). ops_of (items_list is) >>= λ ops. Some (op ∷ ops)) ops e in
    let others = step_from (ops_of (items_list is)) (λ (others : List EventOp). Some (op.0 ∷ others)) ops op.2 in
    subst AreReadOps (some_same (op.0 ∷ others.0) ops others.2) (op_read i depth op.0 fits.0 op.1, all_read is depth others.0 fits.1 others.1)

list_read : (i : Item) (depth : ℕ) (is : List Item) (ops : List EventOp) → Fits i depth → list_in i ≡ Some is → ops_of is ≡ Some ops → AreReadOps ops
list_read (Item.list js) depth is ops fits e o = all_read js (depth - 1) ops fits.2 (ap ops_of (some_same (items_list js) is e) ∙ o)
list_read i depth is ops fits e o = absurd cc

pub ops_there : (m : Item) (depth : ℕ) (name : List ℕ) (ops : List EventOp) → Fits m depth → required ops_in m name ≡ Some ops → AreReadOps ops
unfolding ops_in
ops_there m depth name ops fits e =
    let i = step_from (field_of m name) ops_in ops e in
    let is = step_from (list_in i.0) ops_of ops i.2 in
    list_read i.0 (depth - 1) is.0 ops (field_fits m depth name i.0 fits i.1) is.1 is.2
