-- Reading operations one after the other, as a loop does.
use Rattle.std.proofs.Common.{◌≡◌, ℕ, ◌+◌, ◌<◌, ◌≤◌, List, [], ◌∷◌, ◌++◌, length, map, drop, get_or, Option, Some, None, Err, refl, sym, ap, ◌∙◌, append_assoc}
use Rattle.std.proofs.lemmas.List.{append-nil, drop_more, drop_all}
use Rattle.at_cbor.specs.declared.value.Value.{Value}
use Rattle.at_cbor.specs.View.{item_of}
use Rattle.at_event.specs.declared.flaw.Flaw.{Flaw}
use Rattle.at_event.specs.declared.ops.EventOp.{EventOp}
use Rattle.at_event.specs.Flaws.{Reads}
use Rattle.at_cbor.specs.Taking.{◌>>=◌}
use Rattle.at_event.specs.Table.{op_of, ops_of}

-- these operations, and then those
abbrev pub behind : List EventOp → Option (List EventOp) → Option (List EventOp)
behind front others = others >>= λ ops. Some (front ++ ops)

-- what is read of the values from a place on, behind these operations
abbrev pub from_place : List EventOp → List Value → ℕ → Option (List EventOp)
from_place front values k = behind front (ops_of (map item_of (drop k values)))

abbrev first_then : Option EventOp → Option (List EventOp) → Option (List EventOp)
first_then first others = do
  op ← first
  ops ← others
  Some (op ∷ ops)

behind_more : (front : List EventOp) (op : EventOp) (others : Option (List EventOp)) → behind front (first_then (Some op) others) ≡ behind (front ++ op ∷ []) others
behind_more front op (Some ops) = ap Some (sym (append_assoc front (op ∷ []) ops))
behind_more front op None = refl

module _ (values : List Value) (k : ℕ) (v : Value) (lt : k < length values) (is : v ≡ get_or values k v) (front : List EventOp) (total : Option (List EventOp)) (so_far : from_place front values k ≡ total) where
  here : ops_of (map item_of (drop k values)) ≡ first_then (op_of (item_of v)) (ops_of (map item_of (drop (k + 1) values)))
  unfolding ops_of
  here = ap (λ (l : List Value). ops_of (map item_of l)) (drop_more values k v lt ∙ ap (λ (x : Value). x ∷ drop (k + 1) values) (sym is))

  found : total ≡ behind front (first_then (op_of (item_of v)) (ops_of (map item_of (drop (k + 1) values))))
  found = sym so_far ∙ ap (behind front) here

  pub no_op : (e : Flaw) → Reads {X = EventOp} (λ op. op) (Err e) (op_of (item_of v)) → Reads {X = List EventOp} (λ ops. ops) (Err e) total
  no_op Flaw.BadField none = found ∙ ap (λ (o : Option EventOp). behind front (first_then o (ops_of (map item_of (drop (k + 1) values))))) none
  no_op Flaw.Memory none = tt

  pub one_op : (op : EventOp) (ops : List EventOp) → op_of (item_of v) ≡ Some op → ops ≡ front ++ op ∷ [] → from_place ops values (k + 1) ≡ total
  one_op op ops some pushed =
      ap (λ (f : List EventOp). from_place f values (k + 1)) pushed
      ∙ sym (behind_more front op (ops_of (map item_of (drop (k + 1) values))))
      ∙ ap (λ (o : Option EventOp). behind front (first_then o (ops_of (map item_of (drop (k + 1) values))))) (sym some)
      ∙ sym found

pub all_ops : (values : List Value) (k : ℕ) (front : List EventOp) (total : Option (List EventOp)) → length values ≤ k → from_place front values k ≡ total → total ≡ Some front
unfolding ops_of
all_ops values k front total le so_far =
    sym so_far ∙ ap (λ (l : List Value). behind front (ops_of (map item_of l))) (drop_all k values le) ∙ ap Some (append-nil front)

pub no_ops_yet : (values : List Value) → from_place [] values 0 ≡ ops_of (map item_of values)
no_ops_yet values = elim (ops_of (map item_of values)) as (λ o. behind [] o ≡ o) [ Some ops ↦ refl | None ↦ refl ]
