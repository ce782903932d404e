-- Each refusal that opening or linking tells is one that a row may keep.
use Rattle.std.proofs.Common.{◌≡◌, ℕ, zero, suc, ◌<◌, ◌≤◌, ◌^◌, inl, inr, Bool, true, false, not, ◌&&◌, ◌||◌, cond, List, [], ◌∷◌, length, Option, Some, None, refl, sym, subst, arith}
use Rattle.std.specs.Prelude.{◌==◌, nat_le, nat_lt}
use Rattle.std.specs.List.{list_all}
use Rattle.std.specs.FinMap.{FinMap}
use Rattle.std.proofs.lemmas.Bool.{and_parts, and_from, lt-ltb, ltb-false}
use Rattle.std.proofs.lemmas.List.{length-map}
use Rattle.at_cid.specs.Link.{IsNodeLink, IsNodeLinkOrNone}
use Rattle.at_cid.specs.Order.{key_cmp}
use Rattle.at_cid.proofs.Bytes.{cid_is_link}
use Rattle.at_event.specs.Refusals.{code_of}
use Rattle.at_event.specs.declared.event.Body.{Body}
use Rattle.at_event.specs.declared.event.CommitEvent.{CommitEvent}
use Rattle.at_event.specs.declared.refusal.Refusal.{Refusal}
use Rattle.event_checks.specs.Lines.{RefusalLine, first_of}
use Rattle.event_checks.specs.Table.{open_lines, sync_lines}
use Rattle.event_checks.proofs.Firsts.{all_unmet}
use Rattle.mst_list.specs.Faults.{Disagrees, IsUncovered, IsFirst}
use Rattle.mst_list.specs.declared.item.Item.{Item}
use Rattle.mst_list.specs.declared.op.Op.{Op}
use Rattle.mst_node.specs.FirstFault.{in_part, IsFaultAt, FaultBelow, IsFirstIn, IsFirstBelow, IsFirstFault, HasFault, IsFirstTopFault}
use Rattle.mst_node.specs.NodeFaults.{AreEntriesAt, IsNodeAt, IsTopNode, layer_of, next_bound}
use Rattle.mst_node.specs.declared.entry.Entry.{Entry}
use Rattle.mst_view.specs.ViewFault.{IsAtFault}
use Rattle.commit_check.specs.Order.{StopsPast}
use Rattle.commit_check.specs.Step.{IsBadTree, StopsAt, edit_of, edits_of}
use Rattle.relay_row.specs.Rules.{is_node, is_detail}
use Rattle.relay_core.specs.Opening.{shown_alone}
use Rattle.relay_law.proofs.Heads.{node_tested}

-- a refusal that a row of an event may keep
abbrev pub is_kept : Refusal → Bool
is_kept r = is_detail r && ((nat_le (code_of r) 24 || code_of r == 25) && not (code_of r == 1))

-- ---- opening

first_kept : (lines : List RefusalLine) → list_all (λ line. is_kept line.0) lines ≡ true → (r : Refusal) → first_of lines ≡ Some r → is_kept r ≡ true
first_kept [] all r h = absurd cc
first_kept (line ∷ lines) all r h =
    let both = and_parts (is_kept line.0) (list_all (λ line. is_kept line.0) lines) all in
    elim line.1 as (λ b. cond b (Some line.0) (first_of lines) ≡ Some r → is_kept r ≡ true) [
      | true ↦ λ g. let same : line.0 ≡ r = cc in let P : Refusal → Type 0 = λ q. is_kept q ≡ true in subst P same both.0
      | false ↦ first_kept lines both.1 r
    ] h

pub shown_kept : (body : Body) (last : Option ℕ) (r : Refusal) → shown_alone body last ≡ Some r → is_kept r ≡ true
shown_kept (Body.Commit c) last r h = first_kept (open_lines c last) refl r h
shown_kept (Body.Sync s) last r h = first_kept (sync_lines s last) refl r h
shown_kept Body.Identity last r h = absurd cc
shown_kept (Body.Account a) last r h = absurd cc

-- ---- the first block at fault

module _ (B : FinMap key_cmp (List ℕ)) where
  fault_at : (stands : List ℕ → Option (List ℕ) → List Entry → Type 0) (below : Option (List ℕ) → List Entry → List ℕ → Type 0) (c f : List ℕ) → IsNodeLink c
      → ((b : List ℕ) (left : Option (List ℕ)) (es : List Entry) → stands b left es → below left es f → IsNodeLink f) → IsFaultAt in_part B stands below c f → IsNodeLink f
  fault_at stands below c f node deeper (inl missing) = absurd missing
  fault_at stands below c f node deeper (inr (b, there, inl (none, is))) = subst (λ (l : List ℕ). IsNodeLink l) (sym is) node
  fault_at stands below c f node deeper (inr (b, there, inr (left, es, is, h))) = deeper b left es is h

  -- below a link that is none or of kind Node, the first fault is at a link of kind Node
  abbrev FindsNodes : FaultBelow → Type 0
  FindsNodes first = (low high c : Option (List ℕ)) (f : List ℕ) → IsNodeLinkOrNone c → first low high c f → IsNodeLink f

  fault_in : (first any : FaultBelow) → FindsNodes first → (h : ℕ) (low high : Option (List ℕ)) (es : List Entry) (f : List ℕ) → AreEntriesAt h low high es → IsFirstIn first any high es f → IsNodeLink f
  fault_in first any finds h low high [] f are e = absurd e
  fault_in first any finds h low high (x ∷ es) f are (inl e) = finds (Some x.key) (next_bound high es) x.right f are.0.right e
  fault_in first any finds h low high (x ∷ es) f are (inr e) = fault_in first any finds h (Some x.key) high es f are.1 e.1

  fault_below : (first any : FaultBelow) → FindsNodes first → (h : ℕ) (low high left : Option (List ℕ)) (es : List Entry) (f : List ℕ) → IsNodeLinkOrNone left → AreEntriesAt h low high es
      → IsFirstBelow first any low high left es f → IsNodeLink f
  fault_below first any finds h low high left es f kind are (inl e) = finds low (next_bound high es) left f kind e
  fault_below first any finds h low high left es f kind are (inr e) = fault_in first any finds h low high es f are e.1

  first_node : (h : ℕ) → FindsNodes (IsFirstFault in_part B h)
  first_node zero low high c f kind e = absurd e
  first_node (suc h) low high None f kind e = absurd e
  first_node (suc h) low high (Some c) f kind e =
      fault_at (IsNodeAt h low high) (IsFirstBelow (IsFirstFault in_part B h) (HasFault in_part B h) low high) c f kind
      (λ b left es is below. fault_below (IsFirstFault in_part B h) (HasFault in_part B h) (first_node h) h low high left es f is.left_link is.entries below) e

  top_node : (r f : List ℕ) → IsNodeLink r → IsFirstTopFault in_part B r f → IsNodeLink f
  top_node r f kind e =
      fault_at IsTopNode (λ left es. IsFirstBelow (IsFirstFault in_part B (layer_of es)) (HasFault in_part B (layer_of es)) None None left es) r f kind
      (λ b left es is below. fault_below (IsFirstFault in_part B (layer_of es)) (HasFault in_part B (layer_of es)) (first_node (layer_of es)) (layer_of es) None None left es f is.left_link is.entries below) e

  fault_node : (r f : List ℕ) → IsNodeLink r → IsAtFault B r f → IsNodeLink f
  fault_node r f kind (inl e) = top_node r f kind e
  fault_node r f kind (inr e) = subst (λ (l : List ℕ). IsNodeLink l) (sym e.0) kind

  bad_node : (later link : List ℕ) → IsNodeLink later → IsBadTree B later link → IsNodeLink link
  bad_node later link kind (inl e) = subst (λ (l : List ℕ). IsNodeLink l) (sym e.0) kind
  bad_node later link kind (inr e) = fault_node later link kind e

-- ---- linking

place_below : (P : List Item → Op → Type 0) (F : List Item) (ops : List Op) (i : ℕ) → IsFirst P F ops i → i < length ops
place_below P F [] i h = absurd h
place_below P F (op ∷ ops) zero h = omega arith
place_below P F (op ∷ ops) (suc i) h = omega (arith, place_below P F ops i h.1)

place_kept : (i n : ℕ) → i < n → n ≤ 200 → nat_lt i (2 ^ 32) ≡ true
place_kept i n lt few = lt-ltb i (2 ^ 32) (omega arith)

node_kept : (link want : List ℕ) → link ≡ want → IsNodeLink want → is_node link ≡ true
node_kept link want is kind = node_tested link (subst (λ (l : List ℕ). IsNodeLink l) (sym is) kind)

kept_at : (d : Bool) → d ≡ true → d && true ≡ true
kept_at d h = and_from d true h refl

stop_kept : (ops : List Op) (blocks : FinMap key_cmp (List ℕ)) (former later : List ℕ) (r : Refusal) → IsNodeLink former → IsNodeLink later → length ops ≤ 200 → StopsAt ops blocks former later r → is_kept r ≡ true
stop_kept [] blocks former later (Refusal.OtherData want got) kind node few h =
    kept_at (is_node want && is_node got) (and_from (is_node want) (is_node got) (node_kept want former h.0 kind) (node_kept got later h.1 node))
stop_kept [] blocks former later r kind node few h = absurd h
stop_kept (op ∷ ops) blocks former later (Refusal.BadNode link) kind node few h = kept_at (is_node link) (node_tested link (bad_node blocks later link node h))
stop_kept (op ∷ ops) blocks former later (Refusal.OtherOp i) kind node few h = kept_at (nat_lt i (2 ^ 32)) (place_kept i (length (op ∷ ops)) (place_below Disagrees h.0 (op ∷ ops) i h.2) few)
stop_kept (op ∷ ops) blocks former later (Refusal.NotCovered i) kind node few h = kept_at (nat_lt i (2 ^ 32)) (place_kept i (length (op ∷ ops)) (place_below IsUncovered h.0 (op ∷ ops) i h.2) few)
stop_kept (op ∷ ops) blocks former later (Refusal.OtherData want got) kind node few h =
    kept_at (is_node want && is_node got) (and_from (is_node want) (is_node got) (node_kept want former h.0 kind) (node_kept got _ (sym h.1.step.leads_back) (cid_is_link _)))
stop_kept (op ∷ ops) blocks former later r kind node few h = absurd h

pub linked_kept : (gap : Bool) (c : CommitEvent) (blocks : FinMap key_cmp (List ℕ)) (former later : List ℕ) (r : Refusal) → IsNodeLink former → IsNodeLink later → length c.ops ≤ 200 → StopsPast gap c blocks former later r → is_kept r ≡ true
linked_kept true c blocks former later r kind node few h = subst (λ (q : Refusal). is_kept q ≡ true) (sym h) refl
linked_kept false c blocks former later r kind node few h = stop_kept (edits_of c) blocks former later r kind node (omega (arith, length-map c.ops edit_of, few)) h

-- an event that shows no refusal has few operations
pub few_ops : (c : CommitEvent) (last : Option ℕ) → first_of (open_lines c last) ≡ None → length c.ops ≤ 200
few_ops c last h = ltb-false 200 (length c.ops) (all_unmet (open_lines c last) h).1.1.0
