-- What leads from one root to another, and what doesn't.
use Rattle.std.proofs.Common.{◌≡◌, ◌≢◌, ℕ, List, [], ◌∷◌, Result, Ok, Err, ◌⊎◌, inl, inr, refl, sym, ap, subst, ◌∙◌}
use Rattle.at_car.specs.Blocks.{BlockMap, AreLinked}
use Rattle.at_car.proofs.Linked.{node_link}
use Rattle.at_event.specs.declared.refusal.Refusal.{Refusal}
use Rattle.mst_list.specs.declared.item.Item.{Item}
use Rattle.mst_list.specs.declared.op.Op.{Op}
use Rattle.mst_list.specs.declared.undoing.UndoFault.{UndoFault}
use Rattle.mst_list.specs.Edits.{AreApart, AreFormedOps, undone}
use Rattle.mst_list.specs.Faults.{IsUndone}
use Rattle.mst_list.proofs.Answering.{fault_exact, undone_exact}
use Rattle.mst_list.proofs.Firsts.{all_fine_of}
use Rattle.mst_node.specs.Covers.{AreUnderNodeLinks}
use Rattle.mst_node.specs.Trees.{root, IsView}
use Rattle.mst_view.proofs.TreeAt.{fault_no_view, fault_once, fault_there, no_block}
use Rattle.mst_law.specs.Laws.{IsStep}
use Rattle.mst_law.proofs.Links.{sound_link, complete_link}
use Rattle.mst_law.proofs.OneView.{one_view}
use Rattle.commit_check.specs.Step.{IsBadTree, IsCoveredBy, LeadsBy, ReplaysBy, StopsAt}

pub under_links : (blocks : BlockMap) → AreLinked blocks → AreUnderNodeLinks blocks
under_links blocks linked = λ c b node e. node_link c b (linked c b e) node.node

-- a step replays on maps
pub sound_by : (ops : List Op) (blocks : BlockMap) (former later : List ℕ) → AreFormedOps ops → AreApart ops → LeadsBy ops blocks former later → ReplaysBy ops blocks former later
sound_by [] blocks former later formed apart leads = λ s m is distinct. (s, m, refl, is ∙ sym leads)
sound_by (op ∷ ops) blocks former later formed apart leads = λ s m is distinct. sound_link blocks former later (op ∷ ops) leads.0 s leads.1 formed apart m is (distinct leads.0 leads.1.is_view)

-- operations that are covered lead from root to root
pub complete_by : (ops : List Op) (blocks : BlockMap) (former later : List ℕ) → AreUnderNodeLinks blocks → AreFormedOps ops → AreApart ops → IsCoveredBy ops blocks former later → LeadsBy ops blocks former later
complete_by [] blocks former later under formed apart c = sym c.later_root ∙ (ap root c.plays ∙ c.former_root)
complete_by (op ∷ ops) blocks former later under formed apart c =
    let some : op ∷ ops ≢ [] = λ e. absurd (cc) in
    let step = complete_link blocks c.before c.after (op ∷ ops) c.is_map formed apart some c.plays c.cover under c.distinct in
    let P : List ℕ → Type 0 = λ r. IsStep blocks r (root c.after) (op ∷ ops) step.0 in
    let Q : List ℕ → Type 0 = λ r. IsStep blocks former r (op ∷ ops) step.0 in
    (step.0, subst Q c.later_root (subst P c.former_root step.1))

-- a block at fault leaves no view, and one alone is told

bad_no_view : (blocks : BlockMap) (later link : List ℕ) (F : List Item) → IsBadTree blocks later link → IsView blocks later F → ⊥
bad_no_view blocks later link F (inl gone) view = no_block blocks later F gone.1 view
bad_no_view blocks later link F (inr bad) view = fault_no_view blocks later link F bad view

bad_once : (blocks : BlockMap) (later one other : List ℕ) → IsBadTree blocks later one → IsBadTree blocks later other → one ≡ other
bad_once blocks later one other (inl a) (inl b) = a.0 ∙ sym b.0
bad_once blocks later one other (inl a) (inr b) = let gone = a.1 in let there = (fault_there blocks later other b).1 in absurd (cc)
bad_once blocks later one other (inr a) (inl b) = let there = (fault_there blocks later one a).1 in let gone = b.1 in absurd (cc)
bad_once blocks later one other (inr a) (inr b) = fault_once blocks later one other a b

-- undoing on a view has one answer

undone_once : (F : List Item) (ops : List Op) (a b : Result (List Item) UndoFault) → IsUndone F ops a → IsUndone F ops b → a ≡ b
undone_once F ops (Ok G) b one other = sym (undone_exact F G ops (all_fine_of F ops one.0 one.1) one.2 b other)
undone_once F ops (Err (UndoFault.OtherOp i)) b one other = sym (fault_exact F ops (UndoFault.OtherOp i) one b other)
undone_once F ops (Err (UndoFault.NotCovered i)) b one other = sym (fault_exact F ops (UndoFault.NotCovered i) one b other)
undone_once F ops (Err UndoFault.Memory) b one other = absurd one

one_answer : (ops : List Op) (blocks : BlockMap) (later : List ℕ) (F G : List Item) (a b : Result (List Item) UndoFault) → IsView blocks later F → IsView blocks later G → IsUndone F ops a → IsUndone G ops b → a ≡ b
one_answer ops blocks later F G a b v w p q =
    let P : List Item → Type 0 = λ x. IsUndone x ops a in
    undone_once G ops a b (subst P (one_view blocks later F G v w) p) q

-- a stop is a block at fault, or an answer of undoing on the view

abbrev IsBad : BlockMap → List ℕ → Refusal → Type 0
IsBad blocks later refusal = (link : List ℕ) × (refusal ≡ Refusal.BadNode link) × IsBadTree blocks later link

abbrev told : List ℕ → Result (List Item) UndoFault → Refusal
told former (Ok G) = Refusal.OtherData former (root G)
told former (Err (UndoFault.OtherOp i)) = Refusal.OtherOp i
told former (Err (UndoFault.NotCovered i)) = Refusal.NotCovered i
told former (Err UndoFault.Memory) = Refusal.Gap

record IsSeen (ops : List Op) (blocks : BlockMap) (former later : List ℕ) (refusal : Refusal) : Type 0 where
  list : List Item
  is_view : IsView blocks later list
  answer : Result (List Item) UndoFault
  is_undone : IsUndone list ops answer
  other : (G : List Item) → answer ≡ Ok G → root G ≢ former
  is_told : refusal ≡ told former answer

sorted : (op : Op) (ops : List Op) (blocks : BlockMap) (former later : List ℕ) (refusal : Refusal) → StopsAt (op ∷ ops) blocks former later refusal → IsBad blocks later refusal ⊎ IsSeen (op ∷ ops) blocks former later refusal
sorted op ops blocks former later (Refusal.BadNode link) stops = inl (link, refl, stops)
sorted op ops blocks former later (Refusal.OtherOp i) stops =
    inr (record { list = stops.0; is_view = stops.1; answer = Err (UndoFault.OtherOp i); is_undone = stops.2; other = λ G e. absurd (cc); is_told = refl })
sorted op ops blocks former later (Refusal.NotCovered i) stops =
    inr (record { list = stops.0; is_view = stops.1; answer = Err (UndoFault.NotCovered i); is_undone = stops.2; other = λ G e. absurd (cc); is_told = refl })
sorted op ops blocks former later (Refusal.OtherData want got) stops =
    let back = stops.1 in let before = undone back.list (op ∷ ops) in
    inr (record {
      list = back.list;
      is_view = back.step.is_view;
      answer = Ok before;
      is_undone = (back.step.agrees, back.step.guarded, refl);
      other = λ G e same. stops.2 (sym back.step.leads_back ∙ (ap root (let one : before ≡ G = cc in one) ∙ same));
      is_told = ap (λ x. Refusal.OtherData x got) stops.0 ∙ ap (λ x. Refusal.OtherData former x) (sym back.step.leads_back);
    })
sorted op ops blocks former later refusal stops = absurd stops

once : (ops : List Op) (blocks : BlockMap) (former later : List ℕ) (one other : Refusal) → IsBad blocks later one ⊎ IsSeen ops blocks former later one → IsBad blocks later other ⊎ IsSeen ops blocks former later other → one ≡ other
once ops blocks former later one other (inl a) (inl b) = a.1 ∙ (ap (λ x. Refusal.BadNode x) (bad_once blocks later a.0 b.0 a.2 b.2) ∙ sym b.1)
once ops blocks former later one other (inl a) (inr b) = absurd (bad_no_view blocks later a.0 b.list a.2 b.is_view)
once ops blocks former later one other (inr a) (inl b) = absurd (bad_no_view blocks later b.0 a.list b.2 a.is_view)
once ops blocks former later one other (inr a) (inr b) =
    a.is_told ∙ (ap (told former) (one_answer ops blocks later a.list b.list a.answer b.answer a.is_view b.is_view a.is_undone b.is_undone) ∙ sym b.is_told)

unseen : (ops : List Op) (blocks : BlockMap) (former later : List ℕ) (refusal : Refusal) (F : List Item) → IsStep blocks former later ops F → IsBad blocks later refusal ⊎ IsSeen ops blocks former later refusal → ⊥
unseen ops blocks former later refusal F step (inl bad) = bad_no_view blocks later bad.0 F bad.2 step.is_view
unseen ops blocks former later refusal F step (inr seen) =
    seen.other (undone F ops) (one_answer ops blocks later seen.list F seen.answer (Ok (undone F ops)) seen.is_view step.is_view seen.is_undone (step.agrees, step.guarded, refl)) step.leads_back

-- at most one refusal stops operations, and none those that lead back

still_told : (blocks : BlockMap) (former later : List ℕ) (refusal : Refusal) → StopsAt [] blocks former later refusal → refusal ≡ Refusal.OtherData former later
still_told blocks former later (Refusal.OtherData want got) stops = ap (λ x. Refusal.OtherData x got) stops.0 ∙ ap (λ x. Refusal.OtherData former x) stops.1
still_told blocks former later refusal stops = absurd stops

pub stops_once : (ops : List Op) (blocks : BlockMap) (former later : List ℕ) (one other : Refusal) → StopsAt ops blocks former later one → StopsAt ops blocks former later other → one ≡ other
stops_once [] blocks former later one other a b = still_told blocks former later one a ∙ sym (still_told blocks former later other b)
stops_once (op ∷ ops) blocks former later one other a b = once (op ∷ ops) blocks former later one other (sorted op ops blocks former later one a) (sorted op ops blocks former later other b)

pub not_stopped : (ops : List Op) (blocks : BlockMap) (former later : List ℕ) (refusal : Refusal) → LeadsBy ops blocks former later → StopsAt ops blocks former later refusal → ⊥
not_stopped [] blocks former later (Refusal.OtherData want got) leads stops = stops.2 leads
not_stopped [] blocks former later refusal leads stops = absurd stops
not_stopped (op ∷ ops) blocks former later refusal leads stops = unseen (op ∷ ops) blocks former later refusal leads.0 leads.1 (sorted op ops blocks former later refusal stops)
