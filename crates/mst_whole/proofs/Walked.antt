-- What a walk answers.
use Rattle.std.proofs.Common.{◌≡◌, ℕ, List, length, refl, sym, ap, ◌∙◌, subst, Option, Some, None, Result, Ok, Err}
use Rattle.std.specs.Prelude.{IfOk, IfErr}
use Rattle.std.specs.FinMap as map
use Rattle.std.specs.FinMap.{FinMap}
use Rattle.at_cid.specs.Link.{IsNodeLink}
use Rattle.at_cid.specs.Memory.{Gives}
use Rattle.at_cid.specs.Order.{key_cmp}
use Rattle.at_car.proofs.Linked.{node_link}
use Rattle.at_car.specs.Blocks.{AreLinked, BlockMap}
use Rattle.mst_list.specs.declared.item.Item.{Item}
use Rattle.mst_node.specs.Covers.{AreUnderNodeLinks}
use Rattle.mst_node.specs.FirstFault.{in_whole, IsFirstTopFault}
use Rattle.mst_node.specs.Reading.{node_of}
use Rattle.mst_node.specs.TreeReading.{whole_of}
use Rattle.mst_node.proofs.Blames.{top_blamed, top_named}
use Rattle.mst_node.proofs.Readers.{node_of_is_reader}
use Rattle.mst_whole.specs.Counting.{count, fault_at, told, walked}
use Rattle.mst_whole.specs.Walks.{cause_of, HasKeys, IsWalked, IsWalkFault, WalksExactly}
use Rattle.mst_whole.specs.declared.walking.WalkFault.{WalkFault}
use Rattle.mst_whole.proofs.Views.{whole_given, whole_found}

told_ok : (B : FinMap key_cmp (List ℕ)) (r : Result (List Item) (List ℕ)) (n : ℕ) → told B (count r) ≡ Ok n → (F : List Item) × (r ≡ Ok F) × (n ≡ length F)
told_ok B (Ok F) n e = (F, refl, let same : length F ≡ n = cc in sym same)
told_ok B (Err c) n e = absurd (cc)

told_err : (B : FinMap key_cmp (List ℕ)) (r : Result (List Item) (List ℕ)) (fault : WalkFault) → told B (count r) ≡ Err fault → (c : List ℕ) × (r ≡ Err c) × (fault ≡ fault_at c (map.get B c))
told_err B (Ok F) fault e = absurd (cc)
told_err B (Err c) fault e = (c, refl, let same : fault_at c (map.get B c) ≡ fault = cc in sym same)

pub under_links : (B : BlockMap) → AreLinked B → AreUnderNodeLinks B
under_links B linked = λ c b node at. node_link c b (linked c b at) node.node

pub keys_given : (B : BlockMap) (r : List ℕ) (result : Result ℕ WalkFault) → AreLinked B → IsNodeLink r → Gives (λ n. n) cause_of result (walked B r) → IfOk result (HasKeys B r)
keys_given B r (Ok n) linked kind g =
    let t = told_ok B (whole_of node_of B r) n g in
    subst (HasKeys B r) (sym t.2) (whole_given B r t.0 (under_links B linked) kind t.1)
keys_given B r (Err fault) linked kind g = tt

fault_is : (B : FinMap key_cmp (List ℕ)) (r : List ℕ) (fault : WalkFault) → walked B r ≡ Err fault → IsWalkFault B r fault
fault_is B r fault e =
    let t = told_err B (whole_of node_of B r) fault e in
    subst (IsWalkFault B r) (sym t.2) (go t.0 (map.get B t.0) refl (top_blamed node_of node_of_is_reader in_whole B r t.0 t.1))
  where
    go : (c : List ℕ) (o : Option (List ℕ)) → map.get B c ≡ o → IsFirstTopFault in_whole B r c → IsWalkFault B r (fault_at c o)
    go c None e first = (e, first)
    go c (Some b) e first = ((b, e), first)

pub fault_given : (B : FinMap key_cmp (List ℕ)) (r : List ℕ) (result : Result ℕ WalkFault) → Gives (λ n. n) cause_of result (walked B r) → IfErr result (IsWalkFault B r)
fault_given B r (Ok n) g = tt
fault_given B r (Err (WalkFault.NoBlock c)) g = fault_is B r (WalkFault.NoBlock c) g
fault_given B r (Err (WalkFault.BadNode c)) g = fault_is B r (WalkFault.BadNode c) g
fault_given B r (Err WalkFault.Memory) g = tt

-- the answer of a walk is what is counted
pub answer_is : (B : FinMap key_cmp (List ℕ)) (r : List ℕ) (answer : Result ℕ WalkFault) → IsWalked B r answer → walked B r ≡ answer
answer_is B r (Ok n) (F, view, keys, is) = ap (λ x. told B (count x)) (whole_found B r F view keys) ∙ ap Ok (sym is)
answer_is B r (Err (WalkFault.NoBlock c)) (gone, first) = ap (λ x. told B (count x)) (top_named node_of node_of_is_reader in_whole B r c first) ∙ ap (λ o. Err (fault_at c o)) gone
answer_is B r (Err (WalkFault.BadNode c)) (there, first) = ap (λ x. told B (count x)) (top_named node_of node_of_is_reader in_whole B r c first) ∙ ap (λ o. Err (fault_at c o)) there.1
answer_is B r (Err WalkFault.Memory) none = absurd none

pub walks_exactly : (B : FinMap key_cmp (List ℕ)) (r : List ℕ) (result : Result ℕ WalkFault) → Gives (λ n. n) cause_of result (walked B r) → WalksExactly B r result
walks_exactly B r result g = λ answer is. subst (λ x. Gives (λ n. n) cause_of result x) (answer_is B r answer is) g
