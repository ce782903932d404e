-- Operations play to one list, and a `#sync` is answered by one map.
use Rattle.std.proofs.Common.{◌≡◌, ℕ, List, [], ◌∷◌, Some, Result, Ok, ap, sym, ◌∙◌, subst}
use Rattle.std.specs.FinMap as map
use Rattle.at_car.specs.Blocks.{BlockMap}
use Rattle.at_commit.specs.Commit.{commit_of}
use Rattle.at_commit.specs.declared.commit.Commit.{Commit}
use Rattle.at_commit.specs.declared.fault.CommitFault.{CommitFault}
use Rattle.at_event.specs.declared.event.SyncEvent.{SyncEvent}
use Rattle.event_checks.specs.Opening.{CarResult}
use Rattle.mst_list.specs.declared.item.Item.{Item}
use Rattle.mst_list.specs.declared.op.Op.{Op}
use Rattle.mst_list.specs.Edits.{Plays, put}
use Rattle.mst_list.specs.Lists.{IsMap}
use Rattle.mst_node.specs.Trees.{IsView}
use Rattle.mst_law.proofs.OneView.{one_view}
use Rattle.mirror.specs.Repository.{Repositories, HasMap, Answers}

pub plays_once : (s : List Item) (ops : List Op) (t u : List Item) → Plays s ops t → Plays s ops u → t ≡ u
plays_once s [] t u p q = p ∙ sym q
plays_once s (op ∷ ops) t u p q = plays_once (put op.key op.now s) ops t u p.1 q.1

pair_is : (x y : List (List ℕ) × BlockMap) → ◌≡◌ {A = CarResult} (Ok x) (Ok y) → x ≡ y
pair_is x y e = cc

commit_is : (x y : Commit) → ◌≡◌ {A = Result Commit CommitFault} (Ok x) (Ok y) → x ≡ y
commit_is x y e = cc

some_is : (x y : List ℕ) → Some x ≡ Some y → x ≡ y
some_is x y e = cc

has_once : (bytes link : List ℕ) (F G : List Item) → HasMap bytes link F → HasMap bytes link G → F ≡ G
has_once bytes link F G a b =
    let h = a.holds in
    let k = b.holds in
    let car = pair_is (h.roots, h.blocks) (k.roots, k.blocks) (sym h.car ∙ k.car) in
    let blocks : h.blocks ≡ k.blocks = ap (λ (x : List (List ℕ) × BlockMap). x.1) car in
    let named : h.link ≡ k.link = a.commit ∙ sym b.commit in
    let found : map.get h.blocks h.link ≡ map.get k.blocks k.link = ap (λ (B : BlockMap). map.get B h.link) blocks ∙ ap (λ (c : List ℕ). map.get k.blocks c) named in
    let block = some_is h.block k.block (sym h.there ∙ found ∙ k.there) in
    let object = commit_is h.commit k.commit (sym h.object ∙ (subst (λ (x : List ℕ). commit_of x ≡ Ok k.commit) (sym block) k.object)) in
    let there : h.commit.data_root ≡ k.commit.data_root = ap (λ (c : Commit). c.data_root) object in
    let P : BlockMap → Type 0 = λ B. IsView B h.commit.data_root F in
    let Q : List ℕ → Type 0 = λ r. IsView k.blocks r F in
    one_view k.blocks k.commit.data_root F G (subst Q there (subst P blocks a.view)) b.view

pub answers_once : (repositories : Repositories) (sync : SyncEvent) (F G : List Item) → Answers repositories sync F → Answers repositories sync G → F ≡ G
answers_once repositories sync F G a b =
    let bytes = some_is a.bytes b.bytes (sym a.has ∙ b.has) in
    let link = some_is a.link b.link (sym a.states ∙ b.states) in
    let P : List ℕ → Type 0 = λ x. HasMap x a.link F in
    let Q : List ℕ → Type 0 = λ x. HasMap b.bytes x F in
    has_once b.bytes b.link F G (subst Q link (subst P bytes a.map)) b.map

pub answer_map : (repositories : Repositories) (sync : SyncEvent) (F : List Item) → Answers repositories sync F → IsMap F
answer_map repositories sync F a = let laid = a.map.view.well_laid in record { formed = laid.formed; ascends = laid.ascends; keys_only = a.map.whole }
