-- The maps of repositories of which the nodes are kept.
use Rattle.std.proofs.Common.{◌≡◌, ℕ, ◌≤◌, true, List, length, Option, Some, None, Result, Ok, Err, refl, sym, ap, ◌∙◌, subst}
use Rattle.std.specs.Prelude.{IfOk}
use Rattle.std.specs.FinMap as map
use Rattle.at_cid.specs.Link.{IsNodeLink}
use Rattle.at_car.specs.Blocks.{AreLinked, BlockMap}
use Rattle.at_car.specs.Car.{car_of}
use Rattle.at_car.specs.Finishing.{IsKeptOf}
use Rattle.at_car.specs.Sifting.{block_at}
use Rattle.at_car.specs.Standing.{root_of}
use Rattle.at_car.specs.declared.scan.Kept.{Kept}
use Rattle.at_commit.specs.Commit.{commit_of}
use Rattle.at_commit.specs.declared.commit.Commit.{Commit}
use Rattle.at_commit.specs.declared.fault.CommitFault.{CommitFault}
use Rattle.at_event.specs.declared.event.SyncEvent.{SyncEvent}
use Rattle.event_checks.specs.Opening.{CarResult, root_in}
use Rattle.mst_list.specs.declared.item.Item.{Item}
use Rattle.mst_list.specs.Lists.{KeysOnly}
use Rattle.mst_node.specs.Trees.{IsView, nodes}
use Rattle.mst_law.proofs.OneView.{one_view}
use Rattle.mst_whole.proofs.Keeps.{whole_same}
use Rattle.mst_whole.proofs.KeptKeys.{all_there, no_holes}
use Rattle.mst_whole.proofs.Walked.{under_links}
use Rattle.mst_whole.proofs.Views.{whole_found, whole_given}
use Rattle.mst_whole.specs.Walks.{is_node_block}
use Rattle.relay_io.specs.Repositories.{IsOpened}
use Rattle.repo_sync.specs.declared.limits.TheConstants.{MOST_REPOSITORY_BYTES}
use Rattle.mirror.specs.Repository.{Answers, HasMap, Repositories}
use Rattle.mirror.specs.Syncing.{HasMapUnder, IsMapOf, IsMapUnder, IsTreeAt}

-- a list that is no map is the only view
pub no_tree : (B : BlockMap) (r : List ℕ) (tree list : List Item) → IsView B r tree → list ≡ tree → (KeysOnly list → ⊥) → (F : List Item) → IsView B r F → KeysOnly F → ⊥
no_tree B r tree list view is holes F other keys =
    let P : List Item → Type 0 = λ x. KeysOnly x in
    holes (subst P (one_view B r F tree other view ∙ sym is) keys)

-- ---- the nodes alone

-- a whole tree of the nodes is one of all blocks, and the other way round
tree_of_all : (kept : Kept) (blocks : BlockMap) (r : List ℕ) (o : Option (List Item)) → IsKeptOf is_node_block blocks kept → AreLinked kept.nodes → IsNodeLink r → IsTreeAt kept.nodes r o → IsTreeAt blocks r o
tree_of_all kept blocks r (Some F) of linked kind (view, keys) =
    (record { well_laid = view.well_laid; root_is = view.root_is; there = all_there kept.nodes blocks of.nodes_are (nodes F) view.there; holes = no_holes blocks F keys }, keys)
tree_of_all kept blocks r None of linked kind none = λ F view keys.
    let whole = whole_same kept.nodes blocks of.nodes_are r ∙ whole_found blocks r F view keys in
    let there = whole_given kept.nodes r F (under_links kept.nodes linked) kind whole in
    none there.0 there.1 there.2

some_is : (x y : List ℕ) → Some x ≡ Some y → x ≡ y
some_is x y e = cc

commit_is : (x y : Commit) → ◌≡◌ {A = Result Commit CommitFault} (Ok x) (Ok y) → x ≡ y
commit_is x y e = cc

tree_of_roots : (roots : List (List ℕ)) (blocks : BlockMap) (link block : List ℕ) (commit : Commit) → root_of roots ≡ Some link → map.get blocks link ≡ Some block → commit_of block ≡ Ok commit
    → (o : Option (List Item)) → IsTreeAt blocks commit.data_root o → IsMapUnder roots blocks link o
tree_of_roots roots blocks link block commit root there object (Some F) tree =
    record { block = block; commit = commit; root = root; there = there; object = object; view = tree.0; whole = tree.1 }
tree_of_roots roots blocks link block commit root there object None none = λ F h.
    let same = some_is h.block block (sym h.there ∙ there) in
    let P : List ℕ → Type 0 = λ b. commit_of b ≡ Ok h.commit in
    let objects = commit_is h.commit commit (sym (subst P same h.object) ∙ object) in
    let Q : Commit → Type 0 = λ c. IsView blocks c.data_root F in
    none F (subst Q objects h.view) h.whole

pub under : (kept : Kept) (blocks : BlockMap) (root link block : List ℕ) (commit : Commit) → IsKeptOf is_node_block blocks kept → AreLinked kept.nodes → root_of kept.roots ≡ Some root → root ≡ link → kept.first ≡ Some block → commit_of block ≡ Ok commit
    → IsNodeLink commit.data_root → (o : Option (List Item)) → IsTreeAt kept.nodes commit.data_root o → IsMapUnder kept.roots blocks link o
under kept blocks root link block commit of linked root_is same first object kind o tree =
    let rooted = root_is ∙ ap (λ (c : List ℕ). Some c) same in
    let there : map.get blocks link ≡ Some block = ap (λ (r : Option (List ℕ)). block_at r blocks) (sym rooted) ∙ sym of.first_is ∙ first in
    tree_of_roots kept.roots blocks link block commit rooted there object o (tree_of_all kept blocks commit.data_root o of linked kind tree)

pub under_ok : {E : Type 0} → (kept : Kept) (blocks : BlockMap) (root link block : List ℕ) (commit : Commit) → IsKeptOf is_node_block blocks kept → AreLinked kept.nodes → root_of kept.roots ≡ Some root → root ≡ link → kept.first ≡ Some block → commit_of block ≡ Ok commit
    → IsNodeLink commit.data_root → (r : Result (Option (List Item)) E) → IfOk r (IsTreeAt kept.nodes commit.data_root) → IfOk r (IsMapUnder kept.roots blocks link)
under_ok kept blocks root link block commit of linked root_is same first object kind (Ok o) tree = under kept blocks root link block commit of linked root_is same first object kind o tree
under_ok kept blocks root link block commit of linked root_is same first object kind (Err e) tree = tt

-- ---- the bytes of a repository

pair_is : (x y : List (List ℕ) × BlockMap) → ◌≡◌ {A = CarResult} (Ok x) (Ok y) → x ≡ y
pair_is x y e = cc

pub map_of_bytes : (bytes link : List ℕ) (roots : List (List ℕ)) (blocks : BlockMap) (o : Option (List Item)) → length bytes ≤ MOST_REPOSITORY_BYTES → car_of bytes ≡ Ok (roots, blocks) → IsMapUnder roots blocks link o → IsMapOf bytes link o
map_of_bytes bytes link roots blocks (Some F) short car u =
    record {
      short = short;
      holds = record { roots = roots; blocks = blocks; link = link; block = u.block; commit = u.commit; car = car; root = u.root; there = u.there; object = u.object };
      commit = refl;
      view = u.view;
      whole = u.whole;
    }
map_of_bytes bytes link roots blocks None short car none = λ F h.
    let x = h.holds in
    let P : List (List ℕ) × BlockMap → Type 0 = λ p. HasMapUnder p.0 p.1 x.link F in
    let Q : List ℕ → Type 0 = λ c. HasMapUnder roots blocks c F in
    none F (subst Q h.commit (subst P (pair_is (x.roots, x.blocks) (roots, blocks) (sym x.car ∙ car))
    (record { block = x.block; commit = x.commit; root = x.root; there = x.there; object = x.object; view = h.view; whole = h.whole })))

opened_bytes : (o : Option (List ℕ)) (bytes left : List ℕ) → o ≡ Some bytes → IsOpened o true left → left ≡ bytes
opened_bytes None bytes left is h = absurd cc
opened_bytes (Some b) bytes left is h = h.1 ∙ some_is b bytes is

pub none_answers : (repositories : Repositories) (sync : SyncEvent) (link left : List ℕ) → root_in (car_of sync.blocks) ≡ Some link → IsOpened (repositories sync.did) true left → ((F : List Item) → HasMap left link F → ⊥)
    → (t : List Item) → Answers repositories sync t → ⊥
none_answers repositories sync link left stated opened none t a =
    let bytes = opened_bytes (repositories sync.did) a.bytes left a.has opened in
    let named = some_is a.link link (sym a.states ∙ stated) in
    let P : List ℕ → Type 0 = λ b. HasMap b link t in
    let Q : List ℕ → Type 0 = λ c. HasMap a.bytes c t in
    none t (subst P (sym bytes) (subst Q named a.map))
