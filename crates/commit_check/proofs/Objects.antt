-- The `data` of a commit object is a link of kind Node.
use Rattle.std.proofs.Common.{◌≡◌, ℕ, List, Option, Some, None, Result, Ok, Err, refl, sym, ap, subst, ◌∙◌}
use Rattle.at_cid.specs.Link.{IsBytes, IsNodeLink}
use Rattle.at_car.specs.Blocks.{AreLinked, BlockMap}
use Rattle.at_car.specs.Sifting.{block_at}
use Rattle.at_car.specs.Standing.{root_of}
use Rattle.at_commit.specs.Commit.{commit_of}
use Rattle.at_commit.specs.declared.commit.Commit.{Commit}
use Rattle.at_commit.specs.declared.fault.CommitFault.{CommitFault}
use Rattle.at_commit.proofs.Nodes.{data_is_node}
use Rattle.at_event.specs.declared.event.CommitEvent.{CommitEvent}
use Rattle.event_checks.specs.Table.{car_in}
use Rattle.event_checks.specs.Opening.{CarResult, data_in, object_in, object_in_block, read_object}
use Rattle.commit_check.specs.declared.content.Content.{Content}
use Rattle.commit_check.specs.declared.opened.Opened.{Opened}
use Rattle.commit_check.specs.Opening.{IsContent, IsOpened}
use Rattle.commit_check.specs.Order.{HoldsCommit}

object_node : (block : List ℕ) (c : Commit) (r : Result Commit CommitFault) → IsBytes block → commit_of block ≡ r → read_object r ≡ Some c → IsNodeLink c.data_root
object_node block c (Ok d) bytes is e =
    let same : d ≡ c = cc in
    data_is_node block c bytes (is ∙ ap Ok same)
object_node block c (Err f) bytes is e = absurd (cc)

block_node : (m : Option (List ℕ)) (c : Commit) → ((block : List ℕ) → m ≡ Some block → IsBytes block) → object_in_block m ≡ Some c → IsNodeLink c.data_root
block_node None c bytes e = absurd (cc)
block_node (Some block) c bytes e = object_node block c (commit_of block) (bytes block refl) refl e

under_root : (root : Option (List ℕ)) (blocks : BlockMap) → AreLinked blocks → (block : List ℕ) → block_at root blocks ≡ Some block → IsBytes block
under_root None blocks linked block is = absurd (cc)
under_root (Some link) blocks linked block is = (linked link block is).bytes

-- what is opened of an event holds its CAR and its commit object
abbrev pub opened_holds : (e : CommitEvent) (o : Opened) → IsOpened e o → HoldsCommit e
opened_holds e o opened = record { roots = o.car.roots; blocks = o.car.blocks; commit = opened.commit; car = opened.car; object = opened.object }

pub data_held : (e : CommitEvent) (h : HoldsCommit e) → AreLinked h.blocks → IsNodeLink h.commit.data_root
data_held e h linked =
    let P : CarResult → Type 0 = λ car. object_in car ≡ Some h.commit in
    block_node (block_at (root_of h.roots) h.blocks) h.commit (under_root (root_of h.roots) h.blocks linked) (subst P h.car h.object)

pub root_is_node : (e : CommitEvent) (o : Opened) → AreLinked o.car.blocks → IsOpened e o → IsNodeLink o.head.data_root
root_is_node e o linked opened =
    let Q : List ℕ → Type 0 = IsNodeLink in
    subst Q (sym opened.head.data_root) (data_held e (opened_holds e o opened) linked)

-- and so does what is read for a check by itself

pub record IsFrom (object : Option Commit) (root : List ℕ) : Type 0 where
  pub commit : Commit
  pub is : object ≡ Some commit
  pub root_is : root ≡ commit.data_root

pub found : (object : Option Commit) (root : List ℕ) → data_in object ≡ Some root → IsFrom object root
found None root e = absurd cc
found (Some commit) root e = let same : root ≡ commit.data_root = cc in record { commit = commit; is = refl; root_is = same }

abbrev pub content_holds : (e : CommitEvent) (content : Content) → IsContent e content → HoldsCommit e
content_holds e content is =
    let from = found (object_in (car_in e)) content.data_root is.data_root in
    record { roots = content.car.roots; blocks = content.car.blocks; commit = from.commit; car = is.car; object = from.is }

pub content_root : (e : CommitEvent) (content : Content) (is : IsContent e content) → content.data_root ≡ (content_holds e content is).commit.data_root
content_root e content is = (found (object_in (car_in e)) content.data_root is.data_root).root_is

pub content_root_is_node : (e : CommitEvent) (content : Content) → AreLinked content.car.blocks → IsContent e content → IsNodeLink content.data_root
content_root_is_node e content linked is =
    let Q : List ℕ → Type 0 = IsNodeLink in
    subst Q (sym (content_root e content is)) (data_held e (content_holds e content is) linked)
