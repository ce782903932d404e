-- The map of a whole repository. (Repository specification: a CAR whose first root is the commit,
-- with each node of its tree.)
use Rattle.std.specs.Prelude.{◌≡◌, ◌≤◌, ℕ, List, length, Option, Some}
use Rattle.at_car.specs.Car.{car_of}
use Rattle.at_event.specs.declared.event.SyncEvent.{SyncEvent}
use Rattle.event_checks.specs.Opening.{root_in}
use Rattle.mst_list.specs.declared.item.Item.{Item}
use Rattle.mst_list.specs.Lists.{KeysOnly}
use Rattle.mst_node.specs.Trees.{IsView}
use Rattle.repo_sync.specs.Repository.{HoldsRepository}
use Rattle.repo_sync.specs.declared.limits.TheConstants.{MOST_REPOSITORY_BYTES}

-- the repository of each DID, where there is one
abbrev pub Repositories : Type 0
Repositories = List ℕ → Option (List ℕ)

-- The bytes are a repository with this commit as first root, and its tree is whole: a view without
-- holes, which is this map.
pub record HasMap (bytes link : List ℕ) (F : List Item) : Type 0 where
  pub short : length bytes ≤ MOST_REPOSITORY_BYTES
  pub holds : HoldsRepository bytes
  pub commit : holds.link ≡ link
  pub view : IsView holds.blocks holds.commit.data_root F
  pub whole : KeysOnly F

-- The account of a `#sync` has a repository with the commit that it states, of this map.
pub record Answers (repositories : Repositories) (sync : SyncEvent) (F : List Item) : Type 0 where
  pub bytes : List ℕ
  pub link : List ℕ
  pub has : repositories sync.did ≡ Some bytes
  pub states : root_in (car_of sync.blocks) ≡ Some link
  pub map : HasMap bytes link F
