-- Each chain of a sound journal replays from its base.
use Rattle.std.proofs.Common.{◌≡◌, ℕ, List, [], ◌∷◌}
use Rattle.mst_list.specs.declared.item.Item.{Item}
use Rattle.mst_list.specs.Lists.{IsMap}
use Rattle.mst_node.specs.Trees.{root}
use Rattle.at_car.specs.Blocks.{BlockMap}
use Rattle.std.proofs.Common.{Ok, ap, sym, ◌∙◌, subst}
use Rattle.at_event.specs.declared.event.CommitEvent.{CommitEvent}
use Rattle.event_checks.specs.Opening.{CarResult}
use Rattle.commit_check.specs.Step.{edits_of, ReplaysBy}
use Rattle.relay_law.specs.Chains.{Chain, chains}
use Rattle.relay_law.specs.Laws.{SoundReplays}
use Rattle.relay_law.specs.Sound.{HasBlocks, IsLinked, AreLinked, Replays, AllReplay}

pair_is : (x y : List (List ℕ) × BlockMap) → ◌≡◌ {A = CarResult} (Ok x) (Ok y) → x ≡ y
pair_is x y e = cc

-- an event has the blocks of one CAR alone
one_car : (c : CommitEvent) (b d : BlockMap) → HasBlocks c b → HasBlocks c d → b ≡ d
one_car c b d one other = ap (λ (x : List (List ℕ) × BlockMap). x.1) (pair_is (one.roots, b) (other.roots, d) (sym one.car ∙ other.car))

-- the one-step form gives the replay from the base
chain_replays : (r : List ℕ) (cs : List (List ℕ × List ℕ)) → IsLinked r cs → (s : List Item) → IsMap s → root s ≡ r → Replays s cs
chain_replays r [] h s map_s rooted = tt
chain_replays r (c ∷ cs) h s map_s rooted =
    let f = h.0 in (
      f.commit,
      f.is,
      λ blocks has apart.
          let P : BlockMap → Type 0 = λ b. ReplaysBy (edits_of f.commit) b r c.1 in
          let went = subst P (one_car f.commit f.goes.blocks blocks f.goes.has has) f.goes.replays s map_s rooted apart in
          (went.0, record { is_map = went.1; plays = went.2; rooted = went.3 }, chain_replays c.1 cs h.1 went.0 went.1 went.3),
    )

all_replay : (cs : List Chain) → AreLinked cs → AllReplay cs
all_replay [] h = tt
all_replay (c ∷ cs) h = (λ s map_s rooted. chain_replays c.0 c.1 h.0 s map_s rooted, all_replay cs h.1)

pub sound_replays : SoundReplays
sound_replays rows sound did = all_replay (chains did rows) (sound did)
