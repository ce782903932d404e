use Rattle.mst_list.proofs.Formed.{formed_more}
use Rattle.mst_list.proofs.item_list.ItemList.push.Goals as goal

pub invariant_of-self-2 : goal.invariant_of-self-2
invariant_of-self-2 c = formed_more c.self.inside.items.items c.push.new.self.items c.args.item c.in_ok-push.ensures.items c.self.invariant c.requires
