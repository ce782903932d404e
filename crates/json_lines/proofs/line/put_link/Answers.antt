use Rattle.std.proofs.Common.{◌≡◌, List, ℕ, Option, Some, OnOk, subst, sym}
use Rattle.std.specs.Prelude.{option_map}
use Rattle.serde_json.specs.Data.{Data, put}
use Rattle.serde_json.specs.View.{members_view}
use Rattle.json_text.specs.Values.{put_some}
use Rattle.json_lines.specs.Lines.{link_value}
use Rattle.json_lines.proofs.line.put_link.Goals as goal

pub returns-in_ok-link_value-in-Some : goal.returns-in_ok-link_value-in-Some
returns-in_ok-link_value-in-Some c =
    let there : c.args.link.now ≡ Some c.in-Some.link = cc in
    subst (λ (o : Option (List ℕ)). OnOk c.put_value.result (members_view c.put_value.new.members.entries ≡ put_some c.args.name.now (option_map link_value o) (members_view c.args.members.now.entries))) (sym there)
    (subst (λ (d : Data). OnOk c.put_value.result (members_view c.put_value.new.members.entries ≡ put c.args.name.now d (members_view c.args.members.now.entries))) c.in_ok-link_value-in-Some.ensures c.put_value.ensures)
