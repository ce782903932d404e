use Rattle.std.proofs.Common.{ℕ, Bool, List, arith, ap, sym, ◌∙◌}
use Rattle.std.specs.Option.{is_some}
use Rattle.std.specs.Prelude.{◌||◌, map}
use Rattle.indexmap.specs.IndexMap.{get_by_text}
use Rattle.std.proofs.lemmas.Map.Text.{text_keys}
use Rattle.host_state.specs.Folds.{set_cursor}
use Rattle.host_state.specs.Table.{pair, listed}
use Rattle.host_state.proofs.Listed.{Entry, insert_lists, write_lists, write_rooms, key_found}
use Rattle.host_state.proofs.hosts.Hosts.set.Goals as goal

pub returns-in-Some-clause-listed : goal.returns-in-Some-clause-listed
returns-in-Some-clause-listed c = write_lists c.args.host.now c.args.cursor c.args.self.now.map.entries c.in-Some.place (sym c.in-Some.ensures.place)

pub returns-in-Some-clause-room : goal.returns-in-Some-clause-room
returns-in-Some-clause-room c = λ name. ap (λ (b : Bool). b || is_some (get_by_text c.args.self.now.ready name)) (write_rooms c.args.self.now.map c.in-Some.place c.args.cursor name)

pub returns-in-Ok-clause-listed : goal.returns-in-Ok-clause-listed
returns-in-Ok-clause-listed c =
    ap (λ (es : List Entry). map pair es) c.in-Ok.ensures.entries
    ∙ insert_lists c.in-Some-swap_remove_entry.name c.args.cursor c.args.self.now.map.entries
    ∙ ap (λ (text : List ℕ). set_cursor (listed c.args.self.now) text c.args.cursor) (key_found c.args.host.now c.args.self.now.ready.entries c.in-Some-swap_remove_entry.name (sym c.in-Some-swap_remove_entry.ensures.key))

pub returns-in-Ok-clause-room : goal.returns-in-Ok-clause-room
returns-in-Ok-clause-room c =
    let same = key_found c.args.host.now c.args.self.now.ready.entries c.in-Some-swap_remove_entry.name (sym c.in-Some-swap_remove_entry.ensures.key) in
    λ name. grind (arith, text_keys, same)
