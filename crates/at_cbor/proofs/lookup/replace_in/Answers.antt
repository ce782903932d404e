use Rattle.std.proofs.Common.{None, Some, map, ap, ◌∙◌, sym}
use Rattle.at_cbor.specs.Item.{fields_of}
use Rattle.at_cbor.specs.Kinds.{value_put}
use Rattle.at_cbor.specs.View.{item_of, pair_of}
use Rattle.at_cbor.proofs.Puts.{is_first, value_there, put_there, keys_stay, not_there}
use Rattle.at_cbor.proofs.lookup.replace_in.Goals as goal

pub returns-in_default-clause-taken : goal.returns-in_default-clause-taken
returns-in_default-clause-taken c = sym (not_there c.args.name.now c.args.value c.args.fields.now c.in_default.ensures.first).0

pub returns-in_default-clause-put : goal.returns-in_default-clause-put
returns-in_default-clause-put c = sym (not_there c.args.name.now c.args.value c.args.fields.now c.in_default.ensures.first).1

pub returns-clause-taken : goal.returns-clause-taken
returns-clause-taken c =
    let first = is_first c.args.name.now c.in-Some.place c.args.fields.now c.in-Some.ensures.first in
    ap (λ v. Some (item_of v)) c.replace.ensures.value ∙ sym (value_there c.args.name.now c.in-Some.place c.args.fields.now c.index-fields-place.result first)

pub returns-clause-put : goal.returns-clause-put
returns-clause-put c =
    let first = is_first c.args.name.now c.in-Some.place c.args.fields.now c.in-Some.ensures.first in
    put_there c.args.name.now c.replace.new.dest c.in-Some.place c.args.fields.now c.index-fields-place.result first
    ∙ ap (λ v. value_put c.args.name.now (item_of v) (fields_of (map pair_of c.args.fields.now))) c.replace.ensures.after

pub returns-clause-ascending : goal.returns-clause-ascending
returns-clause-ascending c = keys_stay None c.replace.new.dest c.in-Some.place c.args.fields.now c.index-fields-place.result
