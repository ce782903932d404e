use Rattle.std.proofs.Common.{◌++◌, [], codes, map, length, sym, ap, ◌∙◌}
use Rattle.std.proofs.lemmas.Result.{on_ok_weaker}
use Rattle.at_cbor.specs.declared.major.Major.{Major}
use Rattle.at_cbor.specs.Item.{items_of}
use Rattle.at_cbor.specs.Encoding.{front_of, items_encoding, text_encoding}
use Rattle.relay_gen.specs.Messages.{op_item}
use Rattle.relay_gen.specs.Records.{op_of}
use Rattle.relay_gen.proofs.Counts.{joined, ops_counted}
use Rattle.relay_gen.proofs.messages.write_ops.Goals as goal

pub returns : goal.returns
returns c =
    let cs = c.args.changes.now in let items = items_encoding (items_of (map op_item (map op_of cs))) in let out = c.args.out.now in
    on_ok_weaker c.write_each.result (λ e. e
    ∙ ap (λ x. x ++ items) (c.in_ok-write_list_front.ensures.written ∙ ap (λ x. x ++ front_of Major.List (length cs)) c.in_ok-write_text.ensures.written)
    ∙ joined out (text_encoding (codes "ops")) (front_of Major.List (length cs)) items
    ∙ ap (λ n. out ++ (text_encoding (codes "ops") ++ ((front_of Major.List n ++ items) ++ []))) (sym (ops_counted cs))) c.write_each.ensures
