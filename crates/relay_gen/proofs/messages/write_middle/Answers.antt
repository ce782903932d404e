use Rattle.std.proofs.Common.{◌++◌, ◌∷◌, [], codes, List, ℕ, ap, ◌∙◌}
use Rattle.std.proofs.lemmas.Result.{on_ok_weaker}
use Rattle.at_cbor.specs.Item.{Item, no_items}
use Rattle.relay_gen.specs.Messages.{since_item}
use Rattle.relay_gen.proofs.Counts.{one, three_more}
use Rattle.relay_gen.proofs.messages.write_middle.Goals as goal

pub returns : goal.returns
returns c =
    let o = c.args.out.now in let s = c.args.stated.now in
    let T : List ℕ × Item = (codes "time", Item.text (codes "2025-01-01T00:00:00Z")) in let L : List ℕ × Item = (codes "blobs", Item.list no_items) in let S : List ℕ × Item = (codes "since", since_item s.past) in let B : List ℕ × Item = (codes "blocks", Item.bytes s.blocks.now) in
    on_ok_weaker c.write_bytes_field.result (λ e. e ∙ ap (λ x. x ++ one B) (c.in_ok-write_since.ensures ∙ ap (λ x. x ++ one S) (c.in_ok-write_blobs.ensures ∙ ap (λ x. x ++ one L) c.in_ok-write_text_field.ensures)) ∙ three_more o T L S (B ∷ [])) c.write_bytes_field.ensures
