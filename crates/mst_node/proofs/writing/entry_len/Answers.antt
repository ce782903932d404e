use Rattle.std.proofs.Common.{◌≡◌, ◌+◌, ◌-◌, min, length, drop, sym, ap, ◌∙◌, arith, length-append, length-drop}
use Rattle.at_cid.proofs.Links.{link_length}
use Rattle.at_cbor.specs.declared.major.Major.{Major}
use Rattle.at_cbor.specs.Item.{Item}
use Rattle.at_cbor.specs.Encoding.{front_of, encoding}
use Rattle.at_cbor.specs.Taking.{link_item}
use Rattle.mst_node.specs.NodeBytes.{shared}
use Rattle.mst_node.specs.Nodes.{lent}
use Rattle.mst_node.proofs.Lengths.{entry_length}
use Rattle.mst_node.proofs.writing.entry_len.Goals as goal

pub returns : goal.returns
returns c =
    let x = lent c.args.entry.now in let last = c.args.last.now in
    let same = c.shared-same.ensures.value in
    let tail = drop (shared last x.key) x.key in
    let left = length-drop (shared last x.key) x.key in
    let bytes = length-append (front_of Major.Bytes (length tail)) tail in
    let count : length x.key - c.shared-same.result ≡ length tail = omega (arith, same, left) in
    let head = ap (λ n. length (front_of Major.Unsigned n)) count in
    let low = ap (λ n. length (front_of Major.Unsigned n)) same in
    let value = link_length x.value c.as_bytes.ensures.link in
    let sum : c.saturating_add-3.result ≡ min (length (encoding (Item.bytes tail)) + (length (front_of Major.Unsigned (shared last x.key)) + (length (encoding (link_item x.right)) + (14 + length x.value)))) 18446744073709551615 =
    omega (arith, c.string_len-tail.ensures, c.front_len.ensures, c.child_len.ensures, c.saturating_add.ensures, c.saturating_add-2.ensures, c.saturating_add-3.ensures) in
    sum ∙ ap (λ n. min n 18446744073709551615) (sym (entry_length last x))
