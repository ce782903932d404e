use Rattle.std.proofs.Common.{◌≡◌, ◌+◌, min, length, sym, ap, ◌∙◌, arith}
use Rattle.at_cbor.specs.declared.major.Major.{Major}
use Rattle.at_cbor.specs.Encoding.{front_of, encoding}
use Rattle.at_cbor.specs.Taking.{link_item}
use Rattle.mst_node.proofs.Lengths.{bare_length}
use Rattle.mst_node.proofs.writing.bare_len.Goals as goal

pub returns : goal.returns
returns c =
    let sum : c.saturating_add-2.result ≡ min (length (front_of Major.Unsigned c.args.count) + (length (encoding (link_item c.args.left.now)) + 5)) 18446744073709551615 =
    omega (arith, c.front_len.ensures, c.child_len.ensures, c.saturating_add.ensures, c.saturating_add-2.ensures) in
    sum ∙ ap (λ n. min n 18446744073709551615) (sym (bare_length c.args.count c.args.left.now))
