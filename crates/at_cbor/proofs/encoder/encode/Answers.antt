use Rattle.std.proofs.Common.{◌++◌, ◌∙◌, ap}
use Rattle.at_cbor.specs.Encoding.{encoding}
use Rattle.at_cbor.specs.View.{item_of}
use Rattle.at_cbor.proofs.Decoded.{encoded_again}
use Rattle.at_cbor.proofs.encoder.encode.Goals as goal

pub returns-clause-again : goal.returns-clause-again
returns-clause-again c = λ rest.
    let written = c.in_ok-write_value.ensures.written ∙ ap (λ l. l ++ encoding (item_of c.args.value.now)) c.new-out.ensures in
    encoded_again (item_of c.args.value.now) c.write_value.new.out rest (c.in_ok-write_value.ensures.spellable 64 c.requires) written
