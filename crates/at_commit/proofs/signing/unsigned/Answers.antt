use Rattle.std.proofs.Common.{ℕ, List, ◌++◌, ◌∙◌, ap}
use Rattle.at_cbor.specs.declared.major.Major.{Major}
use Rattle.at_cbor.specs.Encoding.{front_of}
use Rattle.at_commit.proofs.Unsigned.{unsigned_encoded}
use Rattle.at_commit.proofs.signing.unsigned.Goals as goal

pub returns : goal.returns
returns c =
    unsigned_encoded c.write_map_front.new.out c.write_fields.new.out c.count_signed.result c.as_slice-fields.result.now c.args.fields.now c.as_slice-fields.ensures.value c.count_signed.ensures
    (c.in_ok-write_map_front.ensures.written ∙ ap (λ (l : List ℕ). l ++ front_of Major.Map c.count_signed.result) c.new-out.ensures) c.in_ok-write_fields.ensures
