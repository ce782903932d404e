use Rattle.std.proofs.Common.{arith}
use Rattle.at_cbor.proofs.Decoded.{is_found, is_within, is_only, are_broken}
use Rattle.at_cbor.proofs.Depths.{is_nested}
use Rattle.at_cbor.proofs.decoding.decode.Goals as goal

pub returns-clause-found : goal.returns-clause-found
returns-clause-found c = is_found c.args.bytes.now c.whole.result (λ i. omega (arith, c.type_inv.bytes i)) c.whole.ensures

pub returns-clause-within : goal.returns-clause-within
returns-clause-within c = is_within c.args.bytes.now c.whole.result (λ i. omega (arith, c.type_inv.bytes i)) c.whole.ensures

pub returns-clause-only : goal.returns-clause-only
returns-clause-only c = λ i rest fits e. is_only c.args.bytes.now c.whole.result i rest c.whole.ensures fits e

pub returns-clause-nested : goal.returns-clause-nested
returns-clause-nested c = is_nested c.args.bytes.now c.whole.result (λ i. omega (arith, c.type_inv.bytes i)) c.whole.ensures

pub returns-clause-broken : goal.returns-clause-broken
returns-clause-broken c = are_broken c.args.bytes.now c.whole.result (λ i. omega (arith, c.type_inv.bytes i)) c.whole.ensures
