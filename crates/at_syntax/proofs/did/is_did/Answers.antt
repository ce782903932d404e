use Rattle.std.proofs.Common.{◌∙◌, ap, arith, sym, true}
use Rattle.std.proofs.lemmas.Bool.{le-leb}
use Rattle.at_syntax.specs.Did.{is_did}
use Rattle.at_syntax.proofs.Dids.{did_by, no_method, no_scheme}
use Rattle.at_syntax.proofs.did.is_did.Goals as goal

pub returns-in_default : goal.returns-in_default
returns-in_default c = sym (ap is_did (sym c.as_bytes.ensures.value) ∙ no_scheme c.as_bytes.result.now c.in_default.ensures)

pub returns-in_default-parts_of : goal.returns-in_default-parts_of
returns-in_default-parts_of c = sym (ap is_did (sym c.as_bytes.ensures.value) ∙ no_method c.as_bytes.result.now c.in-Some.rest.now c.in-Some.ensures c.in_default-parts_of.ensures)

pub returns-then-is_method : goal.returns-then-is_method
returns-then-is_method c =
    sym (did_by c.args.text.now c.in-Some.rest.now c.in-Some-parts_of.method.now c.in-Some-parts_of.identifier.now true true c.is_identifier.result (sym c.as_bytes.ensures.value ∙ c.in-Some.ensures)
    c.in-Some-parts_of.ensures.0 c.in-Some-parts_of.ensures.1 (sym (le-leb _ _ (omega (arith, c.if-text-gt-LONGEST_DID.false)))) (sym c.if-is_method.true ∙ c.is_method.ensures) c.is_identifier.ensures)
