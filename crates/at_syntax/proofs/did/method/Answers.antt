use Rattle.std.proofs.Common.{◌∙◌, ap}
use Rattle.std.specs.List.{before_first}
use Rattle.at_syntax.specs.Did.{is_colon}
use Rattle.at_syntax.proofs.Dids.{colon_there, second_there, method_named}
use Rattle.at_syntax.proofs.did.method.Goals as goal

pub unreachable-requires : goal.unreachable-requires
unreachable-requires c = colon_there c.args.did.now c.requires c.in_default.ensures

pub unreachable-requires-in_default-around_colon : goal.unreachable-requires-in_default-around_colon
unreachable-requires-in_default-around_colon c = second_there c.args.did.now c.in-Some.rest.now (c.in-Some.ensures).1 c.requires c.in_default-around_colon.ensures

pub returns-clause-part : goal.returns-clause-part
returns-clause-part c = λ named. (c.in-Some-around_colon.ensures).0 ∙ ap (before_first is_colon) (c.in-Some.ensures).1 ∙ method_named c.args.did.now named
