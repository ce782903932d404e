use Rattle.std.proofs.Common.{rules, ◌∙◌, sym}
use Rattle.at_car.specs.Sections.{section_in, section_at}
use Rattle.at_car.proofs.Sections.{section_good, section_bad}
use Rattle.at_car.proofs.section.read_section.Goals as goal

pub returns-in_default-parse_binary-clause-is : goal.returns-in_default-parse_binary-clause-is
unfolding section_at section_in
returns-in_default-parse_binary-clause-is c = search rules

pub returns-then-is_of-clause-is : goal.returns-then-is_of-clause-is
unfolding section_at
returns-then-is_of-clause-is c =
    let good = section_good c.args.place c.split_at.result.0.now c.in-Some-parse_binary.link c.split_at-2.result.1.now c.is_of.result (sym c.in-Some-parse_binary.is ∙ c.parse_binary.ensures) c.split_at-2.ensures.back c.is_of.ensures c.if-is_of.true in
    search rules

pub returns-else-is_of-clause-is : goal.returns-else-is_of-clause-is
unfolding section_at
returns-else-is_of-clause-is c =
    let bad = section_bad c.args.place c.split_at.result.0.now c.in-Some-parse_binary.link c.split_at-2.result.1.now c.is_of.result (sym c.in-Some-parse_binary.is ∙ c.parse_binary.ensures) c.split_at-2.ensures.back c.is_of.ensures c.if-is_of.false in
    search rules
