use Rattle.std.proofs.Common.{◌++◌, sym, ap, ◌∙◌, codes}
use Rattle.at_cid.specs.Text.{text_of}
use Rattle.relay_core.specs.Report.{detail_of}
use Rattle.report_lines.proofs.Joining.{joined}
use Rattle.report_lines.proofs.pieces.add_detail.Goals as goal

pub returns-in_ok-add_link-in-BadNode : goal.returns-in_ok-add_link-in-BadNode
returns-in_ok-add_link-in-BadNode c =
    joined c.args.line.now c.extend.new.self c.add_link.new.line (codes " at ") (text_of c.in-BadNode.link) c.in_ok-extend-in-BadNode.ensures.ok c.in_ok-add_link-in-BadNode.ensures
    ∙ sym (ap (λ refusal. c.args.line.now ++ detail_of refusal) c.in-BadNode.is)

pub returns-in_ok-add_link-in-OtherData-2 : goal.returns-in_ok-add_link-in-OtherData-2
returns-in_ok-add_link-in-OtherData-2 c =
    let old = c.args.line.now in
    let first = c.extend-in-OtherData.new.self in
    let second = c.add_link-in-OtherData.new.line in
    let third = c.extend-in-OtherData-2.new.self in
    let new = c.add_link-in-OtherData-2.new.line in
    let want = text_of c.in-OtherData.want in
    let got = text_of c.in-OtherData.got in
    joined old first new (codes " want ") (want ++ (codes " got " ++ got)) c.in_ok-extend-in-OtherData.ensures.ok
    (joined first second new want (codes " got " ++ got) c.in_ok-add_link-in-OtherData.ensures
    (joined second third new (codes " got ") got c.in_ok-extend-in-OtherData-2.ensures.ok c.in_ok-add_link-in-OtherData-2.ensures))
    ∙ sym (ap (λ refusal. old ++ detail_of refusal) c.in-OtherData.is)
