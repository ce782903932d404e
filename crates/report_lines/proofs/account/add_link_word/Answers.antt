use Rattle.std.proofs.Common.{codes}
use Rattle.std.proofs.lemmas.Result.{on_ok_weaker}
use Rattle.at_cid.specs.Text.{text_of}
use Rattle.report_lines.proofs.Joining.{joined}
use Rattle.report_lines.proofs.account.add_link_word.Goals as goal

pub returns : goal.returns
returns c = on_ok_weaker c.add_link.result (joined c.args.line.now c.extend.new.self c.add_link.new.line (codes " ") (text_of c.args.link.now) c.in_ok-extend.ensures.ok) c.add_link.ensures
