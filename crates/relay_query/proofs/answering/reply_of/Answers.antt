use Rattle.std.proofs.lemmas.Result.{IfOk-weaker}
use Rattle.relay_query.proofs.Heads.{answer_none, answer_of}
use Rattle.relay_query.proofs.answering.reply_of.Goals as goal

pub returns-in-Some : goal.returns-in-Some
returns-in-Some c =
    let (head, begins, method, target) = c.in-Some.ensures in
    IfOk-weaker c.reply_to.result _ _ (λ reply is rows holds. answer_of rows c.args.request.now head c.in-Some.line.method.now c.in-Some.line.target.now _ begins method target (is rows holds)) c.reply_to.ensures

pub returns-in-None : goal.returns-in-None
returns-in-None c =
    IfOk-weaker c.bad_request.result _ _ (λ reply is rows holds. answer_none rows c.args.request.now _ c.in-None.ensures is) c.bad_request.ensures
