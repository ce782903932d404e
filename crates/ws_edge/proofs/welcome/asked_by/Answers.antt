use Rattle.ws_edge.proofs.welcome.asked_by.Goals as goal

pub returns : goal.returns
returns c = record { asked = (c.in-Some.found, c.request_in.new.fields, c.in_ok-accept.accept, rw c.in-Some.is at c.in_ok-found.ensures.stands, c.in_ok-accept.ensures.accepted, c.in_ok-target.ensures.target, c.in_ok-answer.ensures.answer, c.in_ok-behind.ensures) }
