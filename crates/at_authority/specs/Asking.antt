-- What is asked of a list of authorities.
use Rattle.std.specs.Prelude.{ℕ, Bool, List}
use Rattle.at_authority.specs.declared.question.AuthorityQuestion.{AuthorityQuestion}
use Rattle.at_authority.specs.Queries.{asks_home, asks_verdict}
use Rattle.at_authority.specs.Calls.{Call, answers, refreshes}

-- a question about a DID, with what came of it
abbrev pub call_of : List ℕ → AuthorityQuestion → Bool → Call
call_of did (AuthorityQuestion.Home host) good = answers (asks_home did host.now) good
call_of did (AuthorityQuestion.Verdict digest sig) good =
    answers (asks_verdict did digest.now sig.now) good
call_of did AuthorityQuestion.Refresh good = refreshes did
