-- What contracts see of a reply, and of the accounts of the relay's state.
use Rattle.std.specs.Prelude.{ℕ, Bool, false, List, Option, Some, None}
use Rattle.serde_json.specs.Data.{Data}
use Rattle.serde_json.specs.View.{view}
use Rattle.account_state.specs.Entries.{entry}
use Rattle.account_state.specs.State.{State}
use Rattle.relay_core.specs.declared.journal_state.Core.{Core}
use Rattle.relay_query.specs.Accounts.{is_repo_good}
use Rattle.relay_query.specs.declared.reply.Reply.{Reply}

abbrev pub seen : Reply → List ℕ × Data
seen reply = (reply.code.now, view reply.body)

abbrev pub is_listed : Option State → Bool
is_listed None = false
is_listed (Some a) = is_repo_good a.repo

-- the repository of a DID is known
abbrev pub has_good : Core → List ℕ → Bool
has_good core did = is_listed (entry core.accounts did)
