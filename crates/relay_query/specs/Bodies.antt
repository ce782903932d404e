-- The bodies of replies: the Lexicons `com.atproto.sync.listRepos`, `getRepoStatus` and
-- `getLatestCommit`.
use Rattle.std.specs.Prelude.{ℕ, nat_lt, List, [], ◌∷◌, ◌++◌, length, take, map, Option, Some, None, codes, if◌then◌else◌}
use Rattle.serde_json.specs.Data.{Data, boolean, string}
use Rattle.json_text.specs.Values.{Member, array_of, object_with}
use Rattle.at_cid.specs.Text.{text_of}
use Rattle.at_syntax.specs.Tid.{digits_of}
use Rattle.at_event.specs.declared.head.Head.{Head}
use Rattle.account_state.specs.State.{State}
use Rattle.relay_query.specs.Accounts.{Named, is_available, link_of, rev_of, status_name}

-- a member, where there is a text for it
abbrev pub text_member : List ℕ → Option (List ℕ) → List Member
text_member name None = []
text_member name (Some text) = (name, string text) ∷ []

-- an account in the list
abbrev pub repo_value : Named → Data
repo_value (did, a) = object_with (
    (codes "active", boolean (is_available a)) ∷ (codes "did", string did)
    ∷ (text_member (codes "head") (link_of a.repo)
    ++ (text_member (codes "rev") (rev_of a.repo) ++ text_member (codes "status") (status_name a)))
    )

-- the status of an account
abbrev pub status_value : List ℕ → State → Data
status_value did a = object_with (
    (codes "active", boolean (is_available a)) ∷ (codes "did", string did)
    ∷ (text_member (codes "rev") (rev_of a.repo) ++ text_member (codes "status") (status_name a))
    )

-- the newest commit of a repository
abbrev pub commit_value : Head → Data
commit_value head = object_with (
    (codes "cid", string (text_of head.commit)) ∷ (codes "rev", string (digits_of head.rev)) ∷ []
    )

-- the last DID of these
abbrev pub last_did : List Named → Option (List ℕ)
last_did [] = None
last_did (a ∷ []) = Some a.0
last_did (a ∷ b ∷ others) = last_did (b ∷ others)

-- the cursor of a page of the first so many accounts: its last DID, where more follow
abbrev pub next_cursor : ℕ → List Named → Option (List ℕ)
next_cursor limit accounts =
    if nat_lt limit (length accounts) then last_did (take limit accounts) else None

-- the page of the first so many of these accounts
abbrev pub page_value : ℕ → List Named → Data
page_value limit accounts = object_with (
    text_member (codes "cursor") (next_cursor limit accounts)
    ++ (codes "repos", array_of (map repo_value (take limit accounts))) ∷ []
    )
