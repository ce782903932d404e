-- What is replied to a request over HTTP (RFC 9112) by the rows of a journal: the AT Protocol's
-- XRPC, and a profile of our own.
use Rattle.std.specs.Prelude.{◌≡◌, ℕ, ◌&&◌, nat_le, List, [], ◌∷◌, ◌++◌, length, filter, Option, Some, None, codes, decimal, if◌then◌else◌}
use Rattle.std.specs.Str.{bytes_eq}
use Rattle.serde_json.specs.Data.{Data, string}
use Rattle.httparse.specs.Grammar.{RequestHead}
use Rattle.form_urlencoded.specs.Form.{raw_pairs}
use Rattle.json_text.specs.Texts.{json_text}
use Rattle.json_text.specs.Values.{object_with}
use Rattle.web_request.specs.Requests.{BeginsWith, BeginsWithNone, first_named, decimal_in, path_of, query_of}
use Rattle.at_syntax.specs.Did.{is_did}
use Rattle.relay_row.specs.declared.row.Row.{Row}
use Rattle.account_state.specs.Dids.{named_account, accounts}
use Rattle.account_state.specs.Entries.{is_before}
use Rattle.account_state.specs.State.{State}
use Rattle.account_state.specs.declared.repo.Repo.{Repo}
use Rattle.relay_query.specs.Accounts.{Named, is_available, is_repo_good, status_name}
use Rattle.relay_query.specs.Bodies.{commit_value, page_value, status_value}

-- A reply is its status code with the reason phrase, and its body.
abbrev pub ok : Data → List ℕ × Data
ok value = (codes "200 OK", value)

abbrev pub error_value : List ℕ → Data
error_value name = object_with ((codes "error", string name) ∷ [])

-- an error of this name
abbrev pub bad_request : List ℕ → List ℕ × Data
bad_request name = (codes "400 Bad Request", error_value name)

abbrev pub not_found : List ℕ × Data
not_found = (codes "404 Not Found", error_value (codes "NotFound"))

abbrev pub invalid_request : List ℕ × Data
invalid_request = bad_request (codes "InvalidRequest")

abbrev pub repo_not_found : List ℕ × Data
repo_not_found = bad_request (codes "RepoNotFound")

-- ---- the list of accounts

-- how many accounts a page has at most: from 1 to 1,000
abbrev pub limit_of : Option ℕ → Option ℕ
limit_of None = None
limit_of (Some n) = if nat_le 1 n && nat_le n 1000 then Some n else None

-- in at most four digits; 500 where the parameter is absent
abbrev pub limit_in : Option (List ℕ) → Option ℕ
limit_in None = Some 500
limit_in (Some text) = limit_of (decimal_in 4 text)

-- the DID behind which a page begins: the empty text, which stands before each DID, where the
-- parameter is absent
abbrev pub cursor_param : Option (List ℕ) → Option (List ℕ)
cursor_param None = Some []
cursor_param (Some text) = if is_did text then Some text else None

-- the accounts behind a DID whose repository is known
abbrev pub listed : List ℕ → List Named → List Named
listed cursor accounts = filter (λ a. is_repo_good a.1.repo && is_before cursor a.0) accounts

abbrev pub page_reply : List Named → Option ℕ → Option (List ℕ) → List ℕ × Data
page_reply accounts None cursor = invalid_request
page_reply accounts (Some limit) None = invalid_request
page_reply accounts (Some limit) (Some cursor) = ok (page_value limit (listed cursor accounts))

-- ---- one account

abbrev pub status_reply : List ℕ → Option State → List ℕ × Data
status_reply did None = repo_not_found
status_reply did (Some a) = ok (status_value did a)

-- the name of the error where an account of this status isn't available
abbrev pub error_of : Option (List ℕ) → List ℕ
error_of None = codes "RepoNotFound"
error_of (Some status) =
    if bytes_eq status (codes "takendown") then codes "RepoTakendown"
    else (if bytes_eq status (codes "suspended") then codes "RepoSuspended"
    else (if bytes_eq status (codes "deactivated") then codes "RepoDeactivated"
    else codes "RepoNotFound"))

abbrev pub latest_commit_reply : Repo → List ℕ × Data
latest_commit_reply Repo.Missing = repo_not_found
latest_commit_reply (Repo.Good head) = ok (commit_value head)
latest_commit_reply (Repo.Lost rev) = repo_not_found

abbrev pub commit_reply : Option State → List ℕ × Data
commit_reply None = repo_not_found
commit_reply (Some a) =
    if is_available a then latest_commit_reply a.repo else bad_request (error_of (status_name a))

-- the DID of the parameter, where it is one
abbrev pub did_param : Option (List ℕ) → Option (List ℕ)
did_param None = None
did_param (Some text) = if is_did text then Some text else None

abbrev pub about : (List ℕ → List ℕ × Data) → Option (List ℕ) → List ℕ × Data
about reply None = invalid_request
about reply (Some did) = reply did

-- ---- a request

-- the reply to a query at a path, of pairs that are still encoded
abbrev pub reply_at : List Row → List ℕ → List (List ℕ × List ℕ) → List ℕ × Data
reply_at rows path pairs =
    if bytes_eq path (codes "/xrpc/com.atproto.sync.listRepos")
    then page_reply (accounts rows)
    (limit_in (first_named (codes "limit") pairs))
    (cursor_param (first_named (codes "cursor") pairs))
    else (if bytes_eq path (codes "/xrpc/com.atproto.sync.getRepoStatus")
    then about (λ did. status_reply did (named_account rows did))
    (did_param (first_named (codes "did") pairs))
    else (if bytes_eq path (codes "/xrpc/com.atproto.sync.getLatestCommit")
    then about (λ did. commit_reply (named_account rows did))
    (did_param (first_named (codes "did") pairs))
    else not_found))

-- the reply to a method and a target
abbrev pub reply_to : List Row → List ℕ → List ℕ → List ℕ × Data
reply_to rows method target =
    if bytes_eq method (codes "GET")
    then reply_at rows (path_of target) (raw_pairs (query_of target)) else invalid_request

-- the head of a reply whose body has so many bytes
abbrev pub head_text : List ℕ → ℕ → List ℕ
head_text code size =
    codes "HTTP/1.1 " ++ (code
    ++ (codes "\r\nContent-Type: application/json\r\nContent-Length: " ++ (decimal size
    ++ codes "\r\nConnection: close\r\n\r\n")))

-- the bytes of a reply: its head, and the JSON text of its body
abbrev pub reply_text : List ℕ × Data → List ℕ
reply_text (code, body) = head_text code (length (json_text body)) ++ json_text body

-- The reply to a request: by the head that it begins with, of at most 64 header fields, or that of
-- a request that begins with none.
pub record IsReplyTo (rows : List Row) (request reply : List ℕ) : Type 0 where
  pub read : (head : RequestHead) → BeginsWith 64 request head
      → reply ≡ reply_text (reply_to rows head.method head.target)
  pub unread : BeginsWithNone 64 request → reply ≡ reply_text invalid_request
