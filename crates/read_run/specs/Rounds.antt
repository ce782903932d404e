-- Requests that are answered, and their lines (own): numbers are decimal, and each line ends in a
-- line feed.
use Rattle.std.specs.Prelude.{◌≡◌, ℕ, ◌+◌, Bool, true, false, List, [], ◌∷◌, ◌++◌, take, drop, map, codes, decimal, if◌then◌else◌}
use Rattle.std.specs.List.{AllByRecursion, flat_map}
use Rattle.at_cid.specs.Counts.{Rose}
use Rattle.relay_io.specs.declared.wire.Exchange.{Exchange}
use Rattle.relay_row.specs.declared.row.Row.{Row}
use Rattle.relay_query.specs.Replies.{IsReplyTo}

-- A request that was answered: the reply that was made to it, whether that was sent, and the wire's
-- count of failed sendings after it.
pub record Round : Type 0 where
  pub request : List ℕ
  pub reply : List ℕ
  pub sent : Bool
  pub faults : ℕ

-- each reply is that to its request, by the rows of a journal
abbrev pub AreReplies : List Row → List Round → Type 0
AreReplies J rounds = AllByRecursion (λ r. IsReplyTo J r.request r.reply) rounds

abbrev pub requests_of : List Round → List (List ℕ)
requests_of rounds = map (λ r. r.request) rounds

-- what happened on the wire after the request
abbrev pub sent_of : Bool → List ℕ → List Exchange
sent_of sent reply = if sent then Exchange.Sent reply ∷ [] else []

-- what happened on the wire: each request came, and its reply was sent or wasn't
abbrev pub exchanges_of : List Round → List Exchange
exchanges_of rounds = flat_map (λ r. Exchange.Came r.request ∷ sent_of r.sent r.reply) rounds

-- the count of failed sendings: it rose where the reply wasn't sent, and else it is as before
abbrev pub IsSendCounted : Bool → ℕ → ℕ → Type 0
IsSendCounted true before now = now ≡ before
IsSendCounted false before now = Rose before now

-- it is in each of these rounds, from one to the next
abbrev pub RoundsAreCounted : ℕ → List Round → ℕ → Type 0
RoundsAreCounted before [] now = now ≡ before
RoundsAreCounted before (r ∷ rounds) now =
    IsSendCounted r.sent before r.faults × RoundsAreCounted r.faults rounds now

-- ---- their lines

-- the three digits of the code in the status line of a reply
abbrev pub status_code_in : List ℕ → List ℕ
status_code_in reply = drop 9 (take 12 reply)

-- what is told of a request: the code of its reply, or that it wasn't sent
abbrev pub told_of : Bool → List ℕ → List ℕ
told_of sent reply = if sent then status_code_in reply else codes "failed"

-- the line of the request of this number
abbrev pub request_line : ℕ → List ℕ → List ℕ
request_line number told =
    codes "query " ++ (decimal number ++ (codes " " ++ (told ++ codes "\n")))

-- the lines of requests, numbered from the one after n
abbrev pub round_lines : ℕ → List Round → List ℕ
round_lines n [] = []
round_lines n (r ∷ rounds) =
    request_line (n + 1) (told_of r.sent r.reply) ++ round_lines (n + 1) rounds

-- the last line
abbrev pub queries_end_line : ℕ → List ℕ
queries_end_line count = codes "end " ++ (decimal count ++ codes "\n")
