-- What is replied, by the relay's state and by the journal that it stands for.
use Rattle.std.proofs.Common.{◌≡◌, ℕ, List, Option, Some, None, refl, ap, ◌∙◌}
use Rattle.serde_json.specs.Data.{Data}
use Rattle.httparse.specs.Grammar.{RequestHead}
use Rattle.httparse.proofs.GrammarLemmas.{request_unique}
use Rattle.web_request.specs.Requests.{BeginsWith, BeginsWithNone}
use Rattle.relay_row.specs.declared.row.Row.{Row}
use Rattle.relay_query.specs.Replies.{IsReplyTo, about, invalid_request, reply_text, reply_to}

-- a request begins with one head at most
pub same_head : (most : ℕ) (request : List ℕ) (one other : RequestHead) → BeginsWith most request one → BeginsWith most request other → one ≡ other
same_head most request one other (rest, reads, few) (more, also, short) = (request_unique request one other rest more reads also).0

pub about_same : (f g : List ℕ → List ℕ × Data) (o : Option (List ℕ)) → ((did : List ℕ) → f did ≡ g did) → about f o ≡ about g o
about_same f g None same = refl
about_same f g (Some did) same = same did

-- the reply to the head that a request begins with
pub answer_of : (rows : List Row) (request : List ℕ) (head : RequestHead) (method target : List ℕ) (reply : List ℕ × Data) → BeginsWith 64 request head → method ≡ head.method → target ≡ head.target
    → reply ≡ reply_to rows method target → IsReplyTo rows request (reply_text reply)
answer_of rows request head method target reply begins m t is = record {
  read = λ other also.
      let same : head ≡ other = same_head 64 request head other begins also in
      ap reply_text (is ∙ ap (λ (x : List ℕ). reply_to rows x target) m ∙ ap (λ (x : List ℕ). reply_to rows head.method x) t ∙ ap (λ (h : RequestHead). reply_to rows h.method h.target) same);
  unread = λ none. absurd (none head begins);
}

-- the reply to one that begins with none
pub answer_none : (rows : List Row) (request : List ℕ) (reply : List ℕ × Data) → BeginsWithNone 64 request → reply ≡ invalid_request → IsReplyTo rows request (reply_text reply)
answer_none rows request reply none is = record {
  read = λ head begins. absurd (none head begins);
  unread = λ same. ap reply_text is;
}
