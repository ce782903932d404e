-- What is left of a host behind the name or the number of this machine.
use Rattle.std.proofs.Common.{◌≡◌, ◌++◌, ◌∙◌, ap, sym, ℕ, List, codes, inl, inr}
use Rattle.std.specs.Str.Pattern.{StripsPrefix, FindsTextPrefix}
use Rattle.ws_edge.specs.Handshakes.{IsHere}

stripped : (front text rest : List ℕ) → StripsPrefix (FindsTextPrefix front) text rest → text ≡ front ++ rest
stripped front text rest h = h.1.1 ∙ ap (λ l. front ++ l) (sym h.2)

pub by_name : (host port : List ℕ) → StripsPrefix (FindsTextPrefix (codes "localhost:")) host port → IsHere host port
by_name host port h = inl (stripped (codes "localhost:") host port h)

pub by_number : (host port : List ℕ) → StripsPrefix (FindsTextPrefix (codes "127.0.0.1:")) host port → IsHere host port
by_number host port h = inr (stripped (codes "127.0.0.1:") host port h)
