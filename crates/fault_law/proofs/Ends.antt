-- What ends a list of bytes.
use Rattle.std.proofs.Common.{◌≡◌, ℕ, List, ◌++◌, length, refl, subst}
use Rattle.std.proofs.lemmas.List.{drop_at}
use Rattle.at_cid.specs.Link.{IsBytes}
use Rattle.at_cbor.proofs.Steps.{IsBytes-drop}

pub ends_in_bytes : (bytes front rest : List ℕ) → IsBytes bytes → bytes ≡ front ++ rest → IsBytes rest
ends_in_bytes bytes front rest fits e = subst IsBytes (drop_at front rest (length front) refl) (IsBytes-drop (length front) (front ++ rest) (subst IsBytes e fits))
