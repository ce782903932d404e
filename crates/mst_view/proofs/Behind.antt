-- A node's block that is encoded behind other bytes, and hashed in pieces.
use Rattle.std.proofs.Common.{◌≡◌, ℕ, suc, ◌<◌, List, [], ◌∷◌, ◌++◌, length, drop, get_or, refl, sym, ap, subst, ◌∙◌, Option, append_assoc, append-nil, drop-cons}
use Rattle.sha2.specs.declared.Sha256.{Sha256}
use Rattle.sha2.specs.Hashers.{Holds256}
use Rattle.at_cbor.specs.Encoding.{encoding}
use Rattle.mst_node.specs.declared.entry.Entry.{Entry}
use Rattle.mst_node.specs.NodeBytes.{node_bytes, node_front, node_end, entry_item, entries_encoding}
use Rattle.mst_node.proofs.Writes.{node_in_pieces}
use Rattle.mst_view.specs.Layered.{below_link, entries_of}
use Rattle.mst_view.specs.Pieces.{IsInPieces}
use Rattle.mst_view.specs.declared.branch.Part.{Part}
use Rattle.mst_view.proofs.Pieces.{encoded_behind}

-- what is encoded so far, in pieces, and the rest make it all
pub record IsEncodedOn (before : List ℕ) (hash : Sha256) (room rest all : List ℕ) : Type 0 where
  pub bytes : List ℕ
  pub pieces : IsInPieces before hash room bytes
  pub whole : bytes ++ rest ≡ all

-- the hasher has nothing, and the front of the block lies in the room
pub encoding_begun : {before : List ℕ} {hash : Sha256} (room front rest : List ℕ) → Holds256 hash [] → room ≡ before ++ front → IsEncodedOn before hash room rest (front ++ rest)
encoding_begun room front rest holds lies = record {
  bytes = front;
  pieces = record { given = []; lying = front; holds = holds; lies = lies; whole = refl };
  whole = refl;
}

-- one step: some more is encoded, and a piece may be given to the hasher
pub encoded_on : {before : List ℕ} {hash : Sha256} {room all : List ℕ} (more rest : List ℕ) (next : Sha256) (new cut : List ℕ) → new ≡ room ++ more
    → ((bytes : List ℕ) → IsInPieces before hash new bytes → IsInPieces before next cut bytes)
    → IsEncodedOn before hash room (more ++ rest) all → IsEncodedOn before next cut rest all
encoded_on more rest next new cut is gives s = record {
  bytes = s.bytes ++ more;
  pieces = gives (s.bytes ++ more) (encoded_behind new more is s.pieces);
  whole = append_assoc s.bytes more rest ∙ s.whole;
}

-- behind all entries and the end of the block, it is all of the block
pub encoding_ended : {before : List ℕ} {hash : Sha256} {room : List ℕ} (left : Option (List ℕ)) (es : List Entry) (new : List ℕ) → new ≡ room ++ node_end left
    → IsEncodedOn before hash room [] (node_front (length es) ++ entries_encoding [] es) → IsInPieces before hash new (node_bytes left es)
encoding_ended {before = before} {hash = hash} left es new is s =
    let all : s.bytes ++ node_end left ≡ node_bytes left es =
    ap (λ (b : List ℕ). b ++ node_end left) (sym (append-nil s.bytes) ∙ s.whole)
    ∙ append_assoc (node_front (length es)) (entries_encoding [] es) (node_end left) ∙ node_in_pieces left es in
    subst (IsInPieces before hash new) all (encoded_behind new (node_end left) is s.pieces)

-- the entry of a part that stands next, and those behind it
pub next_entry : (last : List ℕ) (parts : List Part) (i : ℕ) (p : Part) → i < length parts → p ≡ get_or parts i p
    → entries_encoding last (entries_of (drop i parts)) ≡ encoding (entry_item last (record { key = p.key; value = p.value; right = below_link p.below })) ++ entries_encoding p.key (entries_of (drop (suc i) parts))
next_entry last parts i p low at =
    ap (λ (x : List Part). entries_encoding last (entries_of x)) (drop-cons parts i p low ∙ ap (λ (x : Part). x ∷ drop (suc i) parts) (sym at))

pub entries_counted : (parts : List Part) → length (entries_of parts) ≡ length parts
entries_counted [] = refl
entries_counted (p ∷ parts) = ap suc (entries_counted parts)
