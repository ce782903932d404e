-- What a node is taken from: its pieces at the front of bytes, each with what stands behind it, or
-- nothing where it doesn't stand in front. (That what is taken is exactly what is encoded is proved
-- in proofs/Encoded.antt.)
use Rattle.std.specs.Prelude.{◌≡◌, ⊤, ℕ, zero, suc, ◌-◌, Bool, true, false, ◌&&◌, nat_lt, nat_le, if◌then◌else◌, List, [], ◌∷◌, ◌++◌, length, take, drop, Option, Some, None, Result, Ok, Err}
use Rattle.at_cbor.specs.declared.major.Major.{Major}
use Rattle.at_cid.specs.Link.{link_at}
use Rattle.at_cid.specs.declared.cid.TheConstants.{LINK_LEN}
use Rattle.at_cbor.specs.Taking.{◌>>=◌, Taking, behind, all_of, linked, number_at, string_at, link_from_front, child_at}
use Rattle.mst_list.specs.declared.item.TheConstants.{MOST_KEY_BYTES}
use Rattle.mst_node.specs.declared.entry.Entry.{Entry}
use Rattle.mst_node.specs.declared.fault.NodeFault.{NodeFault}
use Rattle.mst_node.specs.Nodes.{Node}
use Rattle.mst_node.specs.Reading.{key_before}

-- the parts of an entry: what of its key isn't shared, how much is, the link to the right, and the
-- value
pub record Parts : Type 0 where
  pub tail : List ℕ
  pub count : ℕ
  pub right : Option (List ℕ)
  pub value : List ℕ

abbrev pub parts_of : List ℕ → ℕ → Option (List ℕ) → List ℕ → Parts
parts_of tail count right value = record {
  tail = tail;
  count = count;
  right = right;
  value = value;
}

-- what of an entry's key isn't shared, and how much is
unfoldable pub key_at : List ℕ → Taking (List ℕ × ℕ)
key_at bytes = do
  a ← behind (0xa4 ∷ 0x61 ∷ 0x6b ∷ []) bytes
  k ← string_at a
  b ← behind (0x61 ∷ 0x70 ∷ []) k.1
  p ← number_at Major.Unsigned b
  Some ((k.0, p.0), p.1)

-- the link to the right of an entry
abbrev pub right_at : List ℕ → Taking (Option (List ℕ))
right_at bytes = behind (0x61 ∷ 0x74 ∷ []) bytes >>= child_at

-- the link at the front of some bytes, where there are some
abbrev pub link_of : Option (List ℕ) → Option (List ℕ)
link_of front = front >>= link_at

-- a link at the front, and what stands behind it
abbrev pub link_behind : List ℕ → Taking (List ℕ)
link_behind bytes = linked (link_at bytes) (drop LINK_LEN bytes)

-- the same, with what stands behind it
abbrev pub value_in : Option (List ℕ) → Taking (List ℕ)
value_in front = front >>= link_behind

-- the value of an entry, its last field
abbrev pub value_at : List ℕ → Taking (List ℕ)
value_at bytes = behind (0x61 ∷ 0x76 ∷ []) bytes >>= link_from_front

unfoldable pub parts_at : List ℕ → Taking Parts
parts_at bytes = do
  k ← key_at bytes
  t ← right_at k.1
  v ← value_at t.1
  Some (parts_of k.0.0 k.0.1 t.0 v.0, v.1)

-- a key goes on where the other ends, or its first byte that isn't shared is greater
abbrev pub goes_above : List ℕ → List ℕ → Bool
goes_above other [] = false
goes_above [] (y ∷ tail) = true
goes_above (x ∷ other) (y ∷ tail) = nat_lt x y

-- behind the key `last`, so many of its bytes and these others are a key above it, and no more of
-- its bytes are shared
abbrev pub may_follow : List ℕ → ℕ → List ℕ → Bool
may_follow last count tail = nat_le count (length last) && (nat_le (length tail) MOST_KEY_BYTES
    && (nat_le count (MOST_KEY_BYTES - length tail) && goes_above (drop count last) tail))

abbrev pub entry_made : List ℕ → Parts → Entry
entry_made last p = record { key = take p.count last ++ p.tail; value = p.value; right = p.right }

-- the entry behind the key `last`
unfoldable pub entry_at : List ℕ → List ℕ → Taking Entry
entry_at last bytes = parts_at bytes >>= λ p. if may_follow last p.0.count p.0.tail
    then Some (entry_made last p.0, p.1) else None

-- these entries, and the one behind them
abbrev pub next_at : List Entry → List ℕ → Taking (List Entry)
next_at entries bytes = entry_at (key_before [] entries) bytes
    >>= λ x. Some (entries ++ x.0 ∷ [], x.1)

-- so many entries behind the key `last`
unfoldable pub entries_at : ℕ → List ℕ → List ℕ → Taking (List Entry)
entries_at zero last bytes = Some ([], bytes)
entries_at (suc n) last bytes = do
  e ← entry_at last bytes
  es ← entries_at n e.0.key e.1
  Some (e.0 ∷ es.0, es.1)

-- how many entries the node has, and the bytes behind its front
unfoldable pub front_at : List ℕ → Taking ℕ
front_at bytes = behind (0xa2 ∷ 0x61 ∷ 0x65 ∷ []) bytes >>= number_at Major.List

-- the link to the left, which ends the node
unfoldable pub end_at : List ℕ → Option (Option (List ℕ))
end_at bytes = do
  b ← behind (0x61 ∷ 0x6c ∷ []) bytes
  l ← child_at b
  all_of l

-- the node that the bytes encode
unfoldable pub node_at : List ℕ → Option Node
node_at bytes = do
  n ← front_at bytes
  es ← entries_at n.0 [] n.1
  left ← end_at es.1
  Some (left, es.0)

-- what the call returned, seen by view, is the answer, unless memory ran out
abbrev pub IsTaken : {X Y : Type 0} → (X → Y) → Result X NodeFault → Option Y → Type 0
IsTaken view (Ok x) answer = answer ≡ Some (view x)
IsTaken view (Err NodeFault.BadNode) answer = answer ≡ None
IsTaken view (Err NodeFault.Memory) answer = ⊤
