-- Fronts of keys that a hasher was given. No clause that another crate sees cites it.
use Rattle.std.specs.Prelude.{◌≡◌, ◌≤◌, ◌+◌, ℕ, List, length, take, drop}
use Rattle.std.specs.List.{All}
use Rattle.sha2.specs.declared.Sha256.{Sha256}
use Rattle.sha2.specs.Hashers.{Holds256}
use Rattle.mst_node.specs.declared.entry.Entry.{Entry}

-- the hasher was given the first n bytes of the key
abbrev pub HoldsFront : Sha256 → ℕ → List ℕ → Type 0
HoldsFront s n k = (n ≤ length k) × Holds256 s (take n k)

-- the same of each entry's key
abbrev pub HoldsFronts : {X : Type 0} → (X → Entry) → Sha256 → ℕ → List X → Type 0
HoldsFronts entry s n es = All (λ e. HoldsFront s n (entry e).key) es

-- the key has the block of 64 bytes behind its first n bytes
abbrev pub HasBlock : ℕ → List ℕ → List ℕ → Type 0
HasBlock n b k = (n + 64 ≤ length k) × (take 64 (drop n k) ≡ b)

-- the same of each entry's key
abbrev pub HaveBlock : {X : Type 0} → (X → Entry) → ℕ → List ℕ → List X → Type 0
HaveBlock entry n b es = All (λ e. HasBlock n b (entry e).key) es
