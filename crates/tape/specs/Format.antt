-- A tape is records, one after another (own format).
use Rattle.std.specs.Prelude.{◌≡◌, ◌≤◌, ℕ, List, ◌∷◌, ◌++◌, length, true}
use Rattle.std.specs.Int.{to_be_bytes, w32}
use Rattle.at_syntax.specs.Host.{is_host}
use Rattle.relay_io.specs.declared.feed.TheConstants.{LONGEST_FEED_MESSAGE}

-- a byte with the length of a name, the name, and what follows
abbrev pub with_name : List ℕ → List ℕ → List ℕ
with_name name rest = length name ∷ (name ++ rest)

-- four bytes with the length of a message, the most significant first, and what follows
abbrev pub sized : ℕ → List ℕ → List ℕ
sized size rest = to_be_bytes w32 size ++ rest

-- a record: the name of a host and a message, each behind its length
abbrev pub record_bytes : List ℕ → List ℕ → List ℕ
record_bytes host message = with_name host (sized (length message) message)

-- a record names a host, and its message isn't longer than a message may be
pub record IsRecord (host message : List ℕ) : Type 0 where
  pub names : is_host host ≡ true
  pub short : length message ≤ LONGEST_FEED_MESSAGE
