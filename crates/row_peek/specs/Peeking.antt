-- What a row sends out, found by its items' places (own). That it is what the row sends out, where
-- one stands in front, is proved of it.
use Rattle.std.specs.Prelude.{ℕ, ◌==◌, Bool, true, false, nat_le, if◌then◌else◌, List, [], ◌∷◌, Option, Some, None, option_map}
use Rattle.at_cbor.specs.declared.major.Major.{Major}
use Rattle.at_cbor.specs.Taking.{◌>>=◌, number_at, string_at, text_from_front}
use Rattle.row_peek.specs.Passing.{scalars_behind, item_behind, items_behind}
use Rattle.row_peek.specs.declared.peeking.TheConstants.{WHOLE}
use Rattle.row_peek.specs.declared.peeked.Peeked.{Peeked}

-- an account, whether the event is of a commit or a sync, and the event: its number and its message
abbrev pub Seen : Type 0
Seen = List ℕ × (Bool × (ℕ × List ℕ))

abbrev pub seen : Peeked → Seen
seen s = (s.did.now, (s.of_repo, (s.seq, s.message.now)))

-- the string of bytes in front
unfoldable pub message_at : List ℕ → Option (List ℕ)
message_at bytes = string_at bytes >>= λ message. Some message.0

-- the number of a whole repository's event, and its message, which is the last of the six items
unfoldable pub whole_items_at : List ℕ → Option (ℕ × List ℕ)
whole_items_at bytes =
    number_at Major.Unsigned bytes >>= λ seq.
    scalars_behind 4 seq.1 >>= λ rest.
    message_at rest >>= λ message. Some (seq.0, message)

-- the event of a whole repository, where a list of its six items stands in front
unfoldable pub whole_at : List ℕ → Option (ℕ × List ℕ)
whole_at [] = None
whole_at (first ∷ bytes) = if first == WHOLE then whole_items_at bytes else None

-- from the number of a taken message's event on
unfoldable pub outcome_at : ℕ → List ℕ → Option (Bool × (ℕ × List ℕ))
outcome_at kind bytes =
    number_at Major.Unsigned bytes >>= λ seq. string_at seq.1 >>= λ message. if seq.0 == 0
    then (item_behind message.1 >>= λ rest. whole_at rest >>= λ fetched. Some (true, fetched))
    else Some (nat_le kind 2, (seq.0, message.0))

-- a taken message, from its host on
unfoldable pub taken_at : List ℕ → Option Seen
taken_at bytes =
    scalars_behind 2 bytes >>= λ rest.
    text_from_front rest >>= λ did.
    number_at Major.Unsigned did.1 >>= λ kind.
    items_behind 2 kind.1 >>= λ decided.
    outcome_at kind.0 decided >>= λ o. Some (did.0, o)

-- a repository that was fetched at an operator's command, from its account on
unfoldable pub synced_at : List ℕ → Option Seen
synced_at bytes = text_from_front bytes >>= λ did. whole_at did.1
    >>= λ event. Some (did.0, (true, event))

-- an operator's command, from its account on
unfoldable pub operated_at : List ℕ → Option Seen
operated_at bytes =
    text_from_front bytes >>= λ did.
    scalars_behind 1 did.1 >>= λ rest.
    number_at Major.Unsigned rest >>= λ seq.
    message_at seq.1 >>= λ message. Some (did.0, (false, (seq.0, message)))

-- a row
unfoldable pub peeked_at : List ℕ → Option Seen
peeked_at [] = None
peeked_at (front ∷ []) = None
peeked_at (front ∷ kind ∷ bytes) =
    if kind == 1 then taken_at bytes
    else (if kind == 2 then synced_at bytes
    else (if kind == 3 then operated_at bytes
    else None))

-- the number and the message of the event that is seen of the row at the front of bytes
abbrev pub event_at : List ℕ → Option (ℕ × List ℕ)
event_at bytes = option_map (λ s. s.1.1) (peeked_at bytes)
