-- The row of a message that is refused, and what the event of an accepted one does (own).
use Rattle.std.specs.Prelude.{ℕ, List, [], Option, Some, None, Result, Ok, Err}
use Rattle.at_event.specs.declared.event.Body.{Body}
use Rattle.at_event.specs.declared.head.Head.{Head}
use Rattle.at_event.specs.declared.refusal.Refusal.{Refusal}
use Rattle.relay_row.specs.declared.fetched.Fetched.{Fetched}
use Rattle.relay_row.specs.declared.taken.Effect.{Effect}
use Rattle.relay_row.specs.declared.taken.Taken.{Taken}

-- the number of an event's kind in a row
abbrev pub kind_number : Body → ℕ
kind_number (Body.Commit c) = 1
kind_number (Body.Sync s) = 2
kind_number Body.Identity = 3
kind_number (Body.Account b) = 4

abbrev pub head_effect : Option (Result Head Refusal) → Effect
head_effect (Some (Ok head)) = Effect.Repo head
head_effect (Some (Err r)) = Effect.Nothing
head_effect None = Effect.Nothing

-- what an accepted event does to its account, by what its opening said
abbrev pub effect_of : Body → Option (Result Head Refusal) → Effect
effect_of (Body.Commit c) opened = head_effect opened
effect_of (Body.Sync s) opened = head_effect opened
effect_of Body.Identity opened = Effect.Nothing
effect_of (Body.Account b) opened = Effect.Account b.active b.status

-- the row of a refused message: nothing goes out, and nothing is done to its account but a fetch
abbrev pub refused_row : List ℕ → ℕ → List ℕ → ℕ → Refusal → Fetched → Option ℕ → Taken
refused_row host seq did kind r fetched moment = record {
  host = host;
  host_seq = seq;
  did = did;
  kind = kind;
  refusal = Some r;
  seq = 0;
  message = [];
  effect = Effect.Nothing;
  fetched = fetched;
  moment = moment;
}

-- the row of an event with a bad field
abbrev pub faulty_taken : List ℕ → ℕ → Option ℕ → Taken
faulty_taken host seq moment = refused_row host seq [] 0 Refusal.BadEvent Fetched.NotAsked moment
