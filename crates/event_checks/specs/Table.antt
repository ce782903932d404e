-- The refusals that an event shows by itself, in their order.
use Rattle.std.specs.Prelude.{ℕ, List, [], ◌∷◌, ◌++◌, length, map, Bool, false, not, ◌&&◌, nat_lt, is_some, Option, Some, None}
use Rattle.std.specs.List.{list_all}
use Rattle.std.specs.Str.{bytes_eq}
use Rattle.at_cid.specs.Distinct.{all_differ}
use Rattle.at_syntax.specs.Path.{is_path}
use Rattle.at_car.specs.Car.{car_of}
use Rattle.at_event.specs.declared.event.CommitEvent.{CommitEvent}
use Rattle.at_event.specs.declared.event.SyncEvent.{SyncEvent}
use Rattle.at_event.specs.declared.ops.Action.{Action}
use Rattle.at_event.specs.declared.ops.EventOp.{EventOp}
use Rattle.at_event.specs.declared.refusal.Refusal.{Refusal}
use Rattle.event_checks.specs.Lines.{RefusalLine}
use Rattle.event_checks.specs.Opening.{CarResult, car_lines}
use Rattle.event_checks.specs.declared.limits.TheConstants.{MOST_COMMIT_BYTES, MOST_OPS, MOST_SYNC_BYTES}

-- a create has a `cid` and no `prev`, an update a `cid`, a delete none; no other action is known
abbrev pub has_links : Action → Bool → Bool → Bool
has_links Action.Create cid prev = cid && not prev
has_links Action.Update cid prev = cid
has_links Action.Delete cid prev = not cid
has_links Action.Other cid prev = false

abbrev pub is_op : EventOp → Bool
is_op op = has_links op.action (is_some op.cid) (is_some op.prev)

abbrev pub has_path : EventOp → Bool
has_path op = is_path op.path

abbrev pub paths_of : List EventOp → List (List ℕ)
paths_of ops = map (λ op. op.path) ops

-- what the fields of a `#commit` show
abbrev pub field_lines : CommitEvent → List RefusalLine
field_lines e =
    (Refusal.TooBig, e.too_big)
    ∷ (Refusal.BlocksTooLong, nat_lt MOST_COMMIT_BYTES (length e.blocks))
    ∷ (Refusal.TooManyOps, nat_lt MOST_OPS (length e.ops))
    ∷ (Refusal.BadPath, not (list_all has_path e.ops))
    ∷ (Refusal.RepeatedPath, not (all_differ bytes_eq (paths_of e.ops)))
    ∷ (Refusal.BadOp, not (list_all is_op e.ops))
    ∷ []

-- the revision isn't above the last one
abbrev pub is_stale : Option ℕ → ℕ → Bool
is_stale None rev = false
is_stale (Some last) rev = not (nat_lt last rev)

-- the CAR in the blocks of a `#commit`
abbrev pub car_in : CommitEvent → CarResult
car_in e = car_of e.blocks

-- what the blocks of a `#commit` show
abbrev pub block_lines : CommitEvent → List RefusalLine
block_lines e = car_lines (car_in e) (Some e.commit) e.repo e.rev

-- all that a `#commit` shows, beside the last revision of its account
abbrev pub open_lines : CommitEvent → Option ℕ → List RefusalLine
open_lines e last = field_lines e ++ ((Refusal.Stale, is_stale last e.rev) ∷ block_lines e)

-- all that a `#sync` shows, beside the last revision of its account
abbrev pub sync_lines : SyncEvent → Option ℕ → List RefusalLine
sync_lines e last =
    (Refusal.BlocksTooLong, nat_lt MOST_SYNC_BYTES (length e.blocks))
    ∷ (Refusal.Stale, is_stale last e.rev)
    ∷ car_lines (car_of e.blocks) None e.did e.rev
