-- What holds of all commits, whatever code checks them.
use Rattle.std.specs.Prelude.{◌≡◌, ◌⊎◌, ℕ, List, Bool, false, Option, None}
use Rattle.std.specs.List.{list_any}
use Rattle.at_cid.specs.Link.{IsBytes, IsNodeLink}
use Rattle.at_car.specs.Blocks.{BlockMap}
use Rattle.at_event.specs.Events.{IsEvent}
use Rattle.at_event.specs.Seen.{Seen}
use Rattle.at_event.specs.declared.event.Body.{Body}
use Rattle.at_event.specs.declared.event.CommitEvent.{CommitEvent}
use Rattle.at_event.specs.declared.refusal.Refusal.{Refusal}
use Rattle.event_checks.specs.Lines.{first_of, is_judged}
use Rattle.event_checks.specs.Table.{field_lines}
use Rattle.mst_list.specs.declared.op.Op.{Op}
use Rattle.mst_list.specs.Edits.{AreApart, AreFormedOps}
use Rattle.mst_node.specs.Covers.{AreUnderNodeLinks}
use Rattle.commit_check.specs.Order.{IsFirstRefusal, IsPassed, StopsPast}
use Rattle.commit_check.specs.Step.{edits_of, lacks_prev, IsCoveredBy, Leads, LeadsBy, ReplaysBy, StopsAt}

-- Operations on different keys that lead from root to root replay.
abbrev pub LeadingReplays : Type 0
LeadingReplays = (ops : List Op) (blocks : BlockMap) (former later : List ℕ) → AreFormedOps ops
    → AreApart ops → LeadsBy ops blocks former later → ReplaysBy ops blocks former later

-- Operations on different keys that are covered lead from root to root.
abbrev pub CoveredLeads : Type 0
CoveredLeads = (ops : List Op) (blocks : BlockMap) (former later : List ℕ)
    → AreUnderNodeLinks blocks → AreFormedOps ops → AreApart ops
    → IsCoveredBy ops blocks former later → LeadsBy ops blocks former later

-- either this holds, or exactly one refusal applies
pub record IsDecided (holds : Type 0) (applies : Refusal → Type 0) : Type 0 where
  pub some : holds ⊎ ((refusal : Refusal) × applies refusal)
  pub not_both : (refusal : Refusal) → holds → applies refusal → ⊥
  pub one : (refusal other : Refusal) → applies refusal → applies other → refusal ≡ other

-- Operations lead from root to root, or exactly one refusal stops them.
abbrev pub StepsAreDecided : Type 0
StepsAreDecided = (ops : List Op) (blocks : BlockMap) (former later : List ℕ)
    → AreUnderNodeLinks blocks → IsNodeLink later
    → IsDecided (LeadsBy ops blocks former later) (StopsAt ops blocks former later)

-- There is no gap and the event leads from root to root, or exactly one refusal stops it.
abbrev pub LinksAreDecided : Type 0
LinksAreDecided = (gap : Bool) (e : CommitEvent) (blocks : BlockMap) (former later : List ℕ)
    → AreUnderNodeLinks blocks → IsNodeLink later
    → IsDecided ((gap ≡ false) × Leads e blocks former later) (StopsPast gap e blocks former later)

-- No refusal applies to an event, or exactly one is the first.
abbrev pub CommitsAreDecided : Type 0
CommitsAreDecided = (e : CommitEvent) (last : Option ℕ) (gap : Bool) (former : List ℕ)
    → IsBytes e.blocks → IsDecided (IsPassed e last gap former) (IsFirstRefusal e last gap former)

-- No refusal that applies to an event is a judge's.
abbrev pub RefusalsAreUnjudged : Type 0
RefusalsAreUnjudged = (e : CommitEvent) (last : Option ℕ) (gap : Bool) (former : List ℕ)
    (refusal : Refusal) → IsFirstRefusal e last gap former refusal → is_judged refusal ≡ false

-- Where the fields of a commit event that was read show no refusal, and each change says of what,
-- its edits are well formed and on different keys.
abbrev pub EditsAreFormed : Type 0
EditsAreFormed = (event : Seen) (e : CommitEvent) → IsEvent event → event.body ≡ Body.Commit e
    → first_of (field_lines e) ≡ None → list_any lacks_prev e.ops ≡ false
    → AreFormedOps (edits_of e) × AreApart (edits_of e)
