-- What follows for a call that leads operations back or tells what stops them.
use Rattle.std.proofs.Common.{◌≡◌, ℕ, List, Bool, true, false, Result, Ok, Err, sym, ap, subst}
use Rattle.std.specs.Prelude.{IfErr, OnOk}
use Rattle.at_car.specs.Blocks.{BlockMap, AreLinked}
use Rattle.at_event.specs.declared.event.CommitEvent.{CommitEvent}
use Rattle.at_event.specs.declared.refusal.Refusal.{Refusal}
use Rattle.mst_list.specs.declared.op.Op.{Op}
use Rattle.mst_list.specs.Edits.{AreApart, AreFormedOps}
use Rattle.commit_check.specs.declared.expect.Expect.{Expect}
use Rattle.commit_check.specs.declared.fault.CheckFault.{CheckFault}
use Rattle.commit_check.specs.declared.opened.Opened.{Opened}
use Rattle.commit_check.specs.Linking.{IsStopBy, IsUnlinked}
use Rattle.commit_check.specs.Order.{StopsPast}
use Rattle.commit_check.specs.Refusing.{IsMemory, RefusesWith}
use Rattle.commit_check.specs.Step.{edits_of, is_gap, root_before, IsCoveredBy, Leads, LeadsBy, ReplaysBy, StopsAt}
use Rattle.commit_check.proofs.Steps.{complete_by, not_stopped, sound_by, stops_once, under_links}

-- the operations are an event's, and so is what is said of them
pub leads_event : {X : Type 0} (e : CommitEvent) (ops : List Op) (blocks : BlockMap) (former later : List ℕ) (result : Result X CheckFault) → ops ≡ edits_of e → OnOk result (LeadsBy ops blocks former later) → OnOk result (Leads e blocks former later)
leads_event e ops blocks former later result are leads = let P : List Op → Type 0 = λ x. OnOk result (LeadsBy x blocks former later) in subst P are leads

-- what leads is told, unless memory ran out
pub only_leading : {X : Type 0} (ops : List Op) (blocks : BlockMap) (former later : List ℕ) (result : Result X CheckFault) → IfErr result (IsStopBy ops blocks former later) → LeadsBy ops blocks former later → IfErr result IsMemory
only_leading ops blocks former later (Ok x) stops leads = tt
only_leading ops blocks former later (Err CheckFault.Memory) stops leads = tt
only_leading ops blocks former later (Err (CheckFault.Refused refusal)) stops leads = not_stopped ops blocks former later refusal leads stops

-- and what stops it is told
pub stops_exactly : {X : Type 0} (ops : List Op) (blocks : BlockMap) (former later : List ℕ) (result : Result X CheckFault) (refusal : Refusal) → OnOk result (LeadsBy ops blocks former later) → IfErr result (IsStopBy ops blocks former later)
    → StopsAt ops blocks former later refusal → RefusesWith refusal result
stops_exactly ops blocks former later (Ok x) refusal leads stop stops = absurd (not_stopped ops blocks former later refusal leads stops)
stops_exactly ops blocks former later (Err CheckFault.Memory) refusal leads stop stops = tt
stops_exactly ops blocks former later (Err (CheckFault.Refused other)) refusal leads stop stops = ap Err (stops_once ops blocks former later refusal other stops stop)

pub only_covered : {X : Type 0} (e : CommitEvent) (ops : List Op) (blocks : BlockMap) (former later : List ℕ) (result : Result X CheckFault) → ops ≡ edits_of e → AreFormedOps ops → AreApart ops → AreLinked blocks → IfErr result (IsStopBy ops blocks former later)
    → IsCoveredBy (edits_of e) blocks former later → IfErr result IsMemory
only_covered e ops blocks former later result are formed apart linked stops covered =
    let P : List Op → Type 0 = λ x. IsCoveredBy x blocks former later in
    only_leading ops blocks former later result stops (complete_by ops blocks former later (under_links blocks linked) formed apart (subst P (sym are) covered))

pub replaying : {X : Type 0} (e : CommitEvent) (ops : List Op) (blocks : BlockMap) (former later : List ℕ) (result : Result X CheckFault) → ops ≡ edits_of e → AreFormedOps ops → AreApart ops → OnOk result (LeadsBy ops blocks former later)
    → OnOk result (ReplaysBy (edits_of e) blocks former later)
replaying e ops blocks former later (Ok x) are formed apart leads =
    let P : List Op → Type 0 = λ x. ReplaysBy x blocks former later in
    subst P are (sound_by ops blocks former later formed apart leads)
replaying e ops blocks former later (Err fault) are formed apart leads = tt

-- a gap is told as such
pub gap_exactly : (X : Type 0) (e : CommitEvent) (o : Opened) (expect : Expect) (refusal : Refusal) → is_gap e expect ≡ true → IsUnlinked e o expect (CheckFault.Refused refusal) → RefusesWith {X = X} refusal (Err (CheckFault.Refused Refusal.Gap))
gap_exactly X e o expect refusal gap unlinked =
    let P : Bool → Type 0 = λ g. StopsPast g e o.car.blocks (root_before expect) o.head.data_root refusal in
    ap Err (subst P gap unlinked)

pub linked_exactly : {X : Type 0} (e : CommitEvent) (o : Opened) (expect : Expect) (ops : List Op) (former : List ℕ) (result : Result X CheckFault) (refusal : Refusal) → is_gap e expect ≡ false → ops ≡ edits_of e → former ≡ root_before expect
    → OnOk result (LeadsBy ops o.car.blocks former o.head.data_root) → IfErr result (IsStopBy ops o.car.blocks former o.head.data_root) → IsUnlinked e o expect (CheckFault.Refused refusal) → RefusesWith refusal result
linked_exactly e o expect ops former result refusal no_gap are is leads stop unlinked =
    let P : Bool → Type 0 = λ g. StopsPast g e o.car.blocks (root_before expect) o.head.data_root refusal in
    let Q : List Op → Type 0 = λ x. StopsAt x o.car.blocks (root_before expect) o.head.data_root refusal in
    let R : List ℕ → Type 0 = λ r. StopsAt ops o.car.blocks r o.head.data_root refusal in
    stops_exactly ops o.car.blocks former o.head.data_root result refusal leads stop (subst R (sym is) (subst Q (sym are) (subst P no_gap unlinked)))

pub linked_only : {X : Type 0} (e : CommitEvent) (ops : List Op) (blocks : BlockMap) (former later : List ℕ) (result : Result X CheckFault) → ops ≡ edits_of e → IfErr result (IsStopBy ops blocks former later) → Leads e blocks former later → IfErr result IsMemory
linked_only e ops blocks former later result are stops leads = let P : List Op → Type 0 = λ x. LeadsBy x blocks former later in only_leading ops blocks former later result stops (subst P (sym are) leads)

pub unlinked : {X : Type 0} (e : CommitEvent) (o : Opened) (expect : Expect) (ops : List Op) (former : List ℕ) (result : Result X CheckFault) → is_gap e expect ≡ false → ops ≡ edits_of e → former ≡ root_before expect → IfErr result (IsStopBy ops o.car.blocks former o.head.data_root)
    → IfErr result (IsUnlinked e o expect)
unlinked e o expect ops former (Ok x) no_gap are is stops = tt
unlinked e o expect ops former (Err CheckFault.Memory) no_gap are is stops = tt
unlinked e o expect ops former (Err (CheckFault.Refused refusal)) no_gap are is stops =
    let P : Bool → Type 0 = λ g. StopsPast g e o.car.blocks (root_before expect) o.head.data_root refusal in
    let Q : List Op → Type 0 = λ x. StopsAt x o.car.blocks (root_before expect) o.head.data_root refusal in
    let R : List ℕ → Type 0 = λ r. StopsAt ops o.car.blocks r o.head.data_root refusal in
    subst P (sym no_gap) (subst Q are (subst R is stops))

pub ruleset by_link = (gap_exactly, linked_exactly, leads_event, linked_only, unlinked, replaying, only_covered)
