-- What a check by itself says, once the blocks of a commit were read.
use Rattle.std.proofs.Common.{◌≡◌, ℕ, List, Bool, None, true, false, Err, inr, refl, sym, ap, subst}
use Rattle.at_cid.specs.Memory.{Fails}
use Rattle.at_car.specs.Blocks.{AreLinked, BlockMap}
use Rattle.at_event.specs.declared.event.CommitEvent.{CommitEvent}
use Rattle.at_event.specs.declared.refusal.Refusal.{Refusal}
use Rattle.event_checks.specs.Lines.{first_of}
use Rattle.event_checks.specs.Table.{open_lines}
use Rattle.mst_list.specs.declared.op.Op.{Op}
use Rattle.mst_list.specs.Edits.{AreApart, AreFormedOps}
use Rattle.commit_check.specs.declared.fault.CheckFault.{CheckFault}
use Rattle.commit_check.specs.declared.content.Content.{Content}
use Rattle.commit_check.specs.Checking.{has_gap, start_of, IsAccepted, IsCoveredAlone, IsRefused, IsRefusedWith, Replays}
use Rattle.commit_check.specs.Linking.{IsStopBy}
use Rattle.commit_check.specs.Opening.{IsContent}
use Rattle.commit_check.specs.Order.{IsPassed, StopsPast}
use Rattle.commit_check.specs.Refusing.{IsMemory, refusal_of}
use Rattle.commit_check.specs.Step.{edits_of, Leads, LeadsBy, ReplaysBy, StopsAt}
use Rattle.commit_check.proofs.Decided.{first_once, not_first}
use Rattle.commit_check.proofs.Held.{same_blocks}
use Rattle.commit_check.proofs.Objects.{content_holds, content_root}
use Rattle.commit_check.proofs.Steps.{complete_by, sound_by, under_links}

-- why it is refused

pub gap_refused : (e : CommitEvent) (content : Content) → first_of (open_lines e None) ≡ None → has_gap e ≡ true → IsContent e content → IsRefusedWith e Refusal.Gap
gap_refused e content shown gap is_content =
    let R : Bool → Type 0 = λ g. StopsPast g e content.car.blocks (start_of e) (content_holds e content is_content).commit.data_root Refusal.Gap in
    inr (record { shown = shown; holds = content_holds e content is_content; stops = subst R (sym gap) refl })

pub stop_refused : (e : CommitEvent) (content : Content) (ops : List Op) (former : List ℕ) (fault : CheckFault) → first_of (open_lines e None) ≡ None → has_gap e ≡ false → IsContent e content → former ≡ start_of e → ops ≡ edits_of e
    → IsStopBy ops content.car.blocks former content.data_root fault → IsRefused e fault
stop_refused e content ops former CheckFault.Memory shown gap is_content is are stops = tt
stop_refused e content ops former (CheckFault.Refused refusal) shown gap is_content is are stops =
    let O : List Op → Type 0 = λ x. StopsAt x content.car.blocks former content.data_root refusal in
    let P : List ℕ → Type 0 = λ f. StopsAt (edits_of e) content.car.blocks f content.data_root refusal in
    let Q : List ℕ → Type 0 = λ d. StopsAt (edits_of e) content.car.blocks (start_of e) d refusal in
    let R : Bool → Type 0 = λ g. StopsPast g e content.car.blocks (start_of e) (content_holds e content is_content).commit.data_root refusal in
    inr (record { shown = shown; holds = content_holds e content is_content; stops = subst R (sym gap) (subst Q (content_root e content is_content) (subst P is (subst O are stops))) })

-- what is accepted passes

pub accepted : (e : CommitEvent) (content : Content) (ops : List Op) (from : List ℕ) → first_of (open_lines e None) ≡ None → has_gap e ≡ false → IsContent e content → from ≡ start_of e → ops ≡ edits_of e → LeadsBy ops content.car.blocks from content.data_root
    → IsAccepted e from content.data_root
accepted e content ops from shown gap is_content is are leads =
    let P : List Op → Type 0 = λ x. LeadsBy x content.car.blocks from content.data_root in
    record { shown = shown; no_gap = gap; holds = content_holds e content is_content; from_is = is; to_is = content_root e content is_content; leads = subst P are leads }

abbrev IsPassedAlone : CommitEvent → Type 0
IsPassedAlone e = IsPassed e None (has_gap e) (start_of e)

passed : (e : CommitEvent) (from to : List ℕ) → IsAccepted e from to → IsPassedAlone e
passed e from to a =
    let P : List ℕ → Type 0 = λ f. Leads e a.holds.blocks f to in
    let Q : List ℕ → Type 0 = λ d. Leads e a.holds.blocks (start_of e) d in
    record { shown = a.shown; no_gap = a.no_gap; holds = a.holds; leads = subst Q a.to_is (subst P a.from_is a.leads) }

covered_passed : (e : CommitEvent) (content : Content) (ops : List Op) → IsContent e content → ops ≡ edits_of e → AreFormedOps ops → AreApart ops → AreLinked content.car.blocks → IsCoveredAlone e → IsPassedAlone e
covered_passed e content ops is_content are formed apart linked c =
    let P : BlockMap → Type 0 = AreLinked in
    let under = under_links c.holds.blocks (subst P (same_blocks e (content_holds e content is_content) c.holds) linked) in
    record { shown = c.shown; no_gap = c.no_gap; holds = c.holds; leads = complete_by (edits_of e) c.holds.blocks (start_of e) c.holds.commit.data_root under (subst AreFormedOps are formed) (subst AreApart are apart) c.covered }

-- a refusal that applies is the one that is told, and none applies to what passes

pub told_exactly : (X : Type 0) (e : CommitEvent) (fault : CheckFault) (refusal : Refusal) → IsRefused e fault → IsRefusedWith e refusal → Fails {Y = X} (refusal_of fault) (Err refusal)
told_exactly X e CheckFault.Memory refusal told applies = tt
told_exactly X e (CheckFault.Refused other) refusal told applies = ap Err (first_once e None (has_gap e) (start_of e) refusal other applies told)

told_only : (e : CommitEvent) (fault : CheckFault) → IsRefused e fault → IsPassedAlone e → IsMemory fault
told_only e CheckFault.Memory told passes = tt
told_only e (CheckFault.Refused refusal) told passes = not_first e None (has_gap e) (start_of e) refusal passes told

pub only_accepted : (e : CommitEvent) (fault : CheckFault) (from to : List ℕ) → IsRefused e fault → IsAccepted e from to → IsMemory fault
only_accepted e fault from to told a = told_only e fault told (passed e from to a)

pub only_covered : (e : CommitEvent) (content : Content) (ops : List Op) (fault : CheckFault) → IsContent e content → ops ≡ edits_of e → AreFormedOps ops → AreApart ops → AreLinked content.car.blocks → IsRefused e fault → IsCoveredAlone e → IsMemory fault
only_covered e content ops fault is_content are formed apart linked told c = told_only e fault told (covered_passed e content ops is_content are formed apart linked c)

pub accepted_alone : (e : CommitEvent) (from to : List ℕ) (refusal : Refusal) → IsAccepted e from to → IsRefusedWith e refusal → ⊥
accepted_alone e from to refusal a applies = not_first e None (has_gap e) (start_of e) refusal (passed e from to a) applies

-- what is accepted replays

pub replays : (e : CommitEvent) (content : Content) (ops : List Op) (from : List ℕ) → IsContent e content → ops ≡ edits_of e → AreFormedOps ops → AreApart ops → LeadsBy ops content.car.blocks from content.data_root → Replays e from content.data_root
replays e content ops from is_content are formed apart leads other =
    let P : BlockMap → Type 0 = λ b. ReplaysBy (edits_of e) b from content.data_root in
    let Q : List Op → Type 0 = λ x. ReplaysBy x content.car.blocks from content.data_root in
    subst P (same_blocks e (content_holds e content is_content) other) (subst Q are (sound_by ops content.car.blocks from content.data_root formed apart leads))

pub ruleset by_content = (gap_refused, stop_refused, accepted, told_exactly, only_accepted, only_covered, replays)
