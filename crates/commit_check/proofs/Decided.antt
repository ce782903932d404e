-- Exactly one: a commit passes, or one refusal is the first.
use Rattle.std.proofs.Common.{◌≡◌, ℕ, List, Bool, true, false, Option, Some, None, ◌⊎◌, inl, inr, refl, sym, ◌∙◌, subst}
use Rattle.std.proofs.lemmas.Bool.{false≢true}
use Rattle.at_car.specs.Blocks.{BlockMap}
use Rattle.at_cid.specs.Link.{IsBytes, IsNodeLink}
use Rattle.at_event.specs.declared.event.CommitEvent.{CommitEvent}
use Rattle.at_event.specs.declared.refusal.Refusal.{Refusal}
use Rattle.event_checks.specs.Lines.{first_of}
use Rattle.event_checks.specs.Table.{open_lines}
use Rattle.mst_list.specs.declared.op.Op.{Op}
use Rattle.mst_node.specs.Covers.{AreUnderNodeLinks}
use Rattle.commit_check.specs.Laws.{IsDecided}
use Rattle.commit_check.specs.Order.{HoldsCommit, IsFirstRefusal, IsPassed, StopsPast}
use Rattle.commit_check.specs.Step.{edits_of, Leads, LeadsBy, StopsAt}
use Rattle.commit_check.proofs.Held.{car_linked, same_blocks, same_data, shown_held}
use Rattle.commit_check.proofs.Judging.{led_or_stopped}
use Rattle.commit_check.proofs.Objects.{data_held}
use Rattle.commit_check.proofs.Steps.{not_stopped, stops_once, under_links}

pub step_decided : (ops : List Op) (blocks : BlockMap) (former later : List ℕ) → AreUnderNodeLinks blocks → IsNodeLink later → IsDecided (LeadsBy ops blocks former later) (StopsAt ops blocks former later)
step_decided ops blocks former later under kind =
    record { some = led_or_stopped ops blocks former later under kind; not_both = not_stopped ops blocks former later; one = stops_once ops blocks former later }

-- at most one refusal applies behind what the message shows, and none to what is linked

past_once : (gap : Bool) (e : CommitEvent) (blocks : BlockMap) (former later : List ℕ) (refusal other : Refusal) → StopsPast gap e blocks former later refusal → StopsPast gap e blocks former later other → refusal ≡ other
past_once true e blocks former later refusal other a b = a ∙ sym b
past_once false e blocks former later refusal other a b = stops_once (edits_of e) blocks former later refusal other a b

not_past : (gap : Bool) (e : CommitEvent) (blocks : BlockMap) (former later : List ℕ) (refusal : Refusal) → (gap ≡ false) × Leads e blocks former later → StopsPast gap e blocks former later refusal → ⊥
not_past true e blocks former later refusal linked stops = false≢true (sym linked.0)
not_past false e blocks former later refusal linked stops = not_stopped (edits_of e) blocks former later refusal linked.1 stops

abbrev IsLinkedOrStopped : Bool → CommitEvent → BlockMap → List ℕ → List ℕ → Type 0
IsLinkedOrStopped gap e blocks former later = ((gap ≡ false) × Leads e blocks former later) ⊎ ((refusal : Refusal) × StopsPast gap e blocks former later refusal)

linked_or_stopped : (gap : Bool) (e : CommitEvent) (blocks : BlockMap) (former later : List ℕ) → AreUnderNodeLinks blocks → IsNodeLink later → IsLinkedOrStopped gap e blocks former later
linked_or_stopped true e blocks former later under kind = inr (Refusal.Gap, refl)
linked_or_stopped false e blocks former later under kind = go (led_or_stopped (edits_of e) blocks former later under kind)
  where
    go : LeadsBy (edits_of e) blocks former later ⊎ ((refusal : Refusal) × StopsAt (edits_of e) blocks former later refusal) → IsLinkedOrStopped false e blocks former later
    go (inl leads) = inl (refl, leads)
    go (inr stops) = inr stops

pub link_decided : (gap : Bool) (e : CommitEvent) (blocks : BlockMap) (former later : List ℕ) → AreUnderNodeLinks blocks → IsNodeLink later → IsDecided ((gap ≡ false) × Leads e blocks former later) (StopsPast gap e blocks former later)
link_decided gap e blocks former later under kind = record { some = linked_or_stopped gap e blocks former later under kind; not_both = not_past gap e blocks former later; one = past_once gap e blocks former later }

module _ (e : CommitEvent) (last : Option ℕ) (gap : Bool) (former : List ℕ) where
  -- what stops an event, of whatever is held of it
  stops_in : (g h : HoldsCommit e) (refusal : Refusal) → StopsPast gap e h.blocks former h.commit.data_root refusal → StopsPast gap e g.blocks former g.commit.data_root refusal
  stops_in g h refusal stops =
      let P : BlockMap → Type 0 = λ b. StopsPast gap e b former h.commit.data_root refusal in
      let Q : List ℕ → Type 0 = λ d. StopsPast gap e g.blocks former d refusal in
      subst Q (same_data e h g) (subst P (same_blocks e h g) stops)

  pub not_first : (refusal : Refusal) → IsPassed e last gap former → IsFirstRefusal e last gap former refusal → ⊥
  not_first refusal passed (inl first) = let none = passed.shown in absurd (cc)
  not_first refusal passed (inr stopped) =
      not_past gap e passed.holds.blocks former passed.holds.commit.data_root refusal (passed.no_gap, passed.leads) (stops_in passed.holds stopped.holds refusal stopped.stops)

  pub first_once : (refusal other : Refusal) → IsFirstRefusal e last gap former refusal → IsFirstRefusal e last gap former other → refusal ≡ other
  first_once refusal other (inl a) (inl b) = let same : Some refusal ≡ Some other = sym a ∙ b in cc
  first_once refusal other (inl a) (inr b) = let none = b.shown in absurd (cc)
  first_once refusal other (inr a) (inl b) = let none = a.shown in absurd (cc)
  first_once refusal other (inr a) (inr b) = past_once gap e a.holds.blocks former a.holds.commit.data_root refusal other a.stops (stops_in a.holds b.holds other b.stops)

  abbrev IsPassedOrRefused : Type 0
  IsPassedOrRefused = IsPassed e last gap former ⊎ ((refusal : Refusal) × IsFirstRefusal e last gap former refusal)

  passed_or_refused : IsBytes e.blocks → (told : Option Refusal) → first_of (open_lines e last) ≡ told → IsPassedOrRefused
  passed_or_refused bytes (Some refusal) is = inr (refusal, inl is)
  passed_or_refused bytes None is = opened (shown_held e last is)
    where
      linked : (h : HoldsCommit e) → IsLinkedOrStopped gap e h.blocks former h.commit.data_root → IsPassedOrRefused
      linked h (inl passed) = inl (record { shown = is; no_gap = passed.0; holds = h; leads = passed.1 })
      linked h (inr stops) = inr (stops.0, inr (record { shown = is; holds = h; stops = stops.1 }))

      opened : HoldsCommit e → IsPassedOrRefused
      opened h =
          let all = car_linked e.blocks h.roots h.blocks bytes h.car in
          linked h (linked_or_stopped gap e h.blocks former h.commit.data_root (under_links h.blocks all) (data_held e h all))

  pub commit_decided : IsBytes e.blocks → IsDecided (IsPassed e last gap former) (IsFirstRefusal e last gap former)
  commit_decided bytes = record { some = passed_or_refused bytes (first_of (open_lines e last)) refl; not_both = not_first; one = first_once }
