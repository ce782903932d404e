-- A check of one commit shows no refusal that is a judge's, and follows no lost account.
use Rattle.std.proofs.Common.{◌≡◌, ◌≢◌, ℕ, List, [], ◌∷◌, Bool, true, false, Option, Some, inl, inr, refl, sym, ap}
use Rattle.std.proofs.lemmas.Bool.{false≢true}
use Rattle.at_car.specs.Blocks.{BlockMap}
use Rattle.at_event.specs.declared.event.CommitEvent.{CommitEvent}
use Rattle.at_event.specs.declared.refusal.Refusal.{Refusal}
use Rattle.mst_list.specs.declared.op.Op.{Op}
use Rattle.commit_check.specs.declared.expect.Expect.{Expect}
use Rattle.commit_check.specs.declared.fault.CheckFault.{CheckFault}
use Rattle.commit_check.specs.Linking.{IsStopBy}
use Rattle.commit_check.specs.Refusing.{IsUnjudged, opening_told}
use Rattle.event_checks.specs.Faults.{IsShown}
use Rattle.event_checks.specs.Lines.{is_judged}
use Rattle.event_checks.specs.Opening.{CarResult, object_lines}
use Rattle.event_checks.specs.declared.fault.OpenFault.{OpenFault}
use Rattle.commit_check.specs.Step.{StopsAt, edits_of, is_gap}
use Rattle.commit_check.specs.Order.{IsFirstRefusal, StopsPast}
use Rattle.event_checks.specs.Lines.{first_of}
use Rattle.event_checks.proofs.Firsts.{first_unjudged}
use Rattle.event_checks.specs.Table.{field_lines, open_lines}

pub field_unjudged : (e : CommitEvent) (refusal : Refusal) → Some refusal ≡ first_of (field_lines e) → is_judged refusal ≡ false
field_unjudged e refusal e_is = first_unjudged (field_lines e) refusal (refl, (refl, (refl, (refl, (refl, (refl, tt)))))) (sym e_is)

pub object_unjudged : (car : CarResult) (stated : Option (List ℕ)) (did : List ℕ) (rev : ℕ) (fault : OpenFault) → IsShown (first_of (object_lines car stated did rev)) fault → IsUnjudged (opening_told fault)
object_unjudged car stated did rev OpenFault.Memory shown = tt
object_unjudged car stated did rev (OpenFault.Refused refusal) shown = first_unjudged (object_lines car stated did rev) refusal (refl, (refl, (refl, (refl, tt)))) shown

pub ruleset by_lines = (field_unjudged, object_unjudged)

stop_unjudged : (ops : List Op) (blocks : BlockMap) (former later : List ℕ) (refusal : Refusal) → StopsAt ops blocks former later refusal → is_judged refusal ≡ false
stop_unjudged [] blocks former later Refusal.NotHome stops = absurd stops
stop_unjudged [] blocks former later Refusal.BadSignature stops = absurd stops
stop_unjudged [] blocks former later refusal stops = refl
stop_unjudged (op ∷ ops) blocks former later Refusal.NotHome stops = absurd stops
stop_unjudged (op ∷ ops) blocks former later Refusal.BadSignature stops = absurd stops
stop_unjudged (op ∷ ops) blocks former later refusal stops = refl

pub stopped_unjudged : (ops : List Op) (blocks : BlockMap) (former later : List ℕ) (fault : CheckFault) → IsStopBy ops blocks former later fault → IsUnjudged fault
stopped_unjudged ops blocks former later CheckFault.Memory stop = tt
stopped_unjudged ops blocks former later (CheckFault.Refused refusal) stop = stop_unjudged ops blocks former later refusal stop

-- no event follows on an account that is lost
pub known_account : (e : CommitEvent) (expect : Expect) → is_gap e expect ≡ false → expect ≢ Expect.Lost
known_account e Expect.Start no_gap = λ same. absurd (cc)
known_account e (Expect.After head) no_gap = λ same. absurd (cc)
known_account e Expect.Lost no_gap = λ same. false≢true (sym no_gap)

pub ruleset by_gap = (stopped_unjudged, known_account)

past_unjudged : (gap : Bool) (e : CommitEvent) (blocks : BlockMap) (former later : List ℕ) (refusal : Refusal) → StopsPast gap e blocks former later refusal → is_judged refusal ≡ false
past_unjudged true e blocks former later refusal stops = ap is_judged stops
past_unjudged false e blocks former later refusal stops = stop_unjudged (edits_of e) blocks former later refusal stops

pub first_refusal_unjudged : (e : CommitEvent) (last : Option ℕ) (gap : Bool) (former : List ℕ) (refusal : Refusal) → IsFirstRefusal e last gap former refusal → is_judged refusal ≡ false
first_refusal_unjudged e last gap former refusal (inl first) = first_unjudged (open_lines e last) refusal (refl, (refl, (refl, (refl, (refl, (refl, (refl, (refl, (refl, (refl, (refl, (refl, (refl, tt))))))))))))) first
first_refusal_unjudged e last gap former refusal (inr stopped) = past_unjudged gap e stopped.holds.blocks former stopped.holds.commit.data_root refusal stopped.stops
