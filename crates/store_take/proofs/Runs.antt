-- Steps behind steps.
use Rattle.std.proofs.Common.{◌≡◌, ℕ, ◌≤◌, List, [], ◌∷◌, ◌++◌, length, map, Bool, true, false, Option, Some, Result, Ok, Err, refl, sym, ◌∙◌, ap, subst, arith, append_assoc}
use Rattle.std.specs.Prelude.{nat_le}
use Rattle.std.proofs.lemmas.List.{append-nil}
use Rattle.at_event.specs.declared.frame.Frame.{Frame}
use Rattle.at_event.specs.declared.frame.FrameFault.{FrameFault}
use Rattle.relay_row.specs.Folds.{cursor}
use Rattle.relay_row.specs.declared.row.Row.{Row}
use Rattle.relay_core.specs.Decide.{Checks, old_if}
use Rattle.relay_core.specs.Report.{ended_by}
use Rattle.relay_core.specs.Runs.{skipped_by}
use Rattle.relay_core.specs.declared.decision.Pass.{Pass}
use Rattle.relay_step.specs.Steps.{Step, Decided, after_end, skipped, recorded, AreSteps, IsDecidedAs, ended_decided, ended_by_all, message_of, rows, rows_decided}
use Rattle.store_take.specs.Batches.{EndsLast, NoneEnds, is_end, messages_sent}
use Rattle.store_take.specs.Outcomes.{outcome_of, skipped_outcome}
use Rattle.store_take.specs.declared.message.Message.{Message}
use Rattle.store_take.specs.declared.outcome.Outcome.{Outcome}

pub rows_joined : (steps others : List Step) → rows (steps ++ others) ≡ rows steps ++ rows others
rows_joined [] others = refl
rows_joined (s ∷ steps) others = ap (λ (l : List Row). rows_decided s.decided ++ l) (rows_joined steps others) ∙ sym (append_assoc (rows_decided s.decided) (rows steps) (rows others))

pub rows_one : (steps : List Step) (s : Step) → rows (steps ++ s ∷ []) ≡ rows steps ++ rows_decided s.decided
rows_one steps s = rows_joined steps (s ∷ []) ∙ ap (λ (l : List Row). rows steps ++ l) (append-nil (rows_decided s.decided))

pub told_few : (told : Decided) → length (rows_decided told) ≤ 1
told_few after_end = omega arith
told_few (skipped pass) = omega arith
told_few (recorded t) = omega arith

pub ended_joined : (steps others : List Step) (ended : List (List ℕ)) → ended_by_all (steps ++ others) ended ≡ ended_by_all others (ended_by_all steps ended)
ended_joined [] others ended = refl
ended_joined (s ∷ steps) others ended = ended_joined steps others (ended_decided s.decided s.host ended)

-- one step more
pub steps_one : (checks : Checks) (J : List Row) (ended : List (List ℕ)) (steps : List Step) (s : Step) → AreSteps checks J ended steps → IsDecidedAs checks (J ++ rows steps) (ended_by_all steps ended) (message_of s) s.decided → AreSteps checks J ended (steps ++ s ∷ [])
steps_one checks J ended [] s are told = (subst (λ (j : List Row). IsDecidedAs checks j ended (message_of s) s.decided) (append-nil J) told, tt)
steps_one checks J ended (x ∷ steps) s are told = (
  are.0,
  steps_one checks (J ++ rows_decided x.decided) (ended_decided x.decided x.host ended) steps s are.1
      (subst (λ (j : List Row). IsDecidedAs checks j (ended_by_all steps (ended_decided x.decided x.host ended)) (message_of s) s.decided) (sym (append_assoc J (rows_decided x.decided) (rows steps))) told),
)

pub sent_joined : (steps others : List Step) → messages_sent (steps ++ others) ≡ messages_sent steps ++ messages_sent others
sent_joined [] others = refl
sent_joined (s ∷ steps) others = ap (λ (l : List Message). record { host = s.host; bytes = s.bytes } ∷ l) (sent_joined steps others)

pub answers_one : (outcomes : List Outcome) (steps : List Step) (o : Outcome) (s : Step) → map Some outcomes ≡ map outcome_of steps → outcome_of s ≡ Some o → map Some (outcomes ++ o ∷ []) ≡ map outcome_of (steps ++ s ∷ [])
answers_one [] [] o s answers is = ap (λ (x : Option Outcome). x ∷ []) (sym is)
answers_one [] (x ∷ steps) o s answers is = let no : ⊥ = cc in absurd no
answers_one (p ∷ outcomes) [] o s answers is = let no : ⊥ = cc in absurd no
answers_one (p ∷ outcomes) (x ∷ steps) o s answers is =
    let head : Some p ≡ outcome_of x = cc in
    let rest : map Some outcomes ≡ map outcome_of steps = cc in
    (λ i. head i ∷ answers_one outcomes steps o s rest is i)

pub none_one : (outcomes : List Outcome) (o : Outcome) → NoneEnds outcomes → is_end o ≡ false → NoneEnds (outcomes ++ o ∷ [])
none_one [] o none not = (not, tt)
none_one (p ∷ outcomes) o none not = (none.0, none_one outcomes o none.1 not)

pub ends_one : (outcomes : List Outcome) (o : Outcome) → NoneEnds outcomes → EndsLast (outcomes ++ o ∷ [])
ends_one [] o none = (λ is. refl, tt)
ends_one (p ∷ outcomes) o none = (λ is. let no : ⊥ = cc in absurd no, ends_one outcomes o none.1)

pub ends_none : (outcomes : List Outcome) → NoneEnds outcomes → EndsLast outcomes
ends_none [] none = tt
ends_none (p ∷ outcomes) none = (λ is. let no : ⊥ = cc in absurd no, ends_none outcomes none.1)

old_stays : (test : Bool) (host : List ℕ) (pass : Pass) → old_if test ≡ Some pass → ended_by pass host [] ≡ []
old_stays true host Pass.Old is = refl
old_stays true host Pass.Unknown is = refl
old_stays true host Pass.Info is = refl
old_stays true host Pass.Ended is = let no : ⊥ = cc in absurd no
old_stays false host pass is = let no : ⊥ = cc in absurd no

some_pass : (p q : Pass) (host : List ℕ) → Some p ≡ Some q → ended_by p host [] ≡ [] → ended_by q host [] ≡ []
some_pass p q host is stays = let same : p ≡ q = cc in subst (λ (x : Pass). ended_by x host [] ≡ []) same stays

-- a message that ends nothing leaves its host going on
pub stays_on : (J : List Row) (host : List ℕ) (frame : Result Frame FrameFault) (pass : Pass) → skipped_by J (host, frame) ≡ Some pass → is_end (skipped_outcome frame) ≡ false → ended_by pass host [] ≡ []
stays_on J host (Ok (Frame.Event e)) pass is not = old_stays (nat_le e.seq (cursor host J)) host pass is
stays_on J host (Ok (Frame.Faulty seq)) pass is not = old_stays (nat_le seq (cursor host J)) host pass is
stays_on J host (Ok Frame.Info) pass is not = some_pass Pass.Info pass host is refl
stays_on J host (Ok Frame.Error) pass is not = let no : ⊥ = cc in absurd no
stays_on J host (Ok Frame.Unknown) pass is not = some_pass Pass.Unknown pass host is refl
stays_on J host (Err FrameFault.BadFrame) pass is not = let no : ⊥ = cc in absurd no
stays_on J host (Err FrameFault.NoSeq) pass is not = let no : ⊥ = cc in absurd no
stays_on J host (Err FrameFault.Memory) pass is not = let no : ⊥ = cc in absurd no
