-- Steps are a run, and join and come apart.
use Rattle.std.proofs.Common.{◌≡◌, ℕ, Bool, true, false, List, [], ◌∷◌, ◌++◌, Option, Some, None, refl, sym, subst, append-nil, append_assoc}
use Rattle.relay_row.specs.declared.row.Row.{Row}
use Rattle.relay_core.specs.Decide.{Checks}
use Rattle.relay_core.specs.Report.{ended_by}
use Rattle.relay_core.specs.Runs.{Message, RunFrom, Turn, has_ended, skipped_by}
use Rattle.relay_core.specs.declared.decision.Pass.{Pass}
use Rattle.relay_step.specs.Laws.{StepsJoin, StepsRun}
use Rattle.relay_step.specs.Steps.{Decided, after_end, skipped, recorded, Step, AreSteps, IsDecidedAs, ended_by_all, ended_decided, message_of, messages, rows, rows_decided}

turn_ended : (b : Bool) (o : Option Pass) (ends passes takes : Type 0) → b ≡ true → passes → Turn b o ends passes takes
turn_ended true o ends passes takes is h = h
turn_ended false o ends passes takes is h = absurd cc

turn_takes : (b : Bool) (o : Option Pass) (ends passes takes : Type 0) → b ≡ false → o ≡ None → takes → Turn b o ends passes takes
turn_takes true o ends passes takes is none h = absurd cc
turn_takes false None ends passes takes is none h = h
turn_takes false (Some pass) ends passes takes is none h = absurd cc

behind_none : (checks : Checks) (J : List Row) (ended : List (List ℕ)) (ms : List Message) (rs : List Row) → RunFrom checks (J ++ []) ended ms rs → RunFrom checks J ended ms rs
behind_none checks J ended ms rs run = let P : List Row → Type 0 = λ K. RunFrom checks K ended ms rs in subst P (append-nil J) run

turn_passes : (checks : Checks) (J : List Row) (ended : List (List ℕ)) (m : Message) (ms : List Message) (rs : List Row) (takes : Type 0) (b : Bool) (o : Option Pass) (pass : Pass) → b ≡ false → o ≡ Some pass
    → RunFrom checks J (ended_by pass m.0 ended) ms rs → Turn b o (RunFrom checks J (m.0 ∷ ended) ms rs) (RunFrom checks J ended ms rs) takes
turn_passes checks J ended m ms rs takes true o pass is told run = absurd cc
turn_passes checks J ended m ms rs takes false None pass is told run = absurd cc
turn_passes checks J ended m ms rs takes false (Some p) pass is told run =
    let same : pass ≡ p = cc in
    go p (let P : Pass → Type 0 = λ q. RunFrom checks J (ended_by q m.0 ended) ms rs in subst P same run)
  where
    go : (q : Pass) → RunFrom checks J (ended_by q m.0 ended) ms rs → Turn false (Some q) (RunFrom checks J (m.0 ∷ ended) ms rs) (RunFrom checks J ended ms rs) takes
    go Pass.Ended run = run
    go Pass.Old run = run
    go Pass.Unknown run = run
    go Pass.Info run = run

pub steps_run : StepsRun
steps_run checks J ended [] are = refl
steps_run checks J ended (s ∷ steps) are = by_told s.decided are.0 (steps_run checks (J ++ rows_decided s.decided) (ended_decided s.decided s.host ended) steps are.1)
  where
    by_told : (t : Decided) → IsDecidedAs checks J ended (message_of s) t → RunFrom checks (J ++ rows_decided t) (ended_decided t s.host ended) (messages steps) (rows steps) → RunFrom checks J ended (message_of s ∷ messages steps) (rows_decided t ++ rows steps)
    by_told after_end told run = turn_ended (has_ended ended s.host) (skipped_by J (message_of s)) _ _ _ told (behind_none checks J ended (messages steps) (rows steps) run)
    by_told (skipped pass) told run =
        turn_passes checks J ended (message_of s) (messages steps) (rows steps) _ (has_ended ended s.host) (skipped_by J (message_of s)) pass told.0 told.1 (behind_none checks J (ended_by pass s.host ended) (messages steps) (rows steps) run)
    by_told (recorded t) told run = turn_takes (has_ended ended s.host) (skipped_by J (message_of s)) _ _ _ told.0 told.1 (Row.Taken t, rows steps, refl, told.2, run)

module _ (checks : Checks) where
  join : (J : List Row) (ended : List (List ℕ)) (front others : List Step) → AreSteps checks J ended front → AreSteps checks (J ++ rows front) (ended_by_all front ended) others → AreSteps checks J ended (front ++ others)
  join J ended [] others are more = let P : List Row → Type 0 = λ K. AreSteps checks K ended others in subst P (append-nil J) more
  join J ended (s ∷ front) others are more =
      let P : List Row → Type 0 = λ K. AreSteps checks K (ended_by_all front (ended_decided s.decided s.host ended)) others in
      (are.0, join (J ++ rows_decided s.decided) (ended_decided s.decided s.host ended) front others are.1 (subst P (sym (append_assoc J (rows_decided s.decided) (rows front))) more))

  part : (J : List Row) (ended : List (List ℕ)) (front others : List Step) → AreSteps checks J ended (front ++ others) → AreSteps checks J ended front × AreSteps checks (J ++ rows front) (ended_by_all front ended) others
  part J ended [] others are = let P : List Row → Type 0 = λ K. AreSteps checks K ended others in (tt, subst P (sym (append-nil J)) are)
  part J ended (s ∷ front) others are =
      let P : List Row → Type 0 = λ K. AreSteps checks K (ended_by_all front (ended_decided s.decided s.host ended)) others in
      let both = part (J ++ rows_decided s.decided) (ended_decided s.decided s.host ended) front others are.1 in
      ((are.0, both.0), subst P (append_assoc J (rows_decided s.decided) (rows front)) both.1)

pub steps_join : StepsJoin
steps_join checks J ended front others = (part checks J ended front others, λ both. join checks J ended front others both.0 both.1)
