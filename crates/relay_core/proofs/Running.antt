-- A run in a world is a run for the answers that its rows show.
use Rattle.std.proofs.Common.{◌≡◌, ℕ, Bool, true, false, List, [], ◌∷◌, ◌++◌, Option, Some, None, Ok, Err, refl, ap, subst}
use Rattle.at_event.specs.declared.frame.Frame.{Frame}
use Rattle.relay_row.specs.Folds.{last_seq}
use Rattle.relay_row.specs.declared.row.Row.{Row}
use Rattle.relay_row.specs.declared.taken.Taken.{Taken}
use Rattle.account_state.specs.Folds.{account}
use Rattle.relay_core.specs.Decide.{Checks, decided, decided_event}
use Rattle.relay_core.specs.Laws.{WorldsRun}
use Rattle.relay_core.specs.Runs.{Message, Turn, IsMadeBy, RunFrom, skipped_by, has_ended}
use Rattle.relay_core.specs.Rows.{faulty_taken}
use Rattle.relay_core.specs.Shown.{shown}
use Rattle.relay_core.specs.Table.{did_of}
use Rattle.relay_core.specs.Worlds.{World, outside, CanSendFor, outside_of, IsMadeIn, RunsIn}
use Rattle.relay_core.specs.declared.decision.Pass.{Pass}
use Rattle.relay_core.proofs.Showing.{rows_show}

taken_is : (s t : Taken) → Some s ≡ Some t → s ≡ t
taken_is s t e = cc

made_so : (checks : Checks) (w : World) (J : List Row) (host : List ℕ) (f : Frame) (t : Taken) → CanSendFor w J host f
    → decided checks (last_seq J) (account (did_of f) J) host f (outside_of w host (account (did_of f) J) f) ≡ Some t
    → decided checks (last_seq J) (account (did_of f) J) host f (shown t) ≡ Some t
made_so checks w J host (Frame.Event e) t can made =
    let P : Taken → Type 0 = λ s. Some (decided_event checks (last_seq J) (account e.did J) host e (shown s)) ≡ Some s in
    subst P (taken_is (decided_event checks (last_seq J) (account e.did J) host e (outside w host (account e.did J) e)) t made)
    (ap (λ (s : Taken). Some s) (rows_show checks (last_seq J) (account e.did J) host e (outside w host (account e.did J) e) can))
made_so checks w J host (Frame.Faulty seq) t can made =
    let P : Taken → Type 0 = λ s. decided checks (last_seq J) (account (did_of (Frame.Faulty seq)) J) host (Frame.Faulty seq) (shown s) ≡ Some s in
    subst P (taken_is (faulty_taken host seq (Some (w.moment host (Frame.Faulty seq)))) t made) refl
made_so checks w J host Frame.Info t can made = absurd cc
made_so checks w J host Frame.Error t can made = absurd cc
made_so checks w J host Frame.Unknown t can made = absurd cc

row_shown : (checks : Checks) (w : World) (J : List Row) (m : Message) (row : Row) → IsMadeIn checks w J m row → IsMadeBy checks J m row
row_shown checks w J (host, Ok f) (Row.Taken t) h = made_so checks w J host f t h.0 h.1
row_shown checks w J (host, Ok f) (Row.Synced did whole moment) h = absurd h
row_shown checks w J (host, Ok f) (Row.Operated o) h = absurd h
row_shown checks w J (host, Ok f) (Row.Carried c) h = absurd h
row_shown checks w J (host, Err fault) row h = absurd h

turned : (checks : Checks) (w : World) (J : List Row) (ended : List (List ℕ)) (m : Message) (messages : List Message) (b : Bool) (p : Option Pass) (rows : List Row)
    → ((K : List Row) (F : List (List ℕ)) (S : List Row) → RunsIn checks w K F messages S → RunFrom checks K F messages S)
    → Turn b p (RunsIn checks w J (m.0 ∷ ended) messages rows) (RunsIn checks w J ended messages rows)
    ((row : Row) × (others : List Row) × (rows ≡ row ∷ others) × IsMadeIn checks w J m row × RunsIn checks w (J ++ row ∷ []) ended messages others)
    → Turn b p (RunFrom checks J (m.0 ∷ ended) messages rows) (RunFrom checks J ended messages rows)
    ((row : Row) × (others : List Row) × (rows ≡ row ∷ others) × IsMadeBy checks J m row × RunFrom checks (J ++ row ∷ []) ended messages others)
turned checks w J ended m messages true p rows more h = more J ended rows h
turned checks w J ended m messages false (Some Pass.Ended) rows more h = more J (m.0 ∷ ended) rows h
turned checks w J ended m messages false (Some Pass.Old) rows more h = more J ended rows h
turned checks w J ended m messages false (Some Pass.Unknown) rows more h = more J ended rows h
turned checks w J ended m messages false (Some Pass.Info) rows more h = more J ended rows h
turned checks w J ended m messages false None rows more (row, others, is, made, run) =
    (row, others, is, row_shown checks w J m row made, more (J ++ row ∷ []) ended others run)

runs_from : (checks : Checks) (w : World) (J : List Row) (ended : List (List ℕ)) (messages : List Message) (rows : List Row) → RunsIn checks w J ended messages rows → RunFrom checks J ended messages rows
runs_from checks w J ended [] rows h = h
runs_from checks w J ended (m ∷ messages) rows h =
    turned checks w J ended m messages (has_ended ended m.0) (skipped_by J m) rows (λ K F S k. runs_from checks w K F messages S k) h

pub worlds_run : WorldsRun
worlds_run checks w J messages rows h = runs_from checks w J [] messages rows h
