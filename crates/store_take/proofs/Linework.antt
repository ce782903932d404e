-- The lines of what was answered are those of the report.
use Rattle.std.proofs.Common.{◌≡◌, ◌≢◌, ℕ, List, [], ◌∷◌, ◌++◌, true, false, Option, Some, None, Ok, Err, refl, ap, ◌∙◌, append_assoc}
use Rattle.std.specs.Prelude.{codes, decimal, ◌==◌, if◌then◌else◌}
use Rattle.at_event.specs.declared.frame.Frame.{Frame}
use Rattle.at_event.specs.declared.frame.FrameFault.{FrameFault}
use Rattle.at_event.specs.declared.refusal.Refusal.{Refusal}
use Rattle.relay_row.specs.declared.fetched.Fetched.{Fetched}
use Rattle.relay_row.specs.declared.taken.Taken.{Taken}
use Rattle.relay_core.specs.Report.{fetch_of, skipped_line, refused_of}
use Rattle.relay_core.specs.Report.{outcome_of as outcome_text}
use Rattle.relay_core.specs.Runs.{Message}
use Rattle.store_take.specs.Lines.{LinesReport, fetch_word, line_of}
use Rattle.store_take.specs.Outcomes.{fetch_in, outcome_as, skipped_outcome}
use Rattle.store_take.specs.declared.outcome.Outcome.{Outcome}

parts : (host number command end : List ℕ) → host ++ ((codes " " ++ (number ++ command)) ++ end) ≡ host ++ (codes " " ++ (number ++ (command ++ end)))
parts host number command end = ap (λ (l : List ℕ). host ++ l) (append_assoc (codes " ") (number ++ command) end ∙ ap (λ (l : List ℕ). codes " " ++ l) (append_assoc number command end))

fetch_is : (f : Fetched) → fetch_word (fetch_in f) ≡ fetch_of f
fetch_is Fetched.NotAsked = refl
fetch_is Fetched.Absent = refl
fetch_is (Fetched.Refused n) = refl
fetch_is (Fetched.Whole w) = refl

taken_by : (r : Option Refusal) (t : Taken) → line_of t.host (outcome_as r t) ≡ t.host ++ (codes " " ++ (decimal t.host_seq ++ (outcome_text r t ++ 10 ∷ [])))
taken_by None t = elim (t.seq == 0) as (λ b. line_of t.host (if b then Outcome.Held t.host_seq else Outcome.Event t.host_seq t.seq)
    ≡ t.host ++ (codes " " ++ (decimal t.host_seq ++ ((if b then codes " held" else codes " event " ++ decimal t.seq) ++ 10 ∷ [])))) [
      | true ↦ parts t.host (decimal t.host_seq) (codes " held") (10 ∷ [])
      | false ↦ parts t.host (decimal t.host_seq) (codes " event " ++ decimal t.seq) (10 ∷ [])
    ]
taken_by (Some r) t =
    parts t.host (decimal t.host_seq) (codes " " ++ (refused_of r ++ fetch_word (fetch_in t.fetched))) (10 ∷ [])
    ∙ ap (λ (l : List ℕ). t.host ++ (codes " " ++ (decimal t.host_seq ++ ((codes " " ++ (refused_of r ++ l)) ++ 10 ∷ [])))) (fetch_is t.fetched)

skipped_by : (m : Message) → m.1 ≢ Err FrameFault.Memory → line_of m.0 (skipped_outcome m.1) ≡ skipped_line m
skipped_by (host, Ok (Frame.Event e)) not = refl
skipped_by (host, Ok (Frame.Faulty seq)) not = refl
skipped_by (host, Ok Frame.Info) not = refl
skipped_by (host, Ok Frame.Error) not = refl
skipped_by (host, Ok Frame.Unknown) not = refl
skipped_by (host, Err FrameFault.BadFrame) not = refl
skipped_by (host, Err FrameFault.NoSeq) not = refl
skipped_by (host, Err FrameFault.Memory) not = absurd (not refl)

pub lines_report : LinesReport
lines_report = record {
  taken = λ t. taken_by t.refusal t;
  passed = skipped_by;
  end = λ J messages rows. refl;
}
