-- The lines of a report, by what was answered (own). Links are their texts, numbers are decimal,
-- and each line ends in a line feed.
use Rattle.std.specs.Prelude.{◌≡◌, ◌≢◌, ℕ, List, [], ◌∷◌, ◌++◌, length, Err, codes, decimal}
use Rattle.std.specs.List.{filter}
use Rattle.at_event.specs.declared.frame.FrameFault.{FrameFault}
use Rattle.relay_row.specs.Folds.{events, last_seq}
use Rattle.relay_row.specs.declared.row.Row.{Row}
use Rattle.relay_row.specs.declared.taken.Taken.{Taken}
use Rattle.relay_core.specs.Report.{end_line, is_row_refused, skipped_line, refused_of, taken_line}
use Rattle.relay_core.specs.Runs.{Message}
use Rattle.store_take.specs.Outcomes.{skipped_outcome, taken_outcome}
use Rattle.store_take.specs.declared.outcome.End.{End}
use Rattle.store_take.specs.declared.outcome.Fetch.{Fetch}
use Rattle.store_take.specs.declared.outcome.Outcome.{Outcome}

abbrev pub fetch_word : Fetch → List ℕ
fetch_word Fetch.NotAsked = []
fetch_word Fetch.Absent = codes " absent"
fetch_word (Fetch.Refused n) = codes " repository " ++ decimal n
fetch_word (Fetch.Whole seq records) =
    codes " synced " ++ (decimal seq ++ (codes " records " ++ decimal records))

abbrev pub end_word : End → List ℕ
end_word End.BadFrame = codes " ended frame"
end_word End.NoSeq = codes " ended seq"
end_word End.Error = codes " ended error"

abbrev pub outcome_word : Outcome → List ℕ
outcome_word (Outcome.Event n seq) = codes " " ++ (decimal n ++ (codes " event " ++ decimal seq))
outcome_word (Outcome.Held n) = codes " " ++ (decimal n ++ codes " held")
outcome_word (Outcome.Refused n r f) =
    codes " " ++ (decimal n ++ (codes " " ++ (refused_of r ++ fetch_word f)))
outcome_word (Outcome.Old n) = codes " " ++ (decimal n ++ codes " old")
outcome_word Outcome.Unknown = codes " unknown"
outcome_word Outcome.Info = codes " info"
outcome_word (Outcome.Ended end) = end_word end

-- the line of a message of a host
abbrev pub line_of : List ℕ → Outcome → List ℕ
line_of host o = host ++ (outcome_word o ++ 10 ∷ [])

-- the last line: how many messages there were, how many numbers were given, how many messages were
-- refused, and the last number
abbrev pub end_line_of : ℕ → ℕ → ℕ → ℕ → List ℕ
end_line_of messages events refused last =
    codes "end " ++ (decimal messages ++
    (codes " events " ++ (decimal events
    ++ (codes " refused " ++ (decimal refused ++ (codes " last " ++ (decimal last ++ 10 ∷ [])))))))

-- They are the lines of the report.
pub record LinesReport : Type 0 where
  pub taken : (t : Taken) → line_of t.host (taken_outcome t) ≡ taken_line t
  pub passed : (m : Message) → m.1 ≢ Err FrameFault.Memory
      → line_of m.0 (skipped_outcome m.1) ≡ skipped_line m
  pub end : (J : List Row) (messages : List Message) (rows : List Row)
      → end_line_of (length messages) (length (events rows)) (length (filter is_row_refused rows))
      (last_seq (J ++ rows)) ≡ end_line J messages rows
