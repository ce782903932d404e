-- What is said of a run: a line for each message, and one at the end (own). Links are their texts,
-- numbers are decimal, and each line ends in a line feed.
use Rattle.std.specs.Prelude.{ℕ, Bool, true, false, List, [], ◌∷◌, ◌++◌, length, Option, Some, None, Result, Ok, Err, codes, decimal, ◌==◌, if◌then◌else◌}
use Rattle.std.specs.List.{filter}
use Rattle.std.specs.Option.{is_some}
use Rattle.at_cid.specs.Text.{text_of}
use Rattle.at_event.specs.Refusals.{code_of, refusal_name}
use Rattle.at_event.specs.declared.frame.Frame.{Frame}
use Rattle.at_event.specs.declared.frame.FrameFault.{FrameFault}
use Rattle.at_event.specs.declared.refusal.Refusal.{Refusal}
use Rattle.relay_row.specs.Folds.{events, last_seq}
use Rattle.relay_row.specs.declared.fetched.Fetched.{Fetched}
use Rattle.relay_row.specs.declared.row.Row.{Row}
use Rattle.relay_row.specs.declared.taken.Taken.{Taken}
use Rattle.relay_core.specs.Runs.{Message, skipped_by, has_ended}
use Rattle.relay_core.specs.declared.decision.Pass.{Pass}

-- what a refusal says behind its name
abbrev pub detail_of : Refusal → List ℕ
detail_of (Refusal.BadNode link) = codes " at " ++ text_of link
detail_of (Refusal.OtherOp i) = codes " op " ++ decimal i
detail_of (Refusal.NotCovered i) = codes " op " ++ decimal i
detail_of (Refusal.OtherData want got) =
    codes " want " ++ (text_of want ++ (codes " got " ++ text_of got))
detail_of (Refusal.RepositoryRefused number) = codes " " ++ decimal number
detail_of other = []

-- a refusal, as it stands in every report
abbrev pub refused_of : Refusal → List ℕ
refused_of r =
    codes "refused " ++ (decimal (code_of r) ++ (codes " " ++ (refusal_name r ++ detail_of r)))

-- and what became of the fetch that followed
abbrev pub fetch_of : Fetched → List ℕ
fetch_of Fetched.NotAsked = []
fetch_of Fetched.Absent = codes " absent"
fetch_of (Fetched.Refused n) = codes " repository " ++ decimal n
fetch_of (Fetched.Whole w) = codes " synced "
    ++ (decimal w.seq ++ (codes " records " ++ decimal w.records))

abbrev pub outcome_of : Option Refusal → Taken → List ℕ
outcome_of None t = if t.seq == 0 then codes " held" else codes " event " ++ decimal t.seq
outcome_of (Some r) t = codes " " ++ (refused_of r ++ fetch_of t.fetched)

-- the line of a message that makes a row
abbrev pub taken_line : Taken → List ℕ
taken_line t = t.host ++ (codes " " ++ (decimal t.host_seq ++ (outcome_of t.refusal t ++ 10 ∷ [])))

abbrev pub row_line : Row → List ℕ
row_line (Row.Taken t) = taken_line t
row_line (Row.Synced did whole moment) = []
row_line (Row.Operated o) = []
row_line (Row.Carried c) = []

abbrev pub fault_word : FrameFault → List ℕ
fault_word FrameFault.BadFrame = codes " ended frame"
fault_word FrameFault.NoSeq = codes " ended seq"
fault_word FrameFault.Memory = []

abbrev pub frame_word : Frame → List ℕ
frame_word (Frame.Event e) = codes " " ++ (decimal e.seq ++ codes " old")
frame_word (Frame.Faulty seq) = codes " " ++ (decimal seq ++ codes " old")
frame_word Frame.Info = codes " info"
frame_word Frame.Error = codes " ended error"
frame_word Frame.Unknown = codes " unknown"

abbrev pub skipped_text : Result Frame FrameFault → List ℕ
skipped_text (Ok frame) = frame_word frame
skipped_text (Err fault) = fault_word fault

-- the line of a message that makes none
abbrev pub skipped_line : Message → List ℕ
skipped_line m = m.0 ++ (skipped_text m.1 ++ 10 ∷ [])

-- the line of a message of a host that ended before
abbrev pub over_line : List ℕ → List ℕ
over_line host = host ++ (codes " after end" ++ 10 ∷ [])

-- the hosts that have ended, behind a message that makes no row
abbrev pub ended_by : Pass → List ℕ → List (List ℕ) → List (List ℕ)
ended_by Pass.Ended host ended = host ∷ ended
ended_by Pass.Old host ended = ended
ended_by Pass.Unknown host ended = ended
ended_by Pass.Info host ended = ended

abbrev pub turn : {A : Type 0} → Bool → Option Pass → A → (Pass → A) → A → A
turn true pass over passes takes = over
turn false (Some pass) over passes takes = passes pass
turn false None over passes takes = takes

abbrev pub on_row : {A : Type 0} → List Row → A → (Row → List Row → A) → A
on_row [] nothing f = nothing
on_row (row ∷ rows) nothing f = f row rows

-- the lines of messages that make these rows behind a journal
abbrev pub lines_from : List Row → List (List ℕ) → List Message → List Row → List ℕ
lines_from J ended [] rows = []
lines_from J ended (m ∷ messages) rows = turn (has_ended ended m.0) (skipped_by J m)
    (over_line m.0 ++ lines_from J ended messages rows)
    (λ pass. skipped_line m ++ lines_from J (ended_by pass m.0 ended) messages rows)
    (on_row rows [] (λ row others. row_line row
    ++ lines_from (J ++ row ∷ []) ended messages others))

abbrev pub is_row_refused : Row → Bool
is_row_refused (Row.Taken t) = is_some t.refusal
is_row_refused (Row.Synced did whole moment) = false
is_row_refused (Row.Operated o) = false
is_row_refused (Row.Carried c) = false

-- the last line: how many messages there were, how many numbers were given, how many messages were
-- refused, and the last number
abbrev pub end_line : List Row → List Message → List Row → List ℕ
end_line J messages rows =
    codes "end " ++ (decimal (length messages)
    ++ (codes " events " ++ (decimal (length (events rows))
    ++ (codes " refused " ++ (decimal (length (filter is_row_refused rows))
    ++ (codes " last " ++ (decimal (last_seq (J ++ rows)) ++ 10 ∷ [])))))))

-- what is said of messages that make these rows behind a journal
abbrev pub report : List Row → List Message → List Row → List ℕ
report J messages rows = lines_from J [] messages rows ++ end_line J messages rows
