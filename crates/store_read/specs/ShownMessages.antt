-- Which events are shown, read off their messages alone (own).
use Rattle.std.specs.Prelude.{◌≡◌, ℕ, Bool, true, not, ◌&&◌, nat_le, List, Result, Ok, Err}
use Rattle.std.specs.List.{filter}
use Rattle.at_event.specs.Frames.{frame_of}
use Rattle.at_event.specs.declared.frame.Frame.{Frame}
use Rattle.at_event.specs.declared.frame.FrameFault.{FrameFault}
use Rattle.relay_row.specs.Folds.{events}
use Rattle.relay_row.specs.declared.row.Row.{Row}
use Rattle.account_state.specs.Folds.{account}
use Rattle.relay_core.specs.Rows.{kind_number}
use Rattle.relay_law.specs.Faithful.{IsFaithfulJournal}
use Rattle.relay_store.specs.Shown.{is_hidden, shown_of}

-- a commit or a sync isn't shown where its account, as the journal J stands, is hidden
abbrev pub is_frame_shown : List Row → Result Frame FrameFault → Bool
is_frame_shown J (Ok (Frame.Event e)) =
    not (nat_le (kind_number e.body) 2 && is_hidden (account e.did J))
is_frame_shown J (Ok (Frame.Faulty seq)) = true
is_frame_shown J (Ok Frame.Info) = true
is_frame_shown J (Ok Frame.Error) = true
is_frame_shown J (Ok Frame.Unknown) = true
is_frame_shown J (Err fault) = true

abbrev pub is_message_shown : List Row → List ℕ → Bool
is_message_shown J message = is_frame_shown J (frame_of message)

-- The events of a faithful journal that are shown are those whose messages are, read by themselves.
abbrev pub ShownAsRead : Type 0
ShownAsRead = (J : List Row) → IsFaithfulJournal J
    → shown_of J J ≡ filter (λ event. is_message_shown J event.1) (events J)
