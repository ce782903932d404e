-- The events of a journal that a relay made are read as events.
use Rattle.std.proofs.Common.{inl, inr, ℕ, Bool, List, [], ◌∷◌, ◌++◌, sym, subst, append_assoc}
use Rattle.relay_row.specs.Folds.{did_of_row, events, events_in, last_seq}
use Rattle.relay_row.specs.Journal.{IsJournal, is_carried_row}
use Rattle.relay_row.specs.declared.row.Row.{Row}
use Rattle.relay_row.proofs.Journals.{fronts}
use Rattle.account_state.specs.Folds.{account, last_rev, moved}
use Rattle.account_state.specs.State.{State}
use Rattle.relay_core.specs.Decide.{Checks}
use Rattle.relay_core.specs.Opening.{OpensRight}
use Rattle.relay_law.specs.Right.{LinksRight}
use Rattle.chain_law.specs.Chained.{raises, AreReadEvents}
use Rattle.chain_law.specs.Given.{AreGiven}
use Rattle.chain_law.specs.Laws.{EventsAreRead}
use Rattle.chain_law.proofs.Sending.{Tells, row_tells}

joined_read : (xs ys : List (ℕ × List ℕ)) → AreReadEvents xs → AreReadEvents ys → AreReadEvents (xs ++ ys)
joined_read [] ys a b = b
joined_read (x ∷ xs) ys a b = (a.0, joined_read xs ys a.1 b)

told_read : (checks : Checks) (last : ℕ) (did : List ℕ) (carried raised : Bool) (a after : State) (sent : List (ℕ × List ℕ)) → Tells checks last did carried raised a after sent → AreReadEvents sent
told_read checks last did carried raised a after sent (inl quiet) = subst AreReadEvents (sym quiet.none) tt
told_read checks last did carried raised a after sent (inr s) = subst AreReadEvents (sym s.is) (record { seen = s.event; reads = s.reads; numbered = s.seq_is }, tt)

read_behind : (checks : Checks) → OpensRight checks → LinksRight checks → (rows front : List Row) → IsJournal (front ++ rows) → AreGiven checks front rows → AreReadEvents (events rows)
read_behind checks opens links [] front journal given = tt
read_behind checks opens links (row ∷ rows) front journal given =
    let P : List Row → Type 0 = λ X. IsJournal X in
    let on = subst P (sym (append_assoc front (row ∷ []) rows)) journal in
    joined_read (events_in row) (events rows)
    (told_read checks (last_seq front) (did_of_row row) (is_carried_row row) (raises (last_rev (account (did_of_row row) front).repo) row) (account (did_of_row row) front) (moved (account (did_of_row row) front) row) (events_in row)
    (row_tells checks opens links front row (fronts (front ++ row ∷ []) rows on) given.0))
    (read_behind checks opens links rows (front ++ row ∷ []) on given.1)

pub events_read : EventsAreRead
events_read checks opens links J journal given = read_behind checks opens links J [] journal given
