-- What the rows of a faithful journal send is read as events of their accounts.
use Rattle.std.proofs.Common.{◌≡◌, ◌≢◌, ℕ, Bool, true, false, ◌&&◌, cond, List, [], ◌∷◌, ◌++◌, Ok, refl, subst, arith}
use Rattle.std.proofs.lemmas.Bool.{and_parts}
use Rattle.std.proofs.lemmas.Bool.Decides.{nat_tests}
use Rattle.std.specs.List.{list_all}
use Rattle.std.specs.Prelude.{⊤, IsTrue, ◌==◌}
use Rattle.at_cid.specs.Link.{IsBytes}
use Rattle.at_syntax.specs.Did.{is_did}
use Rattle.at_event.specs.Frames.{frame_of}
use Rattle.at_event.specs.Seen.{Seen}
use Rattle.at_event.specs.declared.frame.Frame.{Frame}
use Rattle.at_event.proofs.Formed.{events_formed, frames_events}
use Rattle.event_window.specs.Held.{Event}
use Rattle.relay_row.specs.Folds.{did_of_row, events_in, events_of}
use Rattle.relay_row.specs.Rules.{is_head, is_message, is_moment, is_number, is_operated, is_positive, is_row, is_timed, is_whole, names_did}
use Rattle.relay_row.specs.declared.fetched.Fetched.{Fetched}
use Rattle.relay_row.specs.declared.fetched.Whole.{Whole}
use Rattle.relay_row.specs.declared.row.Row.{Row}
use Rattle.relay_row.specs.declared.taken.Taken.{Taken}
use Rattle.relay_row.proofs.Fits.{FitsFetched, message_fits, taken_fits}
use Rattle.account_state.specs.Folds.{account}
use Rattle.relay_law.specs.Faithful.{HoldsOfWhole, SendsSync, SendsWhatItKeeps, SendWhatTheyKeep}
use Rattle.relay_law.proofs.Reading.{EventRead, event_read}
use Rattle.relay_store.specs.Shown.{is_shown, shown_of}

-- a message is read as an event of this account
pub record IsOf (did message : List ℕ) : Type 0 where
  pub event : Seen
  pub bytes : IsBytes message
  pub reads : frame_of message ≡ Ok (Frame.Event event)
  pub did_is : event.did ≡ did

abbrev pub AreOf : List ℕ → List Event → Type 0
AreOf did [] = ⊤
AreOf did (event ∷ others) = IsOf did event.1 × AreOf did others

-- the account has a DID
pub has_did : (did message : List ℕ) → IsOf did message → IsTrue (is_did did)
has_did did message is =
    let P : List ℕ → Type 0 = λ d. IsTrue (is_did d) in
    subst P is.did_is (events_formed is.event (frames_events message is.event is.bytes is.reads)).did

whole_bytes : (w : Whole) → is_whole w ≡ true → IsBytes w.message
unfolding is_whole
whole_bytes w h =
    let behind = and_parts (is_positive w.seq) (is_head w.head && (is_number w.records && is_message w.message)) h in
    let rest = and_parts (is_head w.head) (is_number w.records && is_message w.message) behind.1 in
    (message_fits w.message (and_parts (is_number w.records) (is_message w.message) rest.1).1).1

fetched_of : (did : List ℕ) (timed : Bool) (f : Fetched) → FitsFetched timed f → HoldsOfWhole (SendsSync did) f → AreOf did (events_of f)
fetched_of did timed Fetched.NotAsked fits h = tt
fetched_of did timed Fetched.Absent fits h = tt
fetched_of did timed (Fetched.Refused n) fits h = tt
fetched_of did timed (Fetched.Whole w) fits h = (record { event = h.event; bytes = whole_bytes w fits; reads = h.reads; did_is = h.did_is }, tt)

pub nonzero : (n : ℕ) → n == 0 ≡ false → n ≢ 0
nonzero n h = grind (arith, nat_tests)

taken_of : (t : Taken) (silent : Bool) → t.seq == 0 ≡ silent → IsBytes t.message → FitsFetched (is_timed t.moment) t.fetched → EventRead t → HoldsOfWhole (SendsSync t.did) t.fetched → AreOf t.did (cond silent (events_of t.fetched) ((t.seq, t.message) ∷ []))
taken_of t true is bytes fits own fetched = fetched_of t.did (is_timed t.moment) t.fetched fits fetched
taken_of t false is bytes fits own fetched = let r = own (nonzero t.seq is) in (record { event = r.event; bytes = bytes; reads = r.reads; did_is = r.did_is }, tt)

pub sends_of : (J : List Row) (row : Row) → is_row row ≡ true → SendsWhatItKeeps J row → AreOf (did_of_row row) (events_in row)
unfolding is_row is_operated
sends_of J (Row.Taken t) formed h = let fits = taken_fits t formed in taken_of t (t.seq == 0) refl fits.message.1 fits.fetched (event_read (account t.did J).repo t t.effect h.0) h.1
sends_of J (Row.Synced did w moment) formed h =
    let whole = (and_parts (is_whole w) (is_moment moment) (and_parts (names_did did) (is_whole w && is_moment moment) formed).1).0 in
    (record { event = h.event; bytes = whole_bytes w whole; reads = h.reads; did_is = h.did_is }, tt)
sends_of J (Row.Operated o) formed h =
    let rest = (and_parts (names_did o.did) (is_positive o.seq && (is_message o.message && is_moment o.moment)) formed).1 in
    let message = and_parts (is_message o.message) (is_moment o.moment) (and_parts (is_positive o.seq) (is_message o.message && is_moment o.moment) rest).1 in
    (record { event = h.event; bytes = (message_fits o.message message.0).1; reads = h.reads; did_is = h.did_is }, tt)
sends_of J (Row.Carried c) formed h = tt

pub shown_or_none : (shown : Bool) (did : List ℕ) (events : List Event) → AreOf did events → AreOf did (cond shown events [])
shown_or_none true did events h = h
shown_or_none false did events h = tt

-- ---- of all rows

abbrev pub AreSent : List Event → Type 0
AreSent [] = ⊤
AreSent (event ∷ others) = ((did : List ℕ) × IsOf did event.1) × AreSent others

sent_more : (did : List ℕ) (events others : List Event) → AreOf did events → AreSent others → AreSent (events ++ others)
sent_more did [] others of sent = sent
sent_more did (event ∷ events) others of sent = ((did, of.0), sent_more did events others of.1 sent)

pub all_sent : (J before rows : List Row) → list_all is_row rows ≡ true → SendWhatTheyKeep before rows → AreSent (shown_of J rows)
all_sent J before [] formed sends = tt
all_sent J before (row ∷ rows) formed sends =
    let both = and_parts (is_row row) (list_all is_row rows) formed in
    sent_more (did_of_row row) (cond (is_shown J row) (events_in row) []) (shown_of J rows)
    (shown_or_none (is_shown J row) (did_of_row row) (events_in row) (sends_of before row both.0 sends.0)) (all_sent J (before ++ row ∷ []) rows both.1 sends.1)
