-- What is served from the start is what the rows of a journal send.
use Rattle.std.proofs.Common.{◌≡◌, ℕ, ◌<◌, ◌≤◌, ◌⊎◌, inl, inr, Bool, true, false, ◌&&◌, cond, List, [], ◌∷◌, ◌++◌, Some, refl, ap, sym, ◌∙◌, subst, append_assoc, arith}
use Rattle.std.proofs.lemmas.Bool.{and_parts, ltb-true}
use Rattle.std.proofs.lemmas.Bool.Decides.{nat_tests}
use Rattle.std.proofs.lemmas.List.{map-append}
use Rattle.std.specs.List.{list_all}
use Rattle.std.specs.Prelude.{◌==◌, nat_le, nat_lt}
use Rattle.event_window.specs.Held.{Event, Held}
use Rattle.backfill.specs.Laws.{AreRising}
use Rattle.backfill.specs.Served.{following, messages_of, notice_of, rising_above, served, standing_of}
use Rattle.backfill.specs.declared.standing.Standing.{Standing}
use Rattle.relay_row.specs.Folds.{cursor, events_in, events_of, last_after, last_seq, seq_in, first_seq}
use Rattle.relay_row.specs.Journal.{IsJournal, are_none, rises_above, keeps_order}
use Rattle.relay_row.specs.Rules.{is_head, is_message, is_moment, is_number, is_operated, is_positive, is_row, is_timed, is_whole, names_did}
use Rattle.relay_row.specs.declared.carried.Carried.{Carried}
use Rattle.relay_row.specs.declared.fetched.Fetched.{Fetched}
use Rattle.relay_row.specs.declared.fetched.Whole.{Whole}
use Rattle.relay_row.specs.declared.row.Row.{Row}
use Rattle.relay_row.specs.declared.taken.Taken.{Taken}
use Rattle.relay_row.proofs.Journals.{lasts_joined}
use Rattle.relay_row.proofs.Fits.{FitsFetched, taken_fits}
use Rattle.mirror_law.specs.Laws.{StreamsAreSent}
use Rattle.relay_store.specs.Shown.{held_by, is_shown, shown_of}

-- ---- the number of a row's event

-- no event, or one under a number
abbrev IsNumbered : List Event → Type 0
IsNumbered events = (events ≡ []) ⊎ ((m : List ℕ) × (events ≡ (first_seq events, m) ∷ []) × (0 < first_seq events))

positive : (n : ℕ) → is_positive n ≡ true → 0 < n
positive n h = ltb-true 0 n (and_parts (nat_lt 0 n) (is_number n) h).0

whole_positive : (w : Whole) → is_whole w ≡ true → 0 < w.seq
unfolding is_whole
whole_positive w h = positive w.seq (and_parts (is_positive w.seq) (is_head w.head && (is_number w.records && is_message w.message)) h).0

above_zero : (n : ℕ) → n == 0 ≡ false → 0 < n
above_zero n h = grind (arith, nat_tests)

fetched_numbered : (timed : Bool) (f : Fetched) → FitsFetched timed f → IsNumbered (events_of f)
fetched_numbered timed Fetched.NotAsked h = inl refl
fetched_numbered timed Fetched.Absent h = inl refl
fetched_numbered timed (Fetched.Refused n) h = inl refl
fetched_numbered timed (Fetched.Whole w) h = inr (w.message, refl, whole_positive w h)

taken_numbered : (t : Taken) (silent : Bool) → t.seq == 0 ≡ silent → FitsFetched (is_timed t.moment) t.fetched → IsNumbered (cond silent (events_of t.fetched) ((t.seq, t.message) ∷ []))
taken_numbered t true is h = fetched_numbered (is_timed t.moment) t.fetched h
taken_numbered t false is h = inr (t.message, refl, above_zero t.seq is)

numbered : (row : Row) → is_row row ≡ true → IsNumbered (events_in row)
unfolding is_row is_operated
numbered (Row.Taken t) h = taken_numbered t (t.seq == 0) refl (taken_fits t h).fetched
numbered (Row.Synced did w moment) h = inr (w.message, refl, whole_positive w (and_parts (is_whole w) (is_moment moment) (and_parts (names_did did) (is_whole w && is_moment moment) h).1).0)
numbered (Row.Operated o) h = inr (o.message, refl, positive o.seq (and_parts (is_positive o.seq) (is_message o.message && is_moment o.moment) (and_parts (names_did o.did) (is_positive o.seq && (is_message o.message && is_moment o.moment)) h).1).0)
numbered (Row.Carried c) h = inl refl

-- ---- numbers rise

-- behind a number: it is at least the last one, and where there is an event, the event's
record IsBehind (last now : ℕ) (events : List Event) : Type 0 where
  least : last ≤ now
  above : 0 < first_seq events → (last < first_seq events) × (now ≡ first_seq events)

by_number : (last seq : ℕ) (events : List Event) → seq ≡ first_seq events → rises_above last seq ≡ true → IsBehind last (cond (seq == 0) last seq) events
by_number last seq events is h = record { least = grind (arith, nat_tests); above = λ some. (grind (arith, nat_tests), grind (arith, nat_tests)) }

none_last : (rows : List Row) → are_none rows ≡ true → last_seq rows ≡ 0
unfolding last_seq
none_last [] h = refl
none_last (row ∷ rows) h = absurd cc

behind : (before : List Row) (row : Row) → keeps_order before row ≡ true → IsBehind (last_seq before) (last_after (last_seq before) row) (events_in row)
behind before (Row.Taken t) h = by_number (last_seq before) (seq_in (Row.Taken t)) (events_in (Row.Taken t)) refl (and_parts (nat_lt (cursor t.host before) t.host_seq) (rises_above (last_seq before) (seq_in (Row.Taken t))) h).1
behind before (Row.Synced did w moment) h = by_number (last_seq before) w.seq (events_in (Row.Synced did w moment)) refl h
behind before (Row.Operated o) h = by_number (last_seq before) o.seq (events_in (Row.Operated o)) refl h
behind before (Row.Carried (Carried.Last seq)) h =
    let none : last_seq before ≡ 0 = none_last before h in
    record { least = omega (arith, none); above = λ some. absurd (omega (arith, some)) }
behind before (Row.Carried (Carried.Host host n)) h = record { least = omega arith; above = λ some. absurd (omega (arith, some)) }
behind before (Row.Carried (Carried.Account a)) h = record { least = omega arith; above = λ some. absurd (omega (arith, some)) }

rising_from : (m n : ℕ) (events : List Event) → m ≤ n → AreRising n events → AreRising m events
rising_from m n [] le rise = tt
rising_from m n (e ∷ events) le rise = let up : n < e.0 = rise.0 in (omega (arith, le, up), rise.1)

one_rises : (shown : Bool) (last now : ℕ) (events rest : List Event) → IsNumbered events → IsBehind last now events → AreRising now rest → AreRising last (cond shown events [] ++ rest)
one_rises false last now events rest is b rise = rising_from last now rest b.least rise
one_rises true last now events rest (inl none) b rise =
    let P : List Event → Type 0 = λ es. AreRising last (es ++ rest) in
    subst P (sym none) (rising_from last now rest b.least rise)
one_rises true last now events rest (inr some) b rise =
    let P : List Event → Type 0 = λ es. AreRising last (es ++ rest) in
    let Q : ℕ → Type 0 = λ n. AreRising n rest in
    let above = b.above some.2 in
    subst P (sym some.1) (above.0, subst Q above.1 rise)

shown_rise : (J before rows : List Row) → IsJournal (before ++ rows) → list_all is_row rows ≡ true → AreRising (last_seq before) (shown_of J rows)
shown_rise J before [] is formed = tt
shown_rise J before (row ∷ rows) is formed =
    let both = and_parts (is_row row) (list_all is_row rows) formed in
    let P : ℕ → Type 0 = λ n. AreRising n (shown_of J rows) in
    one_rises (is_shown J row) (last_seq before) (last_after (last_seq before) row) (events_in row) (shown_of J rows) (numbered row both.0) (behind before row (is.ordered before row rows refl))
    (subst P (lasts_joined before (row ∷ [])) (shown_rise J (before ++ row ∷ []) rows (subst IsJournal (sym (append_assoc before (row ∷ []) rows)) is) both.1))

-- ---- all that is shown is served from the start

not_at_most : (e n : ℕ) → n < e → nat_le e n ≡ false
not_at_most e n h = grind (arith, nat_tests)

all_rise : (n : ℕ) (events : List Event) → AreRising n events → rising_above n events ≡ events
all_rise n [] rise = refl
all_rise n (e ∷ events) rise =
    ap (λ (b : Bool). cond b (rising_above n events) (e ∷ rising_above e.0 events)) (not_at_most e.0 n rise.0) ∙ ap (λ (es : List Event). e ∷ es) (all_rise e.0 events rise.1)

none_below : (n : ℕ) → nat_lt n 0 ≡ false
none_below n = grind (arith, nat_tests)

from_start : (held : Held) → served held (Some 0) ≡ messages_of (rising_above 0 held.shown)
from_start held =
    let current : standing_of held 0 ≡ Standing.Current = ap (λ (b : Bool). cond b Standing.Future Standing.Current) (none_below held.last) in
    ap (λ (s : Standing). notice_of s ++ following s held.shown 0) current

shown_joined : (J xs ys : List Row) → shown_of J (xs ++ ys) ≡ shown_of J xs ++ shown_of J ys
shown_joined J [] ys = refl
shown_joined J (row ∷ xs) ys =
    let now : List Event = cond (is_shown J row) (events_in row) [] in
    ap (λ (es : List Event). now ++ es) (shown_joined J xs ys) ∙ sym (append_assoc now (shown_of J xs) (shown_of J ys))

last_none : last_seq [] ≡ 0
unfolding last_seq
last_none = refl

pub streams_sent : StreamsAreSent
streams_sent J front others whole journal =
    let P : ℕ → Type 0 = λ n. AreRising n (shown_of J J) in
    let message : Event → List ℕ = λ e. e.1 in
    let rise = subst P last_none (shown_rise J [] J journal journal.formed) in
    from_start (held_by J) ∙ ap messages_of (all_rise 0 (shown_of J J) rise ∙ ap (λ (R : List Row). shown_of J R) whole ∙ shown_joined J front others) ∙ map-append message (shown_of J front) (shown_of J others)
