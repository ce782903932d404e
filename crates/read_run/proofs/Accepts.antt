-- Guests who come, one after another.
use Rattle.std.proofs.Common.{◌≡◌, ◌∙◌, inr, ℕ, ◌+◌, List, [], ◌∷◌, ◌++◌, length, Bool, Some, None, Ok, Err, IsTrue, refl, sym, ap, arith, append_assoc, subst}
use Rattle.std.proofs.lemmas.List.{append-nil}
use Rattle.event_window.specs.Held.{Held}
use Rattle.relay_io.specs.Guests.{next_of, others_of}
use Rattle.relay_io.specs.declared.door.Guest.{Guest}
use Rattle.relay_io.specs.declared.door.Turn.{Turn}
use Rattle.backfill.specs.Serving.{sendings}
use Rattle.backfill.specs.Target.{cursor_in}
use Rattle.run_base.specs.declared.status.Status.{Status}
use Rattle.read_run.specs.AtDoor.{AtDoor, SessionIsBroken, GuestAccepted, IsStopped, SessionServed, Visited}
use Rattle.read_run.specs.Ends.{IsUnread}
use Rattle.read_run.specs.Sessions.{AllVisits, AreCounted, IsCounted, IsVisit, Visit, ending_of, guests_of, lines_behind, session_line, turns_of}
use Rattle.read_run.specs.declared.session.Session.{Session}
use Rattle.read_run.proofs.Ending.{by_unread}

-- ---- who comes at the door

-- who comes is the first of the guests
came_first : (guest : Guest) (guests : List Guest) → guest ≡ next_of guests → (guest ≡ Guest.End → ⊥)
    → guests ≡ guest ∷ others_of guests
came_first guest [] is other = absurd (other is)
came_first guest (g ∷ guests) is other = ap (λ (x : Guest). x ∷ guests) (sym is)

no_end : (held : Held) (guest : Guest) (sent : List (List ℕ)) (session : Session) → IsVisit held guest sent session
    → guest ≡ Guest.End → ⊥
no_end held guest sent session visit is = subst (λ (g : Guest). IsVisit held g sent session) is visit

target_no_end : (target : List ℕ) → Guest.Target target ≡ Guest.End → ⊥
target_no_end target is = cc

then_came : (old mid new : List Turn) (guest : Guest) (turns : List Turn) → mid ≡ old ++ Turn.Came guest ∷ []
    → new ≡ mid ++ turns → new ≡ old ++ Turn.Came guest ∷ turns
then_came old mid new guest turns first then = then ∙ ap (λ (l : List Turn). l
    ++ turns) first ∙ append_assoc old (Turn.Came guest ∷ []) turns

module _ (tells : Bool) (held : Held) (guest : Guest) (old mid new : AtDoor)
    (next : IsTrue tells → guest ≡ next_of old.guests) (gone : IsTrue tells → mid.guests ≡ others_of old.guests)
    (came : IsTrue tells → mid.turns ≡ old.turns ++ Turn.Came guest ∷ [])
    (same : IsTrue tells → new.guests ≡ mid.guests) where
  left : IsTrue tells → new.guests ≡ others_of old.guests
  left t = same t ∙ gone t

  met : (sent : List (List ℕ)) (session : Session) → IsVisit held guest sent session
      → (IsTrue tells → new.turns ≡ mid.turns ++ (sendings sent ++ ending_of session))
      → IsCounted session old.faults new.faults → GuestAccepted tells held old new (Ok (Some session))
  met sent session visit turns counted = (
    record { guest = guest; sent = sent; session = session; faults = new.faults },
    refl,
    record {
      each = (visit, tt);
      guests = λ t. came_first guest old.guests (next t) (no_end held guest sent session visit) ∙ ap
          (λ (l : List Guest). guest ∷ l) (sym (left t));
      turns = λ t. then_came old.turns mid.turns new.turns guest (sendings sent ++ ending_of session) (came t) (turns t)
          ∙ ap (λ (l : List Turn). old.turns ++ Turn.Came guest ∷ (sendings sent ++ l))
          (sym (append-nil (ending_of session)));
      counted = (counted, refl);
    },
  )

  -- one who waited was served
  pub accepted_served : (target : List ℕ) (session : Session) → guest ≡ Guest.Target target
      → SessionServed tells held (cursor_in target) mid.turns new.turns (Ok session)
      → IsCounted session old.faults new.faults → GuestAccepted tells held old new (Ok (Some session))
  accepted_served target session is served counted =
      met served.0 session (subst (λ (g : Guest). IsVisit held g served.0 session) (sym is) served.1) served.2 counted

  -- one without a handshake wasn't
  pub accepted_none : guest ≡ Guest.NoHandshake → new.turns ≡ mid.turns → new.faults ≡ old.faults
      → GuestAccepted tells held old new (Ok (Some Session.NoHandshake))
  accepted_none is turns counted =
      met [] Session.NoHandshake (subst (λ (g : Guest). IsVisit held g [] Session.NoHandshake) (sym is) (refl, refl))
      (λ _. turns ∙ sym (append-nil mid.turns)) counted

  pub accepted_nobody : guest ≡ Guest.End → new.turns ≡ mid.turns → new.faults ≡ old.faults
      → GuestAccepted tells held old new (Ok None)
  accepted_nobody is turns counted = (
    counted,
    λ t. (
      sym (next t) ∙ is,
      left t,
      turns ∙ came t ∙ ap (λ (g : Guest). old.turns ++ Turn.Came g ∷ []) is,
    ),
  )

  broken : (target : List ℕ) (status : Status) → guest ≡ Guest.Target target
      → SessionServed tells held (cursor_in target) mid.turns new.turns (Err status) → new.faults ≡ old.faults
      → SessionIsBroken tells held old new
  broken target status is served counted = record {
    target = target;
    sent = served.0;
    cut = served.1;
    guests = λ t. came_first (Guest.Target target) old.guests (sym is ∙ next t) (target_no_end target) ∙ ap
        (λ (l : List Guest). Guest.Target target ∷ l) (sym (left t));
    turns = λ t. then_came old.turns mid.turns new.turns guest (sendings served.0) (came t) (served.2 t) ∙ ap
        (λ (g : Guest). old.turns ++ Turn.Came g ∷ sendings served.0) is;
    counted = counted;
  }

  -- a session was broken off
  pub accepted_broken : (target : List ℕ) (status : Status) → IsUnread status → guest ≡ Guest.Target target
      → SessionServed tells held (cursor_in target) mid.turns new.turns (Err status)
      → new.faults ≡ old.faults → GuestAccepted tells held old new (Err status)
  accepted_broken target status of is served counted =
      let cut = broken target status is served counted in
      by_unread (λ s. IsStopped tells held s old new) (inr cut) (inr cut) (λ p. inr cut) status of

-- ---- visits one after another

all_more : (held : Held) (visits : List Visit) (v : Visit) → AllVisits held visits
    → IsVisit held v.guest v.sent v.session → AllVisits held (visits ++ v ∷ [])
all_more held [] v each is = (is, tt)
all_more held (first ∷ visits) v each is = (each.0, all_more held visits v each.1 is)

guests_more : (visits other : List Visit) → guests_of (visits ++ other) ≡ guests_of visits ++ guests_of other
guests_more [] other = refl
guests_more (v ∷ visits) other = ap (λ (l : List Guest). v.guest ∷ l) (guests_more visits other)

turns_more : (visits other : List Visit) → turns_of (visits ++ other) ≡ turns_of visits ++ turns_of other
turns_more [] other = refl
turns_more (v ∷ visits) other =
    ap (λ (l : List Turn). Turn.Came v.guest ∷ (sendings v.sent ++ (ending_of v.session ++ l)))
    (turns_more visits other)
    ∙ ap (λ (l : List Turn). Turn.Came v.guest ∷ (sendings v.sent ++ l))
    (sym (append_assoc (ending_of v.session) (turns_of visits) (turns_of other)))
    ∙ ap (λ (l : List Turn). Turn.Came v.guest ∷ l)
    (sym (append_assoc (sendings v.sent) (ending_of v.session ++ turns_of visits) (turns_of other)))

counted_more : (visits : List Visit) (v : Visit) (before mid now : ℕ) → AreCounted before visits mid
    → AreCounted mid (v ∷ []) now → AreCounted before (visits ++ v ∷ []) now
counted_more [] v before mid now first then = (subst (λ (n : ℕ). IsCounted v.session n v.faults) first then.0, then.1)
counted_more (w ∷ visits) v before mid now first then = (first.0, counted_more visits v w.faults mid now first.1 then)

-- no visit was made yet
pub visited_none : (tells : Bool) (held : Held) (door : AtDoor) → Visited tells held [] door door
visited_none tells held door = record {
  each = tt;
  guests = λ _. refl;
  turns = λ _. sym (append-nil door.turns);
  counted = refl;
}

pub visited_more : (tells : Bool) (held : Held) (visits : List Visit) (v : Visit) (old mid new : AtDoor)
    → Visited tells held visits old mid → Visited tells held (v ∷ []) mid new
    → Visited tells held (visits ++ v ∷ []) old new
visited_more tells held visits v old mid new first then = record {
  each = all_more held visits v first.each then.each.0;
  guests = λ t. first.guests t ∙ ap (λ (l : List Guest). guests_of visits ++ l) (then.guests t) ∙ sym
      (append_assoc (guests_of visits) (v.guest ∷ []) new.guests)
      ∙ ap (λ (l : List Guest). l ++ new.guests) (sym (guests_more visits (v ∷ [])));
  turns = λ t. then.turns t ∙ ap (λ (l : List Turn). l ++ turns_of (v ∷ [])) (first.turns t) ∙ append_assoc old.turns
      (turns_of visits) (turns_of (v ∷ []))
      ∙ ap (λ (l : List Turn). old.turns ++ l) (sym (turns_more visits (v ∷ [])));
  counted = counted_more visits v old.faults mid.faults new.faults first.counted then.counted;
}

-- the lines of them
pub lines_more : (n : ℕ) (visits : List Visit) (v : Visit)
    → lines_behind n (visits ++ v ∷ []) ≡ lines_behind n visits ++ session_line (n + length visits + 1) v.session
lines_more n [] v = append-nil (session_line (n + 1) v.session) ∙ ap (λ (m : ℕ). session_line m v.session) (omega arith)
lines_more n (w ∷ visits) v =
    ap (λ (l : List ℕ). session_line (n + 1) w.session ++ l) (lines_more (n + 1) visits v)
    ∙ ap (λ (m : ℕ). session_line (n + 1) w.session ++ (lines_behind (n + 1) visits ++ session_line m v.session))
    (omega arith)
    ∙ sym (append_assoc (session_line (n + 1) w.session) (lines_behind (n + 1) visits)
    (session_line (n + length (w ∷ visits) + 1) v.session))
