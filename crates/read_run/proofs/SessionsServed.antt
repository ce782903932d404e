-- What a guest was sent, and what comes of it.
use Rattle.std.proofs.Common.{◌≡◌, ◌∙◌, ◌⊎◌, inl, inr, ℕ, ◌-◌, List, [], ◌∷◌, ◌++◌, length, Bool, true, false, Option, Some, None, Result, Ok, Err, IsTrue, IfErr, OnOk, refl, sym, ap, arith, length-append, subst}
use Rattle.std.proofs.lemmas.List.{append-nil}
use Rattle.event_window.specs.Held.{Held}
use Rattle.relay_io.specs.declared.door.Turn.{Turn}
use Rattle.backfill.specs.Served.{is_future, notice, served, served_events}
use Rattle.backfill.specs.Serving.{IsCountOf, Serves, sendings}
use Rattle.backfill.specs.declared.serve_fault.ServeFault.{ServeFault}
use Rattle.backfill.specs.declared.serving.Served.{Served}
use Rattle.backfill.specs.declared.target_fault.TargetFault.{TargetFault}
use Rattle.read_run.specs.AtDoor.{SessionServed}
use Rattle.run_base.specs.declared.status.Status.{Status}
use Rattle.read_run.specs.Ends.{IsUnread, session_after}
use Rattle.read_run.specs.Guests.{IsSessionCount}
use Rattle.read_run.specs.Sessions.{IsCounted, came_of, ending_of, session_of}
use Rattle.read_run.specs.declared.session.Session.{Session}

-- how many of what is to be sent are events
events_are : (held : Held) (cursor : Option ℕ) (sent : List (List ℕ)) (n : ℕ) → served held cursor ≡ sent
    → n ≡ length sent - length (notice held cursor) → n ≡ length (served_events held cursor)
events_are held cursor sent n all is = omega (
  arith,
  is,
  ap length all,
  length-append (notice held cursor)
      (served_events held cursor),
)

came_is : (held : Held) (cursor : Option ℕ) (last n : ℕ) (future : Bool) → last ≡ held.last
    → n ≡ length (served_events held cursor) → future ≡ is_future held cursor
    → came_of last cursor n future ≡ session_of held cursor
came_is held None last n future last_is n_is future_is = rw (last_is, n_is) refl
came_is held (Some cursor) last n future last_is n_is future_is = rw (n_is, future_is) refl

-- the session of a guest who was sent all is closed
came_closed : (last : ℕ) (cursor : Option ℕ) (n : ℕ) (future : Bool) (session : Session)
    → session ≡ came_of last cursor n future → ending_of session ≡ Turn.Closed ∷ []
came_closed last None n future session is = ap ending_of is
came_closed last (Some cursor) n true session is = ap ending_of is
came_closed last (Some cursor) n false session is = ap ending_of is

-- and didn't fail
pub came_counted : (last : ℕ) (cursor : Option ℕ) (n : ℕ) (future : Bool) (session : Session) (before now : ℕ)
    → session ≡ came_of last cursor n future → now ≡ before → IsCounted session before now
came_counted last None n future session before now is same =
    subst (λ (s : Session). IsCounted s before now) (sym is) same
came_counted last (Some cursor) n true session before now is same =
    subst (λ (s : Session). IsCounted s before now) (sym is) same
came_counted last (Some cursor) n false session before now is same =
    subst (λ (s : Session). IsCounted s before now) (sym is) same

-- all was sent
pub served_whole : (tells : Bool) (held : Held) (cursor : Option ℕ) (old new : List Turn) (served_now : Served)
    (last : ℕ) (session : Session)
    → Serves tells held cursor old new (Ok served_now) → last ≡ held.last → served_now.future ≡ is_future held cursor
    → session ≡ came_of last cursor served_now.sent served_now.future
    → SessionServed tells held (Ok cursor) old new (Ok session)
served_whole tells held cursor old new served_now last session sends last_is future_is is =
    let all : served held cursor ≡ sends.sent = sends.split ∙ ap (λ (l : List (List ℕ)). sends.sent ++ l) sends.whole
    ∙ append-nil sends.sent in (
      sends.sent,
      inl (
        sym all,
        is ∙ came_is held cursor last served_now.sent served_now.future last_is
            (events_are held cursor sends.sent served_now.sent all sends.count) future_is,
      ),
      λ t. sends.turns t ∙ ap (λ (l : List Turn). old ++ (sendings sends.sent ++ l))
          (sym (came_closed last cursor served_now.sent served_now.future session is)),
    )

-- nothing more happened
cut_off : (old new : List Turn) (sent : List (List ℕ)) → new ≡ old ++ (sendings sent ++ []) → new ≡ old ++ sendings sent
cut_off old new sent is = is ∙ ap (λ (l : List Turn). old ++ l) (append-nil (sendings sent))

served_behind : (tells : Bool) (held : Held) (cursor : Option ℕ) (old new : List Turn) (fault : ServeFault)
    → Serves tells held cursor old new (Err fault) → SessionServed tells held (Ok cursor) old new (session_after fault)
served_behind tells held cursor old new (ServeFault.Door n) sends =
    (sends.sent, inr ((sends.left, sends.split), ap Session.Failed sends.count), sends.turns)
served_behind tells held cursor old new ServeFault.Disk sends =
    (sends.sent, (sends.left, sends.split), λ t. cut_off old new sends.sent (sends.turns t))
served_behind tells held cursor old new ServeFault.Memory sends =
    (sends.sent, (sends.left, sends.split), λ t. cut_off old new sends.sent (sends.turns t))
served_behind tells held cursor old new (ServeFault.BadLog p) sends =
    (sends.sent, (sends.left, sends.split), λ t. cut_off old new sends.sent (sends.turns t))

-- the session failed or was broken off
pub served_fault : (tells : Bool) (held : Held) (cursor : Option ℕ) (old new : List Turn) (fault : ServeFault)
    (result : Result Session Status) → Serves tells held cursor old new (Err fault) → result ≡ session_after fault
    → SessionServed tells held (Ok cursor) old new result
served_fault tells held cursor old new fault result sends is =
    subst (λ (r : Result Session Status). SessionServed tells held (Ok cursor) old new r) (sym is)
    (served_behind tells held cursor old new fault sends)

-- nothing was sent
nothing_sent : (old new : List Turn) → new ≡ old → new ≡ old ++ sendings []
nothing_sent old new same = same ∙ sym (append-nil old)

-- a target was refused
pub served_refused : (tells : Bool) (held : Held) (asked : Result (Option ℕ) TargetFault) (fault : TargetFault)
    (old new : List Turn) (session : Session) → asked ≡ Err fault
    → (session ≡ Session.BadTarget) ⊎ (session ≡ Session.Failed 0)
    → (IsTrue tells → new ≡ old ++ ending_of session) → SessionServed tells held asked old new (Ok session)
served_refused tells held (Ok cursor) fault old new session is came ended = absurd cc
served_refused tells held (Err f) fault old new session is (inl bad) ended = ([], inl (refl, bad), ended)
served_refused tells held (Err f) fault old new session is (inr failed) ended = ([], inr (refl, failed), ended)

-- memory ran out for the target
pub served_unread : (tells : Bool) (held : Held) (asked : Result (Option ℕ) TargetFault) (turns : List Turn)
    (status : Status) → SessionServed tells held asked turns turns (Err status)
served_unread tells held (Ok cursor) turns status = ([], (served held cursor, refl), λ _. nothing_sent turns turns refl)
served_unread tells held (Err fault) turns status = ([], refl, λ _. nothing_sent turns turns refl)

-- what it asks for is read
pub served_asked : (tells : Bool) (held : Held) (asked : Result (Option ℕ) TargetFault) (cursor : Option ℕ)
    (old new : List Turn) (result : Result Session Status) → asked ≡ Ok cursor
    → SessionServed tells held (Ok cursor) old new result → SessionServed tells held asked old new result
served_asked tells held asked cursor old new result is session_served =
    subst (λ (a : Result (Option ℕ) TargetFault). SessionServed tells held a old new result) (sym is) session_served

-- the count of the failures of sessions, as serving leaves it
pub serving_counts : (fault : ServeFault) (before now : ℕ) (result : Result Session Status)
    → result ≡ session_after fault → IsCountOf before now fault → IsSessionCount before now result
serving_counts (ServeFault.Door n) before now result is count =
    subst (λ (r : Result Session Status). IsSessionCount before now r) (sym is) count
serving_counts ServeFault.Disk before now result is count =
    subst (λ (r : Result Session Status). IsSessionCount before now r) (sym is) count
serving_counts ServeFault.Memory before now result is count =
    subst (λ (r : Result Session Status). IsSessionCount before now r) (sym is) count
serving_counts (ServeFault.BadLog p) before now result is count =
    subst (λ (r : Result Session Status). IsSessionCount before now r) (sym is) count

-- a session that failed is over
pub serving_over : (fault : ServeFault) (P : Type 0) (result : Result Session Status) → result ≡ session_after fault
    → ((n : ℕ) → fault ≡ ServeFault.Door n → P) → OnOk result P
serving_over (ServeFault.Door n) P result is over =
    subst (λ (r : Result Session Status). OnOk r P) (sym is) (over n refl)
serving_over ServeFault.Disk P result is over = subst (λ (r : Result Session Status). OnOk r P) (sym is) tt
serving_over ServeFault.Memory P result is over = subst (λ (r : Result Session Status). OnOk r P) (sym is) tt
serving_over (ServeFault.BadLog p) P result is over = subst (λ (r : Result Session Status). OnOk r P) (sym is) tt

-- one that was broken off met a fault of reading
pub serving_unread : (fault : ServeFault) (result : Result Session Status) → result ≡ session_after fault
    → IfErr result IsUnread
serving_unread (ServeFault.Door n) result is = subst (λ (r : Result Session Status). IfErr r IsUnread) (sym is) tt
serving_unread ServeFault.Disk result is = subst (λ (r : Result Session Status). IfErr r IsUnread) (sym is) (inr
    (inl refl))
serving_unread ServeFault.Memory result is = subst (λ (r : Result Session Status). IfErr r IsUnread) (sym is) (inl refl)
serving_unread (ServeFault.BadLog p) result is = subst (λ (r : Result Session Status). IfErr r IsUnread) (sym is) (inr
    (inr (p, refl)))
