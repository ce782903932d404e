-- Why the answers that a row shows make that row.
use Rattle.std.proofs.Common.{◌≡◌, ℕ, ◌+◌, Bool, true, false, not, List, [], ◌∷◌, Option, Some, None, refl, ap, cond, subst}
use Rattle.std.specs.Prelude.{nat_lt}
use Rattle.at_event.specs.Seen.{Seen}
use Rattle.at_event.specs.Refusals.{code_of}
use Rattle.at_event.specs.Writing.{out_length}
use Rattle.at_event.specs.declared.event.Body.{Body}
use Rattle.at_event.specs.declared.refusal.Refusal.{Refusal}
use Rattle.relay_row.specs.Rules.{loses}
use Rattle.relay_row.specs.declared.fetched.Fetched.{Fetched}
use Rattle.account_state.specs.State.{State}
use Rattle.account_state.specs.Folds.{last_rev}
use Rattle.relay_core.specs.Decide.{Checks, Outside, Found, absent, unfit, found, fetched_as, sync_message, first_refusal, body_refusals, refusal_of, event_row, decided_event, is_ahead, refusal_in, when}
use Rattle.relay_core.specs.Laws.{RowsShow}
use Rattle.relay_core.specs.Rows.{kind_number, refused_row}
use Rattle.relay_core.specs.Sending.{IsSendable}
use Rattle.relay_core.specs.Shown.{shows_home, shows_verdict, found_in, shown}
use Rattle.relay_core.specs.declared.limits.TheConstants.{LONGEST_MESSAGE}
use Rattle.relay_core.proofs.Returning.{block_returns}

-- the first refusal of a commit or of a sync
abbrev pub table : Option Refusal → Bool → Option Refusal → Option Refusal → Option Refusal → Option Refusal → Bool → List (Option Refusal) → Option Refusal
table l b i d o u v others = first_refusal (l ∷ when (not b) Refusal.NotHome ∷ i ∷ d ∷ o ∷ u ∷ when (not v) Refusal.BadSignature ∷ others)

-- a refusal that is told, of the home or not, is told again
told_again : (r : Refusal) (others : List (Option Refusal)) → first_refusal others ≡ Some r → first_refusal (when (not (shows_home (Some r))) Refusal.NotHome ∷ others) ≡ Some r
told_again Refusal.NotHome others h = refl
told_again other others h = h

verdict_again : (r : Refusal) (others : List (Option Refusal)) → first_refusal others ≡ Some r → first_refusal (when (not (shows_verdict (Some r))) Refusal.BadSignature ∷ others) ≡ Some r
verdict_again Refusal.BadSignature others h = refl
verdict_again other others h = h

-- with nothing before them but the home and the verdict
last_again : (others : List (Option Refusal)) (q : Option Refusal) → first_refusal others ≡ q
    → first_refusal (when (not (shows_home q)) Refusal.NotHome ∷ None ∷ None ∷ None ∷ None ∷ when (not (shows_verdict q)) Refusal.BadSignature ∷ others) ≡ q
last_again others None h = h
last_again others (Some r) h = told_again r _ (verdict_again r others h)

table_again : (l : Option Refusal) (b : Bool) (i d o u : Option Refusal) (v : Bool) (others : List (Option Refusal))
    → table l (shows_home (table l b i d o u v others)) i d o u (shows_verdict (table l b i d o u v others)) others ≡ table l b i d o u v others
table_again (Some r) b i d o u v others = refl
table_again None false i d o u v others = refl
table_again None true (Some r) d o u v others = told_again r _ refl
table_again None true None (Some r) o u v others = told_again r _ refl
table_again None true None None (Some r) u v others = told_again r _ refl
table_again None true None None None (Some r) v others = told_again r _ refl
table_again None true None None None None false others = refl
table_again None true None None None None true others = last_again others (first_refusal others) refl

short : Option Refusal → Bool → List (Option Refusal) → Option Refusal
short l b others = first_refusal (l ∷ when (not b) Refusal.NotHome ∷ others)

home_again : (others : List (Option Refusal)) (q : Option Refusal) → first_refusal others ≡ q → first_refusal (when (not (shows_home q)) Refusal.NotHome ∷ others) ≡ q
home_again others None h = h
home_again others (Some r) h = told_again r others h

short_again : (l : Option Refusal) (b : Bool) (others : List (Option Refusal)) → short l (shows_home (short l b others)) others ≡ short l b others
unfolding short
short_again (Some r) b others = refl
short_again None false others = refl
short_again None true others = home_again others (first_refusal others) refl

-- the answers with another home and verdict, and whatever was fetched
told_so : Outside → Option Refusal → Found → Outside
told_so o q f = record { moment = o.moment; home = shows_home q; verdict = shows_verdict q; fetched = f }

body_refusal : Checks → State → Seen → Body → Outside → Option Refusal
body_refusal checks a e body o = first_refusal (when (nat_lt LONGEST_MESSAGE (out_length e)) Refusal.TooLong ∷ body_refusals checks a e body o (Some o.moment))

body_again : (checks : Checks) (a : State) (e : Seen) (body : Body) (o : Outside) (f : Found) → body_refusal checks a e body (told_so o (body_refusal checks a e body o) f) ≡ body_refusal checks a e body o
unfolding short told_so body_refusal
body_again checks a e (Body.Commit c) o f =
    table_again (when (nat_lt LONGEST_MESSAGE (out_length e)) Refusal.TooLong) o.home (when (not a.active) Refusal.Inactive) (when a.down Refusal.TakenDown) (refusal_in (checks.opens e (last_rev a.repo))) (when (is_ahead c.rev (Some o.moment)) Refusal.FutureRev) o.verdict (checks.links e a.repo ∷ [])
body_again checks a e (Body.Sync s) o f =
    table_again (when (nat_lt LONGEST_MESSAGE (out_length e)) Refusal.TooLong) o.home (when (not a.active) Refusal.Inactive) (when a.down Refusal.TakenDown) (refusal_in (checks.opens e (last_rev a.repo))) (when (is_ahead s.rev (Some o.moment)) Refusal.FutureRev) o.verdict []
body_again checks a e Body.Identity o f = short_again (when (nat_lt LONGEST_MESSAGE (out_length e)) Refusal.TooLong) o.home (when a.down Refusal.TakenDown ∷ [])
body_again checks a e (Body.Account b) o f = short_again (when (nat_lt LONGEST_MESSAGE (out_length e)) Refusal.TooLong) o.home []

again : (checks : Checks) (a : State) (e : Seen) (o : Outside) (q : Option Refusal) (f : Found) → refusal_of checks a e o ≡ q
    → refusal_of checks a e (record { moment = o.moment; home = shows_home q; verdict = shows_verdict q; fetched = f }) ≡ q
unfolding told_so body_refusal
again checks a e o q f h =
    let P : Option Refusal → Type 0 = λ p. body_refusal checks a e e.body (told_so o p f) ≡ p in
    subst P h (body_again checks a e e.body o f)

made_again : (n : ℕ) (e : Seen) (f : Found) → IsSendable n e f → fetched_as n e (found_in (fetched_as n e f)) ≡ fetched_as n e f
made_again n e absent back = refl
made_again n e (unfit i) back = refl
made_again n e (found head records block) back =
    ap (λ (b : List ℕ). Fetched.Whole (record { seq = n + 1; head = head; records = records; message = sync_message e.did e.time head b (n + 1) })) (block_returns n e head block (back head records block refl))

fetched_again : (n : ℕ) (e : Seen) (f : Found) (b : Bool) → IsSendable n e f → cond b (fetched_as n e (found_in (cond b (fetched_as n e f) Fetched.NotAsked))) Fetched.NotAsked ≡ cond b (fetched_as n e f) Fetched.NotAsked
fetched_again n e f true back = made_again n e f back
fetched_again n e f false back = refl

by_refusal : (checks : Checks) (n : ℕ) (a : State) (host : List ℕ) (e : Seen) (o : Outside) → IsSendable n e o.fetched → (q : Option Refusal) → refusal_of checks a e o ≡ q
    → decided_event checks n a host e (shown (event_row checks n a host e o (Some o.moment) q)) ≡ event_row checks n a host e o (Some o.moment) q
by_refusal checks n a host e o back None h = rw (again checks a e o None absent h) refl
by_refusal checks n a host e o back (Some r) h =
    let fetched : Fetched = cond (loses (code_of r)) (fetched_as n e o.fetched) Fetched.NotAsked in
    rw (again checks a e o (Some r) (found_in fetched) h)
    (ap (λ (f : Fetched). refused_row host e.seq e.did (kind_number e.body) r f (Some o.moment)) (fetched_again n e o.fetched (loses (code_of r)) back))

pub rows_show : RowsShow
rows_show checks n a host e o back = by_refusal checks n a host e o back (refusal_of checks a e o) refl
